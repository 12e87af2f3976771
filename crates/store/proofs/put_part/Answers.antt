use native.Mathlib.Omega.{arith}
use Rattle.store.specs.Kinds.{kind_number}
use Rattle.store.proofs.KindLaws.{kind_below}
use Rattle.store.specs.Layout.{put_part}
use Rattle.store.proofs.StoreLaws.{row_ends}
use Rattle.store.proofs.put_part.Goals as goal

pub place-requires : goal.place-requires
place-requires c = omega (arith, c.requires.0.counts (kind_number c.args.k) (kind_below c.args.k))

pub overflow_add-place : goal.overflow_add-place
overflow_add-place c = omega (arith, c.place.ensures, c.requires.2, row_ends (kind_number c.args.k) c.args.i (kind_below c.args.k) (omega (arith, c.requires.0.counts (kind_number c.args.k) (kind_below c.args.k))))

pub put-requires : goal.put-requires
put-requires c = omega (arith, c.place.ensures, c.requires.2, c.requires.0.room, row_ends (kind_number c.args.k) c.args.i (kind_below c.args.k) (omega (arith, c.requires.0.counts (kind_number c.args.k) (kind_below c.args.k))))

pub returns : goal.returns
unfolding put_part
returns c = rw (c.put.ensures, c.place.ensures)
