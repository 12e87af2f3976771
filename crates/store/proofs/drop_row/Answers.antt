use native.Mathlib.Omega.{arith}
use Rattle.store.specs.Kinds.{kind_number}
use Rattle.store.proofs.KindLaws.{kind_below}
use Rattle.store.specs.Layout.{drop_row}
use Rattle.store.proofs.StoreLaws.{row_ends, drop_fits}
use Rattle.store.proofs.drop_row.Goals as goal

pub place-at-requires : goal.place-at-requires
place-at-requires c = omega (arith, c.requires.0.counts (kind_number c.args.k) (kind_below c.args.k), c.requires.1)

pub overflow_add-at : goal.overflow_add-at
overflow_add-at c = omega (arith, c.place-at.ensures, c.width-w.ensures, row_ends (kind_number c.args.k) c.args.j (kind_below c.args.k) (omega (arith, c.requires.0.counts (kind_number c.args.k) (kind_below c.args.k), c.requires.1)))

pub overflow_mul-n : goal.overflow_mul-n
overflow_mul-n c = rw (c.width-w.ensures, c.count-n.ensures)
    (omega (arith, c.requires.0.room, drop_fits c.args.words.now c.requires.0 (kind_number c.args.k) (kind_below c.args.k) c.args.j c.requires.1))

pub shift-requires : goal.shift-requires
shift-requires c = rw (c.place-at.ensures, c.width-w.ensures, c.count-n.ensures)
    (omega arith, drop_fits c.args.words.now c.requires.0 (kind_number c.args.k) (kind_below c.args.k) c.args.j c.requires.1)

pub returns : goal.returns
unfolding drop_row
returns c = rw (c.shift.ensures, c.place-at.ensures, c.width-w.ensures, c.count-n.ensures, c.count_at.ensures)
