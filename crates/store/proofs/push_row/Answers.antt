use mathlib.Core.Path.{ap}
use native.Mathlib.Omega.{arith}
use Rattle.store.specs.Kinds.{kind_number}
use Rattle.store.proofs.KindLaws.{kind_below}
use Rattle.store.specs.Layout.{count_of, place_of, push_row}
use Rattle.store.proofs.StoreLaws.{limit_small, row_ends}
use Rattle.store.proofs.push_row.Goals as goal

pub put-requires : goal.put-requires
put-requires c = omega (arith, c.place.ensures, c.requires.2, c.requires.0.room, ap (place_of (kind_number c.args.k)) c.count-n.ensures, row_ends (kind_number c.args.k) (count_of c.args.words.now (kind_number c.args.k)) (kind_below c.args.k) c.requires.1)

pub overflow_add-words : goal.overflow_add-words
overflow_add-words c = omega (arith, c.requires.1, limit_small (kind_number c.args.k))

pub returns : goal.returns
unfolding push_row
returns c = rw (c.put.ensures, c.place.ensures, c.requires.2, c.count-n.ensures, c.count_at.ensures)
