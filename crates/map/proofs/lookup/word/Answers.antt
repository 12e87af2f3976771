use native.Mathlib.Omega.{arith}
use mathlib.Core.Path.{sym}
use Rattle.store.specs.Kinds.{kind_number}
use Rattle.store.proofs.KindLaws.{kind_below}
use Rattle.store.proofs.StoreLaws.{row_ends}
use Rattle.map.proofs.ReadLaws.{get_or_row}
use Rattle.map.proofs.lookup.word.Goals as goal

pub overflow_add-result : goal.overflow_add-result
overflow_add-result c = omega (arith, c.place.ensures, row_ends (kind_number c.args.k) c.args.i (kind_below c.args.k) c.requires.1, c.requires.2)

pub offset_bounds-words-place : goal.offset_bounds-words-place
offset_bounds-words-place c = omega (arith, c.place.ensures, row_ends (kind_number c.args.k) c.args.i (kind_below c.args.k) c.requires.1, c.requires.2, c.requires.0.room)

pub bounds-words-place : goal.bounds-words-place
bounds-words-place c = omega (arith, c.place.ensures, row_ends (kind_number c.args.k) c.args.i (kind_below c.args.k) c.requires.1, c.requires.2, c.requires.0.room)

pub returns : goal.returns
returns c = rw c.place.ensures (sym (get_or_row c.args.words.now (kind_number c.args.k) c.args.i c.args.o c.requires.2))
