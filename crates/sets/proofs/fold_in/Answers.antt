-- `sets::fold_in` meets its contract. Assumes nothing.
use native.Mathlib.Omega.{arith}
use Rattle.sets.proofs.TableLaws as L
use Rattle.sets.proofs.fold_in.Goals as goal

pub returns-then-n-gt-ENTRIES : goal.returns-then-n-gt-ENTRIES
returns-then-n-gt-ENTRIES c = L.full_created _ _ _ _ _ _ c.gather-n.ensures c.if-n-gt-ENTRIES.true

pub returns-then-n-gt-ENTRIES-2 : goal.returns-then-n-gt-ENTRIES-2
returns-then-n-gt-ENTRIES-2 c = L.full_modified _ _ _ _ _ _ c.gather-n.ensures c.if-n-gt-ENTRIES-2.true

pub returns-then-n-gt-ENTRIES-3 : goal.returns-then-n-gt-ENTRIES-3
returns-then-n-gt-ENTRIES-3 c = L.full_deleted _ _ _ _ _ _ c.gather-n.ensures c.if-n-gt-ENTRIES-3.true

pub bounds-f-3 : goal.bounds-f-3
bounds-f-3 c = omega (arith, L.folded_size _ _ _ _ _ _ c.gather-n.ensures c.requires.0.first.room.size c.if-n-gt-ENTRIES.false c.if-n-gt-ENTRIES-2.false c.if-n-gt-ENTRIES-3.false _ c.store.ensures)

pub returns : goal.returns
returns c = L.folded _ _ _ _ _ _ c.gather-n.ensures c.requires.0.first.room.size c.if-n-gt-ENTRIES.false c.if-n-gt-ENTRIES-2.false c.if-n-gt-ENTRIES-3.false _ c.store.ensures
