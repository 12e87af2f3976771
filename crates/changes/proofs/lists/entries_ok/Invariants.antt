-- `lists::entries_ok` meets its contract. Assumes nothing.
use Rattle.changes.specs.Layout.{refs_at}
use Rattle.changes.specs.ChangeFile.{entries}
use Rattle.changes.specs.Listed.{ref_of}
use Rattle.changes.proofs.EntryLaws as L
use Rattle.changes.proofs.lists.entries_ok.Given as goal

abbrev pub invariant-loop-i : goal.invariant-loop-i
invariant-loop-i l = L.Checking (entries.fits (refs_at l.t l.p l.n)) l.t l.p l.n l.i (ref_of l.last)
