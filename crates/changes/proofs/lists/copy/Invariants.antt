-- `lists::copy` meets its contract. Assumes nothing.
use Rattle.changes.specs.Listed.{refs_of}
use Rattle.changes.proofs.MergeLaws as L
use Rattle.changes.proofs.lists.copy.Given as goal

abbrev pub invariant-loop-i : goal.invariant-loop-i
invariant-loop-i l = L.Copying l.initial.out l.to (refs_of l.t) l.t.words.now l.t.end l.t.count l.out l.i
