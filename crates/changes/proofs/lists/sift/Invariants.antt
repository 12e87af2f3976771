-- `lists::sift` meets its contract. Assumes nothing.
use Rattle.changes.specs.ChangeSet.{without}
use Rattle.changes.specs.Listed.{refs_of}
use Prim.Native.Nat.{◌+◌}
use Rattle.changes.proofs.MergeLaws as L
use Rattle.changes.proofs.lists.sift.Given as goal

abbrev pub invariant-loop-left : goal.invariant-loop-left
invariant-loop-left l = L.Sifting l.initial.out l.to (without (refs_of l.fn.t) (refs_of l.fn.s)) l.left.words.now l.left.end l.over.words.now l.over.end l.out l.left.count l.over.count l.count

abbrev pub decreases-loop-left : goal.decreases-loop-left
decreases-loop-left l = l.left.count + l.over.count
