-- `lists::union` meets its contract. Assumes nothing.
use Rattle.changes.specs.ChangeSet.{sort_refs}
use mathlib.Core.List.{◌++◌}
use Rattle.changes.specs.Listed.{refs_of}
use Prim.Native.Nat.{◌+◌}
use Rattle.changes.proofs.MergeLaws as L
use Rattle.changes.proofs.lists.union.Given as goal

abbrev pub invariant-loop-left : goal.invariant-loop-left
invariant-loop-left l = L.Uniting l.initial.out l.to (sort_refs (refs_of l.fn.t ++ refs_of l.fn.s)) l.left.words.now l.left.end l.new.words.now l.new.end l.out l.left.count l.new.count l.count

abbrev pub decreases-loop-left : goal.decreases-loop-left
decreases-loop-left l = l.left.count + l.new.count
