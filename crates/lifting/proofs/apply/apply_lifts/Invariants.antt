-- `lifting::apply::apply_lifts` meets its contract. Assumes nothing.
use Prim.Native.Nat.{◌-◌}
use Rattle.store.specs.Layout.{count_of}
use Rattle.lifting.proofs.ApplyLaws.{Applying}
use Rattle.lifting.proofs.apply.apply_lifts.Given as goal

abbrev pub invariant-loop-i : goal.invariant-loop-i
invariant-loop-i l = Applying l.initial.words l.initial.coords l.line l.lanes l.words l.coords l.i

abbrev pub decreases-loop-i : goal.decreases-loop-i
decreases-loop-i l = count_of l.words 5 - l.i
