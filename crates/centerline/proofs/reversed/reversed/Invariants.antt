-- `centerline::reversed::reversed` meets its contract: the array has the last i points. Assumes nothing.
use Rattle.centerline.proofs.Arrays.{Filled}
use Rattle.geometry.specs.Polyline.{polyline_of, pt}
use lib.ListN.{length}
use Prim.Native.Nat.{ℕ, ◌-◌, ◌/◌}
use Rattle.centerline.proofs.reversed.reversed.Given as goal

abbrev pub invariant-loop-i : goal.invariant-loop-i
invariant-loop-i l = Filled (λ (j : ℕ). pt (polyline_of l.cs) (length l.cs / 3 - 1 - j)) l.coords l.i
