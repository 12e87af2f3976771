-- `centerline::middle::halfway` meets its contract: the line has the first i points. Assumes nothing.
use Rattle.centerline.proofs.Arrays.{Built}
use Rattle.geometry.specs.Polyline.{point_in}
use Rattle.geometry.specs.Point.{lerp}
use Rattle.geometry.specs.Double.{half}
use Prim.Native.Nat.{ℕ}
use Rattle.centerline.proofs.middle.halfway.Given as goal

abbrev pub invariant-loop-i : goal.invariant-loop-i
invariant-loop-i l = Built (λ (j : ℕ). lerp (point_in l.l.coords j) (point_in l.r.coords j) half) l.line l.i
