-- `centerline::reversed::reversed` meets its contract: the array has the last i points. Assumes nothing.
use Rattle.centerline.proofs.Made.{reversed_is}
use Rattle.centerline.proofs.Arrays.{filled_none, filled_next}
use Rattle.centerline.specs.Line.{points_of}
use Rattle.polyline.proofs.Lines.{length-points}
use Rattle.geometry.specs.Polyline.{polyline_of}
use lib.ListN.{length}
use mathlib.Core.Path.{◌≡◌, refl, ◌∙◌}
use Prim.Native.Nat.{◌/◌}
use native.Mathlib.Omega.{arith}
use Rattle.centerline.proofs.reversed.reversed.Goals as goal

pub loop-i-init : goal.loop-i-init
loop-i-init c = filled_none _ _ refl

pub loop-i-preserved : goal.loop-i-preserved
loop-i-preserved c = filled_next _ _ _ _ c.loop-i.invariant (omega arith) c.point-p.ensures

pub returns : goal.returns
unfolding points_of
returns c = let e : c.loop-i.i ≡ length c.args.cs.now / 3 = omega arith in
    (rw e at c.loop-i.invariant.made) ∙ reversed_is (polyline_of c.args.cs.now) (length c.args.cs.now / 3) (length-points c.args.cs.now)
