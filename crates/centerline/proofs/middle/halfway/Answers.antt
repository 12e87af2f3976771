-- `centerline::middle::halfway` meets its contract: the line has the first i points. Assumes nothing.
use Rattle.centerline.proofs.Arrays.{built_none, built_next}
use Rattle.centerline.specs.Line.{halfway_to}
use Rattle.polyline.proofs.Lines.{point_is}
use mathlib.Core.Path.{◌≡◌}
use native.Mathlib.Omega.{arith}
use Rattle.centerline.proofs.middle.halfway.Goals as goal

pub loop-i-init : goal.loop-i-init
loop-i-init c = built_none _ _ c.empty-line.ensures

pub loop-i-preserved : goal.loop-i-preserved
loop-i-preserved c = built_next _ _ _ _ _ c.loop-i.invariant (rw (point_is c.args.l.now.coords c.loop-i.i (omega arith), point_is c.args.r.now.coords c.loop-i.i (omega arith), ← c.point.ensures, ← c.point-in-loop-i.ensures) c.lerp.ensures) c.push.ensures

pub returns : goal.returns
unfolding halfway_to
returns c = let e : c.loop-i.i ≡ c.args.l.now.count = omega arith in
    rw e at c.loop-i.invariant.points
