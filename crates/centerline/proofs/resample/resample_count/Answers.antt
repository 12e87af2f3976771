-- `centerline::resample::resample_count` meets its contract. Assumes nothing.
use Rattle.centerline.proofs.Made.{resample_none, resample_is, no_points}
use Rattle.polyline.proofs.Lines.{length-points}
use Rattle.geometry.specs.Polyline.{polyline_of}
use lib.ListN.{length}
use native.Mathlib.Omega.{arith}
use mathlib.Core.Path.{◌≡◌, sym, ◌∙◌}
use Prim.Native.Nat.{◌<◌, max}
use Rattle.centerline.proofs.resample.resample_count.Goals as goal

pub returns-then-cs-eq0 : goal.returns-then-cs-eq0
returns-then-cs-eq0 c = no_points _ c.empty.ensures.count ∙ resample_none _ _ (length-points c.args.cs.now ∙ c.if-cs-eq0.true)

pub returns : goal.returns
returns c = let xs = polyline_of c.args.cs.now in
    let h : 0 < length xs = omega (arith, length-points c.args.cs.now) in
    let counted : c.max.result ≡ max 2 c.args.n = omega (arith, c.max.ensures) in
    (rw c.measure.ensures at c.resampled.ensures) ∙ sym (resample_is xs c.max.result c.max.result h (omega (arith, counted))) ∙ resample_is xs c.args.n c.max.result h counted
