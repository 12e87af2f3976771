-- `centerline::measure::Survey::resampled` meets its contract. The line has the first i points; no segment before `from` reaches the last station. Assumes nothing.
use Rattle.centerline.proofs.Made.{whole_fits, total_is, resampled_at, resample_is}
use Rattle.centerline.proofs.Places.{passed_none, resumed_passed, resumed_within}
use Rattle.centerline.proofs.Arrays.{built_none, built_next}
use Rattle.polyline.proofs.Lines.{length-points}
use Rattle.geometry.specs.Polyline.{polyline_of}
use mathlib.Core.Path.{◌≡◌, refl, ◌∙◌}
use native.Mathlib.Omega.{arith}
use Rattle.centerline.proofs.measure.Survey.resampled.Goals as goal

pub int_to_float-parts : goal.int_to_float-parts
int_to_float-parts c = whole_fits _ (omega arith)

pub loop-i-init : goal.loop-i-init
loop-i-init c = record { within = c.requires.0; passed = passed_none _ _; built = built_none _ _ c.empty-line.ensures }

pub int_to_float-s : goal.int_to_float-s
int_to_float-s c = whole_fits _ (omega arith)

pub locate_from-l-requires : goal.locate_from-l-requires
locate_from-l-requires c = (resumed_within (polyline_of c.args.self.now.cs.now) _ _ _ _ c.resumed.ensures _ c.loop-i.invariant.within, resumed_passed _ _ _ _ _ c.resumed.ensures c.loop-i.invariant.passed)

pub loop-i-preserved : goal.loop-i-preserved
loop-i-preserved c = let e = length-points c.args.self.now.cs.now in
    record {
      within = omega (arith, c.locate_from-l.ensures.within);
      passed = c.locate_from-l.ensures.passed;
      built = built_next _ _ _ _ _ c.loop-i.invariant.built (resampled_at _ _ _ _ _ _ _ (total_is _ _ _ c.args.self.now.measured e c.requires.0) refl c.locate_from-l.ensures c.point_of.ensures) c.push.ensures;
    }

pub returns : goal.returns
returns c = let e : c.loop-i.i ≡ c.args.count = omega arith in
    (rw e at c.loop-i.invariant.built.points) ∙ resample_is (polyline_of c.args.self.now.cs.now) c.args.count c.args.count (omega (arith, length-points c.args.self.now.cs.now)) (omega arith)
