-- `centerline::measure::Survey::resampled` meets its contract. The line has the first i points; no segment before `from` reaches the last station. Assumes nothing.
use Rattle.centerline.proofs.Arrays.{Built}
use Rattle.centerline.specs.Line.{Passed}
use Rattle.geometry.specs.Polyline.{polyline_of, resampled}
use lib.ListN.{length}
use Prim.Native.Nat.{◌/◌, ◌<◌}
use Rattle.centerline.proofs.measure.Survey.resampled.Given as goal

abbrev pub invariant-loop-i : goal.invariant-loop-i
invariant-loop-i l =
    record {
      within : l.from < length l.self.cs.now / 3;
      passed : Passed (polyline_of l.self.cs.now) l.before l.from;
      built : Built (resampled (polyline_of l.self.cs.now) l.count) l.line l.i;
    }
