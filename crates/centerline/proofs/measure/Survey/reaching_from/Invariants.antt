-- `centerline::measure::Survey::reaching_from` meets its contract: no segment before i reaches the station. Assumes nothing.
use Rattle.centerline.specs.Line.{Passed}
use Rattle.geometry.specs.Polyline.{polyline_of}
use Rattle.centerline.proofs.measure.Survey.reaching_from.Given as goal

abbrev pub invariant-loop-i : goal.invariant-loop-i
invariant-loop-i l = Passed (polyline_of l.self.cs.now) l.s l.i
