-- `centerline::measure::measure` meets its contract: the table is right up to point i. Assumes nothing.
use Rattle.centerline.proofs.Measures.{Measuring}
use Rattle.geometry.specs.Polyline.{polyline_of}
use Rattle.centerline.proofs.measure.measure.Given as goal

abbrev pub invariant-loop-i : goal.invariant-loop-i
invariant-loop-i l = Measuring (polyline_of l.cs) l.table l.acc l.i
