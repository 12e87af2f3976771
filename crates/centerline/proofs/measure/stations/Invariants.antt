-- `centerline::measure::stations` meets its contract: the values up to point i are the stations. Assumes nothing.
use Rattle.centerline.proofs.Measures.{Stationed}
use Rattle.geometry.specs.Polyline.{polyline_of}
use Rattle.centerline.proofs.measure.stations.Given as goal

abbrev pub invariant-loop-i : goal.invariant-loop-i
invariant-loop-i l = Stationed (polyline_of l.cs) l.values l.acc l.i
