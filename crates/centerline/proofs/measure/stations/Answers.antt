-- `centerline::measure::stations` meets its contract: the values up to point i are the stations. Assumes nothing.
use Rattle.centerline.proofs.Measures.{stationed_start, stationed_next, stationed_end}
use Rattle.centerline.specs.Line.{stations_of}
use Rattle.polyline.proofs.Lines.{length-points}
use native.Mathlib.Omega.{arith}
use Rattle.centerline.proofs.measure.stations.Goals as goal

pub loop-i-init : goal.loop-i-init
loop-i-init c = stationed_start _

pub loop-i-preserved : goal.loop-i-preserved
loop-i-preserved c = stationed_next _ _ _ _ c.loop-i.invariant _ (omega arith) (omega arith) c.segment_length-acc.ensures

pub returns : goal.returns
unfolding stations_of
returns c = stationed_end _ _ _ _ c.loop-i.invariant _ (omega arith) (λ h. omega arith) (length-points _)
