-- `centerline::measure::measure` meets its contract: the table is right up to point i. Assumes nothing.
use Rattle.centerline.proofs.Measures.{measuring_start, measuring_next, measured}
use Rattle.polyline.proofs.Lines.{length-points}
use native.Mathlib.Omega.{arith}
use Rattle.centerline.proofs.measure.measure.Goals as goal

pub loop-i-init : goal.loop-i-init
loop-i-init c = measuring_start _

pub loop-i-preserved : goal.loop-i-preserved
loop-i-preserved c = measuring_next _ _ _ _ c.loop-i.invariant _ (omega arith) (omega arith) c.segment_length-seg.ensures

pub invariant_of-result : goal.invariant_of-result
invariant_of-result c = record { few = c.requires; measured = measured _ _ _ _ c.loop-i.invariant (omega (arith, length-points c.args.cs.now)) }
