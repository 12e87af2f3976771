-- `place::section::with_lanes` meets its contract. Assumes nothing.
use Rattle.place.proofs.SectionLaws.{laning_end, laning_missing, laning_next}
use Rattle.place.proofs.section.with_lanes.Goals as goal

pub returns-in_err-ends : goal.returns-in_err-ends
returns-in_err-ends c = rw c.from_residual.ensures (laning_missing _ _ _ _ _ _ c.loop-lane.invariant c.loop-lane-test.true _ c.with_lane.ensures c.in_err-ends.was)

pub loop-lane-preserved : goal.loop-lane-preserved
loop-lane-preserved c = laning_next _ _ _ _ _ _ c.loop-lane.invariant c.loop-lane-test.true _ c.with_lane.ensures _ c.in_ok-ends.was

pub returns : goal.returns
returns c = laning_end _ _ _ _ _ _ c.loop-lane.invariant c.loop-lane-test.false
