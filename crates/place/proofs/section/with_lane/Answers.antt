-- `place::section::with_lane` meets its contract. Assumes nothing.
use Rattle.place.proofs.LineLaws.{lane_row}
use Rattle.place.proofs.SectionLaws.{lane_missing, lane_sides}
use Rattle.place.proofs.section.with_lane.Goals as goal

pub returns-in_err-i : goal.returns-in_err-i
returns-in_err-i c = rw c.from_residual.ensures (lane_missing _ _ _ _ _ _ _ c.find.ensures c.in_err-i.was)

pub lane-requires : goal.lane-requires
lane-requires c = lane_row _ _ c.requires _ _ _ c.find.ensures c.in_ok-i.was

pub returns : goal.returns
returns c = lane_sides _ _ _ _ _ _ _ c.find.ensures _ c.in_ok-i.was _ c.lane.ensures _ c.with_sides.ensures
