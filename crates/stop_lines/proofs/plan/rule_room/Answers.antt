-- `stop_lines::plan::rule_room` meets its contract. Assumes nothing.
use Rattle.stop_lines.proofs.RoomLaws as R
use Rattle.stop_lines.proofs.plan.rule_room.Goals as goal

pub returns-in-StopSign : goal.returns-in-StopSign
returns-in-StopSign c = R.sign_room _ _ _ _ c.in-StopSign.is c.list_room.ensures

pub returns-in-Marking : goal.returns-in-Marking
returns-in-Marking c = R.marking_room _ _ _ _ c.in-Marking.is c.list_room-in-Marking.ensures

pub returns-in-NoRule : goal.returns-in-NoRule
returns-in-NoRule c = R.no_rule_room _ _ _ c.in-NoRule.is
