-- `stop_lines::draft::draft_set` meets its contract. Assumes nothing.
use Rattle.stop_lines.proofs.DraftLaws as D
use Rattle.stop_lines.proofs.draft.draft_set.Goals as goal

pub returns-in-StopSign : goal.returns-in-StopSign
returns-in-StopSign c = D.drafted_sign _ _ _ _ c.start.ensures _ c.following-second.ensures _ c.in-StopSign.is c.push.ensures

pub returns-in-Marking : goal.returns-in-Marking
returns-in-Marking c = D.drafted_marking _ _ _ _ c.start.ensures _ c.following-second.ensures _ c.in-Marking.is c.push-in-Marking.ensures

pub returns-in-NoRule : goal.returns-in-NoRule
returns-in-NoRule c = D.drafted_bare _ _ _ _ c.start.ensures _ c.following-second.ensures _ c.in-NoRule.is c.warn.ensures
