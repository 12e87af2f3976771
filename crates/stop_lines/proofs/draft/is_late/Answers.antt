-- `stop_lines::draft::is_late` meets its contract. Assumes nothing.
use Rattle.stop_lines.proofs.DraftLaws as D
use Rattle.stop_lines.proofs.draft.is_late.Goals as goal

pub returns-in-StopSign : goal.returns-in-StopSign
returns-in-StopSign c = D.late_sign _ _ c.in-StopSign.is

pub returns-in-Marking : goal.returns-in-Marking
returns-in-Marking c = D.late_marking _ _ c.in-Marking.is

pub returns-in-NoRule : goal.returns-in-NoRule
returns-in-NoRule c = D.late_bare _ _ c.in-NoRule.is
