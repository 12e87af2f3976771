-- `stop_lines::storing::add_rule` meets its contract. Assumes nothing.
use native.Mathlib.Omega.{arith}
use Rattle.stop_lines.proofs.StoringLaws as S
use Rattle.stop_lines.proofs.storing.add_rule.Goals as goal

pub push_new_rule-requires : goal.push_new_rule-requires
push_new_rule-requires c = (c.requires.0, (S.sign_asks _ _ _ _ c.requires.1 c.requires.2 c.in-StopSign.is).free, (S.sign_asks _ _ _ _ c.requires.1 c.requires.2 c.in-StopSign.is).left, (S.sign_asks _ _ _ _ c.requires.1 c.requires.2 c.in-StopSign.is).short, omega arith)

pub push_new_rule-requires-in-Marking : goal.push_new_rule-requires-in-Marking
push_new_rule-requires-in-Marking c = (c.requires.0, (S.marking_asks _ _ _ _ c.requires.1 c.requires.2 c.in-Marking.is).free, (S.marking_asks _ _ _ _ c.requires.1 c.requires.2 c.in-Marking.is).left, (S.marking_asks _ _ _ _ c.requires.1 c.requires.2 c.in-Marking.is).short, omega arith)

pub returns-in-StopSign : goal.returns-in-StopSign
returns-in-StopSign c = S.sign_added _ _ _ _ _ c.in-StopSign.is c.push_new_rule.ensures

pub returns-in-Marking : goal.returns-in-Marking
returns-in-Marking c = S.marking_added _ _ _ _ _ c.in-Marking.is c.push_new_rule-in-Marking.ensures

pub returns-in-NoRule : goal.returns-in-NoRule
returns-in-NoRule c = S.none_added _ _ _ _ c.in-NoRule.is
