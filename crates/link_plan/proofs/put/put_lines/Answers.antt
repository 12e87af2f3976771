-- `link_plan::put::put_lines` meets its contract. Assumes nothing.
use native.Mathlib.Omega.{arith}
use Rattle.std.proofs.lemmas.Bool.Decides.{nat_tests}
use Rattle.link_plan.proofs.PlanLaws.{below}
use Rattle.link_plan.proofs.PutLaws.{light_none, light_first, crossing_put, others_stay}
use Rattle.link_plan.proofs.put.put_lines.Goals as goal

pub rule_head-h-requires : goal.rule_head-h-requires
rule_head-h-requires c = (c.requires.0.sized, below _ _ c.requires.0)

pub returns-then-is_empty : goal.returns-then-is_empty
returns-then-is_empty c = light_none _ _ c.requires.0 _ _ c.rule_head-h.ensures c.if-h-eq1.true (grind (arith, nat_tests)) _ c.put_line.ensures

pub returns-else-is_empty : goal.returns-else-is_empty
returns-else-is_empty c = light_first _ _ c.requires.0 _ _ c.rule_head-h.ensures c.if-h-eq1.true (grind (arith, nat_tests)) _ c.put_line-else-is_empty.ensures

pub returns-then-h-eq5 : goal.returns-then-h-eq5
returns-then-h-eq5 c = crossing_put _ _ c.requires.0 _ _ c.rule_head-h.ensures c.if-h-eq5.true c.requires.1 _ c.put_list.ensures

pub returns-else-h-eq5 : goal.returns-else-h-eq5
returns-else-h-eq5 c = others_stay _ _ c.requires.0 _ _ c.rule_head-h.ensures c.if-h-eq1.false c.if-h-eq5.false
