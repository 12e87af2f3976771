-- `link_plan::same::same_lines` meets its contract. Assumes nothing.
use native.Mathlib.Omega.{arith}
use mathlib.Core.Path.{sym, ◌∙◌}
use Rattle.link_plan.proofs.PlanLaws.{below, light_same, crossing_same, others_same}
use mathlib.Core.Bool.{true}
use Rattle.link_plan.proofs.same.same_lines.Goals as goal

pub rule_head-h-requires : goal.rule_head-h-requires
rule_head-h-requires c = (c.requires.sized, below _ _ c.requires)

pub returns-then-h-eq1 : goal.returns-then-h-eq1
returns-then-h-eq1 c = light_same _ _ _ _ c.rule_head-h.ensures _ c.if-h-eq1.true c.same_line.ensures

pub rule_list-requires : goal.rule_list-requires
rule_list-requires c = (c.requires.sized, below _ _ c.requires, omega (arith, c.requires.lines (sym (c.rule_head-h.ensures.kind) ∙ c.if-h-eq5.true)))

pub returns-then-h-eq5 : goal.returns-then-h-eq5
returns-then-h-eq5 c = crossing_same _ _ _ _ c.rule_head-h.ensures _ c.if-h-eq5.true _ c.rule_list.ensures c.same_list.ensures

pub returns : goal.returns
returns c = others_same _ _ _ _ c.rule_head-h.ensures true c.if-h-eq1.false c.if-h-eq5.false
