-- `link_plan::check::check_rule` meets its contract. Assumes nothing.
use native.Mathlib.Omega.{arith}
use mathlib.Core.Path.{sym, ◌∙◌}
use Rattle.link_plan.proofs.PlanLaws.{below, light_checked, crossing_linked, crossing_fine, marking_linked, marking_moved, marking_fine, others_refused}
use Rattle.link_plan.proofs.check.check_rule.Goals as goal

pub rule_head-h-requires : goal.rule_head-h-requires
rule_head-h-requires c = (c.requires.sized, below _ _ c.requires)

pub rule_list-signals-requires : goal.rule_list-signals-requires
rule_list-signals-requires c = (c.requires.sized, below _ _ c.requires, omega (arith, c.requires.signals (sym (c.rule_head-h.ensures.kind) ∙ c.if-h-eq1.true)))

pub returns-then-h-eq1 : goal.returns-then-h-eq1
returns-then-h-eq1 c = light_checked _ _ _ _ _ _ c.rule_head-h.ensures c.if-h-eq1.true _ c.rule_list-signals.ensures _ c.check_light.ensures

pub returns-then-crosswalks-ne0 : goal.returns-then-crosswalks-ne0
returns-then-crosswalks-ne0 c = crossing_linked _ _ _ _ _ _ c.rule_head-h.ensures c.if-h-eq5.true c.if-crosswalks-ne0.true

pub returns-then-h-eq5 : goal.returns-then-h-eq5
returns-then-h-eq5 c = crossing_fine _ _ _ _ _ _ c.rule_head-h.ensures c.if-h-eq5.true c.if-crosswalks-ne0.false

pub returns-then-crosswalks-ne0-2 : goal.returns-then-crosswalks-ne0-2
returns-then-crosswalks-ne0-2 c = marking_linked _ _ _ _ _ _ c.rule_head-h.ensures c.if-h-eq3.true c.if-crosswalks-ne0-2.true

pub returns-then-is_line : goal.returns-then-is_line
returns-then-is_line c = marking_fine _ _ _ _ _ _ c.rule_head-h.ensures c.if-h-eq3.true c.if-crosswalks-ne0-2.false _ c.is_line.ensures c.if-is_line.true

pub returns-then-h-eq3 : goal.returns-then-h-eq3
returns-then-h-eq3 c = marking_moved _ _ _ _ _ _ c.rule_head-h.ensures c.if-h-eq3.true c.if-crosswalks-ne0-2.false _ c.is_line.ensures c.if-is_line.false

pub returns : goal.returns
returns c = others_refused _ _ _ _ _ _ c.rule_head-h.ensures c.if-h-eq1.false c.if-h-eq5.false c.if-h-eq3.false
