-- `link_plan::same::same_links` meets its contract. Assumes nothing.
use native.Mathlib.Omega.{arith}
use Rattle.link_plan.proofs.PlanLaws.{below, lanes_differ, crosswalks_differ, links_same}
use mathlib.Core.Path.{◌≡◌}
use mathlib.Core.Bool.{true, false}
use Rattle.link_plan.proofs.same.same_links.Goals as goal
use Rattle.link_plan.proofs.same.same_links.Goals.{then-same_list, else-same_list}

pub rule_list-requires : goal.rule_list-requires
rule_list-requires c = (c.requires.sized, below _ _ c.requires, omega (arith, c.requires.lanes))

pub rule_list-requires-then-same_list : goal.rule_list-requires-then-same_list
rule_list-requires-then-same_list c = (c.requires.sized, below _ _ c.requires, omega (arith, c.requires.controlled))

pub returns-then-same_list-2 : goal.returns-then-same_list-2
returns-then-same_list-2 c =
    elim c.if-same_list.branch [
      | then-same_list w ↦
          links_same _ _ _ _ _ _ c.rule_list.ensures _ c.same_list.ensures w.if-same_list.true _ w.rule_list-then-same_list.ensures _
          w.same_list-then-same_list.ensures (cc) _ c.same_lines.ensures
      | else-same_list w ↦ absurd (let y : false ≡ true = cc in cc)
    ]

pub returns-else-same_list-2 : goal.returns-else-same_list-2
returns-else-same_list-2 c =
    rw c.if-same_list-2.false
    (elim c.if-same_list.branch [
      | then-same_list w ↦
          crosswalks_differ _ _ _ _ _ _ c.rule_list.ensures _ c.same_list.ensures w.if-same_list.true _ w.rule_list-then-same_list.ensures _
          w.same_list-then-same_list.ensures (cc)
      | else-same_list w ↦ lanes_differ _ _ _ _ _ _ c.rule_list.ensures _ c.same_list.ensures w.if-same_list.false
    ])
