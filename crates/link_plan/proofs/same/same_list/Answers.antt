-- `link_plan::same::same_list` meets its contract. Assumes nothing.
use mathlib.Core.Path.{◌∙◌}
use Rattle.link_plan.proofs.PlanLaws.{lists_same}
use Rattle.link_plan.proofs.same.same_list.Goals as goal

pub returns : goal.returns
returns c = c.eq.ensures ∙ lists_same c.args.a.now c.args.b.now
