-- `links::check_links` meets its contract. Assumes nothing.
use mathlib.Core.Bool.{not}
use mathlib.Core.Path.{ap}
use Rattle.links.proofs.CarryLaws as K
use Rattle.links.specs.Linked.{rule_links}
use Rattle.links.proofs.check_links.Goals as goal

pub returns-then-not-holds : goal.returns-then-not-holds
returns-then-not-holds c = K.no_such_rule _ (rule_links c.args.rule c.args.lanes.now c.args.crosswalks.now c.args.lines.now) _ c.holds.ensures (ap not c.if-not-holds.true)
