-- `tables_filled::add_light` meets its contract. Assumes nothing.
use Rattle.tables_filled.proofs.Guards as G
use Rattle.std.proofs.Common.{rules}
use Rattle.tables_filled.proofs.add_light.Goals as goal

pub count-requires : goal.count-requires
count-requires c = search (rules, G.guards)

pub next-requires : goal.next-requires
next-requires c = search (rules, G.guards)

pub push_new_rule-requires : goal.push_new_rule-requires
push_new_rule-requires c = search (rules, G.guards)
