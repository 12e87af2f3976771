-- `tables_filled::control` meets its contract. Assumes nothing.
use Rattle.tables_filled.proofs.Guards as G
use Rattle.std.proofs.Common.{rules}
use Rattle.tables_filled.proofs.control.Goals as goal

pub count-requires : goal.count-requires
count-requires c = search (rules, G.guards)

pub put_list-requires : goal.put_list-requires
put_list-requires c = search (rules, G.guards)
