-- `tables_filled::add_row` meets its contract. Assumes nothing.
use Rattle.tables_filled.proofs.Guards as G
use Rattle.std.proofs.Common.{rules}
use Rattle.tables_filled.proofs.add_row.Goals as goal

pub add_sized-requires : goal.add_sized-requires
add_sized-requires c = search (rules, G.guards)
