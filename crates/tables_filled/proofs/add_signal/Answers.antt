-- `tables_filled::add_signal` meets its contract. Assumes nothing.
use Rattle.tables_filled.proofs.Guards as G
use Rattle.std.proofs.Common.{rules}
use Rattle.tables_filled.proofs.add_signal.Goals as goal

pub signal_sized-requires : goal.signal_sized-requires
signal_sized-requires c = search (rules, G.guards)
