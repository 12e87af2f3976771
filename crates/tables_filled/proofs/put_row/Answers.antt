-- `tables_filled::put_row` meets its contract. Assumes nothing.
use Rattle.map.proofs.UpdateLaws.{push_sized}
use Rattle.std.proofs.Common.{rules}
use Rattle.tables_filled.proofs.put_row.Goals as goal

pub set_next-requires : goal.set_next-requires
set_next-requires c = search (rules, push_sized)
