-- `table_export::lane_map_fold` meets its contract. Assumes nothing.
use Rattle.table_export.proofs.Laws.{fold_done, fold_refused}
use borrow.Author.Rules.{rules}
use Rattle.table_export.proofs.lane_map_fold.Goals as goal

pub returns-in-Ok : goal.returns-in-Ok
returns-in-Ok c = search (rules, fold_done)

pub returns-in-Err : goal.returns-in-Err
returns-in-Err c = search (rules, fold_refused)
