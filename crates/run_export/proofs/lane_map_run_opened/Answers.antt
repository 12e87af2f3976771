-- `run_export::lane_map_run_opened` meets its contract. Assumes nothing.
use Rattle.run_export.proofs.Laws.{opened_done, opened_refused}
use borrow.Author.Rules.{rules}
use Rattle.run_export.proofs.lane_map_run_opened.Goals as goal

pub returns-in-Ok : goal.returns-in-Ok
returns-in-Ok c = search (rules, opened_done)

pub returns-in-Err : goal.returns-in-Err
returns-in-Err c = search (rules, opened_refused)
