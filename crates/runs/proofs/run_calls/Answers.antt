-- `runs::run_calls` meets its contract. Assumes nothing.
use mathlib.Core.List.{[]}
use Rattle.runs.proofs.RowLaws.{run_refused, run_room, run_done}
use Rattle.runs.proofs.run_calls.Goals as goal

pub run_rows-requires : goal.run_rows-requires
run_rows-requires c = run_room _ [] [] _ _ _ c.check_run-checked.ensures _ c.in-Ok.is

pub returns-in-Err : goal.returns-in-Err
returns-in-Err c = run_refused _ _ _ _ _ _ c.check_run-checked.ensures _ c.in-Err.is

pub returns-in-Ok : goal.returns-in-Ok
returns-in-Ok c = run_done _ _ _ _ _ _ c.check_run-checked.ensures _ c.in-Ok.is _ _ c.run_rows.ensures
