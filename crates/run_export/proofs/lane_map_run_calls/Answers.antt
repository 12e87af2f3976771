-- `run_export::lane_map_run_calls` meets its contract. Assumes nothing.
use Rattle.run_export.proofs.Laws.{run_done, run_refused, run_as}
use Rattle.run_export.proofs.lane_map_run_calls.Goals as goal

pub returns-in-Ok : goal.returns-in-Ok
returns-in-Ok c = run_done _ _ _ _ _ _ _ _ _ _ _ (run_as _ _ _ _ _ _ _ _ _ _ _ c.tally_of-t.ensures c.run_calls-a.ensures) c.put_tally.ensures _ c.in-Ok.is

pub returns-in-Err : goal.returns-in-Err
returns-in-Err c = run_refused _ _ _ _ _ _ _ _ _ _ _ (run_as _ _ _ _ _ _ _ _ _ _ _ c.tally_of-t.ensures c.run_calls-a.ensures) c.put_tally.ensures _ _ c.in-Err.is c.number.ensures
