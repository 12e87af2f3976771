-- `runs::run_opened` meets its contract. Assumes nothing.
use mathlib.Core.List.{[]}
use native.Mathlib.Omega.{arith}
use Rattle.runs.proofs.OpenedLaws.{room_after, out_before, out_for_file, out_done}
use Rattle.runs.proofs.run_opened.Goals as goal

pub run_rows-tally-requires : goal.run_rows-tally-requires
run_rows-tally-requires c = room_after _ _ [] [] _ _ _ _ _ [] _ c.check_opened-checked.ensures _ c.in-Ok.is _ _ _ _ (omega (arith, c.words-1.given)) (omega (arith, c.coords-1.given)) (omega (arith, c.fold-1.given))

pub returns-in-Err : goal.returns-in-Err
returns-in-Err c = out_before _ _ _ _ _ _ _ _ _ _ _ c.check_opened-checked.ensures _ c.in-Err.is _ _ _ c.not_opened.ensures

pub returns-in-Err-opened : goal.returns-in-Err-opened
returns-in-Err-opened c = out_for_file _ _ _ _ _ _ _ _ _ _ _ c.check_opened-checked.ensures _ c.in-Ok.is _ _ _ _ _ c.open_map-opened.ensures c.in-Err-opened.is _ _ _ c.not_opened-in-Err-opened.ensures

pub returns-in-Ok-opened : goal.returns-in-Ok-opened
returns-in-Ok-opened c = out_done _ _ _ _ _ _ _ _ _ _ _ c.check_opened-checked.ensures _ c.in-Ok.is _ _ _ _ _ c.open_map-opened.ensures c.in-Ok-opened.is _ _ _ _
    c.run_rows-tally.ensures (omega (arith, c.fold-in-Ok-opened-1.given, c.fold-1.given)) c.write_changes.ensures
