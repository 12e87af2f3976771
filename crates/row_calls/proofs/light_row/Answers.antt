-- `row_calls::light_row` meets its contract. Assumes nothing.
use Rattle.row_calls.proofs.Laws.{light_step}
use Rattle.row_calls.proofs.light_row.Goals as goal

pub returns : goal.returns
returns c = light_step c.args.row.now c.args.reals.now _ c.light_pointed-pointed.ensures _ _ _ _ _ _ _ c.part_at-points.ensures c.part_at-housing.ensures c.part_at-lamps.ensures _ _ _ c.signal_by.ensures
