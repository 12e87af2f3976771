-- `edit_export::lane_map_add_stop_line` meets its contract. Assumes nothing.
use Rattle.edit_export.proofs.Laws.{step_written}
use Rattle.edit_export.proofs.lane_map_add_stop_line.Goals as goal

pub returns : goal.returns
returns c = step_written _ _ _ _ _ _ _ _ _ _ _ _ _ _ _ c.tally_of-t.ensures c.stop_line_by-c.ensures c.answer_with.ensures.0 c.answer_with.ensures.1 c.answer_with.ensures.2
