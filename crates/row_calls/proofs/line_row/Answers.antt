-- `row_calls::line_row` meets its contract. Assumes nothing.
use mathlib.Core.Bool.{not}
use mathlib.Core.Path.{ap}
use Rattle.call_list.proofs.Decode.{line_none, line_step}
use borrow.Author.Rules.{rules}
use Rattle.row_calls.proofs.line_row.Goals as goal

pub returns-then-not-line_within : goal.returns-then-not-line_within
returns-then-not-line_within c = search (rules, line_none)

pub returns : goal.returns
returns c = line_step _ _ _ _ c.line_within.ensures (ap not c.if-not-line_within.false) _ _ _ c.list_at-lanes.ensures c.measure_at-measure.ensures c.part_at-given.ensures _ _ _ c.stop_line_by.ensures
