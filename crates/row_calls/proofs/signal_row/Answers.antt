-- `row_calls::signal_row` meets its contract. Assumes nothing.
use mathlib.Core.Bool.{not}
use mathlib.Core.Path.{ap}
use Rattle.call_list.proofs.Decode.{signal_none, signal_height, signal_step}
use Rattle.row_calls.proofs.Laws.{numbers_of_lem, parts_of}
use borrow.Author.Rules.{rules}
use Rattle.row_calls.proofs.signal_row.Goals as goal

pub returns-then-not-signal_within : goal.returns-then-not-signal_within
returns-then-not-signal_within c = search (rules, signal_none)

pub measure_at-height-requires : goal.measure_at-height-requires
measure_at-height-requires c = signal_height _ _ _ _ c.signal_within.ensures (ap not c.if-not-signal_within.false)

pub light_row-requires : goal.light_row-requires
light_row-requires c = (parts_of _ _ _ _ c.signal_within.ensures (ap not c.if-not-signal_within.false) c.requires, numbers_of_lem _ _ c.requires c.list_at-numbers.ensures)

pub returns : goal.returns
returns c = signal_step _ _ _ _ c.signal_within.ensures (ap not c.if-not-signal_within.false) _ c.light_measured-measured.ensures _ _ _ _ c.list_at-lanes.ensures c.list_at-numbers.ensures c.measure_at-measure.ensures c.measure_at-height.ensures _ _ _ c.light_row.ensures
