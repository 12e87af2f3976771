-- `row_calls::links_row` meets its contract. Assumes nothing.
use mathlib.Core.Bool.{not}
use mathlib.Core.Path.{ap}
use Rattle.call_list.proofs.Decode.{links_none, links_step}
use borrow.Author.Rules.{rules}
use Rattle.row_calls.proofs.links_row.Goals as goal

pub returns-then-not-links_within : goal.returns-then-not-links_within
returns-then-not-links_within c = search (rules, links_none)

pub returns : goal.returns
returns c = links_step _ _ _ c.links_within.ensures (ap not c.if-not-links_within.false) _ _ _ c.list_at-lanes.ensures c.list_at-crosswalks.ensures c.list_at-lines.ensures _ _ _ c.links_by.ensures
