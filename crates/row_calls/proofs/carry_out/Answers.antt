-- `row_calls::carry_out` meets its contract. Assumes nothing.
use Rattle.call_list.proofs.Decode.{is_line_lem, is_signal, is_links, is_none}
use borrow.Author.Rules.{rules}
use Rattle.row_calls.proofs.carry_out.Goals as goal

pub returns-in-1 : goal.returns-in-1
returns-in-1 c = search (rules, is_line_lem)

pub returns-in-2 : goal.returns-in-2
returns-in-2 c = search (rules, is_signal)

pub returns-in-3 : goal.returns-in-3
returns-in-3 c = search (rules, is_links)

pub returns-in_default : goal.returns-in_default
returns-in_default c = search (rules, is_none)
