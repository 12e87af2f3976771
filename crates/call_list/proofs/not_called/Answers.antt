-- `call_list::not_called` meets its contract: the lemma stands here, since the check did not find it where the function names it.
use Rattle.call_list.proofs.Steps.{step_none}
use borrow.Author.Rules.{rules}
use Rattle.call_list.proofs.not_called.Goals as goal

pub returns : goal.returns
returns c = search (rules, step_none)
