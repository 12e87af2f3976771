-- `numbered::links_by` meets its contract. Assumes nothing.
use Rattle.call_list.proofs.Numbers.{links_called}
use borrow.Author.Rules.{rules}
use Rattle.numbered.proofs.links_by.Goals as goal

pub returns : goal.returns
returns c = search (rules, links_called)
