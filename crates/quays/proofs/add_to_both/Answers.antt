-- `quays::add_to_both` meets its contract: what the two calls leave, joined by the corollary of the theorem.
use Rattle.quays.proofs.Calls.{both_left}
use borrow.Author.Rules.{rules}
use Rattle.quays.proofs.add_to_both.Goals as goal

pub returns : goal.returns
returns c = search (rules, both_left)
