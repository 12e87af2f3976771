-- `sets::unite` meets its contract. Assumes nothing.
use Rattle.sets.proofs.SettleLaws as L
use borrow.Author.Rules.{rules}
use Rattle.sets.proofs.unite.Goals as goal

pub returns : goal.returns
returns c = search (rules, L.uniting)
