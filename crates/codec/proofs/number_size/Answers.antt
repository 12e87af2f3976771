use borrow.Author.Rules.{rules}
use Rattle.codec.proofs.NumberLaws as L
use Rattle.codec.proofs.number_size.Goals as goal

pub returns : goal.returns
returns c = search (rules, L.sizing)
