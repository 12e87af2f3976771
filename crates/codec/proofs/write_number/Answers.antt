use borrow.Author.Rules.{rules}
use Rattle.codec.proofs.NumberLaws as L
use Rattle.codec.proofs.write_number.Goals as goal

pub bounds-out-i : goal.bounds-out-i
bounds-out-i c = search (rules, L.writing)

pub bounds-out-i-2 : goal.bounds-out-i-2
bounds-out-i-2 c = search (rules, L.writing)

pub returns : goal.returns
returns c = search (rules, L.writing)
