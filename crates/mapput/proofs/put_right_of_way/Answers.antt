use Rattle.mapput.proofs.RecordLaws as L
use borrow.Author.Rules.{rules}
use Rattle.mapput.proofs.put_right_of_way.Goals as goal

pub returns : goal.returns
returns c = search (rules, L.putting_right_of_way)
