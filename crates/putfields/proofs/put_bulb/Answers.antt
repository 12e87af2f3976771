use borrow.Author.Rules.{rules}
use Rattle.putfields.proofs.FieldLaws as L
use Rattle.putfields.proofs.put_bulb.Goals as goal

pub returns : goal.returns
returns c = search (rules, L.putting_bulb)
