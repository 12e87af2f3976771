use Rattle.setfile.proofs.SetLaws as L
use borrow.Author.Rules.{rules}
use Rattle.setfile.proofs.put_entry.Goals as goal

pub returns : goal.returns
returns c = search (rules, L.putting_entry)
