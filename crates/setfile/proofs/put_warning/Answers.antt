use Rattle.setfile.proofs.SetLaws as L
use borrow.Author.Rules.{rules}
use Rattle.setfile.proofs.put_warning.Goals as goal

pub returns-then-kind-eq0 : goal.returns-then-kind-eq0
returns-then-kind-eq0 c = search (rules, L.putting_warning)

pub returns : goal.returns
returns c = search (rules, L.putting_warning)
