use Rattle.putfields.proofs.FieldLaws as L
use borrow.Author.Rules.{rules}
use Rattle.putfields.proofs.put_flag.Goals as goal

pub returns-then-w-eq0 : goal.returns-then-w-eq0
returns-then-w-eq0 c = search (rules, L.putting_flag)

pub returns : goal.returns
returns c = search (rules, L.putting_flag)
