use Rattle.putfields.proofs.FieldLaws as L
use borrow.Author.Rules.{rules}
use Rattle.putfields.proofs.put_option_number.Goals as goal

pub returns-then-there-eq0 : goal.returns-then-there-eq0
returns-then-there-eq0 c = search (rules, L.putting_option)

pub returns : goal.returns
returns c = search (rules, L.putting_option)
