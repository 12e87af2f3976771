use borrow.Author.Rules.{rules}
use Rattle.putfields.proofs.FieldLaws as L
use Rattle.putfields.proofs.put_line.Goals as goal

pub loop-i-init : goal.loop-i-init
loop-i-init c = search (rules, L.putting_line)

pub loop-i-preserved : goal.loop-i-preserved
loop-i-preserved c = search (rules, L.putting_line)

pub returns : goal.returns
returns c = search (rules, L.putting_line)
