use borrow.Author.Rules.{rules}
use Rattle.setfile.proofs.SetLaws as L
use Rattle.setfile.proofs.put_warnings.Goals as goal

pub loop-i-init : goal.loop-i-init
loop-i-init c = search (rules, L.putting_warnings)

pub loop-i-preserved : goal.loop-i-preserved
loop-i-preserved c = search (rules, L.putting_warnings)

pub returns : goal.returns
returns c = search (rules, L.putting_warnings)
