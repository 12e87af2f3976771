use borrow.Author.Rules.{rules}
use Rattle.putfields.proofs.FieldLaws as L
use Rattle.putfields.proofs.put_numbers.Goals as goal

pub loop-i-init : goal.loop-i-init
loop-i-init c = search (rules, L.putting_numbers)

pub loop-i-preserved : goal.loop-i-preserved
loop-i-preserved c = search (rules, L.putting_numbers)

pub returns : goal.returns
returns c = L.numbered_end _ _ _ _ _ _ _ _ _ _ c.put_number-q.ensures c.loop-i.invariant (search rules)
