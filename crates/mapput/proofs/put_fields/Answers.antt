use Rattle.mapput.proofs.RecordLaws as L
use borrow.Author.Rules.{rules}
use Rattle.mapput.proofs.put_fields.Goals as goal

pub returns-in-1 : goal.returns-in-1
returns-in-1 c = search (rules, L.putting_fields)

pub returns-in-2 : goal.returns-in-2
returns-in-2 c = search (rules, L.putting_fields)

pub returns-in-3 : goal.returns-in-3
returns-in-3 c = search (rules, L.putting_fields)

pub returns-in-4 : goal.returns-in-4
returns-in-4 c = search (rules, L.putting_fields)

pub returns-in-5 : goal.returns-in-5
returns-in-5 c = search (rules, L.putting_fields)

pub returns-in-6 : goal.returns-in-6
returns-in-6 c = search (rules, L.putting_fields)

pub returns-in_default : goal.returns-in_default
returns-in_default c = search (rules, L.putting_fields)
