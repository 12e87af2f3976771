use Rattle.mapput.proofs.RecordLaws as L
use borrow.Author.Rules.{rules}
use Rattle.mapput.proofs.put_line_string.Goals as goal

pub returns : goal.returns
returns c = search (rules, L.putting_line_string)
