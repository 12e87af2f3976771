use borrow.Author.Rules.{rules}
use Rattle.records.proofs.RecordLaws as L
use Rattle.records.proofs.read_crosswalk.Goals as goal

pub returns : goal.returns
returns c = search (rules, L.reading_crosswalk)
