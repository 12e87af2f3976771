use Rattle.mapput.proofs.RecordLaws as L
use borrow.Author.Rules.{rules}
use Rattle.mapput.proofs.put_lane.Goals as goal

pub returns : goal.returns
returns c = search (rules, L.putting_lane)
