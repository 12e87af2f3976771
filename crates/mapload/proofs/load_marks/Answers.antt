use borrow.Author.Rules.{rules}
use Rattle.mapload.proofs.MapLoadLaws as L
use Rattle.mapload.proofs.load_marks.Goals as goal

pub returns : goal.returns
returns c = search (rules, L.loading_marks)
