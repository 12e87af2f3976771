use borrow.Author.Rules.{rules}
use Rattle.mapload.proofs.MapLoadLaws as L
use Rattle.mapload.proofs.load_lines.Goals as goal

pub returns : goal.returns
returns c = search (rules, L.loading_lines)
