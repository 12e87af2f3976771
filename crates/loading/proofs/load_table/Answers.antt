use borrow.Author.Rules.{rules}
use Rattle.loading.proofs.LoadLaws as L
use Rattle.loading.proofs.load_table.Goals as goal

pub loop-i-preserved : goal.loop-i-preserved
loop-i-preserved c = search (rules, L.loading_table)

pub returns : goal.returns
returns c = search (rules, L.loading_table)
