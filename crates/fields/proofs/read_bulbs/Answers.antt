use borrow.Author.Rules.{rules}
use Rattle.fields.proofs.BulbLaws as L
use Rattle.fields.proofs.read_bulbs.Goals as goal

pub loop-i-preserved : goal.loop-i-preserved
loop-i-preserved c = search (rules, L.reading_bulbs)
