-- `running::list_ok` meets its contract. Assumes nothing.
use borrow.Author.Rules.{rules}
use Rattle.changes.proofs.KindLaws.{list_below}
use Rattle.running.proofs.TestLaws as L
use Rattle.running.proofs.list_ok.Goals as goal

pub entries_ok-requires : goal.entries_ok-requires
entries_ok-requires c = (search rules, L.list_stands _ _ c.requires.1 (list_below c.args.l) c.list.result c.list.ensures.words c.list.ensures.end c.list.ensures.count)

pub returns : goal.returns
returns c = L.list_told _ _ c.requires.1 (list_below c.args.l) c.list.result c.list.ensures.words c.list.ensures.end c.list.ensures.count _ _ _ c.entries_ok.ensures
