use Rattle.sets.proofs.SettleLaws as L
use Rattle.sets.proofs.put_list.Goals as goal

pub returns : goal.returns
returns c = rw c.word.ensures.number (L.list_put _ _ _ _ _ _ _ (rw c.begin.ensures.from at c.copy.ensures))
