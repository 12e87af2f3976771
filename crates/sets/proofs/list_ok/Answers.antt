use Rattle.sets.proofs.TableLaws as L
use Rattle.sets.proofs.list_ok.Goals as goal

pub returns : goal.returns
returns c = L.list_told _ _ _ _ (rw c.word.ensures.number at c.index.ensures) (rw c.begin.ensures.from at c.entries_ok.ensures)
