-- `building::push` meets its contract. Assumes nothing.
use Rattle.building.proofs.BuildLaws as L
use Rattle.building.proofs.push.Goals as goal

pub returns : goal.returns
returns c = L.entry_added _ _ _ _ _ _ _ c.requires.0 c.begin.ensures.below c.requires.1 c.word-word.ensures.number c.begin.ensures.from c.index-n.ensures c.put_entry.ensures
