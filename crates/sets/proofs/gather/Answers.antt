-- `sets::gather` meets its contract. Assumes nothing.
use Rattle.sets.proofs.TableLaws as L
use Rattle.sets.proofs.gather.Goals as goal

pub settle-requires : goal.settle-requires
settle-requires c = L.rises_united _ _ _ _ _ _ _ c.requires.0 c.requires.1 c.unite-n.ensures

pub returns : goal.returns
returns c = L.made _ _ _ _ _ _ _ _ _ c.requires.0 c.unite-n.ensures c.settle.ensures
