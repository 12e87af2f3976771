-- `building::clear` meets its contract. Assumes nothing.
use Rattle.building.proofs.BuildLaws as L
use Rattle.building.proofs.clear.Goals as goal

pub returns : goal.returns
returns c = L.cleared c.args.s.now c.requires
