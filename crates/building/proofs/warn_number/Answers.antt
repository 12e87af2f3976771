-- `building::warn_number` meets its contract. Assumes nothing.
use Rattle.changes.specs.Listed.{ref_of}
use Rattle.building.proofs.BuildLaws as L
use Rattle.building.proofs.warn_number.Goals as goal

pub returns : goal.returns
returns c = L.warning_added _ _ _ (ref_of c.args.about) _ c.requires.0 c.requires.1 c.index-n.ensures c.put_entry.ensures
