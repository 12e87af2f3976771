-- `lighting::housings::direction_of` meets its contract: what the check does not find by the lemmas that the function names. Assumes nothing.
use Rattle.geometry.specs.Polyline.{Polyline, direction_at}
use Rattle.lighting.proofs.HousingLaws.{of_line}
use Rattle.lighting.proofs.housings.direction_of.Goals as goal

pub returns : goal.returns
returns c = of_line (λ (xs : Polyline). direction_at xs c.args.s) _ _ c.requires c.direction_at.ensures
