-- `lighting::housings::fraction_of` meets its contract: what the check does not find by the lemmas that the function names. Assumes nothing.
use Rattle.geometry.specs.Polyline.{Polyline, point_at_fraction}
use Rattle.lighting.proofs.HousingLaws.{of_line}
use Rattle.lighting.proofs.housings.fraction_of.Goals as goal

pub returns : goal.returns
returns c = of_line (λ (xs : Polyline). point_at_fraction xs c.args.t) _ _ c.requires c.point_at_fraction.ensures
