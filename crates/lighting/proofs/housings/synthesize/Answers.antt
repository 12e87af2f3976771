-- `lighting::housings::synthesize` meets its contract: what the check does not find by the lemmas that the function names. Assumes nothing.
use mathlib.Core.Path.{◌≡◌}
use lib.ListN.{length}
use Rattle.lighting.proofs.HousingLaws.{made_up}
use borrow.Author.Rules.{rules}
use Rattle.lighting.proofs.housings.synthesize.Goals as goal

pub returns : goal.returns
returns c = let long-across : length c.across.result.coords ≡ 192 = search rules in
    made_up c.args.center c.args.anchor _ c.fraction_of.ensures _ c.in-Some.is c.if-not-center.false _ c.flat.ensures _ c.direction_near.ensures _ _ _ c.in-Some-direction_near.is c.housing_at.ensures c.across.ensures (long-across)
