-- `lighting::housings::housing_for` meets its contract: what the check does not find by the lemmas that the function names. Assumes nothing.
use mathlib.Core.Path.{◌≡◌}
use lib.ListN.{length}
use Rattle.lighting.proofs.HousingLaws.{as_given}
use borrow.Author.Rules.{rules}
use Rattle.lighting.proofs.housings.housing_for.Goals as goal

pub returns-then-given : goal.returns-then-given
returns-then-given c = let long-copied : length c.copied.result.coords ≡ 192 = search rules in
    as_given c.args.center c.args.anchor _ _ _ c.if-given.true (c.requires.2 c.if-given.true) c.copied.ensures (long-copied)
