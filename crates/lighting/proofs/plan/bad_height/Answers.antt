-- `lighting::plan::bad_height` meets its contract: what the check does not find by the lemmas that the function names. Assumes nothing.
use mathlib.Core.Bool.{not}
use mathlib.Core.Path.{ap}
use Rattle.lighting.proofs.PlanLaws.{height_infinite}
use Rattle.lighting.proofs.plan.bad_height.Goals as goal

pub returns-then-not-is_finite : goal.returns-then-not-is_finite
returns-then-not-is_finite c = height_infinite _ _ c.in-Metres.is _ c.is_finite.ensures (ap not c.if-not-is_finite.true)
