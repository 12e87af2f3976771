-- `placing::lists::all_finite` meets its contract. Assumes nothing.
use Rattle.placing.proofs.WalkLaws.{every_end}
use Rattle.placing.proofs.lists.all_finite.Goals as goal

pub returns : goal.returns
returns c = every_end _ _ _ _ c.loop-x.invariant c.loop-x-test.false
