-- `placing::lists::all_on_map` meets its contract. Assumes nothing.
use Rattle.placing.proofs.WalkLaws.{every_end}
use Rattle.placing.proofs.lists.all_on_map.Goals as goal

pub returns : goal.returns
returns c = every_end _ _ _ _ c.loop-x.invariant c.loop-x-test.false
