-- `placing::lists::unknown_lane` meets its contract. Assumes nothing.
use Rattle.placing.proofs.WalkLaws.{Known}
use Rattle.placing.proofs.lists.unknown_lane.Given as goal

abbrev pub invariant-loop-n : goal.invariant-loop-n
invariant-loop-n l = Known l.words l.lanes l.n-index
