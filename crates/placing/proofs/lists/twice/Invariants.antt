-- `placing::lists::twice` meets its contract. Assumes nothing.
use Rattle.placing.proofs.WalkLaws.{Single}
use Rattle.placing.proofs.lists.twice.Given as goal

abbrev pub invariant-loop-i : goal.invariant-loop-i
invariant-loop-i l = Single l.ns l.i
