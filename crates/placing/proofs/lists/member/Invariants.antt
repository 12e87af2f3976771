-- `placing::lists::member` meets its contract. Assumes nothing.
use Rattle.placing.proofs.WalkLaws.{Sought}
use Rattle.placing.proofs.lists.member.Given as goal

abbrev pub invariant-loop-i : goal.invariant-loop-i
invariant-loop-i l = Sought l.ns l.from l.n l.i
