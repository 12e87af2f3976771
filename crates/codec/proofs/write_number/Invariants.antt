use Rattle.codec.proofs.NumberLaws as L
use Rattle.codec.proofs.write_number.Given as goal

abbrev pub invariant-loop-rest : goal.invariant-loop-rest
invariant-loop-rest l = L.Writing l.initial.out l.at l.n l.out l.rest l.i

abbrev pub decreases-loop-rest : goal.decreases-loop-rest
decreases-loop-rest l = l.rest
