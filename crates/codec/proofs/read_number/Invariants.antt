use Rattle.codec.proofs.NumberLaws as L
use Rattle.codec.proofs.read_number.Given as goal

abbrev pub invariant-loop-k : goal.invariant-loop-k
invariant-loop-k l = L.Reading l.s l.at l.n l.weight l.i l.k
