use Rattle.codec.proofs.DoubleLaws as L
use Rattle.codec.proofs.low_at.Given as goal

abbrev pub invariant-loop-k : goal.invariant-loop-k
invariant-loop-k l = L.Low l.s l.at l.n l.k
