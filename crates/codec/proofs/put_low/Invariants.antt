use Rattle.codec.proofs.DoubleLaws as L
use Rattle.codec.proofs.put_low.Given as goal

abbrev pub invariant-loop-k : goal.invariant-loop-k
invariant-loop-k l = L.PutLow l.initial.out l.at l.n l.out l.rest l.k
