use Rattle.codec.proofs.NumberLaws as L
use Rattle.codec.proofs.number_size.Given as goal

abbrev pub invariant-loop-left : goal.invariant-loop-left
invariant-loop-left l = L.Sizing l.n l.left l.k

abbrev pub decreases-loop-left : goal.decreases-loop-left
decreases-loop-left l = l.left
