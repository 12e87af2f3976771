use Rattle.setfile.proofs.LoadLaws as L
use Rattle.setfile.proofs.load_warnings.Given as goal

abbrev pub invariant-loop-i : goal.invariant-loop-i
invariant-loop-i l = L.Warned l.s l.initial.t l.initial.q l.n l.t l.q l.i
