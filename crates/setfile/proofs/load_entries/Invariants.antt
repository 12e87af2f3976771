use Rattle.setfile.proofs.LoadLaws as L
use Rattle.setfile.proofs.load_entries.Given as goal

abbrev pub invariant-loop-i : goal.invariant-loop-i
invariant-loop-i l = L.Entered l.l l.s l.initial.t l.initial.q l.n l.t l.q l.i
