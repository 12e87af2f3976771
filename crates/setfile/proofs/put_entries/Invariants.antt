use Rattle.setfile.proofs.SetLaws as L
use Rattle.setfile.proofs.put_entries.Given as goal

abbrev pub invariant-loop-i : goal.invariant-loop-i
invariant-loop-i l = L.Entered l.t l.from l.n l.initial.out l.initial.q l.out l.q l.i
