use Rattle.putfields.proofs.FieldLaws as L
use Rattle.putfields.proofs.put_line.Given as goal

abbrev pub invariant-loop-i : goal.invariant-loop-i
invariant-loop-i l = L.Points l.coords l.c l.n l.initial.out l.initial.q l.out l.q l.rest l.i
