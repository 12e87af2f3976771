use Rattle.fields.proofs.Points as L
use Rattle.fields.proofs.read_line.Given as goal

abbrev pub invariant-loop-i : goal.invariant-loop-i
invariant-loop-i l = L.Lines l.s l.initial.coords l.c l.initial.q l.n l.coords l.q l.i
