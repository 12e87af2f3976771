use Rattle.fields.proofs.Words as L
use Rattle.fields.proofs.read_numbers.Given as goal

abbrev pub invariant-loop-i : goal.invariant-loop-i
invariant-loop-i l = L.Entries l.s l.initial.words l.o l.initial.q l.n l.words l.q l.i
