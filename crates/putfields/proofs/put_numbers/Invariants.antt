use Rattle.putfields.proofs.FieldLaws as L
use Rattle.putfields.proofs.put_numbers.Given as goal

abbrev pub invariant-loop-i : goal.invariant-loop-i
invariant-loop-i l = L.Numbered l.words l.from l.n l.initial.out l.initial.q l.out l.q l.i
