use Rattle.putfields.proofs.FieldLaws as L
use Rattle.putfields.proofs.put_bulbs.Given as goal

abbrev pub invariant-loop-i : goal.invariant-loop-i
invariant-loop-i l = L.Bulbs l.words l.coords l.n l.initial.out l.initial.q l.out l.q l.numbers l.positions l.i
