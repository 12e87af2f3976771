use Rattle.fields.proofs.BulbLaws as L
use Rattle.fields.proofs.read_bulbs.Given as goal

abbrev pub invariant-loop-i : goal.invariant-loop-i
invariant-loop-i l = L.Lit l.s l.initial.words l.initial.coords l.initial.q l.n l.words l.coords l.q l.i
