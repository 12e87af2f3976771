use Rattle.store.specs.Kinds.{kind_number}
use Rattle.loading.proofs.LoadLaws as L
use Rattle.loading.proofs.load_table.Given as goal

abbrev pub invariant-loop-i : goal.invariant-loop-i
invariant-loop-i l = L.Filling l.s (kind_number l.k) l.initial.words l.initial.coords l.initial.q l.n l.words l.coords l.q l.i
