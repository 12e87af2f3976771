use Rattle.store.specs.Kinds.{kind_number}
use Rattle.mapput.proofs.TableLaws as L
use Rattle.mapput.proofs.put_table.Given as goal

abbrev pub invariant-loop-i : goal.invariant-loop-i
invariant-loop-i l = L.Rowed (kind_number l.k) l.words l.coords l.n l.initial.out l.initial.q l.out l.q l.i
