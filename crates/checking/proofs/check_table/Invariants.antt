use Rattle.store.specs.Kinds.{kind_number}
use Rattle.checking.proofs.CheckLaws as L
use Rattle.checking.proofs.check_table.Given as goal

abbrev pub invariant-loop : goal.invariant-loop
invariant-loop l = L.Passing l.s (kind_number l.k) l.next l.initial.row l.initial.xs l.initial.q l.n l.row l.xs l.q l.counter l.low l.sum
