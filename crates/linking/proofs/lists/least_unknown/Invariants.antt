-- `linking::lists::least_unknown` meets its contract. Assumes nothing.
use Rattle.store.specs.Kinds.{kind_number}
use Rattle.linking.proofs.ListLaws.{Least}
use Rattle.linking.proofs.lists.least_unknown.Given as goal

abbrev pub invariant-loop-i : goal.invariant-loop-i
invariant-loop-i l = Least l.words (kind_number l.k) l.list l.best l.i
