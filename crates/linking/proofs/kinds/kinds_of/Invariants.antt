-- `linking::kinds::kinds_of` meets its contract. Assumes nothing.
use Rattle.linking.proofs.KindLaws.{Reading}
use Rattle.linking.proofs.kinds.kinds_of.Given as goal

abbrev pub invariant-loop-i : goal.invariant-loop-i
invariant-loop-i l = Reading l.words l.signals l.kinds l.i
