-- `lifting::lanes_left` meets its contract. Assumes nothing.
use Rattle.lifting.proofs.OneLaws.{Sifted}
use Rattle.lifting.proofs.lanes_left.Given as goal

abbrev pub invariant-loop-i : goal.invariant-loop-i
invariant-loop-i l = Sifted l.list l.lanes l.entries l.count l.i
