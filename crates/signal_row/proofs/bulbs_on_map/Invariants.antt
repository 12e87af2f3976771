-- `signal_row::bulbs_on_map` meets its contract. Assumes nothing.
use Rattle.signal_row.proofs.StoredLaws.{Stand}
use Rattle.signal_row.proofs.bulbs_on_map.Given as goal

abbrev pub invariant-loop-i : goal.invariant-loop-i
invariant-loop-i l = Stand l.all l.n l.i
