-- `validity::rows_ok` meets its contract. Assumes nothing.
use Prim.Native.Nat.{◌-◌}
use mathlib.Core.Path.{◌≡◌}
use Rattle.rows.specs.Lists.{every}
use Rattle.rows.proofs.Indexed.{tab}
use Rattle.store.specs.Kinds.{kind_number}
use Rattle.row_tests.specs.Flat.{good_row, good_rows}
use Rattle.validity.proofs.rows_ok.Given as goal

abbrev pub invariant-loop-i : goal.invariant-loop-i
invariant-loop-i l = good_rows l.words l.coords (kind_number l.k) ≡ every (λ b. b) (tab (good_row (kind_number l.k) l.words l.coords) l.i (l.n - l.i))
