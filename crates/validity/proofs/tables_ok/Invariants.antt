-- `validity::tables_ok` meets its contract. Assumes nothing.
use Prim.Native.Nat.{◌-◌}
use mathlib.Core.Path.{◌≡◌}
use Rattle.rows.specs.Lists.{every}
use Rattle.rows.proofs.Indexed.{tab}
use Rattle.row_tests.specs.Flat.{good_table, good_tables}
use Rattle.validity.proofs.tables_ok.Given as goal

abbrev pub invariant-loop-k : goal.invariant-loop-k
invariant-loop-k l = good_tables l.words l.coords ≡ every (λ b. b) (tab (good_table l.words l.coords) l.k-index (6 - l.k-index))
