-- `validity::table_points` meets its contract. Assumes nothing.
use Prim.Native.Nat.{◌*◌, ◌≤◌}
use mathlib.Core.Path.{◌≡◌}
use Rattle.rows.specs.Lists.{list_to, total}
use Rattle.store.specs.Kinds.{kind_number}
use Rattle.row_tests.specs.Flat.{row_points}
use Rattle.validity.proofs.table_points.Given as goal

abbrev pub invariant-loop-i : goal.invariant-loop-i
invariant-loop-i l = (l.sum ≤ 192 * l.i) × (l.sum ≡ total (λ m. m) (list_to (row_points (kind_number l.k) l.words) l.i))
