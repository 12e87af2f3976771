-- `validity::points_used` meets its contract. Assumes nothing.
use Prim.Native.Nat.{◌*◌, ◌≤◌}
use mathlib.Core.Path.{◌≡◌}
use Rattle.rows.specs.Lists.{list_to, total}
use Rattle.row_tests.specs.Flat.{table_points}
use Rattle.validity.proofs.points_used.Given as goal

abbrev pub invariant-loop-k : goal.invariant-loop-k
invariant-loop-k l = (l.sum ≤ 24576 * l.k-index) × (l.sum ≡ total (λ m. m) (list_to (table_points l.words) l.k-index))
