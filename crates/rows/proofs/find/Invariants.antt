-- `rows::find` meets its contract: the rows that are left decide the answer. Assumes nothing.
use mathlib.Core.Path.{◌≡◌}
use Prim.Native.Nat.{◌+◌, ◌-◌, ◌*◌}
use Rattle.rows.specs.Rows.{numbers_at, index_of}
use Rattle.rows.proofs.find.Given as goal

abbrev pub invariant-loop-i : goal.invariant-loop-i
invariant-loop-i l = index_of l.x (numbers_at l.t l.w l.n l.base) ≡ l.i + index_of l.x (numbers_at l.t l.w (l.n - l.i) (l.base + l.i * l.w))
