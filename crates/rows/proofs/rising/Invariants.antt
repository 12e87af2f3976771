-- `rows::rising` meets its contract: the rows that are left decide the answer. Assumes nothing.
use mathlib.Core.Path.{◌≡◌}
use Prim.Native.Nat.{◌+◌, ◌-◌, ◌*◌}
use Rattle.rows.specs.Table.{rising}
use Rattle.rows.specs.Rows.{numbers_at}
use Rattle.rows.proofs.rising.Given as goal

abbrev pub invariant-loop-i : goal.invariant-loop-i
invariant-loop-i l = rising (λ x. x) 0 l.next (numbers_at l.t l.w l.n l.base) ≡ rising (λ x. x) l.low l.next (numbers_at l.t l.w (l.n - l.i) (l.base + l.i * l.w))
