-- A test against the number of cases, by what the code asked.
use Prim.Native.Nat.{ℕ, suc, ◌≤◌, ◌<◌}
use mathlib.Core.Bool.{true, false}
use lib.Dec.{ltb}
use borrow.Author.Tests.{le-ltb, lt-ltb}
use mathlib.Core.Path.{◌≡◌}
use native.Mathlib.Omega.{arith}

pub above : (k a : ℕ) → k < a → ltb a (suc k) ≡ false
above k a h = le-ltb a (suc k) (omega arith)

pub below : (k a : ℕ) → a ≤ k → ltb a (suc k) ≡ true
below k a h = lt-ltb a (suc k) (omega arith)
