-- Places in a pool.
use Prim.Native.Nat.{ℕ, ◌+◌, ◌-◌, ◌≤◌, ◌<◌}
use mathlib.Core.Path.{◌≡◌, sym}
use mathlib.Core.Bool.{Bool, true, false, not, ◌&&◌, ◌||◌}
use lib.Dec.{eqb, leb}
use borrow.Author.Tests.{ne_eqb, leb-true, le-leb, lt-leb}
use native.Mathlib.Omega.{arith}
use Rattle.rows.proofs.Bools.{agree}

-- the test that the code makes, which cannot wrap, and the one that is meant
pub same_test : (a n m : ℕ) → n ≤ m → leb a (m - n) ≡ leb (a + n) m
same_test a n m h = agree _ _ (λ t. le-leb _ _ (go (leb-true a (m - n) t))) (λ t. le-leb _ _ (back (leb-true (a + n) m t)))
  where
    go : a ≤ m - n → a + n ≤ m
    go q = omega arith

    back : a + n ≤ m → a ≤ m - n
    back q = omega arith

pub too_many : (a n m : ℕ) → m < n → false ≡ leb (a + n) m
too_many a n m h = sym (lt-leb (a + n) m (omega arith))

-- ---- a part that is read, or not

pub read_test : (read r b : Bool) → read ≡ true → r ≡ b → r ≡ (not read || b)
read_test read r b h e = rw h e

pub read_as : (r m n b : Bool) → r ≡ (not m || b) → m ≡ n → r ≡ (not n || b)
read_as r m n b e q = rw (← q) e

pub other_choice : (choice : ℕ) (b : Bool) → (choice ≡ 2 → ⊥) → false ≡ (eqb choice 2 && b)
other_choice choice b h = rw (ne_eqb choice 2 h)

pub new_line : (choice : ℕ) (b : Bool) → choice ≡ 2 → b ≡ (eqb choice 2 && b)
new_line choice b h = rw h
