-- Tables: records in rising order of their numbers, for every kind of record by the function that gives its number.
use Rattle.std.specs.Prelude.{ℕ, suc, Bool, true, false, ◌&&◌, ◌||◌, cond, List, [], ◌∷◌, eqb, ltb, leb, Option, None, Some}

module _ {A : Type 0} (num : A → ℕ) where
  unfoldable pub find : ℕ → List A → Option A
  find n [] = None
  find n (x ∷ xs) = let rest = find n xs in cond (eqb (num x) n) (Some x) rest

  unfoldable pub holds : ℕ → List A → Bool
  holds n [] = false
  holds n (x ∷ xs) = eqb (num x) n || holds n xs

  -- the record with the number of a replaced by a
  unfoldable pub replaced : A → List A → List A
  replaced a [] = []
  replaced a (x ∷ xs) = cond (eqb (num x) (num a)) a x ∷ replaced a xs

  -- strictly rising numbers, all from low on and below high
  unfoldable pub rising : ℕ → ℕ → List A → Bool
  rising low high [] = true
  rising low high (x ∷ xs) = leb low (num x) && ltb (num x) high && rising (suc (num x)) high xs

unfoldable pub open_table : Unit {0}
unfolding find holds replaced rising
open_table = tt
