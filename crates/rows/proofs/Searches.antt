-- Look-ups and the order of numbers, over lists whose entries are read by their index: for every kind of record. Assumes nothing.
use Prim.Native.Nat.compare
use Prim.Native.Nat.{ℕ, zero, suc, ◌+◌, ◌*◌}
use mathlib.Core.Path.{◌≡◌, refl, ap}
use mathlib.Core.Bool.{Bool, true, false, ◌||◌, cond}
use Rattle.std.specs.Prelude.{Option, None, Some}
use mathlib.Core.List.{List, ◌∷◌}
use native.Mathlib.Nat.{add-zero, suc-mul}
use native.Mathlib.Omega.{arith}
use lib.Dec.{eqb, ltb}
use borrow.Author.Tests.{lt-ltb}
use lib.ListN.{get_or}
use Rattle.rows.specs.Table.{find, holds, rising}
use Rattle.rows.specs.Rows.{numbers_at, index_of}
use Rattle.rows.proofs.Indexed.{tab}

-- the numbers of rows, by index
pub numbers_tab : (l : List ℕ) (w at i n : ℕ) → numbers_at l w n (at + i * w) ≡ tab (λ j. get_or l (at + j * w) 0) i n
unfolding numbers_at tab
numbers_tab l w at i zero = refl
numbers_tab l w at i (suc n) =
    let e : at + i * w + w ≡ at + suc i * w = omega (arith, suc-mul i w) in
    rw e (ap (λ (r : List ℕ). get_or l (at + i * w) 0 ∷ r) (numbers_tab l w at (suc i) n))

ltb_suc : (a b : ℕ) → ltb (suc a) (suc b) ≡ ltb a b
ltb_suc a b = rw compare.suc-suc

found : {A : Type 0} (g : ℕ → A) (b : Bool) (i n rest : ℕ) (t : Option A) → t ≡ cond (ltb rest n) (Some (g (suc i + rest))) None
    → cond b (Some (g i)) t ≡ cond (ltb (cond b 0 (suc rest)) (suc n)) (Some (g (i + cond b 0 (suc rest)))) None
found g true i n rest t e = rw (add-zero, lt-ltb 0 (suc n) (omega arith))
found g false i n rest t e =
    let a : i + suc rest ≡ suc i + rest = omega arith in
    rw (a, ltb_suc rest n) e

held : (b : Bool) (n rest : ℕ) (t : Bool) → t ≡ ltb rest n → b || t ≡ ltb (cond b 0 (suc rest)) (suc n)
held true n rest t e = rw (lt-ltb 0 (suc n) (omega arith))
held false n rest t e = rw (ltb_suc rest n) e

module _ {A : Type 0} (num : A → ℕ) (g : ℕ → A) where
  -- where a search stops tells what is found
  pub find_tab : (x i n : ℕ) → find num x (tab g i n) ≡ cond (ltb (index_of x (tab (λ j. num (g j)) i n)) n) (Some (g (i + index_of x (tab (λ j. num (g j)) i n)))) None
  unfolding find tab index_of
  find_tab x i zero = refl
  find_tab x i (suc n) = found g (eqb (num (g i)) x) i n _ _ (find_tab x (suc i) n)

  pub holds_tab : (x i n : ℕ) → holds num x (tab g i n) ≡ ltb (index_of x (tab (λ j. num (g j)) i n)) n
  unfolding holds tab index_of
  holds_tab x i zero = refl
  holds_tab x i (suc n) = held (eqb (num (g i)) x) n _ _ (holds_tab x (suc i) n)

  pub rising_tab : (low high i n : ℕ) → rising num low high (tab g i n) ≡ rising (λ x. x) low high (tab (λ j. num (g j)) i n)
  unfolding rising tab
  rising_tab low high i zero = refl
  rising_tab low high i (suc n) = rw (rising_tab (suc (num (g i))) high (suc i) n)
