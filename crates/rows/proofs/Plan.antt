-- Tables of several kinds in one list, over the layout and the element type: for words and coordinates alike. Assumes nothing.
use Prim.Native.Nat.{ℕ, zero, suc, ◌+◌, ◌-◌, ◌*◌, ◌≤◌, ◌<◌}
use mathlib.Core.Path.{◌≡◌, ap, ◌∙◌, subst}
use mathlib.Core.Logic.{⊎_elim}
use mathlib.Core.List.{List}
use native.Mathlib.Nat.{zero-add, add-zero, suc-mul, add-mul, mul-le-mul_right, le_refl}
use native.Mathlib.Omega.{arith}
use lib.ListN.{length, drop, length-drop}
use Rattle.rows.specs.Rows.{cut, pasted, moved}
use Rattle.rows.proofs.RowLaws.{cut_before, cut_past, side, row_part, length-pasted, length_moved}
use Rattle.rows.proofs.Indexed.{row_part_other, row_gone_before, row_gone_past}

-- where the tables begin, how wide a row is, how many there is room for; the tables stand one after the other
pub record Plan : Type 0 where
  pub base : ℕ → ℕ
  pub width : ℕ → ℕ
  pub limit : ℕ → ℕ
  pub kinds : ℕ
  pub ends : (k : ℕ) → k < kinds → base k + limit k * width k ≡ base (suc k)

module _ (L : Plan) where
  -- by the distance
  climbs : (d k : ℕ) → k + d ≤ L.kinds → L.base k ≤ L.base (k + d)
  climbs zero k h = rw add-zero (le_refl _)
  climbs (suc d) k h =
      let e : k + suc d ≡ suc (k + d) = omega arith in
      rw e (omega (arith, climbs d k (omega arith), L.ends (k + d) (omega arith)))

  pub apart : (k m : ℕ) → k < m → m ≤ L.kinds → L.base k + L.limit k * L.width k ≤ L.base m
  apart k m h g =
      let e : m ≡ suc k + (m - suc k) = omega arith in
      rw (e, L.ends k (omega arith)) (climbs (m - suc k) (suc k) (omega arith))

  -- the first table begins first, and a table ends within the list
  pub from_first : (k : ℕ) → k ≤ L.kinds → L.base 0 ≤ L.base k
  from_first k h = subst (λ (n : ℕ). L.base 0 ≤ L.base n) (zero-add k) (climbs k 0 (omega arith))

  pub within : (k : ℕ) → k < L.kinds → L.base k + L.limit k * L.width k ≤ L.base L.kinds
  within k h = apart k L.kinds h (le_refl _)

  -- a row lies within its table
  pub row_inside : (k i : ℕ) → i < L.limit k → L.base k + i * L.width k + L.width k ≤ L.base k + L.limit k * L.width k
  row_inside k i h = omega (arith, suc-mul i (L.width k), mul-le-mul_right (L.width k) h)

  -- what is written within table k leaves each row of another kind
  pub others {ℓ} : {A : Type ℓ} (l : List A) (k m i p n : ℕ) (s : List A) → k < L.kinds → m < L.kinds → (m ≡ k → ⊥) → i < L.limit m
      → L.base k ≤ p → p + n ≤ L.base k + L.limit k * L.width k → p + n ≤ length l → n ≤ length s
      → cut (pasted l p s n) (L.base m + i * L.width m) (L.width m) ≡ cut l (L.base m + i * L.width m) (L.width m)
  others l k m i p n s hk hm ne hi lo up hl hs = ⊎_elim
      (λ (a : m < k). cut_before l p s n (L.base m + i * L.width m) (L.width m) (omega (arith, apart m k a (omega arith), row_inside m i hi)) (omega arith))
      (λ (a : k < m). cut_past l p s n (L.base m + i * L.width m) (L.width m) (omega (arith, apart k m a (omega arith))) (omega arith) hs)
      (side m k ne)

  -- a list with room for all tables
  module _ {ℓ} {A : Type ℓ} (l : List A) (room : L.base L.kinds ≤ length l) (k : ℕ) (hk : k < L.kinds) where
    -- a part of row i is written, n entries of s from o on
    module _ (i : ℕ) (hi : i < L.limit k) (o : ℕ) (s : List A) (n : ℕ) (ho : o + n ≤ L.width k) (hs : n ≤ length s) where
      part_fits : L.base k + i * L.width k + o + n ≤ L.base k + L.limit k * L.width k
      part_fits = omega (arith, row_inside k i hi)

      pub part_here : cut (pasted l (L.base k + i * L.width k + o) s n) (L.base k + i * L.width k) (L.width k) ≡ pasted (cut l (L.base k + i * L.width k) (L.width k)) o s n
      part_here = row_part l (L.base k + i * L.width k) (L.width k) o s n ho (omega (arith, row_inside k i hi, within k hk)) hs

      pub part_other : (m : ℕ) → m < L.limit k → (m ≡ i → ⊥)
          → cut (pasted l (L.base k + i * L.width k + o) s n) (L.base k + m * L.width k) (L.width k) ≡ cut l (L.base k + m * L.width k) (L.width k)
      part_other m hm ne = row_part_other l (L.width k) (L.limit k) (L.base k) (omega (arith, within k hk)) i m o n s hi hm ne ho hs

      pub part_others : (m j : ℕ) → m < L.kinds → (m ≡ k → ⊥) → j < L.limit m
          → cut (pasted l (L.base k + i * L.width k + o) s n) (L.base m + j * L.width m) (L.width m) ≡ cut l (L.base m + j * L.width m) (L.width m)
      part_others m j hm ne hj = others l k m j _ n s hk hm ne hj (omega arith) part_fits (omega (arith, part_fits, within k hk)) hs

      pub part_long : length (pasted l (L.base k + i * L.width k + o) s n) ≡ length l
      part_long = length-pasted l (L.base k + i * L.width k + o) s n (omega (arith, part_fits, within k hk)) hs

    -- row j of n is taken out
    module _ (n j : ℕ) (hn : n ≤ L.limit k) (hj : j < n) where
      span : n * L.width k ≡ j * L.width k + ((n - 1 - j) * L.width k + L.width k)
      span =
          let e : n ≡ j + suc (n - 1 - j) = omega arith in
          ap (λ (x : ℕ). x * L.width k) e ∙ simp (add-mul, suc-mul)

      table : L.base k + n * L.width k ≤ L.base k + L.limit k * L.width k
      table = omega (arith, mul-le-mul_right (L.width k) hn)

      pub gone_fits : L.base k + j * L.width k + L.width k + (n - 1 - j) * L.width k ≤ length l
      gone_fits = omega (arith, span, table, within k hk)

      pub gone_before : (i : ℕ) → i < j
          → cut (moved l (L.base k + j * L.width k) (L.base k + j * L.width k + L.width k) ((n - 1 - j) * L.width k)) (L.base k + i * L.width k) (L.width k) ≡ cut l (L.base k + i * L.width k) (L.width k)
      gone_before i h = row_gone_before l (L.width k) n (L.base k) (omega (arith, table, within k hk)) j i hj h

      pub gone_past : (i : ℕ) → j ≤ i → i + 1 < n
          → cut (moved l (L.base k + j * L.width k) (L.base k + j * L.width k + L.width k) ((n - 1 - j) * L.width k)) (L.base k + i * L.width k) (L.width k) ≡ cut l (L.base k + (i + 1) * L.width k) (L.width k)
      gone_past i h g = row_gone_past l (L.width k) n (L.base k) (omega (arith, table, within k hk)) j i h g

      pub gone_others : (m i : ℕ) → m < L.kinds → (m ≡ k → ⊥) → i < L.limit m
          → cut (moved l (L.base k + j * L.width k) (L.base k + j * L.width k + L.width k) ((n - 1 - j) * L.width k)) (L.base m + i * L.width m) (L.width m) ≡ cut l (L.base m + i * L.width m) (L.width m)
      unfolding moved
      gone_others m i hm ne hi = others l k m i (L.base k + j * L.width k) ((n - 1 - j) * L.width k) (drop (L.base k + j * L.width k + L.width k) l) hk hm ne hi
          (omega arith) (omega (arith, span, table)) (omega (arith, gone_fits)) (simp length-drop (omega (arith, gone_fits)))

      pub gone_long : length (moved l (L.base k + j * L.width k) (L.base k + j * L.width k + L.width k) ((n - 1 - j) * L.width k)) ≡ length l
      gone_long = length_moved l (L.base k + j * L.width k) (L.base k + j * L.width k + L.width k) ((n - 1 - j) * L.width k) (omega arith) gone_fits
