-- Look-ups and the order of numbers in a table, for all kinds together. Assumes nothing.
use Prim.Native.Nat.{ℕ, ◌+◌, ◌*◌, ◌<◌}
use mathlib.Core.Path.{◌≡◌, sym, ◌∙◌}
use mathlib.Core.Bool.{cond}
use Rattle.std.specs.Prelude.{None, Some}
use mathlib.Core.List.{List}
use native.Mathlib.Nat.{add-zero, zero-add, zero-mul}
use lib.Dec.{ltb}
use lib.Ieee.{Float}
use lib.ListN.{get_or}
use Rattle.rows.specs.Table.{find, holds, rising}
use Rattle.rows.specs.Rows.{numbers_at, index_of}
use Rattle.rows.proofs.RowLaws.{get_or-cut}
use Rattle.rows.proofs.Indexed.{tab, list_to_tab, tab_equal}
use Rattle.rows.proofs.Searches.{numbers_tab, find_tab, holds_tab, rising_tab}
use Rattle.store.specs.Layout.{width_of, base_of, place_of, count_of, row_of, coords_of, records_of}
use Rattle.store.proofs.StoreLaws.{wide}

-- records whose number is the first word of their row
module _ {A : Type 0} (num : A → ℕ) (f : List ℕ → List Float → A) (first : (r : List ℕ) (c : List Float) → num (f r c) ≡ get_or r 0 0)
    (ws : List ℕ) (cs : List Float) (k : ℕ) (hk : k < 6) where
  row_number : (i : ℕ) → num (f (row_of ws k i) (coords_of cs k i)) ≡ get_or ws (base_of k + i * width_of k) 0
  unfolding row_of place_of
  row_number i = first _ _ ∙ get_or-cut ws (base_of k + i * width_of k) (width_of k) 0 0 (wide k hk) ∙ rw add-zero

  numbers_are : tab (λ i. num (f (row_of ws k i) (coords_of cs k i))) 0 (count_of ws k) ≡ numbers_at ws (width_of k) (count_of ws k) (base_of k)
  numbers_are = tab_equal (λ i. get_or ws (base_of k + i * width_of k) 0) (λ i. num (f (row_of ws k i) (coords_of cs k i))) 0 (count_of ws k) (λ i a b. row_number i)
      ∙ sym (numbers_tab ws (width_of k) (base_of k) 0 (count_of ws k)) ∙ rw (zero-mul, add-zero)

  pub find_record : (x : ℕ) → find num x (records_of f ws cs k)
      ≡ cond (ltb (index_of x (numbers_at ws (width_of k) (count_of ws k) (base_of k))) (count_of ws k))
      (Some (f (row_of ws k (index_of x (numbers_at ws (width_of k) (count_of ws k) (base_of k)))) (coords_of cs k (index_of x (numbers_at ws (width_of k) (count_of ws k) (base_of k)))))) None
  unfolding records_of
  find_record x =
      rw (list_to_tab (λ i. f (row_of ws k i) (coords_of cs k i)) (count_of ws k), ← numbers_are)
      (find_tab num (λ i. f (row_of ws k i) (coords_of cs k i)) x 0 (count_of ws k) ∙ rw zero-add)

  pub holds_record : (x : ℕ) → holds num x (records_of f ws cs k) ≡ ltb (index_of x (numbers_at ws (width_of k) (count_of ws k) (base_of k))) (count_of ws k)
  unfolding records_of
  holds_record x =
      rw (list_to_tab (λ i. f (row_of ws k i) (coords_of cs k i)) (count_of ws k), ← numbers_are)
      (holds_tab num (λ i. f (row_of ws k i) (coords_of cs k i)) x 0 (count_of ws k))

  pub rising_record : (low high : ℕ) → rising num low high (records_of f ws cs k) ≡ rising (λ x. x) low high (numbers_at ws (width_of k) (count_of ws k) (base_of k))
  unfolding records_of
  rising_record low high =
      rw (list_to_tab (λ i. f (row_of ws k i) (coords_of cs k i)) (count_of ws k), ← numbers_are)
      (rising_tab num (λ i. f (row_of ws k i) (coords_of cs k i)) low high 0 (count_of ws k))
