-- Sums of points, and passes that count up. Assumes nothing.
use Prim.Native.Nat.{ℕ, zero, suc, ◌+◌, ◌*◌, ◌≤◌, ◌<◌}
use mathlib.Core.Path.{◌≡◌, refl, sym, ◌∙◌}
use mathlib.Core.List.{List, [], ◌∷◌, ◌++◌}
use native.Mathlib.Nat.{add-zero, zero-add, add_assoc, mul-suc}
use native.Mathlib.Numerals.{add-one}
use native.Mathlib.Omega.{arith}
use Rattle.rows.specs.Lists.{list_to, total}
use Rattle.store.specs.Layout.{count_of, SizedWords}
use Rattle.store.proofs.StoreLaws.{limit_small}
use Rattle.row_tests.specs.Flat.{row_points, table_points, all_points, Few}

total_more : (xs : List ℕ) (y : ℕ) → total (λ n. n) (xs ++ (y ∷ [])) ≡ total (λ n. n) xs + y
unfolding total
total_more [] y = rw (add-zero, zero-add)
total_more (x ∷ xs) y = rw (total_more xs y, add_assoc)

pub sum_none : (f : ℕ → ℕ) → 0 ≡ total (λ n. n) (list_to f 0)
unfolding total list_to
sum_none f = refl

pub sum_next : (f : ℕ → ℕ) (i : ℕ) → total (λ n. n) (list_to f i) + f i ≡ total (λ n. n) (list_to f (i + 1))
unfolding list_to
sum_next f i = rw add-one (sym (total_more (list_to f i) (f i)))

pub sum_bound : (f : ℕ → ℕ) (b n : ℕ) → ((i : ℕ) → i < n → f i ≤ b) → total (λ n. n) (list_to f n) ≤ b * n
unfolding list_to total
sum_bound f b zero h = omega arith
sum_bound f b (suc n) h = rw (total_more (list_to f n) (f n)) (omega (arith, sum_bound f b n (λ i g. h i (omega arith)), h n (omega arith), mul-suc b n))

-- the points of a table fit a number, where no row has more than its room
pub table_few : (ws : List ℕ) → SizedWords ws → Few ws → (k : ℕ) → k < 6 → table_points ws k ≤ 24576
unfolding table_points
table_few ws ok few k hk =
    let a : total (λ n. n) (list_to (row_points k ws) (count_of ws k)) ≤ 192 * count_of ws k = sum_bound (row_points k ws) 192 (count_of ws k) (λ i h. few.few k i hk h) in
    omega (arith, ok.counts k hk, limit_small k)

pub table_is : (ws : List ℕ) (k n s : ℕ) → n ≡ count_of ws k → s ≡ total (λ m. m) (list_to (row_points k ws) n) → s ≡ table_points ws k
unfolding table_points
table_is ws k n s e h = h ∙ rw e

pub all_is : (ws : List ℕ) (s : ℕ) → s ≡ total (λ m. m) (list_to (table_points ws) 6) → s ≡ all_points ws
unfolding all_points
all_is ws s h = h
