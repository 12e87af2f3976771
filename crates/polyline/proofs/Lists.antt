-- Lists made by index, and searches by index: one step, as the code takes it.
use Prim.Native.Nat.{ℕ, zero, suc, ◌+◌, ◌-◌, ◌<◌, ◌≤◌}
use mathlib.Core.Path.{◌≡◌, refl, ap, ◌∙◌}
use mathlib.Core.Logic.{⊎_elim}
use mathlib.Core.List.{[], ◌∷◌}
use Rattle.std.specs.Prelude.{Option, None, Some}
use native.Mathlib.Nat.{eq-or-lt_of_le, le_of_suc-le-suc, not-suc-le-zero}
use native.Mathlib.Omega.{arith}
use native.Mathlib.Numerals.{add-one}
use lib.ListN.{length, get_or, length-append, get_or-append}
use lib.Seq.{get_or_at}
use Rattle.rows.specs.Lists.{list_to, first_from, first_below}

module _ {A : Type 0} (f : ℕ → A) where
  pub length-list_to : (n : ℕ) → length (list_to f n) ≡ n
  unfolding list_to
  length-list_to zero = refl
  length-list_to (suc n) = length-append (list_to f n) (f n ∷ []) ∙ omega (arith, length-list_to n)

  pub get_or-list_to : (n i : ℕ) (d : A) → i < n → get_or (list_to f n) i d ≡ f i
  unfolding list_to
  get_or-list_to zero i d h = absurd (not-suc-le-zero h)
  get_or-list_to (suc n) i d h =
      ⊎_elim
      (λ e. rw e (get_or_at (list_to f n) (f n) [] d n (length-list_to n)))
      (λ l. get_or-append (list_to f n) (f n ∷ []) d i (rw length-list_to l) ∙ get_or-list_to n i d l)
      (eq-or-lt_of_le (le_of_suc-le-suc h))

-- ---- a search upward, of which m - i are left at i

module _ {A : Type 0} (f : ℕ → Option A) (m i : ℕ) where
  pub first_here : (a : A) → i < m → f i ≡ Some a → first_from f (m - i) i ≡ Some a
  unfolding first_from
  first_here a h e = let s : m - i ≡ suc (m - (i + 1)) = omega arith in rw (s, e)

  pub first_past : i < m → f i ≡ None → first_from f (m - i) i ≡ first_from f (m - (i + 1)) (i + 1)
  unfolding first_from
  first_past h e = let s : m - i ≡ suc (m - (i + 1)) = omega arith in rw (s, e, add-one i)

  pub first_end : m ≤ i → first_from f (m - i) i ≡ None
  unfolding first_from
  first_end h = let s : m - i ≡ 0 = omega arith in rw s

-- ---- a search downward

module _ {A : Type 0} (f : ℕ → Option A) (i : ℕ) where
  pub below_here : (a : A) → 0 < i → f (i - 1) ≡ Some a → first_below f i ≡ Some a
  unfolding first_below
  below_here a h e = let s : i ≡ suc (i - 1) = omega arith in ap (first_below f) s ∙ rw e

  pub below_past : 0 < i → f (i - 1) ≡ None → first_below f i ≡ first_below f (i - 1)
  unfolding first_below
  below_past h e = let s : i ≡ suc (i - 1) = omega arith in ap (first_below f) s ∙ rw e

  pub below_end : i ≤ 0 → first_below f i ≡ None
  unfolding first_below
  below_end h = let s : i ≡ 0 = omega arith in rw s
