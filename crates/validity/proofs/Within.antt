-- An index below a kind's count is below its room. Assumes nothing.
use Prim.Native.Nat.{ℕ, zero, suc, ◌+◌, ◌≤◌, ◌<◌}
use mathlib.Core.Bool.{Bool, true, false}
use mathlib.Core.Path.{◌≡◌, refl}
use mathlib.Core.List.{List, [], ◌∷◌}
use native.Mathlib.Omega.{arith}
use borrow.Author.Tests.{lt-leb, le-leb}
use lib.Dec.{leb}
use lib.Ieee.{Float}
use lib.ListN.{get_or, length}
use Rattle.rows.specs.Lists.{every}
use Rattle.rows.proofs.Indexed.{tab, list_to_tab}
use Rattle.row_tests.specs.Flat.{good_counts}
use Rattle.store.specs.declared.Kind.{Kind}
use Rattle.store.specs.declared.Kind.TheVariants.{Lane, Boundary, StopLine, Signal, Crosswalk, Rule}
use Rattle.store.specs.Kinds.{kind_number}
use Rattle.store.specs.Layout.{limit_of, width_of, coord_width_of, place_of, coord_place_of, count_of, SizedWords, Sized}
use Rattle.store.proofs.KindLaws.{kind_below}
use Rattle.store.proofs.StoreLaws.{row_ends, coords_end}

-- a row's words and coordinates lie in the tables
module _ (ws : List ℕ) (ok : SizedWords ws) (k : Kind) (i at : ℕ) (h : i < count_of ws (kind_number k)) (ea : at ≡ place_of (kind_number k) i) where
  below_room : i < limit_of (kind_number k)
  below_room = omega (arith, ok.counts (kind_number k) (kind_below k))

  pub word_room : at + width_of (kind_number k) ≤ length ws
  word_room = omega (arith, ok.room, row_ends (kind_number k) i (kind_below k) below_room)

pub record RowRoom (ws : List ℕ) (cs : List Float) (k : Kind) (at o : ℕ) : Type 0 where
  pub words : at + width_of (kind_number k) ≤ length ws
  pub coords : o + coord_width_of (kind_number k) ≤ length cs

pub row_room : (ws : List ℕ) (cs : List Float) → Sized ws cs → (k : Kind) (i at o : ℕ) → i < count_of ws (kind_number k)
    → at ≡ place_of (kind_number k) i → o ≡ coord_place_of (kind_number k) i → RowRoom ws cs k at o
row_room ws cs ok k i at o h ea eo =
    record {
      words = word_room ws ok.words k i at h ea;
      coords = omega (arith, ok.coords, coords_end (kind_number k) i (kind_below k) (below_room ws ok.words k i at h ea));
    }

-- the kinds in the order of their tables
pub kinds_at : (j : ℕ) (d : Kind) → j < 6 → kind_number (get_or (Lane ∷ Boundary ∷ StopLine ∷ Signal ∷ Crosswalk ∷ Rule ∷ []) j d) ≡ j
kinds_at zero d h = refl
kinds_at (suc zero) d h = refl
kinds_at (suc (suc zero)) d h = refl
kinds_at (suc (suc (suc zero))) d h = refl
kinds_at (suc (suc (suc (suc zero)))) d h = refl
kinds_at (suc (suc (suc (suc (suc zero))))) d h = refl
kinds_at (suc (suc (suc (suc (suc (suc j)))))) d h = absurd (let z : ⊥ = omega arith in z)

-- a count against its kind's room
unfoldable pub fits_in : List ℕ → ℕ → Bool
fits_in ws k = leb (count_of ws k) (limit_of k)

pub fits_over : (ws : List ℕ) (k n l : ℕ) → n ≡ get_or ws (1 + k) 0 → l ≡ limit_of k → l < n → fits_in ws k ≡ false
unfolding fits_in count_of
fits_over ws k n l en el h = rw (← en, ← el) (lt-leb n l h)

pub fits_under : (ws : List ℕ) (k n l : ℕ) → n ≡ get_or ws (1 + k) 0 → l ≡ limit_of k → n ≤ l → fits_in ws k ≡ true
unfolding fits_in count_of
fits_under ws k n l en el h = rw (← en, ← el) (le-leb n l h)

pub counts_left : (ws : List ℕ) → good_counts ws ≡ every (λ b. b) (tab (fits_in ws) 0 6)
unfolding good_counts fits_in
counts_left ws = rw (list_to_tab (λ k. leb (count_of ws k) (limit_of k)) 6)
