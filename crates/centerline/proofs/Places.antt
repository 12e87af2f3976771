-- Where a station lies, looked up from a place that it has passed.
use Prim.Native.Nat.{ℕ, zero, suc, ◌+◌, ◌-◌, ◌≤◌, ◌<◌}
use mathlib.Core.Path.{◌≡◌, refl, sym, ap, ◌∙◌, subst}
use mathlib.Core.Bool.{Bool, true, false, ◌&&◌, cond}
use mathlib.Core.Logic.{⊎_elim}
use Rattle.std.specs.Prelude.{None, Some}
use native.Mathlib.Omega.{arith}
use native.Mathlib.Nat.{eq-or-lt_of_le}
use native.Mathlib.Numerals.{add-one}
use lib.Dec.{T}
use lib.ListN.{length}
use lib.Ieee.{Float, le, lt}
use Rattle.rows.specs.Lists.{or_default, first_from}
use Rattle.geometry.proofs.Doubles.{split}
use Rattle.geometry.specs.Double.{◌⊕◌, ◌⊖◌, ◌⊘◌, f0, f1, clamp}
use Rattle.geometry.specs.Polyline.{Polyline, segment_length, length_to, location, reach, locate}
use Rattle.polyline.proofs.Lists.{first_here, first_past, first_end}
use Rattle.polyline.proofs.Lines.{reach_here, locate_past}
use Rattle.centerline.specs.Line.{Passed, Located}
use Rattle.centerline.proofs.Order.{le_trans}

both : (a b : Bool) → (a && b) ≡ true → (a ≡ true) × (b ≡ true)
both true true h = (refl, refl)
both true false h = (refl, h)
both false b h = absurd (subst T (sym h) tt)

module _ (xs : Polyline) where
  pub passed_none : (s : Float) → Passed xs s 0
  passed_none s = record { short = λ j h. absurd (omega arith) }

  pub passed_next : (s : Float) (i : ℕ) → Passed xs s i → reach xs s i ≡ None → Passed xs s (i + 1)
  passed_next s i p e = record { short = λ j h. ⊎_elim (λ (c : j ≡ i). rw c e) (λ (c : j < i). p.short j c) (eq-or-lt_of_le (omega arith)) }

  less : (s : Float) (i k : ℕ) → k ≤ i → Passed xs s i → Passed xs s k
  less s i k h p = record { short = λ j c. p.short j (omega arith) }

  -- ---- a larger station

  -- a segment that falls short of a station falls short of a larger one
  shorter : (a b : Float) (j : ℕ) → le a b ≡ true → reach xs a j ≡ None → reach xs b j ≡ None
  unfolding reach
  shorter a b j h e =
      split (le b (length_to xs j ⊕ segment_length xs j) && lt f0 (segment_length xs j))
      (λ t. let w : (le b (length_to xs j ⊕ segment_length xs j) ≡ true) × (lt f0 (segment_length xs j) ≡ true) = both _ _ t in let z : ◌≡◌ {A = ℕ} 0 1 = cc (rw (le_trans a b (length_to xs j ⊕ segment_length xs j) h w.0, w.1) at e) in absurd (omega arith))
      (λ t. rw t)

  pub passed_more : (a b : Float) (i : ℕ) → le a b ≡ true → Passed xs a i → Passed xs b i
  passed_more a b i h p = record { short = λ j c. shorter a b j h (p.short j c) }

  module _ (a b : Float) (from start : ℕ) (e : start ≡ cond (le a b) from 0) where
    pub resumed_passed : Passed xs a from → Passed xs b start
    resumed_passed p = split (le a b) (λ t. rw (e, t) (passed_more a b from t p)) (λ t. rw (e, t) (passed_none b))

    pub resumed_within : (n : ℕ) → from < n → start < n
    resumed_within n h = split (le a b) (λ t. rw (e, t) h) (λ t. rw (e, t) (omega arith))

  -- ---- the place

  skip : (s : Float) (m i : ℕ) → Passed xs s i → i ≤ m → first_from (reach xs s) m 0 ≡ first_from (reach xs s) (m - i) i
  skip s m zero p h = let e : m - 0 ≡ m = omega arith in rw e
  skip s m (suc i) p h =
      skip s m i (less s (suc i) i (omega arith) p) (omega arith)
      ∙ first_past (reach xs s) m i (omega arith) (p.short i (omega arith))
      ∙ ap (λ (k : ℕ). first_from (reach xs s) (m - k) k) (add-one i)

  module _ (s : Float) (n i : ℕ) (e : length xs ≡ n) (h : 1 < n) (t : le s f0 ≡ false) (p : Passed xs s i) where
    pub located_here : (acc seg f : Float) → i < n - 1 → acc ≡ length_to xs i → seg ≡ segment_length xs i → (le s (acc ⊕ seg) && lt f0 seg) ≡ true
        → f ≡ clamp ((s ⊖ acc) ⊘ seg) f0 f1 → Located xs s (location i f)
    unfolding or_default
    located_here acc seg f k ea es r c =
        record {
          place =
              sym
              (locate_past xs s (omega arith) n (location i f) e t
              (rw (skip s (n - 1) i p (omega arith), first_here (reach xs s) (n - 1) i (location i f) k (reach_here xs s i acc seg ea es f r c))));
          passed = p;
          within = omega arith;
        }

    pub located_end : n - 1 ≤ i → i ≤ n - 1 → Located xs s (location (n - 2) f1)
    unfolding or_default
    located_end a b =
        record {
          place =
              sym
              (locate_past xs s (omega arith) n (location (n - 2) f1) e t (rw (skip s (n - 1) i p b, first_end (reach xs s) (n - 1) i a)));
          passed = less s i (n - 2) (omega arith) p;
          within = omega arith;
        }

  pub located_start : (s : Float) → 0 < length xs → Some (location 0 f0) ≡ locate xs s → Located xs s (location 0 f0)
  located_start s h e = record { place = sym e; passed = passed_none s; within = h }
