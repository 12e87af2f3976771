-- A polyline's stations, and its table of stations and segment lengths, filled point by point.
use Prim.Native.Nat.{ℕ, zero, suc, ◌+◌, ◌-◌, ◌*◌, ◌≤◌, ◌<◌}
use mathlib.Core.Path.{◌≡◌, refl, sym, ap, ap₂, ◌∙◌}
use mathlib.Core.Logic.{⊎_elim}
use mathlib.Core.List.{List, [], ◌∷◌, ◌++◌}
use native.Mathlib.Omega.{arith}
use native.Mathlib.Nat.{eq-or-lt_of_le}
use native.Mathlib.Numerals.{add-one}
use lib.ListN.{length, get_or, set, take, replicate, length-set}
use lib.Seq.{get_or-set_same, get_or-set_other, take-suc-set}
use lib.Ieee.{Float, nan}
use Rattle.rows.specs.Lists.{list_to}
use Rattle.geometry.specs.Double.{◌⊕◌, f0}
use Rattle.geometry.specs.Polyline.{Polyline, segment_length, length_to, stations}
use Rattle.polyline.proofs.Lines.{length_next}
use Rattle.centerline.specs.Line.{Measured}

module _ (xs : Polyline) where
  -- the length up to point i, from the one before
  next : (acc : Float) (i : ℕ) (seg : Float) → acc ≡ length_to xs (i - 1) → 0 < i → seg ≡ segment_length xs (i - 1) → acc ⊕ seg ≡ length_to xs i
  next acc i seg r h e = let k : i - 1 + 1 ≡ i = omega arith in rw (r, e) (sym (length_next xs (i - 1)) ∙ ap (length_to xs) k)

  after : (x : Float) (i : ℕ) → x ≡ length_to xs i → x ≡ length_to xs (i + 1 - 1)
  after x i e = let k : i + 1 - 1 ≡ i = omega arith in rw k e

  -- ---- stations

  -- the lengths up to the first i points stand first
  pub record Stationed (values : List Float) (acc : Float) (i : ℕ) : Type 0 where
    pub long : length values ≡ 64
    pub sum : acc ≡ length_to xs (i - 1)
    pub made : take i values ≡ list_to (length_to xs) i

  pub stationed_start : Stationed (replicate 64 f0) f0 1
  unfolding list_to length_to
  stationed_start = record { long = refl; sum = refl; made = refl }

  module _ (values : List Float) (acc : Float) (i : ℕ) (r : Stationed values acc i) where
    pub stationed_next : (seg : Float) → 0 < i → i < 64 → seg ≡ segment_length xs (i - 1) → Stationed (set values i (acc ⊕ seg)) (acc ⊕ seg) (i + 1)
    unfolding list_to
    stationed_next seg h m e =
        let s = next acc i seg r.sum h e in
        record {
          long = length-set values i (acc ⊕ seg) ∙ r.long;
          sum = after (acc ⊕ seg) i s;
          made =
              rw (add-one i)
              (take-suc-set values i (acc ⊕ seg) (omega (arith, r.long)) ∙ ap₂ (λ (l : List Float) (x : Float). l ++ (x ∷ [])) r.made s);
        }

    pub stationed_end : (n : ℕ) → n ≤ i → (0 < n → i ≤ n) → length xs ≡ n → take n values ≡ stations xs
    unfolding stations list_to
    stationed_end zero h g e = rw e
    stationed_end (suc n) h g e = let k : i ≡ suc n = omega arith in rw e (rw k at r.made)

  -- ---- stations and segment lengths

  pub record Measuring (table : List Float) (acc : Float) (i : ℕ) : Type 0 where
    pub long : length table ≡ 128
    pub sum : acc ≡ length_to xs (i - 1)
    pub station : (j : ℕ) → j < i → get_or table (j * 2) nan ≡ length_to xs j
    pub segment : (j : ℕ) → j + 1 < i → get_or table (j * 2 + 1) nan ≡ segment_length xs j

  pub measuring_start : Measuring (replicate 128 f0) f0 1
  unfolding length_to
  measuring_start =
      record {
        long = refl;
        sum = refl;
        station = λ j h. let e : j ≡ 0 = omega arith in rw e;
        segment = λ j h. absurd (omega arith);
      }

  module _ (table : List Float) (acc : Float) (i : ℕ) (r : Measuring table acc i) where
    pub measuring_next : (seg : Float) → 0 < i → i < 64 → seg ≡ segment_length xs (i - 1) → Measuring (set (set table (i * 2 - 1) seg) (i * 2) (acc ⊕ seg)) (acc ⊕ seg) (i + 1)
    measuring_next seg h m e =
        let s = next acc i seg r.sum h e in
        let l = r.long in
        record {
          long = simp length-set l;
          sum = after (acc ⊕ seg) i s;
          station = λ j k.
              ⊎_elim
              (λ c. rw c (get_or-set_same (set table (i * 2 - 1) seg) (i * 2) (acc ⊕ seg) nan (simp length-set (omega arith)) ∙ s))
              (λ c. get_or-set_other (set table (i * 2 - 1) seg) (i * 2) (j * 2) (acc ⊕ seg) nan (λ d. omega arith)
              ∙ get_or-set_other table (i * 2 - 1) (j * 2) seg nan (λ d. omega arith) ∙ r.station j c)
              (eq-or-lt_of_le (omega arith));
          segment = λ j k.
              get_or-set_other (set table (i * 2 - 1) seg) (i * 2) (j * 2 + 1) (acc ⊕ seg) nan (λ d. omega arith)
              ∙ ⊎_elim
              (λ (c : j + 1 ≡ i). let q : j * 2 + 1 ≡ i * 2 - 1 = omega arith in let p : i - 1 ≡ j = omega arith in rw q (get_or-set_same table (i * 2 - 1) seg nan (omega arith)) ∙ e ∙ ap (segment_length xs) p)
              (λ (c : j + 1 < i). get_or-set_other table (i * 2 - 1) (j * 2 + 1) seg nan (λ d. omega arith) ∙ r.segment j c)
              (eq-or-lt_of_le (omega arith));
        }

    pub measured : length xs ≤ i → Measured xs table
    measured h = record { station = λ j k. r.station j (omega arith); segment = λ j k. r.segment j (omega arith) }
