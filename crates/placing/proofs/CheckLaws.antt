-- A list of lanes, and given points: each refusal, and what has passed.
use Rattle.std.specs.Prelude.{Err, Ok, None, Option, Some}
use Prim.Native.Nat.{ℕ, ◌/◌, ◌%◌, ◌≤◌, ◌<◌}
use mathlib.Core.Path.{◌≡◌, refl}
use mathlib.Core.Bool.{Bool, true, false, not, ◌&&◌}
use mathlib.Core.List.{List, [], ◌∷◌}
use native.Mathlib.Omega.{arith}
use lib.Dec.{eqb, ltb}
use lib.Ieee.{Float}
use lib.ListN.{length}
use borrow.Author.Tests.{not-true, not-false, eq-eqb, lt-ltb, le-ltb, ltb-false}
use Rattle.refusal.specs.Answer.{Answer, refused, done, ◌>>◌, refuse_when}
use Rattle.refusal.specs.declared.Refusal.TheVariants.{NoLanes, Unknown, ListedTwice}
use Rattle.refusal.specs.declared.Listed.TheVariants as listed
use Rattle.refusal.specs.declared.RecordKind.TheVariants as record_kind
use Rattle.rows.specs.Lists.{every, no_entries, twice}
use Rattle.geometry.specs.Double.{is_finite, on_map}
use Rattle.geometry.specs.Polyline.{polyline_of, is_valid}
use Rattle.polyline.proofs.Lines.{length-points}
use Rattle.place.specs.Place.{check_lane_list, check_polyline}
use Rattle.placing.specs.Answers.{UnknownRead, LanesChecked}

-- ---- lanes

pub no_entries_lem : (ns : List ℕ) → length ns ≡ 0 → no_entries ns ≡ true
unfolding no_entries
no_entries_lem [] h = refl
no_entries_lem (n ∷ ns) h = absurd (let z : ⊥ = omega arith in z)

pub some_entries : (ns : List ℕ) → (length ns ≡ 0 → ⊥) → no_entries ns ≡ false
unfolding no_entries
some_entries [] h = absurd (h refl)
some_entries (n ∷ ns) h = refl

module _ (ws lanes : List ℕ) where
  pub lanes_none : length lanes ≡ 0 → LanesChecked ws lanes (Err NoLanes)
  unfolding check_lane_list
  lanes_none h = record { answer = λ cs. rw (no_entries_lem lanes h) }

  module _ (h : length lanes ≡ 0 → ⊥) (r : Option ℕ) (e : UnknownRead ws lanes r) where
    pub lanes_unknown : (n : ℕ) → r ≡ Some n → LanesChecked ws lanes (Err (Unknown record_kind.Lane n))
    unfolding check_lane_list
    lanes_unknown n q = record { answer = λ cs. rw (some_entries lanes h, ← e.answer cs, q) }

    module _ (q : r ≡ None) (b : Bool) (eb : b ≡ twice lanes) where
      pub lanes_twice : b ≡ true → LanesChecked ws lanes (Err (ListedTwice listed.Lanes))
      unfolding check_lane_list
      lanes_twice t = record { answer = λ cs. rw (some_entries lanes h, ← e.answer cs, q, ← eb, t) }

      pub lanes_fine : b ≡ false → LanesChecked ws lanes (Ok tt)
      unfolding check_lane_list
      lanes_fine t = record { answer = λ cs. rw (some_entries lanes h, ← e.answer cs, q, ← eb, t) }

-- ---- points

module _ (cs : List Float) where
  module _ (h : length cs % 3 ≡ 0) (f : Bool) (ef : f ≡ every is_finite cs) where
    module _ (tf : not f ≡ false) (g : Bool) (eg : g ≡ every on_map cs) where
      module _ (tg : not g ≡ false) where
        pub shape_many : 64 < length cs / 3 → refused 10 [] ≡ check_polyline cs
        unfolding check_polyline
        shape_many l = rw (eq-eqb (length cs % 3) 0 h, ← ef, not-false f tf, ← eg, not-false g tg, length-points cs, lt-ltb 64 (length cs / 3) l)

        module _ (l : length cs / 3 ≤ 64) (v : Bool) (ev : v ≡ is_valid (polyline_of cs)) where
          pub shape_short : not v ≡ true → refused 5 (2 ∷ []) ≡ check_polyline cs
          unfolding check_polyline
          shape_short t = rw (eq-eqb (length cs % 3) 0 h, ← ef, not-false f tf, ← eg, not-false g tg, length-points cs, le-ltb 64 (length cs / 3) l, ← ev, not-true v t)

          pub shape_fine : not v ≡ false → done tt ≡ check_polyline cs
          unfolding check_polyline
          shape_fine t = rw (eq-eqb (length cs % 3) 0 h, ← ef, not-false f tf, ← eg, not-false g tg, length-points cs, le-ltb 64 (length cs / 3) l, ← ev, not-false v t)

never : (n : ℕ) (ds : List ℕ) → ◌≡◌ {A = Answer (Unit {0})} (done tt) (refused n ds) → ⊥
never n ds e = let z : ◌≡◌ {A = ℕ} 0 1 = cc in omega arith

-- what has passed
second : (a b : Answer (Unit {0})) → done tt ≡ (a >> b) → done tt ≡ b
second (refused n ds) b e = absurd (never n ds e)
second (done tt) b e = e

passed : (t : Bool) (n : ℕ) (ds : List ℕ) (b : Answer (Unit {0})) → done tt ≡ (refuse_when t n ds >> b) → t ≡ false
passed true n ds b e = absurd (never n ds e)
passed false n ds b e = refl

pub shape_few : (cs : List Float) → done tt ≡ check_polyline cs → length cs / 3 ≤ 64
unfolding check_polyline
shape_few cs e =
    let t = passed (ltb 64 (length (polyline_of cs))) 10 [] _ (second (refuse_when (not (every on_map cs)) 9 []) _ (second (refuse_when (not (eqb (length cs % 3) 0 && every is_finite cs)) 5 (1 ∷ [])) _ e)) in
    omega (arith, length-points cs, ltb-false 64 (length (polyline_of cs)) t)

pub lanes_there : (ws lanes : List ℕ) → LanesChecked ws lanes (Ok tt) → 0 < length lanes
unfolding check_lane_list no_entries
lanes_there ws [] h = absurd (never 1 [] (h.answer []))
lanes_there ws (n ∷ ns) h = omega arith
