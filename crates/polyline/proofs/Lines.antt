-- Polylines: what the definitions say of a slice of coordinates, and one step of each loop.
use Prim.Native.Nat.{ℕ, suc, ◌+◌, ◌-◌, ◌/◌, ◌<◌, ◌≤◌, min}
use mathlib.Core.Path.{◌≡◌, refl, sym, ap, ◌∙◌}
use mathlib.Core.Bool.{true, false, ◌&&◌, cond}
use mathlib.Core.List.{List, [], ◌∷◌}
use Rattle.std.specs.Prelude.{Option, None, Some}
use native.Mathlib.Omega.{arith}
use native.Mathlib.Numerals.{add-one}
use lib.ListN.{length}
use lib.Ieee.{Float, le, lt}
use borrow.Author.Tests.{lt-ltb, le-ltb}
use Rattle.rows.specs.Lists.{or_default, first_from, first_below}
use Rattle.geometry.specs.declared.Point2.{Point2}
use Rattle.geometry.specs.declared.Point3.{Point3}
use Rattle.geometry.specs.declared.Location.{Location}
use Rattle.geometry.specs.Double.{◌⊕◌, ◌⊖◌, ◌⊗◌, ◌⊘◌, f0, f1, epsilon, clamp}
use Rattle.geometry.specs.Point.{origin, xy, lerp, distance2, project_on_segment}
use Rattle.geometry.specs.Polyline.{Polyline, point_in, polyline_of, pt, segment_length, length_to, polyline_length, is_valid, location, reach, locate, point_of, point_at, segment_direction, direction_from, direction_at, lateral_of, nearest_on, nearer, nearest_to, nearest_point}
use Rattle.polyline.proofs.Lists.{length-list_to, get_or-list_to, first_here, first_past, first_end}

-- ---- a slice of coordinates

module _ (cs : List Float) where
  pub length-points : length (polyline_of cs) ≡ length cs / 3
  unfolding polyline_of
  length-points = length-list_to (point_in cs) (length cs / 3)

  pub point_is : (i : ℕ) → i < length cs / 3 → point_in cs i ≡ pt (polyline_of cs) i
  unfolding polyline_of
  point_is i h = sym (get_or-list_to (point_in cs) (length cs / 3) i origin h)

  pub length_is : (i : ℕ) → i ≤ length cs / 3 - 1 → length cs / 3 ≤ i + 1 → length_to (polyline_of cs) i ≡ polyline_length (polyline_of cs)
  unfolding polyline_length
  length_is i a b = let e : i ≡ length cs / 3 - 1 = omega arith in rw (length-points, e)

module _ (cs : List Float) where
  pub few_valid : length cs / 3 < 2 → false ≡ is_valid (polyline_of cs)
  unfolding is_valid
  few_valid h = rw (length-points cs, le-ltb 1 (length cs / 3) (omega arith))

  pub many_valid : (x : Float) → 2 ≤ length cs / 3 → x ≡ polyline_length (polyline_of cs) → lt epsilon x ≡ is_valid (polyline_of cs)
  unfolding is_valid
  many_valid x h e = rw (length-points cs, lt-ltb 1 (length cs / 3) h, e)

-- one segment more
pub length_next : (xs : Polyline) (i : ℕ) → length_to xs (i + 1) ≡ length_to xs i ⊕ segment_length xs i
unfolding length_to
length_next xs i = rw (add-one i)

-- ---- where a station lies

module _ (xs : Polyline) (s : Float) (i : ℕ) (acc seg : Float) (a : acc ≡ length_to xs i) (e : seg ≡ segment_length xs i) where
  pub reach_here : (f : Float) → (le s (acc ⊕ seg) && lt f0 seg) ≡ true → f ≡ clamp ((s ⊖ acc) ⊘ seg) f0 f1 → reach xs s i ≡ Some (location i f)
  unfolding reach
  reach_here f t c = rw (← a, ← e, t, c)

  pub reach_past : (le s (acc ⊕ seg) && lt f0 seg) ≡ false → reach xs s i ≡ None
  unfolding reach
  reach_past t = rw (← a, ← e, t)

module _ (xs : Polyline) (s : Float) where
  -- the first i of m segments do not reach the station
  pub record Reaching (m : ℕ) (acc : Float) (i : ℕ) : Type 0 where
    pub within : i ≤ m
    pub sum : acc ≡ length_to xs i
    pub goes : first_from (reach xs s) m 0 ≡ first_from (reach xs s) (m - i) i

  pub reaching_start : (m : ℕ) → Reaching m f0 0
  unfolding length_to
  reaching_start m = let e : m - 0 ≡ m = omega arith in record { within = omega arith; sum = refl; goes = rw e }

  module _ (m : ℕ) (acc : Float) (i : ℕ) (r : Reaching m acc i) where
    pub reaching_here : (seg f : Float) (d : Location) → i < m → seg ≡ segment_length xs i → (le s (acc ⊕ seg) && lt f0 seg) ≡ true → f ≡ clamp ((s ⊖ acc) ⊘ seg) f0 f1
        → location i f ≡ or_default (first_from (reach xs s) m 0) d
    unfolding or_default
    reaching_here seg f d h e t c = rw (r.goes, first_here (reach xs s) m i (location i f) h (reach_here xs s i acc seg r.sum e f t c))

    pub reaching_past : (seg : Float) → i < m → seg ≡ segment_length xs i → (le s (acc ⊕ seg) && lt f0 seg) ≡ false → Reaching m (acc ⊕ seg) (i + 1)
    reaching_past seg h e t =
        record {
          within = omega arith;
          sum = rw (length_next xs i, r.sum, e);
          goes = r.goes ∙ first_past (reach xs s) m i h (reach_past xs s i acc seg r.sum e t);
        }

    pub reaching_end : (d : Location) → m ≤ i → d ≡ or_default (first_from (reach xs s) m 0) d
    unfolding or_default
    reaching_end d h = rw (r.goes, first_end (reach xs s) m i h)

-- by how many points there are
pub locate_none : (xs : Polyline) (s : Float) → length xs ≡ 0 → None ≡ locate xs s
unfolding locate
locate_none [] s h = refl
locate_none (p ∷ xs) s h = absurd (omega arith)

pub locate_one : (xs : Polyline) (s : Float) → length xs ≡ 1 → Some (location 0 f0) ≡ locate xs s
unfolding locate
locate_one [] s h = absurd (omega arith)
locate_one (p ∷ []) s h = refl
locate_one (p ∷ q ∷ xs) s h = absurd (omega arith)

locate_many : (xs : Polyline) (s : Float) → 1 < length xs
    → locate xs s ≡ cond (le s f0) (Some (location 0 f0)) (Some (or_default (first_from (reach xs s) (length xs - 1) 0) (location (length xs - 2) f1)))
unfolding locate
locate_many [] s h = absurd (omega arith)
locate_many (p ∷ []) s h = absurd (omega arith)
locate_many (p ∷ q ∷ xs) s h =
    let a : suc (suc (length xs)) - 1 ≡ suc (length xs) = omega arith in
    let b : suc (suc (length xs)) - 2 ≡ length xs = omega arith in
    rw (a, b)

module _ (xs : Polyline) (s : Float) (h : 1 < length xs) where
  pub locate_start : le s f0 ≡ true → Some (location 0 f0) ≡ locate xs s
  locate_start t = rw (locate_many xs s h, t)

  pub locate_past : (n : ℕ) (l : Location) → length xs ≡ n → le s f0 ≡ false → l ≡ or_default (first_from (reach xs s) (n - 1) 0) (location (n - 2) f1)
      → Some l ≡ locate xs s
  locate_past n l e t f = rw (locate_many xs s h, t, e, f)

module _ (cs : List Float) (l : Location) where
  pub point_inside : l.segment < length cs / 3 - 1
      → point_of (polyline_of cs) l ≡ lerp (pt (polyline_of cs) l.segment) (pt (polyline_of cs) (l.segment + 1)) l.fraction
  unfolding point_of
  point_inside h = rw (length-points cs, lt-ltb (suc l.segment) (length cs / 3) (omega arith), add-one l.segment)

  pub point_past : length cs / 3 - 1 ≤ l.segment → point_of (polyline_of cs) l ≡ pt (polyline_of cs) (length cs / 3 - 1)
  unfolding point_of
  point_past h = rw (length-points cs, le-ltb (suc l.segment) (length cs / 3) (omega arith))

module _ (xs : Polyline) (s : Float) where
  pub at_none : None ≡ locate xs s → None ≡ point_at xs s
  unfolding point_at
  at_none e = ap (λ (o : Option Location). elim o [ None ↦ None | Some l ↦ Some (point_of xs l) ]) e

  pub at_some : (l : Location) (p : Point3) → Some l ≡ locate xs s → p ≡ point_of xs l → Some p ≡ point_at xs s
  unfolding point_at
  at_some l p e f = ap Some f ∙ ap (λ (o : Option Location). elim o [ None ↦ None | Some l ↦ Some (point_of xs l) ]) e

-- ---- direction

module _ (cs : List Float) (i start : ℕ) (e : start ≡ min i (length cs / 3 - 2)) where
  pub direction_forward : (u : Point2) → Some u ≡ first_from (segment_direction (polyline_of cs)) (length cs / 3 - 1 - start) start → Some u ≡ direction_from (polyline_of cs) i
  unfolding direction_from
  direction_forward u f =
      let k : min i (length cs / 3 - 1 - 1) ≡ start = omega arith in
      rw (length-points cs, k, ← f)

  pub direction_backward : (o : Option Point2) → None ≡ first_from (segment_direction (polyline_of cs)) (length cs / 3 - 1 - start) start
      → o ≡ first_below (segment_direction (polyline_of cs)) start → o ≡ direction_from (polyline_of cs) i
  unfolding direction_from
  direction_backward o f g =
      let k : min i (length cs / 3 - 1 - 1) ≡ start = omega arith in
      rw (length-points cs, k, ← f, g)

module _ (cs : List Float) (s : Float) where
  pub direction_few : length cs / 3 < 2 → None ≡ direction_at (polyline_of cs) s
  unfolding direction_at
  direction_few h = rw (length-points cs, lt-ltb (length cs / 3) 2 h)

  module _ (h : 2 ≤ length cs / 3) where
    pub direction_none : None ≡ locate (polyline_of cs) s → None ≡ direction_at (polyline_of cs) s
    unfolding direction_at
    direction_none e =
        rw (length-points cs, le-ltb (length cs / 3) 2 h)
        (ap (λ (o : Option Location). elim o [ None ↦ None | Some l ↦ direction_from (polyline_of cs) l.segment ]) e)

    pub direction_some : (l : Location) (o : Option Point2) → Some l ≡ locate (polyline_of cs) s → o ≡ direction_from (polyline_of cs) l.segment → o ≡ direction_at (polyline_of cs) s
    unfolding direction_at
    direction_some l o e f =
        rw (length-points cs, le-ltb (length cs / 3) 2 h)
        (f ∙ ap (λ (o : Option Location). elim o [ None ↦ None | Some l ↦ direction_from (polyline_of cs) l.segment ]) e)

-- ---- the nearest point

module _ (xs : Polyline) (p : Point2) (i : ℕ) where
  -- the point q of segment i nearest to p: how far along it lies, and how far from p
  pub record Foot (t : Float) (q : Point3) (d : Float) : Type 0 where
    pub along : t ≡ project_on_segment p (xy (pt xs i)) (xy (pt xs (suc i)))
    pub there : q ≡ lerp (pt xs i) (pt xs (suc i)) t
    pub away : d ≡ distance2 (xy q) p

  pub foot_made : (a b : Point3) (u v w : Point2) (t : Float) (q : Point3) (d : Float) → a ≡ pt xs i → b ≡ pt xs (i + 1) → u ≡ xy a → v ≡ xy b → t ≡ project_on_segment p u v
      → q ≡ lerp a b t → w ≡ xy q → d ≡ distance2 w p → Foot t q d
  foot_made a b u v w t q d ea eb eu ev et eq ew ed =
      let e : b ≡ pt xs (suc i) = eb ∙ ap (pt xs) (add-one i) in
      record { along = rw (et, eu, ev, ea, e); there = rw (← ea, ← e) eq; away = rw (← ew) ed }

  module _ (t : Float) (q : Point3) (d : Float) (f : Foot t q d) where
    pub foot_away : d ≡ (nearest_on xs p i).distance
    unfolding nearest_on
    foot_away = rw (f.away, f.there, f.along)

    pub nearest_on_lem : (acc seg side : Float) (w : Point2) (o : Option Point2) → acc ≡ length_to xs i → seg ≡ segment_length xs i → o ≡ segment_direction xs i → w ≡ xy q → side ≡ lateral_of o p w
        → record { point = q; distance = d; station = acc ⊕ (t ⊗ seg); segment = i; lateral = side } ≡ nearest_on xs p i
    unfolding nearest_on
    nearest_on_lem acc seg side w o ea es eo ew e = rw (e, eo, ew, ea, es, f.away, f.there, f.along)

-- the best of the first i segments is the one at `at`, which starts at the station `start`
pub record Best (xs : Polyline) (p : Point2) (best : Float) (at : ℕ) (start acc : Float) (i : ℕ) : Type 0 where
  pub place : at < i
  pub sum : acc ≡ length_to xs i
  pub begins : start ≡ length_to xs at
  pub away : best ≡ (nearest_on xs p at).distance
  pub winner : nearest_to xs p i ≡ Some (nearest_on xs p at)

module _ (xs : Polyline) (p : Point2) where
  pub best_start : (best acc : Float) → best ≡ (nearest_on xs p 0).distance → acc ≡ segment_length xs 0 → Best xs p best 0 f0 (f0 ⊕ acc) 1
  unfolding length_to nearest_to nearer
  best_start best acc e f = record { place = omega arith; sum = rw f; begins = refl; away = e; winner = refl }

  module _ (best : Float) (at : ℕ) (start acc : Float) (i : ℕ) (r : Best xs p best at start acc i) (d seg : Float) (ed : d ≡ (nearest_on xs p i).distance) (es : seg ≡ segment_length xs i) where
    best_sum : acc ⊕ seg ≡ length_to xs (i + 1)
    best_sum = rw (length_next xs i, r.sum, es)

    pub best_taken : lt d (best ⊖ epsilon) ≡ true → Best xs p d i acc (acc ⊕ seg) (i + 1)
    unfolding nearest_to nearer
    best_taken t =
        record {
          place = omega arith;
          sum = best_sum;
          begins = r.sum;
          away = ed;
          winner = rw (add-one i, r.winner, ← r.away, ← ed, t);
        }

    pub best_kept : lt d (best ⊖ epsilon) ≡ false → Best xs p best at start (acc ⊕ seg) (i + 1)
    unfolding nearest_to nearer
    best_kept t =
        record {
          place = let h = r.place in omega arith;
          sum = best_sum;
          begins = r.begins;
          away = r.away;
          winner = rw (add-one i, r.winner, ← r.away, ← ed, t);
        }

pub nearest_many : (xs : Polyline) (p : Point2) → 1 < length xs → nearest_to xs p (length xs - 1) ≡ nearest_point xs p
unfolding nearest_point
nearest_many [] p h = absurd (omega arith)
nearest_many (q ∷ []) p h = absurd (omega arith)
nearest_many (q ∷ r ∷ s) p h = let e : suc (suc (length s)) - 1 ≡ suc (length s) = omega arith in rw e

pub nearest_none : (xs : Polyline) (p : Point2) → length xs ≡ 0 → None ≡ nearest_point xs p
unfolding nearest_point
nearest_none [] p h = refl
nearest_none (q ∷ xs) p h = absurd (omega arith)

pub nearest_one : (xs : Polyline) (p : Point2) (q : Point3) (d : Float) → length xs ≡ 1 → q ≡ pt xs 0 → d ≡ distance2 (xy q) p
    → Some (record { point = q; distance = d; station = f0; segment = 0; lateral = f0 }) ≡ nearest_point xs p
unfolding nearest_point
nearest_one [] p q d h e f = absurd (omega arith)
nearest_one (r ∷ []) p q d h e f = rw (f, e)
nearest_one (r ∷ s ∷ xs) p q d h e f = absurd (omega arith)
