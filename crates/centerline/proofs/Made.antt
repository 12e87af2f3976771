-- Lines that are made: reversed, resampled, and the centreline.
use Prim.Native.Nat.{ℕ, suc, ◌-◌, ◌*◌, ◌^◌, ◌≤◌, ◌<◌, max}
use mathlib.Core.Path.{◌≡◌, refl, sym, ap, ◌∙◌}
use mathlib.Core.List.{List, [], ◌∷◌, ◌++◌, reverse, reverse-cons}
use Rattle.std.specs.Prelude.{Some, None}
use native.Mathlib.Omega.{arith}
use lib.ListN.{length, get_or}
use lib.Dec.{T}
use lib.IntN.{pos}
use lib.Ieee.{Float, nan, binary64, in_float}
use borrow.Author.Tests.{le-leb}
use Rattle.rows.specs.Lists.{or_default, list_to}
use Rattle.geometry.specs.declared.Point3.{Point3}
use Rattle.geometry.specs.declared.Location.{Location}
use Rattle.geometry.specs.Double.{◌⊗◌, ◌⊘◌, whole}
use Rattle.geometry.specs.Point.{origin}
use Rattle.geometry.specs.Polyline.{Polyline, point_in, pt, polyline_length, reversed, point_of, resampled, resample_count, middle, centerline}
use Rattle.polyline.proofs.Lists.{length-list_to, get_or-list_to}
use Rattle.polyline.proofs.Lines.{at_some}
use Rattle.centerline.specs.declared.Line.{Line}
use Rattle.centerline.specs.Line.{points_of, line_option, halfway_to, Measured, Located}
use Rattle.centerline.proofs.Arrays.{list_to_same}

-- ---- reversed

backward : (xs : Polyline) → reverse xs ≡ list_to (λ (i : ℕ). pt xs (length xs - 1 - i)) (length xs)
unfolding list_to
backward [] = refl
backward (x ∷ xs) =
    let n = length xs in
    let e : suc n - 1 - n ≡ 0 = omega arith in
    reverse-cons x xs
    ∙ rw (backward xs, e) (ap (λ (l : Polyline). l ++ (x ∷ [])) (list_to_same _ _ n (λ j h. ap (λ (k : ℕ). get_or (x ∷ xs) k origin) (moved j h))))
  where
    moved : (j : ℕ) → j < length xs → suc (length xs - 1 - j) ≡ suc (length xs) - 1 - j
    moved j h = omega arith

pub reversed_is : (xs : Polyline) (n : ℕ) → length xs ≡ n → list_to (λ (i : ℕ). pt xs (n - 1 - i)) n ≡ reversed xs
unfolding reversed
reversed_is xs n e = rw (← e) (sym (backward xs))

-- ---- resampled

-- a small number is a double
pub whole_fits : (n : ℕ) → n ≤ 64 → T (in_float binary64 (pos n))
unfolding in_float
whole_fits n h = rw (le-leb n (2 ^ 53) (omega arith)) tt

pub total_is : (xs : Polyline) (table : List Float) (n : ℕ) → Measured xs table → length xs ≡ n → 0 < n → get_or table ((n - 1) * 2) nan ≡ polyline_length xs
unfolding polyline_length
total_is xs table n m e h = rw e (m.station (n - 1) (omega arith))

pub resampled_at : (xs : Polyline) (count i : ℕ) (total s : Float) (l : Location) (p : Point3) → total ≡ polyline_length xs → s ≡ total ⊗ whole i ⊘ whole (count - 1)
    → Located xs s l → p ≡ point_of xs l → p ≡ resampled xs count i
unfolding resampled or_default
resampled_at xs count i total s l p t e w q = rw (← t, ← e, ← at_some xs s l p (sym w.place) q)

pub resample_none : (xs : Polyline) (n : ℕ) → length xs ≡ 0 → [] ≡ resample_count xs n
unfolding resample_count
resample_none [] n h = refl
resample_none (x ∷ xs) n h = absurd (omega arith)

resample_some : (xs : Polyline) (n : ℕ) → 0 < length xs → resample_count xs n ≡ list_to (resampled xs (max 2 n)) (max 2 n)
unfolding resample_count
resample_some [] n h = absurd (omega arith)
resample_some (x ∷ xs) n h = refl

module _ (xs : Polyline) (n count : ℕ) (h : 0 < length xs) (e : count ≡ max 2 n) where
  pub resample_is : list_to (resampled xs count) count ≡ resample_count xs n
  resample_is = rw (resample_some xs n h, ← e)

-- ---- lines

module _ (a : Line) (f : ℕ → Point3) (m : ℕ) (e : points_of a ≡ list_to f m) where
  pub line_count : a.count ≡ m
  unfolding points_of
  line_count = sym (length-list_to (point_in a.coords) a.count) ∙ ap length e ∙ length-list_to f m

  pub line_point : (i : ℕ) → i < m → point_in a.coords i ≡ f i
  unfolding points_of
  line_point i h =
      sym (get_or-list_to (point_in a.coords) a.count i origin (omega (arith, line_count))) ∙ ap (λ (l : Polyline). get_or l i origin) e ∙ get_or-list_to f m i origin h

-- no points
module _ (a : Line) (e : a.count ≡ 0) where
  pub no_points : points_of a ≡ []
  unfolding points_of list_to
  no_points = rw e

-- ---- the centreline

pub center_left : (xs ys : Polyline) → length xs ≡ 0 → None ≡ centerline xs ys
unfolding centerline
center_left [] ys h = refl
center_left (x ∷ xs) ys h = absurd (omega arith)

pub center_right : (xs ys : Polyline) → length ys ≡ 0 → None ≡ centerline xs ys
unfolding centerline
center_right [] ys h = refl
center_right (x ∷ xs) [] h = refl
center_right (x ∷ xs) (y ∷ ys) h = absurd (omega arith)

center_some : (xs ys : Polyline) → 0 < length xs → 0 < length ys
    → centerline xs ys ≡ Some (list_to (middle xs ys (max 2 (max (length xs) (length ys)))) (max 2 (max (length xs) (length ys))))
unfolding centerline
center_some [] ys h k = absurd (omega arith)
center_some (x ∷ xs) [] h k = absurd (omega arith)
center_some (x ∷ xs) (y ∷ ys) h k = refl

module _ (xs ys : Polyline) (n : ℕ) (e : n ≡ max (length xs) (length ys)) (h : 0 < length xs) (k : 0 < length ys) (a b : Line)
    (ea : points_of a ≡ resample_count xs n) (eb : points_of b ≡ resample_count ys n) where
  -- both sides have this many points
  abbrev sides : ℕ
  sides = max 2 n

  left_is : points_of a ≡ list_to (resampled xs sides) sides
  left_is = ea ∙ resample_some xs n h

  right_is : points_of b ≡ list_to (resampled ys sides) sides
  right_is = eb ∙ resample_some ys n k

  halfway_is : halfway_to a.coords b.coords a.count ≡ list_to (middle xs ys sides) sides
  unfolding halfway_to middle
  halfway_is =
      rw (line_count a (resampled xs sides) sides left_is)
      (list_to_same _ _ sides (λ j l. rw (line_point a (resampled xs sides) sides left_is j l, line_point b (resampled ys sides) sides right_is j l)))

  pub sides_few : n ≤ 64 → a.count ≤ 64
  sides_few l = omega (arith, line_count a (resampled xs sides) sides left_is)

  pub center_is : (c : Line) → points_of c ≡ halfway_to a.coords b.coords a.count → line_option (Some c) ≡ centerline xs ys
  unfolding line_option
  center_is c ec =
      let f : points_of c ≡ list_to (middle xs ys sides) sides = ec ∙ halfway_is in
      rw (f, center_some xs ys h k, ← e)
