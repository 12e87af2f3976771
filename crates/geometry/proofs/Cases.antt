-- Small closed cases of the geometry definitions: a centreline, its length and direction, and the order of refusals.
use Prim.Native.Nat.{ℕ, ◌+◌, ◌^◌}
use mathlib.Core.Path.{◌≡◌, refl}
use mathlib.Core.Bool.{true}
use Rattle.std.specs.Prelude.{Some}
use mathlib.Core.List.{[], ◌∷◌}
use lib.Ieee.{nan, inf}
use Rattle.refusal.specs.Answer.{Answer, refused, done}
use Rattle.rows.specs.Lists.{list_to}
use Rattle.geometry.specs.declared.Point3.{Point3}
use Rattle.geometry.specs.Double.{whole, f0, f1}
use Rattle.geometry.specs.Point.{at2, at3}
use Rattle.geometry.specs.Polyline.{Polyline, polyline_length, direction_at, centerline, open_polyline}
use Rattle.geometry.specs.Calls.{point_at_call, lerp_call, nearest_point_call, resample_count_call, centerline_call, xy_call, scale2_call, normalized_call, norm3_call, open_geometry_calls, open_vector_calls}

abbrev p3 : ℕ → ℕ → ℕ → Point3
p3 a b c = at3 (whole a) (whole b) (whole c)

abbrev side_l : Polyline
side_l = p3 0 4 0 ∷ p3 10 4 0 ∷ []

abbrev side_r : Polyline
side_r = p3 0 0 0 ∷ p3 10 0 0 ∷ []

mid : centerline side_l side_r ≡ Some (p3 0 2 0 ∷ p3 10 2 0 ∷ [])
unfolding open_polyline
mid = refl

len : polyline_length side_l ≡ whole 10
unfolding open_polyline
len = refl

dir : direction_at side_l (whole 10) ≡ Some (at2 f1 f0)
unfolding open_polyline
dir = refl

number_of : {A : Type 0} → Answer A → ℕ
number_of (refused n ds) = n
number_of (done a) = 0

-- 9 before 10 before 4; a missing coordinate is 9
calls : number_of (point_at_call (whole (2 ^ 26 + 1) ∷ f0 ∷ f0 ∷ []) nan) ∷ number_of (point_at_call (list_to whole 195) nan) ∷ number_of (point_at_call (list_to whole 6) (inf true))
    ∷ number_of (point_at_call (list_to whole 6) f1) ∷ number_of (point_at_call (list_to whole 5) f1) ∷ number_of (nearest_point_call [] (at2 nan f0))
    ∷ number_of (centerline_call (list_to whole 6) (list_to whole 195)) ∷ number_of (resample_count_call (list_to whole 6) 65) ∷ number_of (lerp_call (p3 0 0 0) (p3 1 1 1) nan) ∷ []
    ≡ 9 ∷ 10 ∷ 4 ∷ 0 ∷ 9 ∷ 9 ∷ 10 ∷ 10 ∷ 4 ∷ []
unfolding open_geometry_calls number_of
calls = refl

-- vectors too: a factor comes after the components, and a vector that has no direction is no refusal
vector_calls : number_of (scale2_call (at2 nan f0) nan) ∷ number_of (scale2_call (at2 f1 f0) nan) ∷ number_of (scale2_call (at2 f1 f0) (whole (2 ^ 26 + 1)))
    ∷ number_of (xy_call (at3 f0 f0 (inf true))) ∷ number_of (norm3_call (p3 0 0 (2 ^ 26 + 1))) ∷ number_of (normalized_call (at2 f0 f0)) ∷ []
    ≡ 9 ∷ 4 ∷ 0 ∷ 9 ∷ 9 ∷ 0 ∷ []
unfolding open_vector_calls number_of
vector_calls = refl
