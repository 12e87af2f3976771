-- The geometry calls: what each refuses, in order, and the inner function's answer otherwise. A polyline comes as a slice of coordinates.
use Rattle.std.specs.Prelude.{ℕ, ◌%◌, max, Bool, not, ◌&&◌, List, [], ◌∷◌, eqb, ltb, length, Float, Option}
use Rattle.refusal.specs.Answer.{Answer, done, ◌>>◌, refuse_when}
use Rattle.rows.specs.Lists.{every}
use Rattle.geometry.specs.declared.Point2.{Point2}
use Rattle.geometry.specs.declared.Point3.{Point3}
use Rattle.geometry.specs.declared.Location.{Location}
use Rattle.geometry.specs.declared.NearestPoint.{NearestPoint}
use Rattle.geometry.specs.Double.{is_finite, on_map}
use Rattle.geometry.specs.Point.{point_on_map, point2_on_map, xy, sub2, scale2, dot, cross, norm2, distance2, normalized, perp, project_on_segment, add3, sub3, scale3, norm3, distance3, lerp}
use Rattle.geometry.specs.Polyline.{Polyline, polyline_of, polyline_length, is_valid, stations, reversed, locate, point_at, point_at_fraction, direction_at, nearest_point, resample_count, centerline, open_polyline}

-- every coordinate is there, finite and at most 2 ^ 26 in size
unfoldable pub coords_on_map : List Float → Bool
coords_on_map cs = eqb (length cs % 3) 0 && every on_map cs

-- 9 for a coordinate
abbrev pub refuse_off_map : Bool → Answer (Unit {0})
refuse_off_map ok = refuse_when (not ok) 9 []

-- 10 for more than 64 points, given or to be resampled
abbrev pub refuse_many : ℕ → Answer (Unit {0})
refuse_many n = refuse_when (ltb 64 n) 10 []

-- 4 for a station, fraction or offset
abbrev pub refuse_measure : Float → Answer (Unit {0})
refuse_measure s = refuse_when (not (is_finite s)) 4 (3 ∷ [])

unfoldable pub check_line : List Float → Answer (Unit {0})
check_line cs = do
  refuse_off_map (coords_on_map cs)
  refuse_many (length (polyline_of cs))

-- of vectors of the plane or of space, by the test of one and by the inner function
module _ {V A : Type 0} (on : V → Bool) where
  abbrev pub one_call : (V → A) → V → Answer A
  one_call f a = refuse_off_map (on a) >> done (f a)

  abbrev pub pair_call : (V → V → A) → V → V → Answer A
  pair_call f a b = refuse_off_map (on a && on b) >> done (f a b)

  abbrev pub factor_call : (V → Float → A) → V → Float → Answer A
  factor_call f a t = do
    refuse_off_map (on a)
    refuse_measure t
    done (f a t)

-- ---- polylines

unfoldable pub length_call : List Float → Answer Float
length_call cs = check_line cs >> done (polyline_length (polyline_of cs))

unfoldable pub is_valid_call : List Float → Answer Bool
is_valid_call cs = check_line cs >> done (is_valid (polyline_of cs))

unfoldable pub stations_call : List Float → Answer (List Float)
stations_call cs = check_line cs >> done (stations (polyline_of cs))

unfoldable pub reversed_call : List Float → Answer Polyline
reversed_call cs = check_line cs >> done (reversed (polyline_of cs))

unfoldable pub locate_call : List Float → Float → Answer (Option Location)
locate_call cs s = do
  check_line cs
  refuse_measure s
  done (locate (polyline_of cs) s)

unfoldable pub point_at_call : List Float → Float → Answer (Option Point3)
point_at_call cs s = do
  check_line cs
  refuse_measure s
  done (point_at (polyline_of cs) s)

unfoldable pub point_at_fraction_call : List Float → Float → Answer (Option Point3)
point_at_fraction_call cs t = do
  check_line cs
  refuse_measure t
  done (point_at_fraction (polyline_of cs) t)

unfoldable pub direction_at_call : List Float → Float → Answer (Option Point2)
direction_at_call cs s = do
  check_line cs
  refuse_measure s
  done (direction_at (polyline_of cs) s)

unfoldable pub nearest_point_call : List Float → Point2 → Answer (Option NearestPoint)
nearest_point_call cs p = do
  refuse_off_map (coords_on_map cs && point2_on_map p)
  refuse_many (length (polyline_of cs))
  done (nearest_point (polyline_of cs) p)

unfoldable pub resample_count_call : List Float → ℕ → Answer Polyline
resample_count_call cs n = do
  refuse_off_map (coords_on_map cs)
  refuse_many (max n (length (polyline_of cs)))
  done (resample_count (polyline_of cs) n)

unfoldable pub centerline_call : List Float → List Float → Answer (Option Polyline)
centerline_call l r = do
  refuse_off_map (coords_on_map l && coords_on_map r)
  refuse_many (max (length (polyline_of l)) (length (polyline_of r)))
  done (centerline (polyline_of l) (polyline_of r))

-- ---- points

unfoldable pub distance2_call : Point2 → Point2 → Answer Float
distance2_call a b = refuse_off_map (point2_on_map a && point2_on_map b) >> done (distance2 a b)

unfoldable pub distance3_call : Point3 → Point3 → Answer Float
distance3_call a b = refuse_off_map (point_on_map a && point_on_map b) >> done (distance3 a b)

unfoldable pub lerp_call : Point3 → Point3 → Float → Answer Point3
lerp_call a b t = do
  refuse_off_map (point_on_map a && point_on_map b)
  refuse_measure t
  done (lerp a b t)

unfoldable pub project_on_segment_call : Point2 → Point2 → Point2 → Answer Float
project_on_segment_call p a b = refuse_off_map (point2_on_map p && point2_on_map a && point2_on_map b) >> done (project_on_segment p a b)

-- ---- vectors: a component is a coordinate, and a factor a fraction

unfoldable pub xy_call : Point3 → Answer Point2
xy_call p = refuse_off_map (point_on_map p) >> done (xy p)

unfoldable pub sub2_call : Point2 → Point2 → Answer Point2
sub2_call a b = refuse_off_map (point2_on_map a && point2_on_map b) >> done (sub2 a b)

unfoldable pub scale2_call : Point2 → Float → Answer Point2
scale2_call a t = do
  refuse_off_map (point2_on_map a)
  refuse_measure t
  done (scale2 a t)

unfoldable pub dot_call : Point2 → Point2 → Answer Float
dot_call a b = refuse_off_map (point2_on_map a && point2_on_map b) >> done (dot a b)

unfoldable pub cross_call : Point2 → Point2 → Answer Float
cross_call a b = refuse_off_map (point2_on_map a && point2_on_map b) >> done (cross a b)

unfoldable pub norm2_call : Point2 → Answer Float
norm2_call a = refuse_off_map (point2_on_map a) >> done (norm2 a)

unfoldable pub normalized_call : Point2 → Answer (Option Point2)
normalized_call a = refuse_off_map (point2_on_map a) >> done (normalized a)

unfoldable pub perp_call : Point2 → Answer Point2
perp_call a = refuse_off_map (point2_on_map a) >> done (perp a)

unfoldable pub add3_call : Point3 → Point3 → Answer Point3
add3_call a b = refuse_off_map (point_on_map a && point_on_map b) >> done (add3 a b)

unfoldable pub sub3_call : Point3 → Point3 → Answer Point3
sub3_call a b = refuse_off_map (point_on_map a && point_on_map b) >> done (sub3 a b)

unfoldable pub scale3_call : Point3 → Float → Answer Point3
scale3_call a t = do
  refuse_off_map (point_on_map a)
  refuse_measure t
  done (scale3 a t)

unfoldable pub norm3_call : Point3 → Answer Float
norm3_call a = refuse_off_map (point_on_map a) >> done (norm3 a)

unfoldable pub open_geometry_calls : Unit {0}
unfolding open_polyline coords_on_map check_line length_call is_valid_call stations_call reversed_call locate_call point_at_call point_at_fraction_call direction_at_call nearest_point_call resample_count_call centerline_call distance2_call distance3_call lerp_call project_on_segment_call
open_geometry_calls = tt

unfoldable pub open_vector_calls : Unit {0}
unfolding open_geometry_calls xy_call sub2_call scale2_call dot_call cross_call norm2_call normalized_call perp_call add3_call sub3_call scale3_call norm3_call
open_vector_calls = tt
