-- Polylines: geometry/polyline.rs. A polyline is the list of its points.
-- What a loop adds up over i is a function of i by recursion on i, so that a loop's invariant is `acc ≡ length_to xs i`. What a loop looks for is `first_from`.
use Rattle.std.specs.Prelude.{ℕ, zero, suc, ◌+◌, ◌-◌, ◌*◌, ◌/◌, min, max, Bool, ◌&&◌, cond, List, [], ◌∷◌, reverse, ltb, length, get_or, Float, Option, None, Some}
use Rattle.std.specs.Float.{nan}
use Rattle.std.specs.Float.Ieee.{lt, le}
use Rattle.rows.specs.Lists.{or_else, or_default, list_to, first_from, first_below, open_lists}
use Rattle.geometry.specs.declared.Point2.{Point2}
use Rattle.geometry.specs.declared.Point3.{Point3}
use Rattle.geometry.specs.declared.Location.{Location}
use Rattle.geometry.specs.declared.NearestPoint.{NearestPoint}
use Rattle.geometry.specs.Double.{◌⊕◌, ◌⊖◌, ◌⊗◌, ◌⊘◌, whole, f0, f1, half, epsilon, clamp}
use Rattle.geometry.specs.Point.{at3, origin, xy, sub2, cross, distance2, distance3, normalized, lerp, project_on_segment, open_point}

abbrev pub Polyline : Type 0
Polyline = List Point3

-- ---- a slice of coordinates: x, y, z in turn

unfoldable pub point_in : List Float → ℕ → Point3
point_in cs i = at3 (get_or cs (i * 3) nan) (get_or cs (i * 3 + 1) nan) (get_or cs (i * 3 + 2) nan)

-- the points of a slice of coordinates; a last point that lacks a coordinate is none
unfoldable pub polyline_of : List Float → Polyline
polyline_of cs = list_to (point_in cs) (length cs / 3)

-- ---- length

abbrev pub pt : Polyline → ℕ → Point3
pt xs i = get_or xs i origin

unfoldable pub segment_length : Polyline → ℕ → Float
segment_length xs i = distance3 (pt xs i) (pt xs (suc i))

-- the length of the first i segments, added up from the first
unfoldable pub length_to : Polyline → ℕ → Float
length_to xs zero = f0
length_to xs (suc i) = length_to xs i ⊕ segment_length xs i

-- The length of fewer than two points is +0 here; the Rust's is -0, and the sign is not compared.
unfoldable pub polyline_length : Polyline → Float
polyline_length xs = length_to xs (length xs - 1)

-- at least two points, and a length above 1e-9
unfoldable pub is_valid : Polyline → Bool
is_valid xs = ltb 1 (length xs) && lt epsilon (polyline_length xs)

-- the length up to each point
unfoldable pub stations : Polyline → List Float
stations xs = list_to (length_to xs) (length xs)

unfoldable pub reversed : Polyline → Polyline
reversed xs = reverse xs

-- ---- where a station lies

abbrev pub location : ℕ → Float → Location
location i t = record { segment = i; fraction = t }

-- segment i, where it has a positive length and reaches the station
unfoldable pub reach : Polyline → Float → ℕ → Option Location
reach xs s i =
    let acc = length_to xs i in
    let seg = segment_length xs i in
    cond (le s (acc ⊕ seg) && lt f0 seg) (Some (location i (clamp ((s ⊖ acc) ⊘ seg) f0 f1))) None

-- No points, none; one point or a station of at most 0, the start; else the first segment that reaches the station; else the end of the last.
unfoldable pub locate : Polyline → Float → Option Location
locate [] s = None
locate (p ∷ []) s = Some (location 0 f0)
locate (p ∷ q ∷ r) s =
    let n = length r in
    cond (le s f0) (Some (location 0 f0)) (Some (or_default (first_from (reach (p ∷ q ∷ r) s) (suc n) 0) (location n f1)))

unfoldable pub point_of : Polyline → Location → Point3
point_of xs l =
    let i = l.segment in
    cond (ltb (suc i) (length xs)) (lerp (pt xs i) (pt xs (suc i)) l.fraction) (pt xs (length xs - 1))

unfoldable pub point_at : Polyline → Float → Option Point3
point_at xs s = elim (locate xs s) [ None ↦ None | Some l ↦ Some (point_of xs l) ]

unfoldable pub point_at_fraction : Polyline → Float → Option Point3
point_at_fraction xs t = point_at xs (clamp t f0 f1 ⊗ polyline_length xs)

-- ---- direction

-- the direction of segment j in the plane
unfoldable pub segment_direction : Polyline → ℕ → Option Point2
segment_direction xs j = normalized (sub2 (xy (pt xs (suc j))) (xy (pt xs j)))

-- forward from the located segment, then backward
unfoldable pub direction_from : Polyline → ℕ → Option Point2
direction_from xs i =
    let last = length xs - 1 in
    let start = min i (last - 1) in
    or_else (first_from (segment_direction xs) (last - start) start) (first_below (segment_direction xs) start)

unfoldable pub direction_at : Polyline → Float → Option Point2
direction_at xs s = cond (ltb (length xs) 2) None (elim (locate xs s) [ None ↦ None | Some l ↦ direction_from xs l.segment ])

-- ---- the nearest point

-- how far to the left of a direction p lies, seen from q
unfoldable pub lateral_of : Option Point2 → Point2 → Point2 → Float
lateral_of None p q = f0
lateral_of (Some u) p q = cross u (sub2 p q)

-- the point of segment i that is nearest to p
unfoldable pub nearest_on : Polyline → Point2 → ℕ → NearestPoint
nearest_on xs p i =
    let a = pt xs i in
    let b = pt xs (suc i) in
    let t = project_on_segment p (xy a) (xy b) in
    let q = lerp a b t in
    record {
      point = q;
      distance = distance2 (xy q) p;
      station = length_to xs i ⊕ t ⊗ segment_length xs i;
      segment = i;
      lateral = lateral_of (segment_direction xs i) p (xy q);
    }

-- a later segment is taken only where it is nearer by more than 1e-9
unfoldable pub nearer : Option NearestPoint → NearestPoint → NearestPoint
nearer None c = c
nearer (Some best) c = cond (lt c.distance (best.distance ⊖ epsilon)) c best

-- the best of the first i segments
unfoldable pub nearest_to : Polyline → Point2 → ℕ → Option NearestPoint
nearest_to xs p zero = None
nearest_to xs p (suc i) = Some (nearer (nearest_to xs p i) (nearest_on xs p i))

unfoldable pub nearest_point : Polyline → Point2 → Option NearestPoint
nearest_point [] p = None
nearest_point (q ∷ []) p = Some (record { point = q; distance = distance2 (xy q) p; station = f0; segment = 0; lateral = f0 })
nearest_point (q ∷ r ∷ s) p = nearest_to (q ∷ r ∷ s) p (suc (length s))

-- ---- resampling, and the centreline

-- point i of n, evenly spaced by length
unfoldable pub resampled : Polyline → ℕ → ℕ → Point3
resampled xs n i = or_default (point_at xs (polyline_length xs ⊗ whole i ⊘ whole (n - 1))) origin

-- at least two points, unless there are none
unfoldable pub resample_count : Polyline → ℕ → Polyline
resample_count [] n = []
resample_count (p ∷ ps) n = list_to (resampled (p ∷ ps) (max 2 n)) (max 2 n)

unfoldable pub middle : Polyline → Polyline → ℕ → ℕ → Point3
middle l r n i = lerp (resampled l n i) (resampled r n i) half

-- both sides resampled to the larger count, and averaged point by point
unfoldable pub centerline : Polyline → Polyline → Option Polyline
centerline [] r = None
centerline (p ∷ l) [] = None
centerline (p ∷ l) (q ∷ r) =
    let n = max 2 (max (suc (length l)) (suc (length r))) in
    Some (list_to (middle (p ∷ l) (q ∷ r) n) n)

unfoldable pub open_polyline : Unit {0}
unfolding open_point open_lists point_in polyline_of segment_length length_to polyline_length is_valid stations reversed reach locate point_of point_at point_at_fraction segment_direction direction_from direction_at lateral_of nearest_on nearer nearest_to nearest_point resampled resample_count middle centerline
open_polyline = tt
