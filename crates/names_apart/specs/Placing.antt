-- The cross-section and the placement as they were defined before an end had a name.
use Rattle.std.specs.Prelude.{ℕ, Bool, not, ◌||◌, cond, List, [], ◌∷◌, get_or, Float, Option, None, Some}
use Rattle.std.specs.Float.Ieee.{lt}
use Rattle.refusal.specs.Answer.{Answer, refused, done, ◌>>=◌, ◌>>◌, refuse_when, present}
use Rattle.geometry.specs.declared.Point2.{Point2}
use Rattle.geometry.specs.declared.Point3.{Point3}
use Rattle.geometry.specs.declared.NearestPoint.{NearestPoint}
use Rattle.geometry.specs.Double.{◌⊖◌, f0, milli, is_finite, clamp}
use Rattle.geometry.specs.Point.{xy, sub2, dot, perp}
use Rattle.geometry.specs.Polyline.{Polyline, polyline_of, polyline_length, point_at, direction_at, nearest_point}
use Rattle.map.specs.Record.{BoundaryRef, Map}
use Rattle.map.specs.Lookup.{lane_of, oriented}
use Rattle.changes.specs.ChangeSet.{Warning}
use Rattle.place.specs.declared.Placement.{Placement}
use Rattle.place.specs.declared.Placement.TheVariants.{AtLaneEnd, AtStation, Given}
use Rattle.place.specs.Place.{lane_centerline, check_polyline, clamp_warning}

-- ---- the cross-section

-- how far to the left a boundary's nearest point lies, and that point
pub record End : Type 0 where
  pub lateral : Float
  pub point : Point3

pub record Ends : Type 0 where
  pub left : Option End
  pub right : Option End

-- the end that lies farther out; on equal values the earlier one stays
unfoldable pub outer : (Float → Float → Bool) → Option End → End → Option End
outer beats None e = Some e
outer beats (Some b) e = Some (cond (beats e.lateral b.lateral) e b)

-- a boundary without points is passed over
unfoldable pub widened : Point3 → Point2 → Option NearestPoint → Ends → Ends
widened p normal None es = es
widened p normal (Some n) es =
    let e : End = record { lateral = dot normal (sub2 (xy n.point) (xy p)); point = n.point } in
    record { left = outer (λ x y. lt y x) es.left e; right = outer lt es.right e }

unfoldable pub with_side : Map → Point3 → Point2 → BoundaryRef → Ends → Answer Ends
with_side m p normal s es = do
  b ← present (oriented m s) 6 (4 ∷ [])
  done (widened p normal (nearest_point b (xy p)) es)

unfoldable pub with_lane : Map → Point3 → Point2 → ℕ → Ends → Answer Ends
with_lane m p normal n es = do
  l ← present (lane_of m n) 6 (4 ∷ [])
  one ← with_side m p normal l.left es
  with_side m p normal l.right one

unfoldable pub with_lanes : Map → Point3 → Point2 → List ℕ → Ends → Answer Ends
with_lanes m p normal [] es = done es
with_lanes m p normal (n ∷ ns) es = with_lane m p normal n es >>= λ one. with_lanes m p normal ns one

-- the ends must be more than 1e-3 apart
unfoldable pub section : Option End → Option End → Answer Polyline
section None r = refused 6 (5 ∷ [])
section (Some l) None = refused 6 (5 ∷ [])
section (Some l) (Some r) = cond (lt milli (l.lateral ⊖ r.lateral)) (done (l.point ∷ r.point ∷ [])) (refused 6 (5 ∷ []))

unfoldable pub cross_section : Map → ℕ → Float → List ℕ → Answer Polyline
cross_section m reference station lanes = do
  center ← present (lane_centerline m reference) 6 (1 ∷ [])
  p ← present (point_at center station) 6 (2 ∷ [])
  dir ← present (direction_at center station) 6 (3 ∷ [])
  es ← with_lanes m p (perp dir) lanes (record { left = None; right = None })
  section es.left es.right

-- ---- the placement

-- the points, and a warning where the station was moved
pub record Placed : Type 0 where
  pub points : Polyline
  pub warnings : List Warning

unfoldable pub place_at : Map → List ℕ → ℕ → Float → Float → Answer Placed
place_at m lanes reference len station = do
  refuse_when (not (is_finite station)) 4 (3 ∷ [])
  let clamped = clamp station f0 len
  xs ← cross_section m reference clamped lanes
  done (record { points = xs; warnings = clamp_warning reference station clamped })

unfoldable pub place_as : Placement → List Float → Map → List ℕ → ℕ → Float → Answer Placed
place_as Given cs m lanes reference len = check_polyline cs >> done (record { points = polyline_of cs; warnings = [] })
place_as (AtLaneEnd offset) cs m lanes reference len = do
  refuse_when (not (is_finite offset) || lt offset f0) 4 (2 ∷ [])
  place_at m lanes reference len (len ⊖ offset)
place_as (AtStation station) cs m lanes reference len = place_at m lanes reference len station

-- along the first lane; the coordinates cs are read for a given line only
unfoldable pub place_stop_line : Map → List ℕ → Placement → List Float → Answer Placed
place_stop_line m lanes how cs = do
  let reference = get_or lanes 0 0
  center ← present (lane_centerline m reference) 6 (1 ∷ [])
  place_as how cs m lanes reference (polyline_length center)
