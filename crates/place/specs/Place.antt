-- Where a stop line goes: `centerline`, `cross_section` and `place_stop_line`.
use Rattle.std.specs.Prelude.{ℕ, ◌%◌, Bool, not, ◌&&◌, ◌||◌, cond, List, [], ◌∷◌, eqb, ltb, length, get_or, Float, Option, None, Some}
use Rattle.std.specs.Float.Ieee.{lt}
use Rattle.refusal.specs.Answer.{Answer, refused, done, ◌>>=◌, ◌>>◌, refuse_when, present}
use Rattle.rows.specs.Lists.{every, no_entries, twice}
use Rattle.geometry.specs.declared.Point2.{Point2}
use Rattle.geometry.specs.declared.Point3.{Point3}
use Rattle.geometry.specs.declared.NearestPoint.{NearestPoint}
use Rattle.geometry.specs.Double.{◌⊖◌, f0, epsilon, milli, is_finite, on_map, absolute, clamp}
use Rattle.geometry.specs.Point.{xy, sub2, dot, perp}
use Rattle.geometry.specs.Polyline.{Polyline, polyline_of, polyline_length, is_valid, point_at, direction_at, nearest_point, centerline, open_polyline}
use Rattle.map.specs.Record.{BoundaryRef, Lane, Map}
use Rattle.map.specs.Entity.{entity}
use Rattle.map.specs.Lookup.{lane_of, oriented, unknown_in, open_lookup}
use Rattle.changes.specs.ChangeSet.{Warning, warning}
use Rattle.place.specs.declared.Placement.{Placement}
use Rattle.place.specs.declared.Placement.TheVariants.{AtLaneEnd, AtStation, Given}
use Rattle.place.specs.declared.LaneSide.TheVariants.{Left, Right}
use Rattle.place.specs.declared.EndName.{EndName}
use Rattle.place.specs.declared.SectionNames.{SectionNames}

-- ---- the list of lanes

-- the number found is refused as unknown
abbrev pub refuse_found : Option ℕ → ℕ → Answer (Unit {0})
refuse_found None kind = done tt
refuse_found (Some n) kind = refused 2 (kind ∷ n ∷ [])

unfoldable pub check_lane_list : Map → List ℕ → Answer (Unit {0})
check_lane_list m lanes = do
  refuse_when (no_entries lanes) 1 []
  refuse_found (unknown_in (λ l. l.num) m.lanes lanes) 1
  refuse_when (twice lanes) 3 (1 ∷ [])

-- ---- given points: a slice of coordinates

-- a number left over is a point that lacks a coordinate
unfoldable pub check_polyline : List Float → Answer (Unit {0})
check_polyline cs = do
  refuse_when (not (eqb (length cs % 3) 0 && every is_finite cs)) 5 (1 ∷ [])
  refuse_when (not (every on_map cs)) 9 []
  refuse_when (ltb 64 (length (polyline_of cs))) 10 []
  refuse_when (not (is_valid (polyline_of cs))) 5 (2 ∷ [])

-- ---- the centreline of a lane

unfoldable pub between : Option Polyline → Option Polyline → Option Polyline
between None r = None
between (Some l) None = None
between (Some l) (Some r) = centerline l r

-- the stored one, even if it is empty; else the line between the sides
unfoldable pub centerline_of : Map → Lane → Option Polyline
centerline_of m l = elim l.centerline [ Some c ↦ Some c | None ↦ between (oriented m l.left) (oriented m l.right) ]

unfoldable pub lane_centerline : Map → ℕ → Option Polyline
lane_centerline m n = elim (lane_of m n) [ None ↦ None | Some l ↦ centerline_of m l ]

-- ---- the cross-section

-- how far to the left a boundary's nearest point lies, that point, and its name: the lane, and the side of it that the boundary is
pub record End : Type 0 where
  pub lateral : Float
  pub point : Point3
  pub name : EndName

pub record Ends : Type 0 where
  pub left : Option End
  pub right : Option End

-- the end that lies farther out; on equal values the earlier one stays
unfoldable pub outer : (Float → Float → Bool) → Option End → End → Option End
outer beats None e = Some e
outer beats (Some b) e = Some (cond (beats e.lateral b.lateral) e b)

-- a boundary without points is passed over
unfoldable pub widened : Point3 → Point2 → EndName → Option NearestPoint → Ends → Ends
widened p normal x None es = es
widened p normal x (Some n) es =
    let e : End = record { lateral = dot normal (sub2 (xy n.point) (xy p)); point = n.point; name = x } in
    record { left = outer (λ x y. lt y x) es.left e; right = outer lt es.right e }

unfoldable pub with_side : Map → Point3 → Point2 → EndName → BoundaryRef → Ends → Answer Ends
with_side m p normal x s es = do
  b ← present (oriented m s) 6 (4 ∷ [])
  done (widened p normal x (nearest_point b (xy p)) es)

unfoldable pub with_lane : Map → Point3 → Point2 → ℕ → Ends → Answer Ends
with_lane m p normal n es = do
  l ← present (lane_of m n) 6 (4 ∷ [])
  one ← with_side m p normal (record { lane = n; side = Left }) l.left es
  with_side m p normal (record { lane = n; side = Right }) l.right one

unfoldable pub with_lanes : Map → Point3 → Point2 → List ℕ → Ends → Answer Ends
with_lanes m p normal [] es = done es
with_lanes m p normal (n ∷ ns) es = with_lane m p normal n es >>= λ one. with_lanes m p normal ns one

-- the two points, from left to right, and their names
pub record Section : Type 0 where
  pub points : Polyline
  pub names : SectionNames

-- the ends must be more than 1e-3 apart
unfoldable pub section : Option End → Option End → Answer Section
section None r = refused 6 (5 ∷ [])
section (Some l) None = refused 6 (5 ∷ [])
section (Some l) (Some r) = cond (lt milli (l.lateral ⊖ r.lateral)) (done (record { points = l.point ∷ r.point ∷ []; names = record { left = l.name; right = r.name } })) (refused 6 (5 ∷ []))

unfoldable pub cross_section : Map → ℕ → Float → List ℕ → Answer Section
cross_section m reference station lanes = do
  center ← present (lane_centerline m reference) 6 (1 ∷ [])
  p ← present (point_at center station) 6 (2 ∷ [])
  dir ← present (direction_at center station) 6 (3 ∷ [])
  es ← with_lanes m p (perp dir) lanes (record { left = None; right = None })
  section es.left es.right

-- ---- the placement

-- the points, a warning where the station was moved, and the names of both ends where the points are a cross-section
pub record Placed : Type 0 where
  pub points : Polyline
  pub warnings : List Warning
  pub ends : Option SectionNames

unfoldable pub clamp_warning : ℕ → Float → Float → List Warning
clamp_warning reference station clamped = cond (lt epsilon (absolute (clamped ⊖ station))) (warning 1 (Some (entity 1 reference)) ∷ []) []

unfoldable pub place_at : Map → List ℕ → ℕ → Float → Float → Answer Placed
place_at m lanes reference len station = do
  refuse_when (not (is_finite station)) 4 (3 ∷ [])
  let clamped = clamp station f0 len
  x ← cross_section m reference clamped lanes
  done (record { points = x.points; warnings = clamp_warning reference station clamped; ends = Some x.names })

unfoldable pub place_as : Placement → List Float → Map → List ℕ → ℕ → Float → Answer Placed
place_as Given cs m lanes reference len = check_polyline cs >> done (record { points = polyline_of cs; warnings = []; ends = None })
place_as (AtLaneEnd offset) cs m lanes reference len = do
  refuse_when (not (is_finite offset) || lt offset f0) 4 (2 ∷ [])
  place_at m lanes reference len (len ⊖ offset)
place_as (AtStation station) cs m lanes reference len = place_at m lanes reference len station

-- along the first lane; the coordinates cs are read for a given line only
unfoldable pub place_stop_line : Map → List ℕ → Placement → List Float → Answer Placed
place_stop_line m lanes how cs = do
  let reference = get_or lanes 0 0
  center ← present (lane_centerline m reference) 6 (1 ∷ [])
  place_as how cs m lanes reference (polyline_length center)

unfoldable pub open_place : Unit {0}
unfolding open_polyline open_lookup check_lane_list check_polyline between centerline_of lane_centerline outer widened with_side with_lane with_lanes section cross_section clamp_warning place_at place_as place_stop_line
open_place = tt
