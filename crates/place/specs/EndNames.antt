-- What is said of the ends of a cross-section: which boundary each name stands for, and why it is that one.
use Rattle.std.specs.Prelude.{ℕ, ◌≡◌, Bool, true, not, List, [], ◌∷◌, ◌++◌, Float, get_or, Option, None, Some}
use Rattle.std.specs.Float.Ieee.{lt, le}
use Rattle.rows.specs.Lists.{every, member}
use Rattle.geometry.specs.declared.Point2.{Point2}
use Rattle.geometry.specs.declared.Point3.{Point3}
use Rattle.geometry.specs.declared.NearestPoint.{NearestPoint}
use Rattle.geometry.specs.Double.{◌⊖◌, milli}
use Rattle.geometry.specs.Point.{xy, sub2, dot, perp}
use Rattle.geometry.specs.Polyline.{Polyline, point_at, direction_at, nearest_point}
use Rattle.map.specs.Record.{BoundaryRef, Lane, Map}
use Rattle.map.specs.Lookup.{lane_of, oriented}
use Rattle.place.specs.declared.Placement.{Placement}
use Rattle.place.specs.declared.Placement.TheVariants.{AtLaneEnd, AtStation, Given}
use Rattle.place.specs.declared.LaneSide.{LaneSide}
use Rattle.place.specs.declared.LaneSide.TheVariants.{Left, Right}
use Rattle.place.specs.declared.EndName.{EndName}
use Rattle.place.specs.declared.SectionNames.{SectionNames}
use Rattle.place.specs.Place.{End, Section, Placed, lane_centerline}

-- ---- names

abbrev pub side_at : Lane → LaneSide → BoundaryRef
side_at l Left = l.left
side_at l Right = l.right

-- the points of the boundary that a name stands for, along its lane
unfoldable pub side_named : Map → EndName → Option Polyline
side_named m x = elim (lane_of m x.lane) [ None ↦ None | Some l ↦ oriented m (side_at l x.side) ]

-- in words: whether the ends are named, lane and side of the left one, lane and side of the right one
abbrev pub side_number : LaneSide → ℕ
side_number Left = 0
side_number Right = 1

abbrev pub ends_words : Option SectionNames → List ℕ
ends_words None = 0 ∷ 0 ∷ 0 ∷ 0 ∷ 0 ∷ []
ends_words (Some x) = 1 ∷ x.left.lane ∷ side_number x.left.side ∷ x.right.lane ∷ side_number x.right.side ∷ []

-- ---- candidates: each lane of the list in its order, left before right; a boundary without points is left out

unfoldable pub candidate_at : Point3 → Point2 → EndName → Option NearestPoint → List End
candidate_at p normal x None = []
candidate_at p normal x (Some n) = record { lateral = dot normal (sub2 (xy n.point) (xy p)); point = n.point; name = x } ∷ []

unfoldable pub candidate_on : Point3 → Point2 → EndName → Option Polyline → List End
candidate_on p normal x None = []
candidate_on p normal x (Some b) = candidate_at p normal x (nearest_point b (xy p))

unfoldable pub candidate : Map → Point3 → Point2 → EndName → List End
candidate m p normal x = candidate_on p normal x (side_named m x)

unfoldable pub candidates : Map → Point3 → Point2 → List ℕ → List End
candidates m p normal [] = []
candidates m p normal (n ∷ ns) = candidate m p normal (record { lane = n; side = Left }) ++ (candidate m p normal (record { lane = n; side = Right }) ++ candidates m p normal ns)

-- ---- what is said of an end

-- its name stands for a boundary of the map, on a lane of the list, and its point is that boundary's nearest
pub record IsNamed (m : Map) (p : Point3) (normal : Point2) (lanes : List ℕ) (e : End) : Type 0 where
  pub listed : member e.name.lane lanes ≡ true
  pub line : Polyline
  pub along : side_named m e.name ≡ Some line
  pub nearest : NearestPoint
  pub near : nearest_point line (xy p) ≡ Some nearest
  pub point : e.point ≡ nearest.point
  pub lateral : e.lateral ≡ dot normal (sub2 (xy e.point) (xy p))

-- of the candidates cs none lies beyond e, and each before it lies on this side of it: e is the first of the outermost.
-- `beyond x e`: x lies beyond e; `level x e`: x lies beyond e, or as far out. Both are false of a NaN.
pub record IsFirst (beyond level : Float → Float → Bool) (cs : List End) (e : End) : Type 0 where
  pub before : List End
  pub after : List End
  pub stands : cs ≡ before ++ (e ∷ after)
  pub outermost : every (λ x. not (beyond x.lateral e.lateral)) cs ≡ true
  pub first : every (λ x. not (level x.lateral e.lateral)) before ≡ true

-- no candidate has a greater value, and none before it an equal one; for the right end, no smaller one
abbrev pub IsLeftmost : List End → End → Type 0
IsLeftmost = IsFirst (λ x e. lt e x) (λ x e. le e x)

abbrev pub IsRightmost : List End → End → Type 0
IsRightmost = IsFirst lt le

-- ---- what is said of a cross-section

pub record Named (m : Map) (reference : ℕ) (station : Float) (lanes : List ℕ) (x : Section) : Type 0 where
  -- the point of the centreline, and the direction there
  pub center : Polyline
  pub center_is : lane_centerline m reference ≡ Some center
  pub origin : Point3
  pub origin_is : point_at center station ≡ Some origin
  pub direction : Point2
  pub direction_is : direction_at center station ≡ Some direction
  -- the ends
  pub left : End
  pub right : End
  pub is : x ≡ record { points = left.point ∷ right.point ∷ []; names = record { left = left.name; right = right.name } }
  pub wide : lt milli (left.lateral ⊖ right.lateral) ≡ true
  pub left_named : IsNamed m origin (perp direction) lanes left
  pub right_named : IsNamed m origin (perp direction) lanes right
  pub leftmost : IsLeftmost (candidates m origin (perp direction) lanes) left
  pub rightmost : IsRightmost (candidates m origin (perp direction) lanes) right

-- a line that was drawn across: a cross-section of the first lane, at some station, and its names
pub record Drawn (m : Map) (lanes : List ℕ) (p : Placed) : Type 0 where
  pub station : Float
  pub names : SectionNames
  pub ends : p.ends ≡ Some names
  pub named : Named m (get_or lanes 0 0) station lanes (record { points = p.points; names = names })

-- which placements name ends
abbrev pub EndsBy : Placement → Map → List ℕ → Placed → Type 0
EndsBy Given m lanes p = p.ends ≡ None
EndsBy (AtLaneEnd offset) m lanes p = Drawn m lanes p
EndsBy (AtStation station) m lanes p = Drawn m lanes p
