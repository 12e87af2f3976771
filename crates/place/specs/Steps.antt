-- Parts of the definitions that one function of the code answers.
use Rattle.std.specs.Prelude.{ℕ, List, [], ◌∷◌, Float, Option, None}
use Rattle.std.specs.Float.Ieee.{lt}
use Rattle.refusal.specs.Answer.{Answer, done, ◌>>=◌, present}
use Rattle.geometry.specs.declared.Point2.{Point2}
use Rattle.geometry.specs.declared.Point3.{Point3}
use Rattle.geometry.specs.Point.{perp}
use Rattle.geometry.specs.Polyline.{Polyline, point_at, direction_at}
use Rattle.map.specs.Record.{BoundaryRef, Map}
use Rattle.place.specs.declared.LaneSide.{LaneSide}
use Rattle.place.specs.Place.{End, Ends, Section, outer, with_side, with_lanes, section}

-- the end that lies farther to the left, and the one farther to the right
abbrev pub outer_left : Option End → End → Option End
outer_left = outer (λ x y. lt y x)

abbrev pub outer_right : Option End → End → Option End
outer_right = outer lt

abbrev pub no_ends : Ends
no_ends = record { left = None; right = None }

-- a side of a lane, and which it is
pub record NamedSide : Type 0 where
  pub side : LaneSide
  pub boundary : BoundaryRef

-- one side of a lane after the other
unfoldable pub with_sides : Map → Point3 → Point2 → ℕ → List NamedSide → Ends → Answer Ends
with_sides m p normal lane [] es = done es
with_sides m p normal lane (s ∷ ss) es = with_side m p normal (record { lane = lane; side = s.side }) s.boundary es >>= λ one. with_sides m p normal lane ss one

-- the cross-section of a centreline that is there
unfoldable pub section_on : Map → Polyline → Float → List ℕ → Answer Section
section_on m center station lanes = do
  p ← present (point_at center station) 6 (2 ∷ [])
  dir ← present (direction_at center station) 6 (3 ∷ [])
  es ← with_lanes m p (perp dir) lanes no_ends
  section es.left es.right
