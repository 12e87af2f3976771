-- What the code's values stand for.
use Rattle.std.specs.Prelude.{ℕ, ◌≤◌, ◌≡◌, Bool, false, cond, length, List, [], ◌∷◌, Option, None, Some, Err, Ok, Result}
use Rattle.geometry.specs.declared.Point2.{Point2}
use Rattle.geometry.specs.declared.NearestPoint.{NearestPoint}
use Rattle.geometry.specs.Polyline.{Polyline, nearest_point}
use Rattle.centerline.specs.declared.Line.{Line}
use Rattle.centerline.specs.Line.{points_of}
use Rattle.refusal.specs.Answer.{Answer, refused, done, refused_as}
use Rattle.map.specs.Record.{BoundaryRef, Map}
use Rattle.map.specs.Lookup.{oriented}
use Rattle.map.specs.declared.LaneRow.{LaneRow}
use Rattle.place.specs.declared.MaybeLine.{MaybeLine}
use Rattle.place.specs.declared.LaneSide.TheVariants.{Left, Right}
use Rattle.place.specs.declared.Side.{Side}
use Rattle.place.specs.declared.SideNearest.{SideNearest}
use Rattle.place.specs.declared.SectionNames.{SectionNames}
use Rattle.place.specs.declared.SectionEnd.{SectionEnd}
use Rattle.place.specs.declared.SectionEnds.{SectionEnds}
use Rattle.place.specs.Place.{End, Ends, Section, between}
use Rattle.place.specs.Steps.{NamedSide}
use Rattle.place.specs.declared.CrossSection.{CrossSection}
use Rattle.refusal.specs.declared.Refusal.{Refusal}

-- ---- lines that may be missing

abbrev pub maybe_line : MaybeLine → Option Polyline
maybe_line l = cond l.there (Some (points_of l.line)) None

-- a line within its array
pub record Roomy (l : Line) : Type 0 where
  pub few : l.count ≤ 64
  pub long : length l.coords ≡ 192

-- a line that was read, or made
pub record LineRead (o : Option Polyline) (r : MaybeLine) : Type 0 where
  pub answer : maybe_line r ≡ o
  pub room : Roomy r.line

-- a side of a lane
abbrev pub side_of : ℕ → Bool → BoundaryRef
side_of n r = record { boundary = n; reversed = r }

-- the same with its name
abbrev pub side_read : Side → NamedSide
side_read s = record { side = s.side; boundary = side_of s.number s.reversed }

-- the left one, then the right one
abbrev pub sides_of : LaneRow → List NamedSide
sides_of r = record { side = Left; boundary = side_of r.left r.left_reversed } ∷ record { side = Right; boundary = side_of r.right r.right_reversed } ∷ []

-- past them
abbrev pub no_side : NamedSide
no_side = record { side = Left; boundary = side_of 0 false }

-- the line between both
abbrev pub between_sides : Map → LaneRow → Option Polyline
between_sides m r = between (oriented m (side_of r.left r.left_reversed)) (oriented m (side_of r.right r.right_reversed))

-- the nearest point of a side: none where its boundary is missing, and none of its points where it has none
abbrev pub side_nearest : SideNearest → Option (Option NearestPoint)
side_nearest r = cond r.there (Some r.nearest) None

abbrev pub nearest_in : Option Polyline → Point2 → Option (Option NearestPoint)
nearest_in None p = None
nearest_in (Some l) p = Some (nearest_point l p)

-- ---- the cross-section

abbrev pub end_of : SectionEnd → End
end_of x = record { lateral = x.lateral; point = x.point; name = x.name }

abbrev pub maybe_end : Option SectionEnd → Option End
maybe_end (Some x) = Some (end_of x)
maybe_end None = None

abbrev pub ends_of : SectionEnds → Ends
ends_of x = record { left = maybe_end x.left; right = maybe_end x.right }

abbrev pub walked : Option SectionEnds → Answer Ends
walked (Some x) = done (ends_of x)
walked None = refused 6 (4 ∷ [])

abbrev pub section_answer : Result (CrossSection × SectionNames) Refusal → Answer Section
section_answer (Ok (x, n)) = done (record { points = x.left ∷ x.right ∷ []; names = n })
section_answer (Err r) = refused_as r

-- both names, where they are told
abbrev pub maybe_ends : Option SectionNames → Option SectionNames
maybe_ends (Some x) = Some x
maybe_ends None = None
