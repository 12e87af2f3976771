-- What the code's answers stand for.
use Rattle.std.specs.Prelude.{ℕ, ◌≡◌, not, cond, List, [], ◌∷◌, Float, Option, None, Some, Err, Ok, Result}
use Rattle.refusal.specs.Answer.{Answer, done, refused_as, ◌>>=◌, ◌>>◌, refuse_when}
use Rattle.refusal.specs.declared.Refusal.{Refusal}
use Rattle.geometry.specs.Double.{f0, is_finite, clamp}
use Rattle.geometry.specs.Polyline.{Polyline, polyline_of}
use Rattle.centerline.specs.Line.{points_of}
use Rattle.map.specs.Record.{Map}
use Rattle.map.specs.Entity.{entity}
use Rattle.map.specs.Lookup.{unknown_in}
use Rattle.map.specs.Tables.{map_of}
use Rattle.changes.specs.ChangeSet.{warning}
use Rattle.place.specs.Place.{Placed, check_lane_list, check_polyline, clamp_warning}
use Rattle.place.specs.Steps.{section_on}
use Rattle.place.specs.Values.{Roomy, maybe_ends}
use Rattle.placing.specs.declared.PlacedLine.{PlacedLine}

abbrev pub checked : Result (Unit {0}) Refusal → Answer (Unit {0})
checked (Ok tt) = done tt
checked (Err r) = refused_as r

-- ---- lists of lanes, whatever the coordinates

pub record UnknownRead (ws lanes : List ℕ) (r : Option ℕ) : Type 0 where
  pub answer : (cs : List Float) → r ≡ unknown_in (λ l. l.num) (map_of ws cs).lanes lanes

pub record LanesChecked (ws lanes : List ℕ) (r : Result (Unit {0}) Refusal) : Type 0 where
  pub answer : (cs : List Float) → checked r ≡ check_lane_list (map_of ws cs) lanes

-- ---- a line that was placed along the lane `reference`

abbrev pub placed_answer : ℕ → PlacedLine → Answer Placed
placed_answer reference a =
    checked a.checked >> done (record { points = points_of a.line; warnings = cond a.clamped (warning 1 (Some (entity 1 reference)) ∷ []) []; ends = maybe_ends a.ends })

pub record RefusedWith (r : Refusal) (a : PlacedLine) : Type 0 where
  pub answer : (reference : ℕ) → placed_answer reference a ≡ refused_as r
  pub room : Roomy a.line

-- ---- parts of the definitions that one function answers

-- at a station of a centreline that is there
unfoldable pub place_on : Map → Polyline → List ℕ → ℕ → Float → Float → Answer Placed
place_on m center lanes reference len station = do
  refuse_when (not (is_finite station)) 4 (3 ∷ [])
  let clamped = clamp station f0 len
  x ← section_on m center clamped lanes
  done (record { points = x.points; warnings = clamp_warning reference station clamped; ends = Some x.names })

unfoldable pub place_given : List Float → Answer Placed
place_given cs = check_polyline cs >> done (record { points = polyline_of cs; warnings = []; ends = None })
