-- What a housing stands for, and its definition with the centreline at hand.
use Rattle.std.specs.Prelude.{◌≡◌, Bool, cond, List, [], ◌∷◌, Float, Option, None, Some}
use Rattle.refusal.specs.Answer.{Answer, done, ◌>>=◌, ◌>>◌, present}
use Rattle.geometry.specs.Double.{half}
use Rattle.geometry.specs.Point.{xy}
use Rattle.geometry.specs.Polyline.{Polyline, polyline_of, point_at_fraction, direction_at, nearest_point}
use Rattle.centerline.specs.declared.Line.{Line}
use Rattle.centerline.specs.Line.{points_of}
use Rattle.changes.specs.ChangeSet.{warning}
use Rattle.place.specs.Place.{Placed}
use Rattle.place.specs.Values.{Roomy}
use Rattle.placing.specs.Answers.{checked}
use Rattle.edit.specs.Light.{housing_at, station_of}
use Rattle.lighting.specs.declared.Housing.{Housing}

-- a warning where it was made up
abbrev pub housing_of : Line → Bool → Placed
housing_of l b = record { points = points_of l; warnings = cond b (warning 3 None ∷ []) []; ends = None }

abbrev pub housing_answer : Housing → Answer Placed
housing_answer h = checked h.checked >> done (housing_of h.line h.synthesized)

pub record HousingRead (x : Answer Placed) (h : Housing) : Type 0 where
  pub answer : housing_answer h ≡ x
  pub room : Roomy h.line

unfoldable pub synthesized_on : Option Polyline → Polyline → Answer Polyline
synthesized_on center anchor = do
  mid ← present (point_at_fraction anchor half) 6 (6 ∷ [])
  c ← present center 6 (1 ∷ [])
  dir ← present (direction_at c (station_of (nearest_point c (xy mid)))) 6 (3 ∷ [])
  done (housing_at mid dir)

unfoldable pub housing_on : Option Polyline → Polyline → Option (List Float) → Answer Placed
housing_on center anchor (Some cs) = done (record { points = polyline_of cs; warnings = []; ends = None })
housing_on center anchor None = do
  xs ← synthesized_on center anchor
  done (record { points = xs; warnings = warning 3 None ∷ []; ends = None })
