-- What the lent arrays stand for once an answer is written.
use Rattle.std.specs.Prelude.{ℕ, Bool, cond, List, get_or, Float}
use Rattle.std.specs.Float.{nan}
use Rattle.refusal.specs.Answer.{Answer, done, ◌>>=◌}
use Rattle.geometry.specs.declared.Point2.{Point2}
use Rattle.geometry.specs.declared.Point3.{Point3}
use Rattle.geometry.specs.declared.Location.{Location}
use Rattle.geometry.specs.declared.NearestPoint.{NearestPoint}
use Rattle.geometry.specs.Point.{at2, at3}
use Rattle.geometry.specs.Polyline.{Polyline}
use Rattle.centerline.specs.Line.{points_of, stations_of}

-- two arrays: numbers, and one word
pub record Lent : Type 0 where
  pub reals : List Float
  pub words : List ℕ

abbrev pub lent : List Float → List ℕ → Lent
lent out word = record { reals = out; words = word }

abbrev pub word_in : List ℕ → ℕ
word_in ws = get_or ws 0 0

abbrev pub number_in : List Float → Float
number_in out = get_or out 0 nan

abbrev pub plane_in : List Float → Point2
plane_in out = at2 (get_or out 0 nan) (get_or out 1 nan)

abbrev pub space_in : List Float → Point3
space_in out = at3 (get_or out 0 nan) (get_or out 1 nan) (get_or out 2 nan)

-- the word is the segment
abbrev pub location_in : Lent → Location
location_in m = record { segment = word_in m.words; fraction = number_in m.reals }

-- point, distance, station, lateral; the word is the segment
abbrev pub nearest_in : Lent → NearestPoint
nearest_in m =
    record {
      point = space_in m.reals;
      distance = get_or m.reals 3 nan;
      station = get_or m.reals 4 nan;
      segment = word_in m.words;
      lateral = get_or m.reals 5 nan;
    }

-- the word is the count of points; what comes after them has no meaning
abbrev pub line_in : Lent → Polyline
line_in m = points_of (record { coords = m.reals; count = word_in m.words })

abbrev pub stations_in : Lent → List Float
stations_in m = stations_of (record { values = m.reals; count = word_in m.words })

-- a truth as a word: 1 for yes, 0 for no
unfoldable pub flagged : Answer Bool → Answer ℕ
flagged a = a >>= λ (b : Bool). done (cond b 1 0)
