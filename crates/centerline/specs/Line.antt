-- What the arrays stand for.
use Rattle.std.specs.Prelude.{ℕ, ◌+◌, ◌*◌, ◌<◌, ◌≡◌, List, [], ◌∷◌, ◌++◌, length, get_or, take, replicate, Float, Option, None, Some}
use Rattle.std.specs.Float.{nan}
use Rattle.rows.specs.Lists.{list_to}
use Rattle.geometry.specs.declared.Point3.{Point3}
use Rattle.geometry.specs.declared.Location.{Location}
use Rattle.geometry.specs.Double.{f0, half}
use Rattle.geometry.specs.Point.{lerp}
use Rattle.geometry.specs.Polyline.{Polyline, point_in, segment_length, length_to, reach, locate}
use Rattle.centerline.specs.declared.Line.{Line}
use Rattle.centerline.specs.declared.Stations.{Stations}

-- the points of a line
unfoldable pub points_of : Line → Polyline
points_of l = list_to (point_in l.coords) l.count

-- the points of a line that may be missing
unfoldable pub line_option : Option Line → Option Polyline
line_option None = None
line_option (Some l) = Some (points_of l)

-- one point more
pub record Pushed (l : Line) (p : Point3) (m : Line) : Type 0 where
  pub count : m.count ≡ l.count + 1
  pub points : points_of m ≡ points_of l ++ (p ∷ [])

-- no points, and every coordinate 0
pub record Empty (l : Line) : Type 0 where
  pub count : l.count ≡ 0
  pub coords : l.coords ≡ replicate 192 f0

unfoldable pub stations_of : Stations → List Float
stations_of s = take s.count s.values

-- A polyline measured once: at 2 * j the length up to point j, and after it the length of segment j.
pub record Measured (xs : Polyline) (table : List Float) : Type 0 where
  pub station : (j : ℕ) → j < length xs → get_or table (j * 2) nan ≡ length_to xs j
  pub segment : (j : ℕ) → j + 1 < length xs → get_or table (j * 2 + 1) nan ≡ segment_length xs j

-- no segment before i reaches the station
pub record Passed (xs : Polyline) (s : Float) (i : ℕ) : Type 0 where
  pub short : (j : ℕ) → j < i → reach xs s j ≡ None

-- where the station lies, and nothing before it
pub record Located (xs : Polyline) (s : Float) (l : Location) : Type 0 where
  pub place : locate xs s ≡ Some l
  pub passed : Passed xs s l.segment
  pub within : l.segment < length xs

-- half-way between two lists of coordinates, point by point
unfoldable pub halfway_to : List Float → List Float → ℕ → Polyline
halfway_to l r n = list_to (λ (i : ℕ). lerp (point_in l i) (point_in r i) half) n
