-- Look-ups by number.
use Rattle.std.specs.Prelude.{ℕ, cond, List, Option, None, Some}
use Rattle.geometry.specs.Polyline.{Polyline, reversed}
use Rattle.rows.specs.Lists.{first_of}
use Rattle.rows.specs.Table.{find, holds}
use Rattle.map.specs.Record.{BoundaryRef, Lane, LineString, Signal, Rule, Map}

unfoldable pub lane_of : Map → ℕ → Option Lane
lane_of m n = find (λ l. l.num) n m.lanes

unfoldable pub boundary_of : Map → ℕ → Option LineString
boundary_of m n = find (λ b. b.num) n m.boundaries

unfoldable pub line_of : Map → ℕ → Option LineString
line_of m n = find (λ l. l.num) n m.stop_lines

unfoldable pub signal_of : Map → ℕ → Option Signal
signal_of m n = find (λ s. s.num) n m.signals

unfoldable pub rule_of : Map → ℕ → Option Rule
rule_of m n = find (λ r. r.num) n m.rules

-- a boundary's points, along the lane
unfoldable pub oriented : Map → BoundaryRef → Option Polyline
oriented m s = elim (boundary_of m s.boundary) [ None ↦ None | Some b ↦ Some (cond s.reversed (reversed b.geometry) b.geometry) ]

-- the first number of a list, as given, that the table lacks
unfoldable pub unknown_in : {A : Type 0} → (A → ℕ) → List A → List ℕ → Option ℕ
unknown_in num table = first_of (λ n. cond (holds num n table) None (Some n))

unfoldable pub open_lookup : Unit {0}
unfolding lane_of boundary_of line_of signal_of rule_of oriented unknown_in
open_lookup = tt
