-- The ceilings, and whether a map keeps below them.
use Rattle.std.specs.Prelude.{ℕ, ◌+◌, Bool, true, ◌&&◌, List, leb, length, Option, None, Some}
use Rattle.geometry.specs.Polyline.{Polyline}
use Rattle.rows.specs.Lists.{every, total, open_lists}
use Rattle.map.specs.Record.{Lane, LineString, Signal, Crosswalk, RuleBody, light, sign, marking, right_of_way, crossing, other, Rule, Map}

abbrev pub max_lanes : ℕ
max_lanes = 64

abbrev pub max_boundaries : ℕ
max_boundaries = 128

abbrev pub max_stop_lines : ℕ
max_stop_lines = 64

abbrev pub max_signals : ℕ
max_signals = 64

abbrev pub max_crosswalks : ℕ
max_crosswalks = 32

abbrev pub max_rules : ℕ
max_rules = 128

-- a polyline or a stored outline
abbrev pub max_line_points : ℕ
max_line_points = 64

-- all polylines and outlines, bulbs apart
abbrev pub max_points : ℕ
max_points = 1024

abbrev pub max_bulbs : ℕ
max_bulbs = 4

-- a list of a rule
abbrev pub max_rule_entries : ℕ
max_rule_entries = 16

-- ---- one record

abbrev pub at_most : {A : Type 0} → ℕ → List A → Bool
at_most n xs = leb (length xs) n

module _ {A : Type 0} where
  unfoldable pub if_there : (A → Bool) → Option A → Bool
  if_there p None = true
  if_there p (Some a) = p a

  unfoldable pub size_of : (A → ℕ) → Option A → ℕ
  size_of f None = 0
  size_of f (Some a) = f a

unfoldable pub line_within : Polyline → Bool
line_within xs = at_most max_line_points xs

unfoldable pub lane_within : Lane → Bool
lane_within l = if_there line_within l.centerline

unfoldable pub line_string_within : LineString → Bool
line_string_within d = line_within d.geometry

unfoldable pub signal_within : Signal → Bool
signal_within s = line_within s.geometry && at_most max_bulbs s.bulbs

unfoldable pub crosswalk_within : Crosswalk → Bool
crosswalk_within c = line_within c.left && line_within c.right && if_there line_within c.outline

unfoldable pub body_within : RuleBody → Bool
body_within (light signals line) = at_most max_rule_entries signals
body_within (sign type shape line) = if_there line_within shape
body_within (marking line) = true
body_within (right_of_way priority yielding stop_lines) = at_most max_rule_entries priority && at_most max_rule_entries yielding && at_most max_rule_entries stop_lines
body_within (crossing c stop_lines) = at_most max_rule_entries stop_lines
body_within (other k) = true

unfoldable pub rule_within : Rule → Bool
rule_within r = body_within r.body && at_most max_rule_entries r.lanes && at_most max_rule_entries r.controlled

-- ---- points

unfoldable pub lane_points : Lane → ℕ
lane_points l = size_of length l.centerline

unfoldable pub line_string_points : LineString → ℕ
line_string_points d = length d.geometry

unfoldable pub signal_points : Signal → ℕ
signal_points s = length s.geometry

unfoldable pub crosswalk_points : Crosswalk → ℕ
crosswalk_points c = length c.left + length c.right + size_of length c.outline

unfoldable pub body_points : RuleBody → ℕ
body_points (light signals line) = 0
body_points (sign type shape line) = size_of length shape
body_points (marking line) = 0
body_points (right_of_way priority yielding stop_lines) = 0
body_points (crossing c stop_lines) = 0
body_points (other k) = 0

unfoldable pub rule_points : Rule → ℕ
rule_points r = body_points r.body

-- the points of all polylines and outlines, bulbs apart
unfoldable pub points : Map → ℕ
points m =
    total lane_points m.lanes + total line_string_points m.boundaries + total line_string_points m.stop_lines
    + total signal_points m.signals + total crosswalk_points m.crosswalks + total rule_points m.rules

-- ---- the map

unfoldable pub within_ceilings : Map → Bool
within_ceilings m =
    at_most max_lanes m.lanes && at_most max_boundaries m.boundaries && at_most max_stop_lines m.stop_lines && at_most max_signals m.signals
    && at_most max_crosswalks m.crosswalks && at_most max_rules m.rules
    && every lane_within m.lanes && every line_string_within m.boundaries && every line_string_within m.stop_lines && every signal_within m.signals
    && every crosswalk_within m.crosswalks && every rule_within m.rules && leb (points m) max_points

unfoldable pub open_ceilings : Unit {0}
unfolding open_lists if_there size_of line_within lane_within line_string_within signal_within crosswalk_within body_within rule_within lane_points line_string_points signal_points crosswalk_points body_points rule_points points within_ceilings
open_ceilings = tt
