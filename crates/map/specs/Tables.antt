-- The map that two lists stand for: words and coordinates, laid out as docs/TABLES.md says. Counts are taken as they stand, so a list, a polyline or a
-- table whose count is past its room stands for a list of that length, and that is no map.
use Rattle.std.specs.Prelude.{ℕ, zero, suc, ◌+◌, ◌*◌, Bool, ◌&&◌, not, cond, List, eqb, Float, length, get_or, Option, None, Some}
use Rattle.std.specs.Float.{nan}
use Rattle.geometry.specs.declared.Point3.{Point3}
use Rattle.geometry.specs.Point.{at3}
use Rattle.geometry.specs.Polyline.{Polyline}
use Rattle.rows.specs.Lists.{list_to}
use Rattle.store.specs.Layout.{all_words, all_coords, next_of, records_of}
use Rattle.map.specs.Record.{Lane, LineString, Bulb, Signal, Crosswalk, RuleBody, light, sign, marking, right_of_way, crossing, other, Rule, Map}
use Rattle.map.specs.MapFile.{is_map}

-- ---- fields; r is a row of words, c its coordinates

unfoldable pub flag_at : List ℕ → ℕ → Bool
flag_at r o = not (eqb (get_or r o 0) 0)

-- the value, where the flag says yes
abbrev pub option_at : {A : Type 0} → List ℕ → ℕ → A → Option A
option_at r o a = cond (flag_at r o) (Some a) None

-- a count and as many numbers
unfoldable pub list_at : List ℕ → ℕ → List ℕ
list_at r o = list_to (λ i. get_or r (o + 1 + i) 0) (get_or r o 0)

unfoldable pub point_from : List Float → ℕ → Point3
point_from c o = at3 (get_or c o nan) (get_or c (o + 1) nan) (get_or c (o + 2) nan)

-- n points, from coordinate o on
unfoldable pub line_at : List Float → ℕ → ℕ → Polyline
line_at c o n = list_to (λ i. point_from c (o + i * 3)) n

-- ---- records

unfoldable pub lane_in : List ℕ → List Float → Lane
lane_in r c =
    record {
      num = get_or r 0 0;
      kind = get_or r 1 0;
      left = record { boundary = get_or r 2 0; reversed = flag_at r 3 };
      right = record { boundary = get_or r 4 0; reversed = flag_at r 5 };
      centerline = option_at r 6 (line_at c 0 (get_or r 7 0));
    }

-- a boundary, or a stop line
unfoldable pub line_string_in : List ℕ → List Float → LineString
line_string_in r c = record { num = get_or r 0 0; geometry = line_at c 0 (get_or r 1 0) }

unfoldable pub bulb_at : List ℕ → List Float → ℕ → Bulb
bulb_at r c i = record { position = point_from c (193 + i * 3); color = get_or r (5 + i * 2) 0; arrow = get_or r (6 + i * 2) 0 }

unfoldable pub signal_in : List ℕ → List Float → Signal
signal_in r c =
    record {
      num = get_or r 0 0;
      kind = get_or r 1 0;
      geometry = line_at c 0 (get_or r 2 0);
      height = option_at r 3 (get_or c 192 nan);
      bulbs = list_to (bulb_at r c) (get_or r 4 0);
    }

unfoldable pub crosswalk_in : List ℕ → List Float → Crosswalk
crosswalk_in r c =
    record {
      num = get_or r 0 0;
      left = line_at c 0 (get_or r 1 0);
      right = line_at c 192 (get_or r 2 0);
      outline = option_at r 3 (line_at c 384 (get_or r 4 0));
    }

-- a rule's fields by its kind; there is no rule of another kind, and the one of kind 6 and value 0 stands for it, which no map has
abbrev pub body_of : ℕ → List ℕ → List Float → RuleBody
body_of zero r c = other 0
body_of (suc zero) r c = light (list_at r 41) (option_at r 3 (get_or r 4 0))
body_of (suc (suc zero)) r c = sign (get_or r 2 0) (option_at r 5 (line_at c 0 (get_or r 6 0))) (option_at r 3 (get_or r 4 0))
body_of (suc (suc (suc zero))) r c = marking (get_or r 4 0)
body_of (suc (suc (suc (suc zero)))) r c = right_of_way (list_at r 41) (list_at r 58) (list_at r 75)
body_of (suc (suc (suc (suc (suc zero))))) r c = crossing (get_or r 2 0) (list_at r 75)
body_of (suc (suc (suc (suc (suc (suc zero)))))) r c = other (get_or r 2 0)
body_of (suc (suc (suc (suc (suc (suc (suc k))))))) r c = other 0

unfoldable pub rule_in : List ℕ → List Float → Rule
rule_in r c = record { num = get_or r 0 0; body = body_of (get_or r 1 0) r c; lanes = list_at r 7; controlled = list_at r 24 }

-- ---- the map

unfoldable pub map_of : List ℕ → List Float → Map
map_of ws cs =
    record {
      next = next_of ws;
      lanes = records_of lane_in ws cs 0;
      boundaries = records_of line_string_in ws cs 1;
      stop_lines = records_of line_string_in ws cs 2;
      signals = records_of signal_in ws cs 3;
      crosswalks = records_of crosswalk_in ws cs 4;
      rules = records_of rule_in ws cs 5;
    }

-- lists that are tables of a map: their lengths, and the map that they stand for is one
unfoldable pub is_map_tables : List ℕ → List Float → Bool
is_map_tables ws cs = eqb (length ws) all_words && eqb (length cs) all_coords && is_map (map_of ws cs)

unfoldable pub open_tables : Unit {0}
unfolding flag_at list_at point_from line_at lane_in line_string_in bulb_at signal_in crosswalk_in rule_in map_of is_map_tables
open_tables = tt
