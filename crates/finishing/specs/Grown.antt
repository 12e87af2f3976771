-- Whether a map that an edit made keeps below the ceilings: what has to be tested, where the edit left a map's lanes, boundaries and crosswalks as they were.
use Rattle.std.specs.Prelude.{◌+◌, ◌≡◌, Bool, ◌&&◌, List, ◌++◌, leb, length}
use Rattle.rows.specs.Lists.{every}
use Rattle.map.specs.Record.{LineString, Signal, Map}
use Rattle.map.specs.Ceilings.{max_stop_lines, max_signals, max_rules, max_points, line_string_within, signal_within, rule_within, points}

-- n has the lanes, boundaries and crosswalks of m, and more lines and signals
pub record Grown (m n : Map) (lines : List LineString) (signals : List Signal) : Type 0 where
  pub same_lanes : n.lanes ≡ m.lanes
  pub same_boundaries : n.boundaries ≡ m.boundaries
  pub more_lines : n.stop_lines ≡ m.stop_lines ++ lines
  pub more_signals : n.signals ≡ m.signals ++ signals
  pub same_crosswalks : n.crosswalks ≡ m.crosswalks

-- the counts, the new lines and signals, all rules, and all points
unfoldable pub grown_within : Map → Map → List LineString → List Signal → Bool
grown_within m n lines signals =
    leb (length m.stop_lines + length lines) max_stop_lines && leb (length m.signals + length signals) max_signals && leb (length n.rules) max_rules
    && every line_string_within lines && every signal_within signals && every rule_within n.rules && leb (points n) max_points
