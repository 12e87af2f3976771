-- What joining a light leaves of its rule.
use Rattle.std.specs.Prelude.{ℕ, ◌≤◌, ◌<◌, ◌≡◌, not, cond, List, eqb, Float, length, take, set, Option, None, Some}
use Rattle.rows.specs.Lists.{or_else}
use Rattle.store.specs.Layout.{count_of, row_of, coords_of, all_coords, Kept}
use Rattle.map.specs.declared.Entries.{Entries}
use Rattle.map.specs.declared.RuleHead.{RuleHead}
use Rattle.map.specs.Record.{Rule}
use Rattle.map.specs.Rows.{rule_with, with_rules}
use Rattle.map.specs.Tables.{rule_in, map_of}
use Rattle.edit.specs.Light.{extended, joined_lanes}
use Rattle.grouping.specs.declared.LineWords.{LineWords}

-- the joined lanes where they fit, and that they do not
pub record JoinedRead (ls lanes : List ℕ) (r : Entries) : Type 0 where
  pub room : length r.entries ≡ 16
  pub fits : r.count ≤ 16 → take r.count r.entries ≡ joined_lanes ls lanes
  pub full : 16 < r.count → 16 < length (joined_lanes ls lanes)

abbrev pub line_words : LineWords → Option ℕ
line_words w = cond (not (eqb w.flag 0)) (Some w.number) None

pub record LineKept (h : RuleHead) (line : Option ℕ) (w : LineWords) : Type 0 where
  pub answer : line_words w ≡ or_else (cond h.has_line (Some h.line) None) line

-- the rule as the definition's `grouped` replaces it
abbrev pub joined_rule : Rule → ℕ → Option ℕ → List ℕ → Rule
joined_rule r n line lanes = rule_with r (extended r.body n line) lanes r.controlled

pub record GroupPut (ws : List ℕ) (i n : ℕ) (line : Option ℕ) (lanes ws' : List ℕ) : Type 0 where
  pub map : (cs : List Float) → length cs ≡ all_coords → map_of ws' cs
      ≡ with_rules (map_of ws cs) (set (map_of ws cs).rules i (joined_rule (rule_in (row_of ws 5 i) (coords_of cs 5 i)) n line lanes))
  pub count : count_of ws' 5 ≡ count_of ws 5
  pub kept : (cs : List Float) → length cs ≡ all_coords → Kept ws cs 5 ws' cs
