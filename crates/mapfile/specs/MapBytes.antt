-- Whether bytes are a map file, and the parts of the question.
use Rattle.std.specs.Prelude.{ℕ, ◌+◌, ◌≤◌, ◌≡◌, Bool, true, false, List, Option, None, Some}
use Rattle.rows.specs.Lists.{total}
use Rattle.codec.specs.Format.{Bytes, Format, ◌⊗◌, file_of}
use Rattle.map.specs.Record.{Lane, LineString, Signal, Crosswalk, Rule}
use Rattle.map.specs.Ceilings.{lane_points, line_string_points, signal_points, crosswalk_points, rule_points, max_boundaries, max_stop_lines, max_signals, max_crosswalks, max_rules}
use Rattle.map.specs.MapFile.{line_string, signal, crosswalk, rule, table, tables, map_file}
use Rattle.fields.specs.Fields.{Place, read_at, got_at}
use Rattle.checking.specs.Checking.{Checked, end_of, points_of, seen}

abbrev pub is_there : {A : Type 0} → Option A → Bool
is_there None = false
is_there (Some a) = true

-- the bytes are a map file
unfoldable pub is_map_file : Bytes → Bool
is_map_file s = is_there (file_of map_file s)

-- signals, crosswalks and rules
unfoldable pub marks : ℕ → Format (List Signal × (List Crosswalk × List Rule))
marks next = table (λ r. r.num) max_signals signal next ⊗ table (λ r. r.num) max_crosswalks crosswalk next ⊗ table (λ r. r.num) max_rules rule next

abbrev pub mark_points : List Signal × (List Crosswalk × List Rule) → ℕ
mark_points x = total signal_points x.0 + (total crosswalk_points x.1.0 + total rule_points x.1.1)

-- boundaries, stop lines and what follows
unfoldable pub lines : ℕ → Format (List LineString × (List LineString × (List Signal × (List Crosswalk × List Rule))))
lines next = table (λ r. r.num) max_boundaries line_string next ⊗ table (λ r. r.num) max_stop_lines line_string next ⊗ marks next

abbrev pub line_points : List LineString × (List LineString × (List Signal × (List Crosswalk × List Rule))) → ℕ
line_points x = total line_string_points x.0 + (total line_string_points x.1.0 + mark_points x.1.1)

abbrev pub table_points : List Lane × (List LineString × (List LineString × (List Signal × (List Crosswalk × List Rule)))) → ℕ
table_points x = total lane_points x.0 + line_points x.1

pub record MarksChecked (s : Bytes) (p : Place) (next : ℕ) (r : Checked) : Type 0 where
  pub few : points_of r ≤ 73728
  pub is : got_at s (end_of r) (points_of r) ≡ seen mark_points (read_at (marks next) s p)

pub record LinesChecked (s : Bytes) (p : Place) (next : ℕ) (r : Checked) : Type 0 where
  pub few : points_of r ≤ 122880
  pub is : got_at s (end_of r) (points_of r) ≡ seen line_points (read_at (lines next) s p)

pub record TablesChecked (s : Bytes) (p : Place) (next : ℕ) (r : Checked) : Type 0 where
  pub few : points_of r ≤ 147456
  pub is : got_at s (end_of r) (points_of r) ≡ seen table_points (read_at (tables next) s p)
