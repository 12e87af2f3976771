-- A map file loaded into the tables.
use Rattle.std.specs.Prelude.{ℕ, ◌+◌, ◌≤◌, ◌<◌, ◌≡◌, List, Float, length, get_or}
use Rattle.std.specs.Float.{nan}
use Rattle.codec.specs.Format.{Bytes, Format, ◌⊗◌}
use Rattle.codec.specs.Number.{number}
use Rattle.codec.specs.Items.{list}
use Rattle.map.specs.Record.{LineString, Signal, Crosswalk, Rule}
use Rattle.map.specs.MapFile.{lane, line_string, signal, crosswalk, rule}
use Rattle.map.specs.Tables.{lane_in, line_string_in, signal_in, crosswalk_in, rule_in}
use Rattle.store.specs.Layout.{base_of, coord_base_of, next_of, records_of}
use Rattle.fields.specs.Fields.{Place, read_at, got_at}

-- the tables before table m, and the next number, are as they were
pub record Before (m : ℕ) (ws : List ℕ) (cs : List Float) (ws' : List ℕ) (cs' : List Float) : Type 0 where
  pub long : length ws' ≡ length ws
  pub coords_long : length cs' ≡ length cs
  pub head : (j : ℕ) → j < 1 + m → get_or ws' j 0 ≡ get_or ws j 0
  pub rows : (j : ℕ) → 7 ≤ j → j < base_of m → get_or ws' j 0 ≡ get_or ws j 0
  pub coords : (j : ℕ) → j < coord_base_of m → get_or cs' j nan ≡ get_or cs j nan

-- the lists of a map file, with no test of their numbers
abbrev pub mark_lists : Format (List Signal × (List Crosswalk × List Rule))
mark_lists = list 64 signal ⊗ list 32 crosswalk ⊗ list 128 rule

abbrev pub line_lists : Format (List LineString × (List LineString × (List Signal × (List Crosswalk × List Rule))))
line_lists = list 128 line_string ⊗ list 64 line_string ⊗ mark_lists

abbrev pub marks_in : List ℕ → List Float → List Signal × (List Crosswalk × List Rule)
marks_in ws cs = (records_of signal_in ws cs 3, (records_of crosswalk_in ws cs 4, records_of rule_in ws cs 5))

abbrev pub lines_in : List ℕ → List Float → List LineString × (List LineString × (List Signal × (List Crosswalk × List Rule)))
lines_in ws cs = (records_of line_string_in ws cs 1, (records_of line_string_in ws cs 2, marks_in ws cs))

pub record MarksLoaded (s : Bytes) (p : Place) (ws : List ℕ) (cs : List Float) (r : Place) (ws' : List ℕ) (cs' : List Float) : Type 0 where
  pub before : Before 3 ws cs ws' cs'
  pub is : got_at s r (marks_in ws' cs') ≡ read_at mark_lists s p

pub record LinesLoaded (s : Bytes) (p : Place) (ws : List ℕ) (cs : List Float) (r : Place) (ws' : List ℕ) (cs' : List Float) : Type 0 where
  pub before : Before 1 ws cs ws' cs'
  pub is : got_at s r (lines_in ws' cs') ≡ read_at line_lists s p

-- the whole file's next number and lists stand in the tables
pub record MapLoaded (s : Bytes) (ws : List ℕ) (cs : List Float) (r : Place) (ws' : List ℕ) (cs' : List Float) : Type 0 where
  pub long : length ws' ≡ length ws
  pub coords_long : length cs' ≡ length cs
  pub is : got_at s r (next_of ws', (records_of lane_in ws' cs' 0, lines_in ws' cs')) ≡ (number ⊗ list 64 lane ⊗ line_lists).read s
