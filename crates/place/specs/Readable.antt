-- Tables that can be read: what the readers ask, and what every map's tables give.
use Rattle.std.specs.Prelude.{ℕ, ◌≤◌, ◌<◌, ◌≡◌, true, List, Float, length, get_or}
use Rattle.store.specs.Layout.{SizedWords, all_coords, count_of, row_of}
use Rattle.map.specs.Tables.{flag_at}

-- every polyline has at most 64 points, and every rule's list of lanes or crosswalks at most 16 entries
pub record ReadableWords (ws : List ℕ) : Type 0 where
  pub sized : SizedWords ws
  pub center : (i : ℕ) → i < count_of ws 0 → flag_at (row_of ws 0 i) 6 ≡ true → get_or (row_of ws 0 i) 7 0 ≤ 64
  pub boundary : (i : ℕ) → i < count_of ws 1 → get_or (row_of ws 1 i) 1 0 ≤ 64
  pub line : (i : ℕ) → i < count_of ws 2 → get_or (row_of ws 2 i) 1 0 ≤ 64
  pub lanes : (i : ℕ) → i < count_of ws 5 → get_or (row_of ws 5 i) 7 0 ≤ 16
  pub controlled : (i : ℕ) → i < count_of ws 5 → get_or (row_of ws 5 i) 24 0 ≤ 16

pub record Readable (ws : List ℕ) (cs : List Float) : Type 0 where
  pub words : ReadableWords ws
  pub coords : length cs ≡ all_coords
