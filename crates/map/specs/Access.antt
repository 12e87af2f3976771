-- What the readers of the tables answer.
use Rattle.std.specs.Prelude.{ℕ, ◌≡◌, Bool, List, ltb, Float, get_or, length, take, Option, Some, None}
use Rattle.std.specs.Bool.{then_some}
use Rattle.geometry.specs.Polyline.{Polyline}
use Rattle.rows.specs.Rows.{numbers_at, index_of}
use Rattle.store.specs.Layout.{width_of, base_of, count_of}
use Rattle.map.specs.declared.LaneRow.{LaneRow}
use Rattle.map.specs.declared.RuleHead.{RuleHead}
use Rattle.map.specs.declared.Entries.{Entries}
use Rattle.map.specs.Record.{Lane}
use Rattle.map.specs.Entity.{has, entity}
use Rattle.map.specs.Tables.{flag_at, list_at, line_at, lane_in, map_of}

-- where the first record of kind k with number x stands
unfoldable pub index_in : List ℕ → ℕ → ℕ → ℕ
index_in ws k x = index_of x (numbers_at ws (width_of k) (count_of ws k) (base_of k))

-- where a record stands in its table: `Some` of its index
abbrev pub Found : Type 0
Found = Option ℕ

abbrev pub found_at : ℕ → ℕ → Found
found_at i n = then_some (ltb i n) i

unfoldable pub lookup : List ℕ → ℕ → ℕ → Found
lookup ws k x = found_at (index_in ws k x) (count_of ws k)

-- the centreline of so many points, where a lane has one of its own
abbrev pub centerline_of_row : Option ℕ → List Float → Option Polyline
centerline_of_row None c = None
centerline_of_row (Some n) c = Some (line_at c 0 n)

-- the lane that a row read by value is; its centreline's points are among the coordinates
unfoldable pub lane_of_row : LaneRow → List Float → Lane
lane_of_row r c =
    record {
      num = r.number;
      kind = r.kind;
      left = record { boundary = r.left; reversed = r.left_reversed };
      right = record { boundary = r.right; reversed = r.right_reversed };
      centerline = centerline_of_row r.centerline c;
    }

pub record LaneRead (row : List ℕ) (r : LaneRow) : Type 0 where
  pub lane : (c : List Float) → lane_of_row r c ≡ lane_in row c

-- whether the map has a record, whatever the coordinates
pub record HasRead (ws : List ℕ) (k n : ℕ) (b : Bool) : Type 0 where
  pub answer : (cs : List Float) → b ≡ has (map_of ws cs) (entity k n)

-- a rule's words but its lists
pub record HeadRead (row : List ℕ) (r : RuleHead) : Type 0 where
  pub number : r.number ≡ get_or row 0 0
  pub kind : r.kind ≡ get_or row 1 0
  pub value : r.value ≡ get_or row 2 0
  pub has_line : r.has_line ≡ flag_at row 3
  pub line : r.line ≡ get_or row 4 0
  pub has_shape : r.has_shape ≡ flag_at row 5
  pub points : r.points ≡ get_or row 6 0

-- a list by value
pub record ListRead (row : List ℕ) (o : ℕ) (r : Entries) : Type 0 where
  pub count : r.count ≡ get_or row o 0
  pub room : length r.entries ≡ 16
  pub entries : take r.count r.entries ≡ list_at row o
