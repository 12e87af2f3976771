-- Passing over a table: whether it stands there, where it ends, and how many points its records have.
use Rattle.std.specs.Prelude.{ℕ, zero, suc, ◌+◌, ◌≤◌, ◌≡◌, cond, List, eqb, get_or, Option, Some, None}
use Rattle.rows.specs.Lists.{total}
use Rattle.codec.specs.Format.{Bytes, Read, fault, got, Format}
use Rattle.map.specs.Ceilings.{lane_points, line_string_points, signal_points, crosswalk_points, rule_points}
use Rattle.map.specs.MapFile.{table}
use Rattle.map.specs.Tables.{flag_at}
use Rattle.store.specs.Layout.{limit_of}
use Rattle.fields.specs.Fields.{Place, read_at, got_at}
use Rattle.records.specs.Records.{Rec, record_form}

abbrev pub record_num : (k : ℕ) → Rec k → ℕ
record_num zero r = r.num
record_num (suc zero) r = r.num
record_num (suc (suc zero)) r = r.num
record_num (suc (suc (suc zero))) r = r.num
record_num (suc (suc (suc (suc zero)))) r = r.num
record_num (suc (suc (suc (suc (suc zero))))) r = r.num
record_num (suc (suc (suc (suc (suc (suc k)))))) r = 0

-- the points of a record, bulbs apart
unfoldable pub record_points : (k : ℕ) → Rec k → ℕ
record_points zero r = lane_points r
record_points (suc zero) r = line_string_points r
record_points (suc (suc zero)) r = line_string_points r
record_points (suc (suc (suc zero))) r = signal_points r
record_points (suc (suc (suc (suc zero)))) r = crosswalk_points r
record_points (suc (suc (suc (suc (suc zero))))) r = rule_points r
record_points (suc (suc (suc (suc (suc (suc k)))))) r = 0

-- the same of a row's words
unfoldable pub points_in : ℕ → List ℕ → ℕ
points_in zero r = cond (flag_at r 6) (get_or r 7 0) 0
points_in (suc zero) r = get_or r 1 0
points_in (suc (suc zero)) r = get_or r 1 0
points_in (suc (suc (suc zero))) r = get_or r 2 0
points_in (suc (suc (suc (suc zero)))) r = get_or r 1 0 + get_or r 2 0 + cond (flag_at r 3) (get_or r 4 0) 0
points_in (suc (suc (suc (suc (suc zero))))) r = cond (eqb (get_or r 1 0) 2) (cond (flag_at r 5) (get_or r 6 0) 0) 0
points_in (suc (suc (suc (suc (suc (suc k)))))) r = 0

abbrev pub table_form : (k next : ℕ) → Format (List (Rec k))
table_form k next = table (record_num k) (limit_of k) (record_form k) next

-- of what is read, what is kept
abbrev pub seen : {A B : Type 0} → (A → B) → Read A → Read B
seen v fault = fault
seen v (got a s) = got (v a) s

-- what is passed over: its points, and where it ends
abbrev pub Checked : Type 0
Checked = Option (ℕ × ℕ)

abbrev pub end_of : Checked → Place
end_of (Some r) = Some r.1
end_of None = None

abbrev pub points_of : Checked → ℕ
points_of (Some r) = r.0
points_of None = 0

pub record TableChecked (s : Bytes) (p : Place) (k next : ℕ) (r : Checked) : Type 0 where
  pub few : points_of r ≤ 24576
  pub is : got_at s (end_of r) (points_of r) ≡ seen (total (record_points k)) (read_at (table_form k next) s p)
