-- Records of any kind, read into their places in the tables.
use Rattle.std.specs.Prelude.{ℕ, ◌+◌, ◌*◌, ◌≤◌, ◌<◌, ◌⊎◌, ◌≡◌, List, Float, length, get_or}
use Rattle.codec.specs.Format.{Bytes}
use Rattle.codec.specs.Items.{list}
use Rattle.store.specs.Layout.{limit_of, width_of, base_of, coord_width_of, coord_base_of, place_of, coord_place_of, count_of, row_of, coords_of, records_of}
use Rattle.fields.specs.Fields.{Place, read_at, got_at, Changed}
use Rattle.records.specs.Records.{record_form, record_in}

-- row i of kind k holds what was read, and nothing else has changed
pub record RowLoaded (s : Bytes) (p : Place) (k i : ℕ) (ws : List ℕ) (cs : List Float) (r : Place) (ws' : List ℕ) (cs' : List Float) : Type 0 where
  pub words : Changed ws (place_of k i) (place_of k i + width_of k) ws'
  pub coords : Changed cs (coord_place_of k i) (coord_place_of k i + coord_width_of k) cs'
  pub is : got_at s r (record_in k (row_of ws' k i) (coords_of cs' k i)) ≡ read_at (record_form k) s p

-- table k holds what was read; its count and its rows apart nothing has changed
pub record TableLoaded (s : Bytes) (p : Place) (k : ℕ) (ws : List ℕ) (cs : List Float) (r : Place) (ws' : List ℕ) (cs' : List Float) : Type 0 where
  pub long : length ws' ≡ length ws
  pub words : (j : ℕ) → (j < base_of k) ⊎ (base_of k + limit_of k * width_of k ≤ j) → (j ≡ 1 + k → ⊥) → get_or ws' j 0 ≡ get_or ws j 0
  pub coords : Changed cs (coord_base_of k) (coord_base_of k + limit_of k * coord_width_of k) cs'
  pub few : count_of ws' k ≤ limit_of k
  pub is : got_at s r (records_of (record_in k) ws' cs' k) ≡ read_at (list (limit_of k) (record_form k)) s p
