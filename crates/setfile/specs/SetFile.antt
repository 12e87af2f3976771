-- The change set file and its table: what the writers ask of a table, and what the readers leave in one.
use Rattle.std.specs.Prelude.{ℕ, ◌+◌, ◌*◌, ◌≤◌, ◌<◌, ◌≡◌, ◌⊎◌, List, length, get_or}
use Rattle.rows.specs.Lists.{list_to}
use Rattle.codec.specs.Format.{Bytes, Format, ◌⊗◌}
use Rattle.codec.specs.Items.{list}
use Rattle.map.specs.Entity.{EntityRef}
use Rattle.changes.specs.ChangeSet.{Warning}
use Rattle.changes.specs.ChangeFile.{max_entries, entry, warnings}
use Rattle.changes.specs.Layout.{from_of, count_in, warnings_at, list_in}
use Rattle.sets.specs.Tables.{Roomy}
use Rattle.fields.specs.Fields.{Place, read_at, got_at, Changed}

-- counts within their lists' room, the warnings' too
pub record Counted (t : List ℕ) : Type 0 where
  pub lists : Roomy t
  pub warnings : count_in t 3 ≤ 160

-- what f reads from p on stands at word `at`, in w words
pub record ItemRead {A : Type 0} (f : Format A) (get : List ℕ → ℕ → A) (w : ℕ) (s : Bytes) (p : Place) (t : List ℕ) (at : ℕ) (r : Place) (t' : List ℕ) : Type 0 where
  pub words : Changed t at (at + w) t'
  pub is : got_at s r (get t' at) ≡ read_at f s p

-- a list of them: its count in word l, its items from word `from` on, with room for `most`
pub record ListRead {A : Type 0} (f : Format A) (get : List ℕ → ℕ → A) (w most from l : ℕ) (s : Bytes) (p : Place) (t : List ℕ) (r : Place) (t' : List ℕ) : Type 0 where
  pub long : length t' ≡ length t
  pub kept : (j : ℕ) → (j ≡ l → ⊥) → (j < from) ⊎ (from + most * w ≤ j) → get_or t' j 0 ≡ get_or t j 0
  pub few : get_or t' l 0 ≤ most
  pub is : got_at s r (list_to (λ i. get t' (from + i * w)) (get_or t' l 0)) ≡ read_at (list most f) s p

-- the lists of a set file, with no test of their order
abbrev pub loose_set : Format (List EntityRef × (List EntityRef × (List EntityRef × List Warning)))
loose_set = list max_entries entry ⊗ list max_entries entry ⊗ list max_entries entry ⊗ warnings

abbrev pub lists_in : List ℕ → List EntityRef × (List EntityRef × (List EntityRef × List Warning))
lists_in t = (list_in t 0, (list_in t 1, (list_in t 2, warnings_at t (from_of 3) (count_in t 3))))

pub record SetLoaded (s : Bytes) (t : List ℕ) (r : Place) (t' : List ℕ) : Type 0 where
  pub long : length t' ≡ length t
  pub is : got_at s r (lists_in t') ≡ loose_set.read s
