-- What reading a file into lent tables leaves.
use Rattle.std.specs.Prelude.{ℕ, ◌≡◌, not, ◌&&◌, List, [], eqb, Float, length, Result, Ok, Err}
use Rattle.refusal.specs.Answer.{Answer, done, refused_as, ◌>>◌, refuse_when}
use Rattle.refusal.specs.declared.Refusal.{Refusal}
use Rattle.codec.specs.Format.{Bytes}
use Rattle.store.specs.Layout.{all_words, all_coords}
use Rattle.map.specs.Record.{Map}
use Rattle.map.specs.Tables.{map_of}
use Rattle.changes.specs.ChangeSet.{ChangeSet}
use Rattle.changes.specs.Layout.{set_words, change_set_of}
use Rattle.files.specs.Files.{read_map, read_changes}

-- ---- a map file

-- the code's answer, with the map that the tables stand for
abbrev pub map_read : Result (Unit {0}) Refusal → Map → Answer Map
map_read (Ok u) m = done m
map_read (Err x) m = refused_as x

-- slices of other lengths are no tables: 12
abbrev pub read_into : Bytes → ℕ → ℕ → Answer Map
read_into s w c = refuse_when (not (eqb w all_words && eqb c all_coords)) 12 [] >> read_map s

-- what the code left where it refused
abbrev pub Untouched : Result (Unit {0}) Refusal → List ℕ → List Float → List ℕ → List Float → Type 0
Untouched (Ok u) ws cs ws' cs' = Unit {0}
Untouched (Err x) ws cs ws' cs' = (ws' ≡ ws) × (cs' ≡ cs)

pub record MapReadInto (s : Bytes) (ws : List ℕ) (cs : List Float) (r : Result (Unit {0}) Refusal) (ws' : List ℕ) (cs' : List Float) : Type 0 where
  pub is : map_read r (map_of ws' cs') ≡ read_into s (length ws) (length cs)
  pub untouched : Untouched r ws cs ws' cs'

-- ---- a change set file

abbrev pub changes_read : Result (Unit {0}) Refusal → ChangeSet → Answer ChangeSet
changes_read (Ok u) c = done c
changes_read (Err x) c = refused_as x

-- a slice of another length is no table of a set: 13
abbrev pub read_set : Bytes → ℕ → Answer ChangeSet
read_set s n = refuse_when (not (eqb n set_words)) 13 [] >> read_changes s

abbrev pub UntouchedSet : Result (Unit {0}) Refusal → List ℕ → List ℕ → Type 0
UntouchedSet (Ok u) t t' = Unit {0}
UntouchedSet (Err x) t t' = t' ≡ t

pub record ChangesReadInto (s : Bytes) (t : List ℕ) (r : Result (Unit {0}) Refusal) (t' : List ℕ) : Type 0 where
  pub is : changes_read r (change_set_of t') ≡ read_set s (length t)
  pub untouched : UntouchedSet r t t'
