-- What the steps of building a change set leave in its table.
use Rattle.std.specs.Prelude.{ℕ, zero, suc, ◌+◌, ◌*◌, ◌<◌, ◌≡◌, List, [], ◌∷◌, ◌++◌, length, set}
use Rattle.map.specs.Entity.{EntityRef}
use Rattle.changes.specs.ChangeSet.{Warning, ChangeSet, no_changes, warning}
use Rattle.changes.specs.Layout.{set_words, from_of, count_in, about_of, list_in, change_set_of}
use Rattle.sets.specs.Tables.{Roomy, put_list}

-- an entry at the end of a list: 0 created, 1 modified, 2 deleted
abbrev pub with_entry : ChangeSet → ℕ → EntityRef → ChangeSet
with_entry c zero a = record { created = c.created ++ a ∷ []; modified = c.modified; deleted = c.deleted; warnings = c.warnings }
with_entry c (suc zero) a = record { created = c.created; modified = c.modified ++ a ∷ []; deleted = c.deleted; warnings = c.warnings }
with_entry c (suc (suc l)) a = record { created = c.created; modified = c.modified; deleted = c.deleted ++ a ∷ []; warnings = c.warnings }

-- a warning at the end
abbrev pub with_warning : ChangeSet → Warning → ChangeSet
with_warning c w = record { created = c.created; modified = c.modified; deleted = c.deleted; warnings = c.warnings ++ w ∷ [] }

pub record Cleared (s : List ℕ) : Type 0 where
  pub size : length s ≡ set_words
  pub room : Roomy s
  pub set : change_set_of s ≡ no_changes
  pub none : (l : ℕ) → l < 4 → count_in s l ≡ 0

pub record EntryAdded (s : List ℕ) (l : ℕ) (a : EntityRef) (s' : List ℕ) : Type 0 where
  pub memory : s' ≡ put_list s l (list_in s l ++ a ∷ [])
  pub room : Roomy s'
  pub set : change_set_of s' ≡ with_entry (change_set_of s) l a
  pub count : count_in s' l ≡ count_in s l + 1
  pub others : (m : ℕ) → m < 4 → (m ≡ l → ⊥) → count_in s' m ≡ count_in s m

-- the words of a warning at the end
unfoldable pub put_warning : List ℕ → ℕ → ℕ → ℕ → List ℕ
put_warning s c k x =
    let at = from_of 3 + count_in s 3 * 3 in
    set (set (set (set s at c) (at + 1) k) (at + 2) x) 3 (count_in s 3 + 1)

pub record WarningAdded (s : List ℕ) (c k x : ℕ) (s' : List ℕ) : Type 0 where
  pub memory : s' ≡ put_warning s c k x
  pub room : Roomy s'
  pub set : change_set_of s' ≡ with_warning (change_set_of s) (warning c (about_of k x))
  pub count : count_in s' 3 ≡ count_in s 3 + 1
  pub others : (m : ℕ) → m < 3 → count_in s' m ≡ count_in s m
