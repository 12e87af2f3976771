-- A call, step by step: what is tested of what is lent, what is planned, what the fold settles; and what the code of each step leaves.
use Rattle.std.specs.Prelude.{ℕ, ◌^◌, ◌≤◌, ◌≡◌, Bool, true, not, ◌&&◌, List, [], eqb, leb, length, Result, Option}
use Rattle.refusal.specs.Answer.{Answer, done, ◌>>=◌, ◌>>◌, refuse_when}
use Rattle.rows.specs.Lists.{every}
use Rattle.geometry.specs.Point.{point_on_map}
use Rattle.map.specs.Record.{Map}
use Rattle.map.specs.Ceilings.{within_ceilings}
use Rattle.map.specs.Tables.{map_of, is_map_tables}
use Rattle.changes.specs.ChangeSet.{ChangeSet, normalize, fold_step}
use Rattle.changes.specs.ChangeFile.{lists_ok}
use Rattle.changes.specs.Layout.{set_words, count_in, change_set_of}
use Rattle.changes.specs.Running.{fold_ok, fold_fits}
use Rattle.sets.specs.Tables.{Roomy}
use Rattle.sets.specs.Fold.{Folded, FoldsTo}
use Rattle.normal.specs.Normal.{Normalized}
use Rattle.placing.specs.Answers.{checked}
use Rattle.edit.specs.Edit.{Draft, call}
use Rattle.edit.specs.Lent.{Lent, state_of, CallLeft}
use Rattle.refusal.specs.declared.Refusal.{Refusal}
use Rattle.place.specs.declared.SectionNames.{SectionNames}

-- ---- the steps

-- 12, then 13
unfoldable pub lent_checks : Lent → Answer (Unit {0})
lent_checks l = do
  refuse_when (not (is_map_tables l.words l.coords)) 12 []
  refuse_when (not (eqb (length l.fold) set_words && eqb (length l.set) set_words && (lists_ok (change_set_of l.fold) && fold_ok (state_of l)))) 13 []

-- the edit's own refusals, 9 for stored points, and 10 for the map
unfoldable pub planned : (Map → Answer Draft) → Map → Answer Draft
planned edit m = do
  d ← edit m
  refuse_when (not (every point_on_map d.stored)) 9 []
  refuse_when (not (within_ceilings d.map)) 10 []
  done d

-- 10 for the fold f and the set c, then 11
unfoldable pub settled : ChangeSet → ChangeSet → Bool → Answer (Unit {0})
settled f c late = do
  refuse_when (not (fold_fits (fold_step f c))) 10 []
  refuse_when late 11 []

-- all refusals of a call, and then what is to be stored
unfoldable pub steps : (Map → Answer Draft) → Lent → Answer Draft
steps edit l = do
  lent_checks l
  d ← planned edit (map_of l.words l.coords)
  settled (change_set_of l.fold) (normalize d.changes) (leb (2 ^ 64) d.map.next)
  done d

-- what a call leaves whose draft is d, whichever edit made it
pub record CallEnds (old : Lent) (d : Draft) (r : Result (ℕ × Option SectionNames) Refusal) (new : Lent) : Type 0 where
  pub left : (edit : Map → Answer Draft) → planned edit (map_of old.words old.coords) ≡ done d → CallLeft (call edit) old r new

-- ---- what the code leaves

-- a table whose four counts are within their room
pub record RoomyAll (w : List ℕ) : Type 0 where
  pub lists : Roomy w
  pub warnings : count_in w 3 ≤ 160

-- a set with few entries in each list
pub record Few (c : ChangeSet) : Type 0 where
  pub created : length c.created ≤ 256
  pub modified : length c.modified ≤ 256
  pub deleted : length c.deleted ≤ 256

-- the same, to be computed
unfoldable pub is_few : ChangeSet → Bool
is_few c = leb (length c.created) 256 && leb (length c.modified) 256 && leb (length c.deleted) 256

-- r is yes just where numbers are left and the fold has few entries; no set with few entries is refused then
pub record FoldRoom (f : List ℕ) (late r : Bool) : Type 0 where
  pub exact : r ≡ (not late && is_few (change_set_of f))
  pub fine : r ≡ true → (c : ChangeSet) → Few c → settled (change_set_of f) (normalize c) late ≡ done tt

-- the table d normalized and taken into the fold f, or f as it was
pub record Tried (f d : List ℕ) (q : Folded) (f' d' : List ℕ) : Type 0 where
  pub set : Normalized d d'
  pub fold : FoldsTo f d' q f'

-- r answers as settling c with the fold f does
pub record Settles (f : List ℕ) (c : ChangeSet) (late : Bool) (r : Result (Unit {0}) Refusal) : Type 0 where
  pub answer : checked r ≡ settled (change_set_of f) (normalize c) late

-- the same of the table d, which is left normalized
pub record SettlesTable (f d : List ℕ) (late : Bool) (r : Result (Unit {0}) Refusal) (d' : List ℕ) : Type 0 where
  pub tried : Settles f (change_set_of d) late r
  pub set : Normalized d d'

-- the table d normalized, and taken into the fold f
pub record TakenIn (f d f' d' : List ℕ) : Type 0 where
  pub set : change_set_of d' ≡ normalize (change_set_of d)
  pub fold : change_set_of f' ≡ fold_step (change_set_of f) (normalize (change_set_of d))
