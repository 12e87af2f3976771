-- What a call is lent: the map, its running fold and the fold's tally. Which folds are refused, and the fold call.
use Rattle.std.specs.Prelude.{ℕ, Bool, not, ◌&&◌, List, [], eqb, ltb, leb, length}
use Rattle.refusal.specs.Answer.{Answer, done, ◌>>◌, refuse_when}
use Rattle.rows.specs.Lists.{every, no_entries}
use Rattle.map.specs.Record.{Map}
use Rattle.map.specs.Entity.{EntityRef, has}
use Rattle.changes.specs.declared.Tally.{Tally}
use Rattle.changes.specs.ChangeSet.{ChangeSet, no_changes, fold_step, tally_of}
use Rattle.changes.specs.ChangeFile.{max_entries, lists_ok, open_change_file}

pub record State : Type 0 where
  pub map : Map
  pub fold : ChangeSet
  pub tally : Tally

-- where a run starts: an empty running fold, a tally of three zeros
abbrev pub opening : Map → State
opening m = record { map = m; fold = no_changes; tally = record { created = 0; modified = 0; deleted = 0 } }

unfoldable pub same_tally : Tally → Tally → Bool
same_tally a b = eqb a.created b.created && eqb a.modified b.modified && eqb a.deleted b.deleted

unfoldable pub all_below : ℕ → List EntityRef → Bool
all_below n xs = every (λ a. ltb a.num n) xs

-- no warning, numbers below the next number, created and modified records present, deleted ones absent, the tally its three counts
unfoldable pub fold_ok : State → Bool
fold_ok s =
    let f = s.fold in
    let m = s.map in
    no_entries f.warnings
    && all_below m.next f.created && all_below m.next f.modified && all_below m.next f.deleted
    && every (has m) f.created && every (has m) f.modified && every (λ a. not (has m a)) f.deleted
    && same_tally s.tally (tally_of f)

-- no list of the fold is longer than a file's
unfoldable pub fold_fits : ChangeSet → Bool
fold_fits f = leb (length f.created) max_entries && leb (length f.modified) max_entries && leb (length f.deleted) max_entries

-- the fold call: 13 for lists that are not those of a set file, 10 where a list would be too long
unfoldable pub fold_call : ChangeSet → ChangeSet → Answer ChangeSet
fold_call f c = do
  refuse_when (not (lists_ok f && lists_ok c)) 13 []
  let g = fold_step f c
  refuse_when (not (fold_fits g)) 10 []
  done g

unfoldable pub open_running : Unit {0}
unfolding open_change_file same_tally all_below fold_ok fold_fits fold_call
open_running = tt
