-- What an edit comes to, and the call around it: the checks before all else, and those that come last.
use Rattle.std.specs.Prelude.{ℕ, ◌^◌, true, not, ◌&&◌, List, [], leb, Option}
use Rattle.refusal.specs.Answer.{Answer, done, ◌>>=◌, ◌>>◌, refuse_when}
use Rattle.rows.specs.Lists.{every}
use Rattle.geometry.specs.declared.Point3.{Point3}
use Rattle.geometry.specs.Point.{point_on_map}
use Rattle.map.specs.Record.{Map}
use Rattle.map.specs.Ceilings.{within_ceilings}
use Rattle.map.specs.MapFile.{is_map}
use Rattle.changes.specs.ChangeSet.{ChangeSet, normalize, fold_step, tally_of}
use Rattle.changes.specs.ChangeFile.{lists_ok}
use Rattle.changes.specs.Running.{State, fold_ok, fold_fits, open_running}
use Rattle.place.specs.declared.SectionNames.{SectionNames}

-- what an edit would leave: the map, the number of the record that it answers, the changes before they are put in order, the new points, and the names of the ends of a line that it draws across lanes
pub record Draft : Type 0 where
  pub map : Map
  pub id : ℕ
  pub changes : ChangeSet
  pub stored : List Point3
  pub ends : Option SectionNames

-- what a call leaves and answers
pub record Outcome : Type 0 where
  pub state : State
  pub id : ℕ
  pub changes : ChangeSet
  pub ends : Option SectionNames

-- 9 for stored points, 10 for the end result, 11, and then the fold and its tally
unfoldable pub finish : State → Draft → Answer Outcome
finish s d = do
  let set = normalize d.changes
  let fold = fold_step s.fold set
  refuse_when (not (every point_on_map d.stored)) 9 []
  refuse_when (not (within_ceilings d.map && fold_fits fold)) 10 []
  refuse_when (leb (2 ^ 64) d.map.next) 11 []
  done (record { state = record { map = d.map; fold = fold; tally = tally_of fold }; id = d.id; changes = set; ends = d.ends })

unfoldable pub call : (Map → Answer Draft) → State → Answer Outcome
call edit s = do
  refuse_when (not (is_map s.map)) 12 []
  refuse_when (not (lists_ok s.fold && fold_ok s)) 13 []
  d ← edit s.map
  finish s d

unfoldable pub open_edit : Unit {0}
unfolding open_running finish call
open_edit = tt
