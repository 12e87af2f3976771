-- A run: any list of the three edits, with any arguments. Each call gets the map, the fold and the tally as the last one left them.
use Rattle.std.specs.Prelude.{List, [], ◌∷◌, ◌++◌}
use Rattle.refusal.specs.Answer.{Answer, refused, done, ◌>>=◌}
use Rattle.changes.specs.ChangeSet.{ChangeSet}
use Rattle.changes.specs.Running.{State, fold_call}
use Rattle.edit.specs.Edit.{Outcome}
use Rattle.edit.specs.StopLine.{NewStopLine, add_stop_line, open_stop_line}
use Rattle.edit.specs.Light.{NewTrafficSignal, add_traffic_signal, open_light}
use Rattle.edit.specs.Links.{RegulatoryLinks, set_regulatory_links, open_links}
use Rattle.files.specs.Files.{open_files}

pub data Edit : Type 0 where
  line : NewStopLine → Edit
  signal : NewTrafficSignal → Edit
  links : RegulatoryLinks → Edit

unfoldable pub run_one : Edit → State → Answer Outcome
run_one (line a) s = add_stop_line a s
run_one (signal a) s = add_traffic_signal a s
run_one (links a) s = set_regulatory_links a s

-- a refused call alters nothing and adds no change set
abbrev pub state_after : State → Answer Outcome → State
state_after s (refused n ds) = s
state_after s (done o) = o.state

abbrev pub sets_after : Answer Outcome → List ChangeSet
sets_after (refused n ds) = []
sets_after (done o) = o.changes ∷ []

-- where a run ends
unfoldable pub run_all : List Edit → State → State
run_all [] s = s
run_all (e ∷ es) s = run_all es (state_after s (run_one e s))

-- its change sets, in order
unfoldable pub sets_of : List Edit → State → List ChangeSet
sets_of [] s = []
sets_of (e ∷ es) s = let a = run_one e s in sets_after a ++ sets_of es (state_after s a)

-- its calls: what each was lent and what it answered
pub record Call : Type 0 where
  pub edit : Edit
  pub before : State
  pub answer : Answer Outcome

unfoldable pub calls : List Edit → State → List Call
calls [] s = []
calls (e ∷ es) s = let a = run_one e s in record { edit = e; before = s; answer = a } ∷ calls es (state_after s a)

-- the fold call, on one set after another
unfoldable pub fold_calls : ChangeSet → List ChangeSet → Answer ChangeSet
fold_calls f [] = done f
fold_calls f (c ∷ cs) = fold_call f c >>= λ g. fold_calls g cs

unfoldable pub open_all : Unit {0}
unfolding open_files open_stop_line open_light open_links run_one run_all sets_of calls fold_calls
open_all = tt
