-- What is promised of every run, in words of its own: no helper of the edits stands here.
use Rattle.std.specs.Prelude.{ℕ, ◌+◌, max, ◌≡◌, Bool, true, false, not, ◌&&◌, ◌||◌, cond, List, [], ◌∷◌, ◌++◌, map, eqb, length, Option, None, Some}
use Rattle.refusal.specs.Answer.{refused, done}
use Rattle.rows.specs.Lists.{every, joined, same_list, member, twice}
use Rattle.rows.specs.Table.{rising}
use Rattle.codec.specs.Format
use Rattle.codec.specs.Format.{Bytes}
use Rattle.map.specs.Record.{RuleBody, light, sign, marking, right_of_way, crossing, other, Rule, Map}
use Rattle.map.specs.MapFile.{is_map}
use Rattle.map.specs.Entity.{EntityRef, listed, has, form_of, record_count}
use Rattle.changes.specs.ChangeSet.{ChangeSet, no_changes, fold_of, tally_of}
use Rattle.changes.specs.ChangeFile.{change_file, is_set, lists_ok}
use Rattle.changes.specs.Running.{State, opening, fold_ok, fold_call}
use Rattle.edit.specs.declared.StopLineChoice.{StopLineChoice}
use Rattle.edit.specs.declared.StopLineChoice.TheVariants.{Automatic, Existing, New, NoLine}
use Rattle.edit.specs.Edit.{Outcome}
use Rattle.edit.specs.Light.{NewTrafficSignal}
use Rattle.run.specs.LineEnds.{told_by, EndsAnswered}
use Rattle.run.specs.Run.{Edit, line, signal, links, run_one, state_after, run_all, sets_of, Call, calls, fold_calls, open_all}

-- ---- what a call alters

unfoldable pub same_form : Option Bytes → Option Bytes → Bool
same_form None None = true
same_form None (Some y) = false
same_form (Some x) None = false
same_form (Some x) (Some y) = same_list x y

unfoldable pub differ : Option Bytes → Option Bytes → Bool
differ None g = false
differ (Some x) None = false
differ (Some x) (Some y) = not (same_list x y)

-- present before and after, in differing written forms
unfoldable pub alters : Map → Map → EntityRef → Bool
alters m n a = differ (form_of m a) (form_of n a)

-- some call of the run alters the record
unfoldable pub altered : List Edit → State → EntityRef → Bool
altered [] s a = false
altered (e ∷ es) s a = let t = state_after s (run_one e s) in alters s.map t.map a || altered es t a

-- the change set names the record
unfoldable pub names : ChangeSet → EntityRef → Bool
names c a = listed c.created a || listed c.modified a || listed c.deleted a

-- a call leaves a record that its change set does not name as it was, in its written form
unfoldable pub leaves : EntityRef → Call → Bool
leaves a c = elim c.answer [ refused n ds ↦ true | done o ↦ names o.changes a || same_form (form_of c.before.map a) (form_of o.state.map a) ]

-- ---- numbers

-- the numbers that a call hands out
unfoldable pub handed : ChangeSet → List ℕ
handed c = map (λ a. a.num) c.created

unfoldable pub handed_out : List Edit → State → List ℕ
handed_out es s = joined handed (sets_of es s)

-- ---- the line of a light: the one that the call names, finds or draws

-- a rule's own line, where it is a light, a sign of any type or a marking
unfoldable pub own_line : RuleBody → Option ℕ
own_line (light signals l) = l
own_line (sign type shape l) = l
own_line (marking l) = Some l
own_line (right_of_way priority yielding ls) = None
own_line (crossing c ls) = None
own_line (other k) = None

abbrev pub or_next : Option ℕ → Option ℕ → Option ℕ
or_next (Some s) rest = Some s
or_next None rest = rest

-- the own line of the lowest-numbered rule that lists the lane and has one
unfoldable pub line_on_lane : ℕ → List Rule → Option ℕ
line_on_lane n [] = None
line_on_lane n (r ∷ rs) = let rest = line_on_lane n rs in cond (member n r.lanes) (or_next (own_line r.body) rest) rest

-- the own line of the rule with a number
unfoldable pub line_of_rule : ℕ → List Rule → Option ℕ
line_of_rule n [] = None
line_of_rule n (r ∷ rs) = let rest = line_of_rule n rs in cond (eqb r.num n) (own_line r.body) rest

unfoldable pub groups_line : Option ℕ → List Rule → Option ℕ
groups_line None rs = None
groups_line (Some g) rs = line_of_rule g rs

unfoldable pub first_lanes_line : List ℕ → List Rule → Option ℕ
first_lanes_line [] rs = None
first_lanes_line (n ∷ ns) rs = line_on_lane n rs

-- what was found, or the number that a new line gets
abbrev pub found_or : ℕ → Option ℕ → ℕ
found_or n None = n
found_or n (Some s) = s

-- by the choice: the number that a new line gets, the group's own line and the first lane's
unfoldable pub chosen_line : StopLineChoice → ℕ → Option ℕ → Option ℕ → Option ℕ
chosen_line (Existing s) drawn own found = Some s
chosen_line (New how) drawn own found = Some drawn
chosen_line NoLine drawn own found = own
chosen_line Automatic drawn own found = Some (found_or drawn (or_next own found))

unfoldable pub lights_line : NewTrafficSignal → Map → Option ℕ
lights_line a m = chosen_line a.choice (max 1 m.next) (groups_line a.group m.rules) (first_lanes_line a.lanes m.rules)

-- ---- what a light leaves on its line

unfoldable pub meets : List ℕ → List ℕ → Bool
meets ls [] = false
meets ls (n ∷ ns) = member n ls || meets ls ns

-- the line of a marking rule (kind 3) or a stop-sign rule (kind 2, sign type 1)
unfoldable pub halt_line : RuleBody → Option ℕ
halt_line (light signals l) = None
halt_line (sign type shape l) = cond (eqb type 1) l None
halt_line (marking l) = Some l
halt_line (right_of_way priority yielding ls) = None
halt_line (crossing c ls) = None
halt_line (other k) = None

unfoldable pub is_line : ℕ → Option ℕ → Bool
is_line s None = false
is_line s (Some n) = eqb n s

-- no marking and no stop sign on the line s lists a lane of ls
unfoldable pub no_stop : Option ℕ → List ℕ → Map → Bool
no_stop None ls m = true
no_stop (Some s) ls m = every (λ r. not (is_line s (halt_line r.body) && meets ls r.lanes)) m.rules

unfoldable pub lifted_by : Edit → Map → Map → Bool
lifted_by (line a) m n = true
lifted_by (signal a) m n = no_stop (lights_line a m) a.lanes n
lifted_by (links a) m n = true

-- a light on the map m whose group has the line g, once it has left the map n
pub record Joined (a : NewTrafficSignal) (m n : Map) (g : ℕ) : Type 0 where
  -- it has drawn no line
  pub lines : n.stop_lines ≡ m.stop_lines
  -- the group's line is g still
  pub own : groups_line a.group n.rules ≡ Some g
  -- and no stop rule of its lanes is left there
  pub cleared : no_stop (Some g) a.lanes n ≡ true

abbrev pub JoinsGroup : Edit → Map → Map → Type 0
JoinsGroup (line a) m n = Unit {0}
JoinsGroup (signal a) m n = (g : ℕ) → groups_line a.group m.rules ≡ Some g → Joined a m n g
JoinsGroup (links a) m n = Unit {0}

-- an accepted light has left no stop rule of its lanes on its line
unfoldable pub clears_line : Call → Bool
clears_line c = elim c.answer [ refused n ds ↦ true | done o ↦ lifted_by c.edit c.before.map o.state.map ]

-- not refused for the map or the fold that it was handed
unfoldable pub well_handed : Call → Bool
well_handed c = elim c.answer [ refused n ds ↦ not (eqb n 12 || eqb n 13) | done o ↦ true ]

-- ---- the law

-- of the run es from the map m, to the state s
pub record RunLaw (m : Map) (es : List Edit) (s : State) : Type 0 where
  -- the running fold is the fold of the change sets answered, in order, one at a time; the fold call on them comes to the same
  pub fold : s.fold ≡ fold_of no_changes (sets_of es (opening m))
  pub folded : fold_calls no_changes (sets_of es (opening m)) ≡ done s.fold
  pub tally : s.tally ≡ tally_of s.fold
  -- each set answered is a change set, and so is the fold: its bytes are its change set file
  pub sets : every is_set (sets_of es (opening m)) ≡ true
  pub written : is_set s.fold ≡ true
  pub bytes : change_file.write s.fold ≡ change_file.write (fold_of no_changes (sets_of es (opening m)))
  -- it names exactly what was created, deleted and modified since the opening
  pub created : (a : EntityRef) → listed s.fold.created a ≡ (has s.map a && not (has m a))
  pub deleted : (a : EntityRef) → listed s.fold.deleted a ≡ (has m a && not (has s.map a))
  pub modified : (a : EntityRef) → listed s.fold.modified a ≡ (has m a && has s.map a && altered es (opening m) a)
  -- the record count fits
  pub count : record_count s.map + length s.fold.deleted ≡ record_count m + length s.fold.created
  -- the state stays one that calls take
  pub valid : (is_map s.map && lists_ok s.fold && fold_ok s) ≡ true
  pub well_handed_over : every well_handed (calls es (opening m)) ≡ true
  -- a refused call changes nothing, and so could be left out
  pub refusals : (before after : List Edit) (e : Edit) (n : ℕ) (ds : List ℕ) → es ≡ before ++ (e ∷ after) → run_one e (run_all before (opening m)) ≡ refused n ds
      → run_all (before ++ (e ∷ [])) (opening m) ≡ run_all before (opening m)
  -- a call alters no record but those that its change set names
  pub frame : (a : EntityRef) → every (leaves a) (calls es (opening m)) ≡ true
  -- the numbers handed out rise from the opening's next number on, below the next number now; so all are different, also across kinds
  pub rise : rising (λ n. n) m.next s.map.next (handed_out es (opening m)) ≡ true
  pub distinct : twice (handed_out es (opening m)) ≡ false
  -- a light that took line s leaves no marking or stop-sign rule on s that lists a lane of its call
  pub lights : every clears_line (calls es (opening m)) ≡ true

-- ---- beside the law: one call on any state, whether or not a run from an opening led there

-- it passes 12 and 13
unfoldable pub passes : State → Bool
passes s = is_map s.map && lists_ok s.fold && fold_ok s

-- of the call e, accepted on the state s with the outcome o
pub record Accepted (e : Edit) (s : State) (o : Outcome) : Type 0 where
  -- its set is a change set, the fold call on it gives the fold that the call leaves, and the tally is that fold's
  pub set : is_set o.changes ≡ true
  pub folded : fold_call s.fold o.changes ≡ done o.state.fold
  pub tally : o.state.tally ≡ tally_of o.state.fold
  -- the set names exactly what the call created, deleted and altered
  pub created : (a : EntityRef) → listed o.changes.created a ≡ (has o.state.map a && not (has s.map a))
  pub deleted : (a : EntityRef) → listed o.changes.deleted a ≡ (has s.map a && not (has o.state.map a))
  pub modified : (a : EntityRef) → listed o.changes.modified a ≡ alters s.map o.state.map a
  -- a record that it does not name is as it was, in its written form
  pub frame : (a : EntityRef) → names o.changes a ≡ false → same_form (form_of s.map a) (form_of o.state.map a) ≡ true
  pub count : record_count o.state.map + length o.changes.deleted ≡ record_count s.map + length o.changes.created
  -- the numbers handed out rise from the next number before the call on, below the next number after it
  pub rise : rising (λ n. n) s.map.next o.state.map.next (handed o.changes) ≡ true
  -- a light has left no stop rule of its lanes on its line
  pub lights : lifted_by e s.map o.state.map ≡ true
  -- that is its group's line where the group has one; it draws none then
  pub joins : JoinsGroup e s.map o.state.map
  -- it names the ends of a line that it has drawn across lanes, and of no other
  pub ends : EndsAnswered e s.map (told_by o)
  -- the state that it leaves passes, so that the next call takes it
  pub valid : passes o.state ≡ true

pub record CallLaw (e : Edit) (s : State) : Type 0 where
  pub accepted : (o : Outcome) → run_one e s ≡ done o → Accepted e s o
  -- refused, it leaves the state as it was
  pub refusal : (n : ℕ) (ds : List ℕ) → run_one e s ≡ refused n ds → state_after s (run_one e s) ≡ s
  -- it is refused for the map or the fold just where the state does not pass
  pub well_handed_over : well_handed (record { edit = e; before = s; answer = run_one e s }) ≡ passes s

-- ---- beside the law: the bytes of two folds, whatever runs they came from

-- equal lists have equal bytes, and equal bytes are of equal folds
pub record EqualBytes (f g : ChangeSet) : Type 0 where
  pub bytes : f.created ≡ g.created → f.modified ≡ g.modified → f.deleted ≡ g.deleted → change_file.write f ≡ change_file.write g
  pub folds : change_file.write f ≡ change_file.write g → f ≡ g

unfoldable pub open_run : Unit {0}
unfolding open_all same_form differ alters altered names leaves handed handed_out own_line line_on_lane line_of_rule groups_line first_lanes_line chosen_line lights_line meets halt_line is_line no_stop lifted_by clears_line well_handed passes
open_run = tt
