-- `add_stop_line` in the steps of its code: the plan, the change set, and what is stored.
use Rattle.std.specs.Prelude.{ℕ, suc, ◌+◌, ◌^◌, ◌≤◌, ◌<◌, ◌≡◌, Bool, true, false, not, ◌&&◌, cond, List, [], ◌∷◌, ◌++◌, ltb, leb, Float, length, get_or, Option, None, Some, Ok, Result}
use Rattle.refusal.specs.Answer.{Answer, done, ◌>>=◌, ◌>>◌, refuse_when}
use Rattle.store.specs.Layout.{all_coords}
use Rattle.rows.specs.Lists.{every}
use Rattle.geometry.specs.Point.{point_on_map}
use Rattle.geometry.specs.Polyline.{Polyline}
use Rattle.map.specs.Record.{RuleBody, Map}
use Rattle.map.specs.Entity.{entity}
use Rattle.map.specs.Rows.{fresh, with_line, with_rule}
use Rattle.map.specs.Tables.{map_of}
use Rattle.changes.specs.ChangeSet.{ChangeSet, Warning, warning}
use Rattle.changes.specs.Layout.{count_in, change_set_of}
use Rattle.sets.specs.Tables.{Roomy}
use Rattle.place.specs.declared.Placement.{Placement}
use Rattle.place.specs.declared.Placement.TheVariants.{Given}
use Rattle.place.specs.Place.{Placed}
use Rattle.place.specs.Values as line
use Rattle.placing.specs.declared.PlacedLine.{PlacedLine}
use Rattle.placing.specs.Answers.{placed_answer}
use Rattle.edit.specs.declared.StopRule.{StopRule}
use Rattle.edit.specs.declared.StopRule.TheVariants.{StopSign, Marking, NoRule}
use Rattle.edit.specs.Edit.{Draft}
use Rattle.edit.specs.StopLine.{NewStopLine, rule_at, line_draft, stop_line_edit}
use Rattle.finishing.specs.Finish.{RoomyAll, planned, Settles}
use Rattle.refusal.specs.declared.Refusal.{Refusal}

abbrev pub new_stop_line : List ℕ → Placement → List Float → StopRule → NewStopLine
new_stop_line lanes how given rule = record { lanes = lanes; placement = how; points = given; rule = rule }

abbrev pub has_rule : StopRule → Bool
has_rule StopSign = true
has_rule Marking = true
has_rule NoRule = false

-- ---- the plan

-- the draft of a line that was placed; how it was placed does not matter any more
unfoldable pub placed_draft : StopRule → List ℕ → Map → Placed → Draft
placed_draft rule lanes m p =
    line_draft (new_stop_line lanes Given [] rule)
    (record { map = with_line m p.points; id = fresh m; stored = p.points; ends = p.ends; changes = record { created = entity 5 (fresh m) ∷ []; modified = []; deleted = []; warnings = p.warnings } })
    (rule_at rule (fresh m))

-- room for a rule that lists so many lanes, where there are so many rules
unfoldable pub list_room : ℕ → ℕ → Bool
list_room lanes rules = ltb rules 128 && leb lanes 16

unfoldable pub rule_room : StopRule → ℕ → ℕ → Bool
rule_room rule lanes rules = cond (has_rule rule) (list_room lanes rules) true

-- and for the line, where there are so many lines and points
unfoldable pub room_for : StopRule → ℕ → ℕ → ℕ → ℕ → ℕ → Bool
room_for rule lanes lines rules used points = ltb lines 64 && rule_room rule lanes rules && leb (used + points) 1024

-- 9 and 10 of a placed line
unfoldable pub end_tests : StopRule → ℕ → ℕ → ℕ → ℕ → Polyline → Answer (Unit {0})
end_tests rule lanes lines rules used xs = do
  refuse_when (not (every point_on_map xs)) 9 []
  refuse_when (not (room_for rule lanes lines rules used (length xs))) 10 []

pub record LinePlanned (ws : List ℕ) (cs : List Float) (a : NewStopLine) (r : PlacedLine) : Type 0 where
  pub answer : (placed_answer (get_or a.lanes 0 0) r >>= λ p. done (placed_draft a.rule a.lanes (map_of ws cs) p)) ≡ planned (stop_line_edit a) (map_of ws cs)
  pub room : line.Roomy r.line
  pub lanes : r.checked ≡ (Ok tt) → 0 < length a.lanes

-- ---- the change set

-- the clamp's warning, about the first lane
abbrev pub clamped_by : Bool → ℕ → List Warning
clamped_by clamped lane = cond clamped (warning 1 (Some (entity 1 lane)) ∷ []) []

-- of a line n and its rule x, or of a line that no rule names
abbrev pub line_changes : StopRule → ℕ → ℕ → List Warning → ChangeSet
line_changes StopSign n x w = record { created = entity 5 n ∷ entity 8 x ∷ []; modified = []; deleted = []; warnings = w }
line_changes Marking n x w = record { created = entity 5 n ∷ entity 8 x ∷ []; modified = []; deleted = []; warnings = w }
line_changes NoRule n x w = record { created = entity 5 n ∷ []; modified = []; deleted = []; warnings = w ++ (warning 2 (Some (entity 5 n)) ∷ []) }

-- the number after n, where there is one
pub record Following (n x : ℕ) : Type 0 where
  pub from : n ≤ x
  pub next : n + 1 < 2 ^ 64 → x ≡ n + 1

-- a set with few entries and warnings
pub record Holds (w : List ℕ) (c : ChangeSet) (entries warnings : ℕ) : Type 0 where
  pub set : change_set_of w ≡ c
  pub room : Roomy w
  pub few : count_in w 0 ≤ entries
  pub warned : count_in w 3 ≤ warnings

pub record SetDrafted (rule : StopRule) (n : ℕ) (w : List Warning) (s : List ℕ) : Type 0 where
  pub second : ℕ
  pub follows : Following n second
  pub set : change_set_of s ≡ line_changes rule n second w
  pub room : RoomyAll s

-- r answers as settling the line's set with the fold f does
pub record LineSettles (f : List ℕ) (rule : StopRule) (n : ℕ) (w : List Warning) (late : Bool) (r : Result (Unit {0}) Refusal) : Type 0 where
  pub second : ℕ
  pub follows : Following n second
  pub settles : Settles f (line_changes rule n second w) late r

-- ---- what is stored

-- the next number after a line n and its rule
unfoldable pub next_after : StopRule → ℕ → ℕ
next_after StopSign n = suc (suc n)
next_after Marking n = suc (suc n)
next_after NoRule n = suc n

abbrev pub ruled : Option RuleBody → Map → List ℕ → Map
ruled None m lanes = m
ruled (Some w) m lanes = with_rule m w lanes

pub record RuleAdded (ws : List ℕ) (rule : StopRule) (n : ℕ) (lanes ws' : List ℕ) : Type 0 where
  pub map : (cs : List Float) → length cs ≡ all_coords → map_of ws' cs ≡ ruled (rule_at rule n) (map_of ws cs) lanes
