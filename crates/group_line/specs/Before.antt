-- A traffic light as it was defined before it joined its group's line; what stands twice is what looks at the choice of a line now.
use Rattle.std.specs.Prelude.{ℕ, List, [], ◌∷◌, get_or, Float, Option}
use Rattle.refusal.specs.Answer.{Answer, done, ◌>>=◌, ◌>>◌, refuse_when, present}
use Rattle.rows.specs.Lists.{or_else}
use Rattle.map.specs.Record.{Map}
use Rattle.map.specs.Lookup.{line_of}
use Rattle.changes.specs.Running.{State}
use Rattle.place.specs.Place.{check_lane_list}
use Rattle.edit.specs.declared.StopLineChoice.{StopLineChoice}
use Rattle.edit.specs.declared.StopLineChoice.TheVariants.{Automatic, Existing, New, NoLine}
use Rattle.edit.specs.Edit.{Draft, Outcome, call}
use Rattle.edit.specs.Light.{NewTrafficSignal, group_line, differs, existing_stop_line, Plan, use_line, use_none, draw_plan, auto_plan, anchor_for, housing_for, bad_height, check_housing, Planned, light_draft}

unfoldable pub check_choice : Map → Option ℕ → StopLineChoice → Answer (Unit {0})
check_choice m group Automatic = done tt
check_choice m group (New how) = done tt
check_choice m group NoLine = done tt
check_choice m group (Existing s) = do
  present (line_of m s) 2 (5 ∷ s ∷ [])
  refuse_when (differs group s) 7 (3 ∷ [])

unfoldable pub plan_for : Map → List ℕ → Option ℕ → StopLineChoice → List Float → Answer Plan
plan_for m lanes group (Existing s) cs = done (use_line s)
plan_for m lanes group NoLine cs = done use_none
plan_for m lanes group (New how) cs = draw_plan m lanes how cs
plan_for m lanes group Automatic cs = auto_plan m lanes (or_else group (existing_stop_line m (get_or lanes 0 0)))

unfoldable pub light_plan : NewTrafficSignal → Map → Answer Planned
light_plan a m = do
  check_lane_list m a.lanes
  refuse_when (bad_height a.height) 4 (1 ∷ [])
  check_housing a.housing
  group ← group_line m a.group
  check_choice m group a.choice
  plan ← plan_for m a.lanes group a.choice a.points
  anchor ← anchor_for m a.lanes plan
  housing ← housing_for m (get_or a.lanes 0 0) anchor a.housing
  done (record { plan = plan; housing = housing })

unfoldable pub light_edit : NewTrafficSignal → Map → Answer Draft
light_edit a m = do
  p ← light_plan a m
  done (light_draft a m p)

unfoldable pub add_traffic_signal : NewTrafficSignal → State → Answer Outcome
add_traffic_signal a = call (light_edit a)
