-- The words in which is said what a light does whose group has a line.
use Rattle.std.specs.Prelude.{ℕ, [], ◌∷◌, Option}
use Rattle.refusal.specs.Answer.{Answer, ◌>>◌, refuse_when}
use Rattle.map.specs.Record.{Map}
use Rattle.place.specs.Place.{check_lane_list}
use Rattle.edit.specs.declared.StopLineChoice.{StopLineChoice}
use Rattle.edit.specs.Light.{NewTrafficSignal, group_line, bad_height, check_housing}

-- the tests that stand before the choice of a line; they answer the group's line
unfoldable pub before_choice : NewTrafficSignal → Map → Answer (Option ℕ)
before_choice a m = do
  check_lane_list m a.lanes
  refuse_when (bad_height a.height) 4 (1 ∷ [])
  check_housing a.housing
  group_line m a.group

-- the call with another choice
abbrev pub choosing : StopLineChoice → NewTrafficSignal → NewTrafficSignal
choosing c a = record { lanes = a.lanes; choice = c; points = a.points; housing = a.housing; height = a.height; kind = a.kind; bulbs = a.bulbs; group = a.group }
