-- Calls by numbers: what they ask for, or that they are no call. A number that the call does not read is not looked at.
use Rattle.std.specs.Prelude.{ℕ, ◌&&◌, cond, List, ltb, Float, Option, None, Some}
use Rattle.edit.specs.StopLine.{NewStopLine}
use Rattle.edit.specs.Light.{NewTrafficSignal}
use Rattle.edit.specs.Request.{lamp_count, new_traffic_signal}
use Rattle.boundary.specs.Numbers.{placement_of, stop_rule_of, request_of, signal_cases}

unfoldable pub stop_line_by : List ℕ → ℕ → Float → List Float → ℕ → Option NewStopLine
stop_line_by lanes placement measure given rule =
    cond (ltb placement 3 && ltb rule 3) (Some (record { lanes = lanes; placement = placement_of placement measure; points = given; rule = stop_rule_of rule })) None

unfoldable pub signal_by : List ℕ → List ℕ → Float → Float → List Float → List Float → List Float → Option NewTrafficSignal
signal_by lanes ns measure height points housing lamps =
    cond (signal_cases ns (lamp_count lamps)) (Some (new_traffic_signal lanes (request_of ns measure height) points housing lamps)) None
