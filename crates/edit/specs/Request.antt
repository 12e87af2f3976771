-- What the arguments of `add_traffic_signal` stand for.
use Rattle.std.specs.Prelude.{ℕ, ◌+◌, ◌/◌, cond, List, Float, length, get_or, Option, None, Some}
use Rattle.rows.specs.Lists.{list_to}
use Rattle.geometry.specs.Polyline.{point_in}
use Rattle.map.specs.declared.BulbColor.TheVariants.{Red}
use Rattle.map.specs.declared.BulbArrow.TheVariants.{NoArrow}
use Rattle.edit.specs.declared.Height.{Height}
use Rattle.edit.specs.declared.Height.TheVariants as h
use Rattle.edit.specs.declared.SignalBulb.{SignalBulb}
use Rattle.edit.specs.declared.Look.{Look}
use Rattle.edit.specs.declared.Lamps.{Lamps}
use Rattle.edit.specs.declared.SignalRequest.{SignalRequest}
use Rattle.edit.specs.Light.{NewTrafficSignal}

abbrev pub height_given : Height → Option Float
height_given h.Standard = None
height_given (h.Metres x) = Some x

-- ---- given lamps: one for each point of the coordinates cs, also for a last one that lacks a coordinate

unfoldable pub lamp_count : List Float → ℕ
lamp_count cs = (length cs + 2) / 3

-- a lamp past the fourth, which is refused for its count, has no look of its own
abbrev pub plain_look : Look
plain_look = record { color = Red; arrow = NoArrow }

-- a coordinate that is missing is not finite
unfoldable pub lamp_at : List Look → List Float → ℕ → SignalBulb
lamp_at looks cs i = record { position = point_in cs i; color = (get_or looks i plain_look).color; arrow = (get_or looks i plain_look).arrow }

unfoldable pub lamps_given : Lamps → List Float → Option (List SignalBulb)
lamps_given l cs = cond l.given (Some (list_to (lamp_at l.looks cs) (lamp_count cs))) None

unfoldable pub new_traffic_signal : List ℕ → SignalRequest → List Float → List Float → List Float → NewTrafficSignal
new_traffic_signal lanes q points housing lamps =
    record {
      lanes = lanes;
      choice = q.choice;
      points = points;
      housing = cond q.housing_given (Some housing) None;
      height = height_given q.height;
      kind = q.kind;
      bulbs = lamps_given q.lamps lamps;
      group = q.group;
    }
