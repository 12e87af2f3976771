-- The enums of the edits' arguments as numbers, from 0 in the order in which they are declared. Each reader answers the last case for a number that is none;
-- the tests tell such numbers apart.
use Rattle.std.specs.Prelude.{ℕ, zero, suc, ◌+◌, ◌*◌, Bool, true, false, not, ◌&&◌, ◌||◌, List, [], ◌∷◌, eqb, ltb, Float, get_or, None, Option, Some}
use Rattle.map.specs.declared.SignalKind.{SignalKind}
use Rattle.map.specs.declared.SignalKind.TheVariants.{Vehicle, Pedestrian}
use Rattle.map.specs.declared.BulbColor.{BulbColor}
use Rattle.map.specs.declared.BulbColor.TheVariants.{Red, Yellow, Green, White}
use Rattle.map.specs.declared.BulbArrow.{BulbArrow}
use Rattle.map.specs.declared.BulbArrow.TheVariants as a
use Rattle.place.specs.declared.Placement.{Placement}
use Rattle.place.specs.declared.Placement.TheVariants.{AtLaneEnd, AtStation, Given}
use Rattle.edit.specs.declared.StopRule.{StopRule}
use Rattle.edit.specs.declared.StopRule.TheVariants.{StopSign, Marking, NoRule}
use Rattle.edit.specs.declared.StopLineChoice.{StopLineChoice}
use Rattle.edit.specs.declared.StopLineChoice.TheVariants.{Automatic, Existing, New, NoLine}
use Rattle.edit.specs.declared.Look.{Look}
use Rattle.edit.specs.declared.Height.{Height}
use Rattle.edit.specs.declared.Height.TheVariants as h
use Rattle.edit.specs.declared.SignalRequest.{SignalRequest}

abbrev pub placement_of : ℕ → Float → Placement
placement_of zero x = AtLaneEnd x
placement_of (suc zero) x = AtStation x
placement_of (suc (suc k)) x = Given

abbrev pub stop_rule_of : ℕ → StopRule
stop_rule_of zero = StopSign
stop_rule_of (suc zero) = Marking
stop_rule_of (suc (suc k)) = NoRule

abbrev pub choice_of : ℕ → ℕ → Placement → StopLineChoice
choice_of zero s how = Automatic
choice_of (suc zero) s how = Existing s
choice_of (suc (suc zero)) s how = New how
choice_of (suc (suc (suc k))) s how = NoLine

abbrev pub signal_kind_of : ℕ → SignalKind
signal_kind_of zero = Vehicle
signal_kind_of (suc k) = Pedestrian

abbrev pub bulb_color_of : ℕ → BulbColor
bulb_color_of zero = Red
bulb_color_of (suc zero) = Yellow
bulb_color_of (suc (suc zero)) = Green
bulb_color_of (suc (suc (suc k))) = White

abbrev pub bulb_arrow_of : ℕ → BulbArrow
bulb_arrow_of zero = a.NoArrow
bulb_arrow_of (suc zero) = a.Up
bulb_arrow_of (suc (suc zero)) = a.Down
bulb_arrow_of (suc (suc (suc zero))) = a.Left
bulb_arrow_of (suc (suc (suc (suc zero)))) = a.Right
bulb_arrow_of (suc (suc (suc (suc (suc zero))))) = a.UpLeft
bulb_arrow_of (suc (suc (suc (suc (suc (suc zero)))))) = a.UpRight
bulb_arrow_of (suc (suc (suc (suc (suc (suc (suc zero))))))) = a.DownLeft
bulb_arrow_of (suc (suc (suc (suc (suc (suc (suc (suc k)))))))) = a.DownRight

abbrev pub number_if : Bool → ℕ → Option ℕ
number_if true x = Some x
number_if false x = None

abbrev pub height_of : Bool → Float → Height
height_of true x = h.Metres x
height_of false x = h.Standard

-- a flag is yes for any number but 0
abbrev pub flag : ℕ → Bool
flag k = not (eqb k 0)

-- ---- a light: seventeen numbers (0 choice, 1 existing line, 2 placement of a new line, 3 housing given, 4 height given, 5 kind, 6 lamps given, 7 to 14 colour
-- and arrow of four lamps, 15 group given, 16 group), and beside them the offset or station of a new line, and the height

unfoldable pub look_at : List ℕ → ℕ → Look
look_at ns i = record { color = bulb_color_of (get_or ns (7 + i * 2) 0); arrow = bulb_arrow_of (get_or ns (7 + i * 2 + 1) 0) }

unfoldable pub request_of : List ℕ → Float → Float → SignalRequest
request_of ns measure height =
    record {
      choice = choice_of (get_or ns 0 0) (get_or ns 1 0) (placement_of (get_or ns 2 0) measure);
      housing_given = flag (get_or ns 3 0);
      height = height_of (flag (get_or ns 4 0)) height;
      kind = signal_kind_of (get_or ns 5 0);
      lamps = record { given = flag (get_or ns 6 0); looks = look_at ns 0 ∷ look_at ns 1 ∷ look_at ns 2 ∷ look_at ns 3 ∷ [] };
      group = number_if (flag (get_or ns 15 0)) (get_or ns 16 0);
    }

-- ---- which of a light's numbers are read: the placement of a new line, and the looks of the lamps that are given

abbrev pub draws_line : List ℕ → Bool
draws_line ns = eqb (get_or ns 0 0) 2

unfoldable pub look_cases : List ℕ → ℕ → Bool
look_cases ns i = ltb (get_or ns (7 + i * 2) 0) 4 && ltb (get_or ns (7 + i * 2 + 1) 0) 9

-- of n lamps that are given, the look of lamp i is read where there is such a lamp
unfoldable pub lamp_cases : List ℕ → ℕ → ℕ → Bool
lamp_cases ns n i = not (flag (get_or ns 6 0) && ltb i n) || look_cases ns i

-- each number that is read and stands for an enum is a case of it
unfoldable pub signal_cases : List ℕ → ℕ → Bool
signal_cases ns n =
    ltb (get_or ns 0 0) 4 && (not (draws_line ns) || ltb (get_or ns 2 0) 3) && ltb (get_or ns 5 0) 2
    && lamp_cases ns n 0 && lamp_cases ns n 1 && lamp_cases ns n 2 && lamp_cases ns n 3
