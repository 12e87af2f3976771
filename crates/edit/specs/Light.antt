-- `add_traffic_signal`: all tests in their order (`light_plan`), and then what it does (`light_draft`).
use Rattle.std.specs.Prelude.{ℕ, ◌≡◌, refl, Bool, false, not, ◌&&◌, cond, List, [], ◌∷◌, ◌++◌, map, eqb, length, get_or, Float, Option, None, Some}
use Rattle.std.specs.Float.{binary64}
use Rattle.std.specs.Float.Ieee.{lt, of_bits, to_bits, of_int, round}
use Rattle.refusal.specs.Answer.{Answer, refused, done, ◌>>=◌, ◌>>◌, refuse_when, present}
use Rattle.rows.specs.Lists.{or_else, or_default, list_to, keep, first_of, joined, no_entries, member}
use Rattle.rows.specs.Table.{replaced}
use Rattle.geometry.specs.declared.Point2.{Point2}
use Rattle.geometry.specs.declared.Point3.{Point3}
use Rattle.geometry.specs.declared.NearestPoint.{NearestPoint}
use Rattle.geometry.specs.Double.{◌⊕◌, ◌⊖◌, ◌⊘◌, whole, decimal, f0, half, is_finite}
use Rattle.geometry.specs.Point.{at3, origin, xy, scale2, perp}
use Rattle.geometry.specs.Polyline.{Polyline, polyline_of, polyline_length, point_at_fraction, direction_at, nearest_point}
use Rattle.map.specs.declared.SignalKind.{SignalKind}
use Rattle.map.specs.declared.SignalKind.TheVariants.{Vehicle, Pedestrian}
use Rattle.map.specs.declared.BulbColor.{BulbColor}
use Rattle.map.specs.declared.BulbColor.TheVariants.{Red, Yellow, Green}
use Rattle.map.specs.declared.BulbArrow.TheVariants.{NoArrow}
use Rattle.map.specs.Record.{Bulb, Signal, RuleBody, light, sign, marking, right_of_way, crossing, other, Rule, Map, signal_kind_number, bulb_color_number, bulb_arrow_number}
use Rattle.map.specs.Entity.{EntityRef, entity}
use Rattle.map.specs.Lookup.{line_of, rule_of}
use Rattle.map.specs.Rows.{fresh, with_line, with_signal, with_rule, with_rules, rule_with}
use Rattle.changes.specs.ChangeSet.{Warning, warning}
use Rattle.changes.specs.Running.{State}
use Rattle.place.specs.declared.Placement.{Placement}
use Rattle.place.specs.declared.SectionNames.{SectionNames}
use Rattle.place.specs.declared.Placement.TheVariants.{AtLaneEnd}
use Rattle.edit.specs.declared.StopLineChoice.{StopLineChoice}
use Rattle.edit.specs.declared.StopLineChoice.TheVariants.{Automatic, Existing, New, NoLine}
use Rattle.edit.specs.declared.SignalBulb.{SignalBulb}
use Rattle.place.specs.Place.{Placed, check_lane_list, check_polyline, lane_centerline, cross_section, place_stop_line, open_place}
use Rattle.edit.specs.Edit.{Draft, Outcome, call, open_edit}

-- what a caller can ask for; the tables hold the enums' numbers
pub record NewTrafficSignal : Type 0 where
  pub lanes : List ℕ
  pub choice : StopLineChoice
  -- the coordinates of a new line that is given
  pub points : List Float
  -- the coordinates of the housing's lower edge
  pub housing : Option (List Float)
  pub height : Option Float
  pub kind : SignalKind
  pub bulbs : Option (List SignalBulb)
  -- the light that it joins
  pub group : Option ℕ

unfoldable pub stored_bulb : SignalBulb → Bulb
stored_bulb b = record { position = b.position; color = bulb_color_number b.color; arrow = bulb_arrow_number b.arrow }

-- ---- the group

-- the line of a light, and a refusal for any other rule
unfoldable pub light_line : RuleBody → Answer (Option ℕ)
light_line (light signals line) = done line
light_line (sign type shape line) = refused 7 (2 ∷ [])
light_line (marking line) = refused 7 (2 ∷ [])
light_line (right_of_way priority yielding stop_lines) = refused 7 (2 ∷ [])
light_line (crossing c stop_lines) = refused 7 (2 ∷ [])
light_line (other k) = refused 7 (2 ∷ [])

unfoldable pub group_line : Map → Option ℕ → Answer (Option ℕ)
group_line m None = done None
group_line m (Some g) = do
  r ← present (rule_of m g) 2 (8 ∷ g ∷ [])
  refuse_when (not (no_entries r.controlled)) 7 (1 ∷ [])
  light_line r.body

-- ---- the line

unfoldable pub differs : Option ℕ → ℕ → Bool
differs None s = false
differs (Some g) s = not (eqb g s)

-- a new line is turned down where the group has one
abbrev pub check_new : Option ℕ → Answer (Unit {0})
check_new None = done tt
check_new (Some g) = refused 7 (4 ∷ [])

unfoldable pub check_choice : Map → Option ℕ → StopLineChoice → Answer (Unit {0})
check_choice m group Automatic = done tt
check_choice m group (New how) = check_new group
check_choice m group NoLine = done tt
check_choice m group (Existing s) = do
  present (line_of m s) 2 (5 ∷ s ∷ [])
  refuse_when (differs group s) 7 (3 ∷ [])

-- the line of a light, a sign or a marking
unfoldable pub stops_at : RuleBody → Option ℕ
stops_at (light signals line) = line
stops_at (sign type shape line) = line
stops_at (marking line) = Some line
stops_at (right_of_way priority yielding stop_lines) = None
stops_at (crossing c stop_lines) = None
stops_at (other k) = None

-- the first such line among the lane's rules
unfoldable pub existing_stop_line : Map → ℕ → Option ℕ
existing_stop_line m n = first_of (λ r. cond (member n r.lanes) (stops_at r.body) None) m.rules

pub data Plan : Type 0 where
  use_line : ℕ → Plan
  use_none : Plan
  draw : Placed → Plan

unfoldable pub draw_plan : Map → List ℕ → Placement → List Float → Answer Plan
draw_plan m lanes how cs = do
  p ← place_stop_line m lanes how cs
  done (draw p)

unfoldable pub auto_plan : Map → List ℕ → Option ℕ → Answer Plan
auto_plan m lanes None = draw_plan m lanes (AtLaneEnd f0) []
auto_plan m lanes (Some s) = done (use_line s)

-- the choice of no line is the group's, where it has one
abbrev pub own_plan : Option ℕ → Plan
own_plan None = use_none
own_plan (Some s) = use_line s

unfoldable pub plan_for : Map → List ℕ → Option ℕ → StopLineChoice → List Float → Answer Plan
plan_for m lanes group (Existing s) cs = done (use_line s)
plan_for m lanes group NoLine cs = done (own_plan group)
plan_for m lanes group (New how) cs = draw_plan m lanes how cs
plan_for m lanes group Automatic cs = auto_plan m lanes (or_else group (existing_stop_line m (get_or lanes 0 0)))

-- what the signal is put above
unfoldable pub anchor_for : Map → List ℕ → Plan → Answer Polyline
anchor_for m lanes (use_line s) = do
  l ← present (line_of m s) 2 (5 ∷ s ∷ [])
  done l.geometry
anchor_for m lanes (draw p) = done p.points
anchor_for m lanes use_none =
    let reference = get_or lanes 0 0 in
    cross_section m reference (elim (lane_centerline m reference) [ None ↦ f0 | Some c ↦ polyline_length c ]) lanes >>= λ x.
    done x.points

-- ---- the signal

-- DEFAULT_SIGNAL_HEIGHT, DEFAULT_SIGNAL_WIDTH and DEFAULT_SIGNAL_ELEVATION, and 2
abbrev pub default_height : Float
default_height = half

abbrev pub default_width : Float
default_width = of_bits binary64 0x3FF3_3333_3333_3333

abbrev pub default_elevation : Float
default_elevation = of_bits binary64 0x4014_0000_0000_0000

abbrev pub f2 : Float
f2 = of_bits binary64 0x4000_0000_0000_0000

pub literals : map (to_bits binary64) (default_height ∷ default_width ∷ default_elevation ∷ f2 ∷ [])
    ≡ map (to_bits binary64) (decimal 5 10 ∷ decimal 12 10 ∷ whole 5 ∷ whole 2 ∷ [])
unfolding of_bits to_bits of_int round
literals = refl

-- from left to right as the traffic sees it
unfoldable pub housing_at : Point3 → Point2 → Polyline
housing_at mid dir =
    let left = scale2 (perp dir) (default_width ⊘ f2) in
    let z = mid.z ⊕ default_elevation in
    at3 (mid.x ⊕ left.x) (mid.y ⊕ left.y) z ∷ at3 (mid.x ⊖ left.x) (mid.y ⊖ left.y) z ∷ []

unfoldable pub station_of : Option NearestPoint → Float
station_of None = f0
station_of (Some n) = n.station

unfoldable pub synthesize_signal_geometry : Map → ℕ → Polyline → Answer Polyline
synthesize_signal_geometry m reference anchor = do
  mid ← present (point_at_fraction anchor half) 6 (6 ∷ [])
  center ← present (lane_centerline m reference) 6 (1 ∷ [])
  dir ← present (direction_at center (station_of (nearest_point center (xy mid)))) 6 (3 ∷ [])
  done (housing_at mid dir)

-- the points as given, or made up with a warning
unfoldable pub housing_for : Map → ℕ → Polyline → Option (List Float) → Answer Placed
housing_for m reference anchor (Some cs) = done (record { points = polyline_of cs; warnings = []; ends = None })
housing_for m reference anchor None = do
  xs ← synthesize_signal_geometry m reference anchor
  done (record { points = xs; warnings = warning 3 None ∷ []; ends = None })

-- green, yellow and red; a pedestrian's light has no yellow
unfoldable pub colors : SignalKind → List BulbColor
colors Vehicle = Green ∷ Yellow ∷ Red ∷ []
colors Pedestrian = Green ∷ Red ∷ []

unfoldable pub default_bulb : Polyline → Float → List BulbColor → ℕ → Bulb
default_bulb xs height cs i =
    let p = or_default (point_at_fraction xs ((whole i ⊕ half) ⊘ whole (length cs))) origin in
    record { position = at3 p.x p.y (p.z ⊕ height ⊘ f2); color = bulb_color_number (get_or cs i Red); arrow = bulb_arrow_number NoArrow }

-- evenly along the housing, raised by half the height
unfoldable pub default_bulbs : SignalKind → Polyline → Float → List Bulb
default_bulbs kind xs height = let cs = colors kind in list_to (default_bulb xs height cs) (length cs)

-- ---- what is stored

-- the draft so far, and the light's line
pub record Drawing : Type 0 where
  pub map : Map
  pub line : Option ℕ
  pub created : List EntityRef
  pub modified : List EntityRef
  pub deleted : List EntityRef
  pub warnings : List Warning

unfoldable pub line_drawn : Map → Plan → Drawing
line_drawn m (use_line s) = record { map = m; line = Some s; created = []; modified = []; deleted = []; warnings = [] }
line_drawn m use_none = record { map = m; line = None; created = []; modified = []; deleted = []; warnings = [] }
line_drawn m (draw p) = record { map = with_line m p.points; line = Some (fresh m); created = entity 5 (fresh m) ∷ []; modified = []; deleted = []; warnings = p.warnings }

unfoldable pub plan_points : Plan → Polyline
plan_points (use_line s) = []
plan_points use_none = []
plan_points (draw p) = p.points

-- a line that stood, and no line, have no ends to name
unfoldable pub plan_ends : Plan → Option SectionNames
plan_ends (use_line s) = None
plan_ends use_none = None
plan_ends (draw p) = p.ends

unfoldable pub signal_drawn : Drawing → Signal → List Warning → Drawing
signal_drawn d s ws =
    record {
      map = with_signal d.map s;
      line = d.line;
      created = d.created ++ (entity 6 s.num ∷ []);
      modified = d.modified;
      deleted = d.deleted;
      warnings = d.warnings ++ ws;
    }

-- the light with one more signal; it keeps its own line
unfoldable pub extended : RuleBody → ℕ → Option ℕ → RuleBody
extended (light signals line) n s = light (signals ++ (n ∷ [])) (or_else line s)
extended (sign type shape line) n s = sign type shape line
extended (marking line) n s = marking line
extended (right_of_way priority yielding stop_lines) n s = right_of_way priority yielding stop_lines
extended (crossing c stop_lines) n s = crossing c stop_lines
extended (other k) n s = other k

-- ls, and those of ns that it lacks
unfoldable pub joined_lanes : List ℕ → List ℕ → List ℕ
joined_lanes ls ns = ls ++ keep (λ n. not (member n ls)) ns

unfoldable pub grouped : Drawing → NewTrafficSignal → ℕ → Option Rule → Drawing
grouped d a n None =
    record {
      map = with_rule d.map (light (n ∷ []) d.line) a.lanes;
      line = d.line;
      created = d.created ++ (entity 8 (fresh d.map) ∷ []);
      modified = d.modified;
      deleted = d.deleted;
      warnings = d.warnings;
    }
grouped d a n (Some r) =
    let r' = rule_with r (extended r.body n d.line) (joined_lanes r.lanes a.lanes) r.controlled in
    record {
      map = with_rules d.map (replaced (λ x. x.num) r' d.map.rules);
      line = d.line;
      created = d.created;
      modified = d.modified ++ (entity 8 r.num ∷ []);
      deleted = d.deleted;
      warnings = d.warnings;
    }

-- ---- the stop rules on the light's line

-- a marking or a stop sign, on the line s
unfoldable pub is_stop_at : ℕ → RuleBody → Bool
is_stop_at s (light signals line) = false
is_stop_at s (sign type shape None) = false
is_stop_at s (sign type shape (Some line)) = eqb type 1 && eqb line s
is_stop_at s (marking line) = eqb line s
is_stop_at s (right_of_way priority yielding stop_lines) = false
is_stop_at s (crossing c stop_lines) = false
is_stop_at s (other k) = false

pub data Lift : Type 0 where
  kept : Lift
  eased : List ℕ → Lift
  gone : Lift

-- what is left of a stop rule's lanes ls, of which ks are left
unfoldable pub lift_of : List ℕ → List ℕ → Lift
lift_of ls ks = cond (eqb (length ks) (length ls)) kept (cond (no_entries ks) gone (eased ks))

unfoldable pub lift : ℕ → List ℕ → Rule → Lift
lift s lanes r = cond (is_stop_at s r.body) (lift_of r.lanes (keep (λ n. not (member n lanes)) r.lanes)) kept

-- the rules, and what is said of each
unfoldable pub lifted : Rule → Lift → List Rule
lifted r kept = r ∷ []
lifted r (eased ks) = rule_with r r.body ks r.controlled ∷ []
lifted r gone = []

unfoldable pub eased_ref : Rule → Lift → List EntityRef
eased_ref r kept = []
eased_ref r (eased ks) = entity 8 r.num ∷ []
eased_ref r gone = []

unfoldable pub gone_ref : Rule → Lift → List EntityRef
gone_ref r kept = []
gone_ref r (eased ks) = []
gone_ref r gone = entity 8 r.num ∷ []

unfoldable pub lift_warning : Rule → Lift → List Warning
lift_warning r kept = []
lift_warning r (eased ks) = warning 4 (Some (entity 8 r.num)) ∷ []
lift_warning r gone = warning 4 (Some (entity 8 r.num)) ∷ []

-- each rule's part is worked out by itself, and the parts are joined in the table's order
unfoldable pub lift_all : List ℕ → Drawing → Option ℕ → Drawing
lift_all lanes d None = d
lift_all lanes d (Some s) =
    let rs = d.map.rules in
    record {
      map = with_rules d.map (joined (λ r. lifted r (lift s lanes r)) rs);
      line = d.line;
      created = d.created;
      modified = d.modified ++ joined (λ r. eased_ref r (lift s lanes r)) rs;
      deleted = d.deleted ++ joined (λ r. gone_ref r (lift s lanes r)) rs;
      warnings = d.warnings ++ joined (λ r. lift_warning r (lift s lanes r)) rs;
    }

-- ---- the edit

abbrev pub positions : List Bulb → List Point3
positions = map (λ b. b.position)

unfoldable pub bad_height : Option Float → Bool
bad_height None = false
bad_height (Some h) = not (is_finite h && lt f0 h)

unfoldable pub check_housing : Option (List Float) → Answer (Unit {0})
check_housing None = done tt
check_housing (Some cs) = check_polyline cs

unfoldable pub group_rule : Map → Option ℕ → Option Rule
group_rule m None = None
group_rule m (Some g) = rule_of m g

unfoldable pub bulbs_or : Option (List SignalBulb) → List Bulb → List Bulb
bulbs_or None bs = bs
bulbs_or (Some ns) bs = map stored_bulb ns

-- where the line and the signal go
pub record Planned : Type 0 where
  pub plan : Plan
  pub housing : Placed

-- all that the call tests
unfoldable pub light_plan : NewTrafficSignal → Map → Answer Planned
light_plan a m = do
  check_lane_list m a.lanes
  refuse_when (bad_height a.height) 4 (1 ∷ [])
  check_housing a.housing
  group ← group_line m a.group
  check_choice m group a.choice
  plan ← plan_for m a.lanes group a.choice a.points
  anchor ← anchor_for m a.lanes plan
  housing ← housing_for m (get_or a.lanes 0 0) anchor a.housing
  done (record { plan = plan; housing = housing })

unfoldable pub height_of : NewTrafficSignal → Float
height_of a = or_default a.height default_height

unfoldable pub bulbs_of : NewTrafficSignal → Polyline → List Bulb
bulbs_of a xs = bulbs_or a.bulbs (default_bulbs a.kind xs (height_of a))

unfoldable pub new_signal : NewTrafficSignal → ℕ → Polyline → Signal
new_signal a n xs = record { num = n; kind = signal_kind_number a.kind; geometry = xs; height = Some (height_of a); bulbs = bulbs_of a xs }

-- all that it does
unfoldable pub light_draft : NewTrafficSignal → Map → Planned → Draft
light_draft a m p =
    let one = line_drawn m p.plan in
    let n = fresh one.map in
    let two = signal_drawn one (new_signal a n p.housing.points) p.housing.warnings in
    let three = grouped two a n (group_rule m a.group) in
    let four = lift_all a.lanes three one.line in
    record {
      map = four.map;
      id = n;
      ends = plan_ends p.plan;
      stored = plan_points p.plan ++ p.housing.points ++ positions (bulbs_of a p.housing.points);
      changes = record { created = four.created; modified = four.modified; deleted = four.deleted; warnings = four.warnings };
    }

unfoldable pub light_edit : NewTrafficSignal → Map → Answer Draft
light_edit a m = do
  p ← light_plan a m
  done (light_draft a m p)

unfoldable pub add_traffic_signal : NewTrafficSignal → State → Answer Outcome
add_traffic_signal a = call (light_edit a)

unfoldable pub open_light : Unit {0}
unfolding open_place open_edit light_line group_line differs check_choice stops_at existing_stop_line draw_plan auto_plan plan_for anchor_for housing_at station_of synthesize_signal_geometry housing_for colors default_bulb default_bulbs line_drawn plan_points plan_ends signal_drawn extended joined_lanes grouped is_stop_at lift_of lift lifted eased_ref gone_ref lift_warning lift_all bad_height check_housing group_rule stored_bulb bulbs_or light_plan height_of bulbs_of new_signal light_draft light_edit add_traffic_signal
open_light = tt
