-- What the tests of a light's room answer, and its plan.
use Rattle.std.specs.Prelude.{ℕ, ◌+◌, ◌<◌, ◌≡◌, Bool, true, false, not, ◌&&◌, cond, List, [], leb, ltb, Float, length, get_or, Option, Some, Err, Ok, Result}
use Rattle.refusal.specs.Answer.{done, refused_as, refuse_when}
use Rattle.refusal.specs.declared.Refusal.{Refusal}
use Rattle.refusal.specs.declared.Refusal.TheVariants.{OffTheMap}
use Rattle.rows.specs.Lists.{every, list_to, total}
use Rattle.geometry.specs.Point.{point_on_map}
use Rattle.geometry.specs.Polyline.{Polyline, point_in}
use Rattle.centerline.specs.declared.Line.{Line}
use Rattle.centerline.specs.Line.{points_of}
use Rattle.store.specs.Layout.{count_of, next_of, row_of}
use Rattle.row_tests.specs.Flat.{all_points}
use Rattle.map.specs.declared.Entries.{Entries}
use Rattle.std.specs.Prelude.{Some, None}
use Rattle.map.specs.Ceilings.{rule_points}
use Rattle.map.specs.Record.{Map}
use Rattle.map.specs.Tables.{list_at, map_of}
use Rattle.map.specs.Access.{lookup}
use Rattle.place.specs.Values.{Roomy, maybe_ends}
use Rattle.placing.specs.Answers.{checked}
use Rattle.edit.specs.declared.SignalRequest.{SignalRequest}
use Rattle.edit.specs.Edit.{Draft}
use Rattle.edit.specs.Light.{NewTrafficSignal, Planned, light_draft, light_edit}
use Rattle.finishing.specs.Finish.{planned}
use Rattle.lighting.specs.Housing.{housing_of}
use Rattle.lighting.specs.Plan.{plan_of, drawn_of}
use Rattle.lifting.specs.declared.Freed.{Freed}
use Rattle.edit.specs.Request.{lamp_count}
use Rattle.signal_row.specs.declared.Bulbs.{Bulbs}
use Rattle.signal_row.specs.Row.{BulbsRead, bulbs_on_map}
use Rattle.grouping.specs.Group.{JoinedRead}
use Rattle.light_draft.specs.declared.Light.{Light}
use Rattle.light_draft.specs.Drafting.{one_if, LightNumbered, line_in, lifted_first, Joinable}
use Rattle.light_room.specs.declared.SignalPlan.{SignalPlan}

-- ---- on the map

-- every lamp that is given, also past the fourth, or the standard ones
unfoldable pub lamps_on : Bool → List Float → Bulbs → Bool
lamps_on given cs standard = cond given (every point_on_map (list_to (point_in cs) (lamp_count cs))) (bulbs_on_map standard)

unfoldable pub on_map : Bool → Polyline → Polyline → Bool → Bool
on_map drawn line housing bulbs = cond drawn (every point_on_map line) true && (every point_on_map housing && bulbs)

-- ---- what goes, and the lists

pub record FreedRead (ws : List ℕ) (line : Option ℕ) (lanes : List ℕ) (r : Freed) : Type 0 where
  pub rules : (cs : List Float) → length (map_of ws cs).rules ≡ length (lifted_first (map_of ws cs) line lanes).rules + r.rules
  pub points : (cs : List Float) → total rule_points (map_of ws cs).rules ≡ total rule_points (lifted_first (map_of ws cs) line lanes).rules + r.points

pub record JoinedFor (ws : List ℕ) (joins : Bool) (g : ℕ) (lanes : List ℕ) (r : Entries) : Type 0 where
  pub room : length r.entries ≡ 16
  pub lists : joins ≡ true → (i : ℕ) → lookup ws 5 g ≡ Some i → JoinedRead (list_at (row_of ws 5 i) 7) lanes r
  -- none where no light is joined, or there is none
  pub alone : joins ≡ false → r.count ≡ 0
  pub lost : lookup ws 5 g ≡ None → r.count ≡ 0

pub record ListsFit (ws : List ℕ) (joins : Bool) (g lanes : ℕ) (joined : Entries) (r : Bool) : Type 0 where
  pub new : joins ≡ false → r ≡ leb lanes 16
  pub group : joins ≡ true → (i : ℕ) → lookup ws 5 g ≡ Some i → r ≡ (ltb (get_or (row_of ws 5 i) 41 0) 16 && leb joined.count 16)
  pub lost : joins ≡ true → lookup ws 5 g ≡ None → r ≡ false

-- ---- room

unfoldable pub counts_fit : ℕ → ℕ → ℕ → Bool → Bool → ℕ → Bool
counts_fit lines signals rules drawn joins freed = leb (lines + one_if drawn) 64 && (leb (signals + 1) 64 && leb (rules + one_if (not joins)) (128 + freed))

unfoldable pub room_for : ℕ → ℕ → ℕ → ℕ → Bool → Bool → ℕ → ℕ → ℕ → ℕ → Bool → Bool
room_for lines signals rules used drawn joins freed_rules freed_points more bulbs lists =
    counts_fit lines signals rules drawn joins freed_rules && (leb bulbs 4 && (lists && leb (used + more) (1024 + freed_points)))

pub record RoomTested (ws lanes : List ℕ) (l : Light) (line housing : Line) (count : ℕ) (joined : Entries) (r : Result (Unit {0}) Refusal) : Type 0 where
  pub freed : Freed
  pub lists : Bool
  pub goes : FreedRead ws (line_in l) lanes freed
  pub fit : ListsFit ws l.joins l.rule (length lanes) joined lists
  pub answer : checked r
      ≡ refuse_when (not (room_for (count_of ws 2) (count_of ws 3) (count_of ws 5) (all_points ws) l.drawn l.joins freed.rules freed.points (cond l.drawn line.count 0 + housing.count) count lists)) 10 []

pub record Fitted (ws lanes : List ℕ) (l : Light) (line housing : Line) (lamps : Bool) (count : ℕ) (joined : Entries) (r : Result (Unit {0}) Refusal) : Type 0 where
  pub off : on_map l.drawn (points_of line) (points_of housing) lamps ≡ false → r ≡ Err OffTheMap
  pub on : on_map l.drawn (points_of line) (points_of housing) lamps ≡ true → RoomTested ws lanes l line housing count joined r

-- ---- the plan

pub record PlanRefused (x : Refusal) (r : SignalPlan) : Type 0 where
  pub answer : r.checked ≡ Err x

-- what the plan stands for, and its draft
abbrev pub planned_in : List ℕ → SignalPlan → Planned
planned_in lanes p =
    record { plan = plan_of p.plan (drawn_of (get_or lanes 0 0) p.line p.clamped p.ends); housing = housing_of p.housing p.synthesized }

abbrev pub signal_draft : NewTrafficSignal → Map → SignalPlan → Draft
signal_draft a m p = light_draft a m (planned_in a.lanes p)

-- a plan that is accepted, and what storing it asks for
pub record SignalReady (ws : List ℕ) (cs : List Float) (q : SignalRequest) (lamps : List Float) (a : NewTrafficSignal) (p : SignalPlan) : Type 0 where
  pub answer : planned (light_edit a) (map_of ws cs) ≡ done (signal_draft a (map_of ws cs) p)
  pub ends : maybe_ends p.ends ≡ (signal_draft a (map_of ws cs) p).ends
  pub numbers : LightNumbered (next_of ws) p.plan a.group p.light
  pub line_room : Roomy p.line
  pub housing_room : Roomy p.housing
  pub lanes : 0 < length a.lanes
  pub lamps_read : BulbsRead q (points_of p.housing) lamps p.bulbs
  pub group : (g : ℕ) → a.group ≡ Some g → Joinable (map_of ws cs) g
  pub joined_lanes_is : JoinedFor ws p.light.joins p.light.rule a.lanes p.joined
  pub tested : RoomTested ws a.lanes p.light p.line p.housing p.bulbs.count p.joined (Ok tt)

pub record SignalPlanned (ws : List ℕ) (cs : List Float) (q : SignalRequest) (lamps : List Float) (a : NewTrafficSignal) (p : SignalPlan) : Type 0 where
  pub refused : (x : Refusal) → p.checked ≡ Err x → planned (light_edit a) (map_of ws cs) ≡ refused_as x
  pub ready : p.checked ≡ (Ok tt) → SignalReady ws cs q lamps a p
