-- The three edits as they were defined before a line's ends had names; what stands twice is what names the ends now.
use Rattle.std.specs.Prelude.{ℕ, ◌^◌, not, ◌&&◌, List, [], ◌∷◌, ◌++◌, leb, get_or, Float, Option, None, Some}
use Rattle.refusal.specs.Answer.{Answer, done, ◌>>=◌, ◌>>◌, refuse_when, present}
use Rattle.rows.specs.Lists.{or_else, every, twice, sorted}
use Rattle.rows.specs.Table.{replaced}
use Rattle.geometry.specs.declared.Point3.{Point3}
use Rattle.geometry.specs.Double.{f0}
use Rattle.geometry.specs.Point.{point_on_map}
use Rattle.geometry.specs.Polyline.{Polyline, polyline_of, polyline_length}
use Rattle.map.specs.Record.{RuleBody, Map}
use Rattle.map.specs.Ceilings.{within_ceilings}
use Rattle.map.specs.Entity.{entity}
use Rattle.map.specs.Lookup.{line_of, rule_of, unknown_in}
use Rattle.map.specs.MapFile.{is_map}
use Rattle.map.specs.Rows.{fresh, with_line, with_rule, with_rules, rule_with}
use Rattle.changes.specs.ChangeSet.{ChangeSet, warning, normalize, fold_step, tally_of}
use Rattle.changes.specs.ChangeFile.{lists_ok}
use Rattle.changes.specs.Running.{State, fold_ok, fold_fits}
use Rattle.place.specs.declared.Placement.{Placement}
use Rattle.place.specs.declared.Placement.TheVariants.{AtLaneEnd}
use Rattle.place.specs.Place.{refuse_found, check_lane_list, lane_centerline}
use Rattle.names_apart.specs.Placing.{Placed, cross_section, place_stop_line}
use Rattle.edit.specs.declared.StopLineChoice.{StopLineChoice}
use Rattle.edit.specs.declared.StopLineChoice.TheVariants.{Automatic, Existing, New, NoLine}
use Rattle.edit.specs.StopLine.{NewStopLine, rule_at}
use Rattle.group_line.specs.Before.{check_choice}
use Rattle.edit.specs.Light.{NewTrafficSignal, Drawing, group_line, existing_stop_line, synthesize_signal_geometry, signal_drawn, grouped, lift_all, positions, bad_height, check_housing, group_rule, bulbs_of, new_signal}
use Rattle.edit.specs.Links.{RegulatoryLinks, relinked, same_links, link_changes}

-- ---- the call

-- what an edit would leave: the map, the number of the record that it answers, the changes before they are put in order, and the new points
pub record Draft : Type 0 where
  pub map : Map
  pub id : ℕ
  pub changes : ChangeSet
  pub stored : List Point3

-- what a call leaves and answers
pub record Outcome : Type 0 where
  pub state : State
  pub id : ℕ
  pub changes : ChangeSet

-- 9 for stored points, 10 for the end result, 11, and then the fold and its tally
unfoldable pub finish : State → Draft → Answer Outcome
finish s d = do
  let set = normalize d.changes
  let fold = fold_step s.fold set
  refuse_when (not (every point_on_map d.stored)) 9 []
  refuse_when (not (within_ceilings d.map && fold_fits fold)) 10 []
  refuse_when (leb (2 ^ 64) d.map.next) 11 []
  done (record { state = record { map = d.map; fold = fold; tally = tally_of fold }; id = d.id; changes = set })

unfoldable pub call : (Map → Answer Draft) → State → Answer Outcome
call edit s = do
  refuse_when (not (is_map s.map)) 12 []
  refuse_when (not (lists_ok s.fold && fold_ok s)) 13 []
  d ← edit s.map
  finish s d

-- ---- a stop line

unfoldable pub line_draft : NewStopLine → Draft → Option RuleBody → Draft
line_draft a d None = record {
  map = d.map;
  id = d.id;
  stored = d.stored;
  changes = record { created = d.changes.created; modified = []; deleted = []; warnings = d.changes.warnings ++ (warning 2 (Some (entity 5 d.id)) ∷ []) };
}
line_draft a d (Some w) = record {
  map = with_rule d.map w a.lanes;
  id = d.id;
  stored = d.stored;
  changes = record { created = d.changes.created ++ (entity 8 (fresh d.map) ∷ []); modified = []; deleted = []; warnings = d.changes.warnings };
}

unfoldable pub stop_line_edit : NewStopLine → Map → Answer Draft
stop_line_edit a m = do
  check_lane_list m a.lanes
  p ← place_stop_line m a.lanes a.placement a.points
  let n = fresh m
  let drawn : Draft = record {
    map = with_line m p.points;
    id = n;
    stored = p.points;
    changes = record { created = entity 5 n ∷ []; modified = []; deleted = []; warnings = p.warnings };
  }
  done (line_draft a drawn (rule_at a.rule n))

unfoldable pub add_stop_line : NewStopLine → State → Answer Outcome
add_stop_line a = call (stop_line_edit a)

-- ---- a light

pub data Plan : Type 0 where
  use_line : ℕ → Plan
  use_none : Plan
  draw : Placed → Plan

unfoldable pub draw_plan : Map → List ℕ → Placement → List Float → Answer Plan
draw_plan m lanes how cs = do
  p ← place_stop_line m lanes how cs
  done (draw p)

unfoldable pub auto_plan : Map → List ℕ → Option ℕ → Answer Plan
auto_plan m lanes None = draw_plan m lanes (AtLaneEnd f0) []
auto_plan m lanes (Some s) = done (use_line s)

unfoldable pub plan_for : Map → List ℕ → Option ℕ → StopLineChoice → List Float → Answer Plan
plan_for m lanes group (Existing s) cs = done (use_line s)
plan_for m lanes group NoLine cs = done use_none
plan_for m lanes group (New how) cs = draw_plan m lanes how cs
plan_for m lanes group Automatic cs = auto_plan m lanes (or_else group (existing_stop_line m (get_or lanes 0 0)))

-- what the signal is put above
unfoldable pub anchor_for : Map → List ℕ → Plan → Answer Polyline
anchor_for m lanes (use_line s) = do
  l ← present (line_of m s) 2 (5 ∷ s ∷ [])
  done l.geometry
anchor_for m lanes (draw p) = done p.points
anchor_for m lanes use_none =
    let reference = get_or lanes 0 0 in
    cross_section m reference (elim (lane_centerline m reference) [ None ↦ f0 | Some c ↦ polyline_length c ]) lanes

-- the points as given, or made up with a warning
unfoldable pub housing_for : Map → ℕ → Polyline → Option (List Float) → Answer Placed
housing_for m reference anchor (Some cs) = done (record { points = polyline_of cs; warnings = [] })
housing_for m reference anchor None = do
  xs ← synthesize_signal_geometry m reference anchor
  done (record { points = xs; warnings = warning 3 None ∷ [] })

unfoldable pub line_drawn : Map → Plan → Drawing
line_drawn m (use_line s) = record { map = m; line = Some s; created = []; modified = []; deleted = []; warnings = [] }
line_drawn m use_none = record { map = m; line = None; created = []; modified = []; deleted = []; warnings = [] }
line_drawn m (draw p) = record { map = with_line m p.points; line = Some (fresh m); created = entity 5 (fresh m) ∷ []; modified = []; deleted = []; warnings = p.warnings }

unfoldable pub plan_points : Plan → Polyline
plan_points (use_line s) = []
plan_points use_none = []
plan_points (draw p) = p.points

-- where the line and the signal go
pub record Planned : Type 0 where
  pub plan : Plan
  pub housing : Placed

-- all that the call tests
unfoldable pub light_plan : NewTrafficSignal → Map → Answer Planned
light_plan a m = do
  check_lane_list m a.lanes
  refuse_when (bad_height a.height) 4 (1 ∷ [])
  check_housing a.housing
  group ← group_line m a.group
  check_choice m group a.choice
  plan ← plan_for m a.lanes group a.choice a.points
  anchor ← anchor_for m a.lanes plan
  housing ← housing_for m (get_or a.lanes 0 0) anchor a.housing
  done (record { plan = plan; housing = housing })

-- all that it does
unfoldable pub light_draft : NewTrafficSignal → Map → Planned → Draft
light_draft a m p =
    let one = line_drawn m p.plan in
    let n = fresh one.map in
    let two = signal_drawn one (new_signal a n p.housing.points) p.housing.warnings in
    let three = grouped two a n (group_rule m a.group) in
    let four = lift_all a.lanes three one.line in
    record {
      map = four.map;
      id = n;
      stored = plan_points p.plan ++ p.housing.points ++ positions (bulbs_of a p.housing.points);
      changes = record { created = four.created; modified = four.modified; deleted = four.deleted; warnings = four.warnings };
    }

unfoldable pub light_edit : NewTrafficSignal → Map → Answer Draft
light_edit a m = do
  p ← light_plan a m
  done (light_draft a m p)

unfoldable pub add_traffic_signal : NewTrafficSignal → State → Answer Outcome
add_traffic_signal a = call (light_edit a)

-- ---- links

unfoldable pub links_edit : RegulatoryLinks → Map → Answer Draft
links_edit a m = do
  r ← present (rule_of m a.rule) 2 (8 ∷ a.rule ∷ [])
  refuse_when (twice a.lanes) 3 (1 ∷ [])
  refuse_when (twice a.crosswalks) 3 (2 ∷ [])
  refuse_when (twice a.stop_lines) 3 (3 ∷ [])
  let b : RegulatoryLinks = record { rule = a.rule; lanes = sorted a.lanes; crosswalks = sorted a.crosswalks; stop_lines = sorted a.stop_lines }
  refuse_found (unknown_in (λ l. l.num) m.lanes b.lanes) 1
  refuse_found (unknown_in (λ c. c.num) m.crosswalks b.crosswalks) 7
  refuse_found (unknown_in (λ l. l.num) m.stop_lines b.stop_lines) 5
  w ← relinked m b r.body
  let s = rule_with r w b.lanes b.crosswalks
  done (record { map = with_rules m (replaced (λ x. x.num) s m.rules); id = r.num; stored = []; changes = link_changes (same_links r s) r.num })

unfoldable pub set_regulatory_links : RegulatoryLinks → State → Answer Outcome
set_regulatory_links a = call (links_edit a)
