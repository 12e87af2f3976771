-- Closed cases beside the table: the station examples, the full map, the four slips, and each refusal from 9 to 13 in its place in the order.
use Prim.Native.Nat.{ℕ, ◌+◌, ◌^◌}
use mathlib.Core.Path.{◌≡◌, refl}
use mathlib.Core.Bool.{true, false}
use Rattle.std.specs.Prelude.{None, Some}
use mathlib.Core.List.{List, [], ◌∷◌, ◌++◌, map}
use lib.Ieee.{Float, neg, nan}
use Rattle.refusal.specs.Answer.{Answer, refused, done}
use Rattle.rows.specs.Lists.{list_to, same_list}
use Rattle.geometry.specs.Double.{whole, decimal, f0, f1}
use Rattle.geometry.specs.Point.{at3}
use Rattle.codec.specs.Format
use Rattle.codec.specs.Format.{Bytes}
use Rattle.map.specs.declared.SignalKind.TheVariants.{Vehicle}
use Rattle.map.specs.declared.BulbColor.TheVariants.{Red}
use Rattle.map.specs.declared.BulbArrow.TheVariants.{NoArrow}
use Rattle.map.specs.Record.{Map, RuleBody, light, sign, marking, right_of_way, crossing, other, Rule}
use Rattle.map.specs.MapFile.{rule}
use Rattle.map.specs.Entity.{entity}
use Rattle.map.specs.Rows.{with_rules}
use Rattle.changes.specs.ChangeSet.{ChangeSet, no_changes}
use Rattle.changes.specs.ChangeFile.{change_file}
use Rattle.changes.specs.Running.{State, opening}
use Rattle.place.specs.declared.Placement.{Placement}
use Rattle.place.specs.declared.Placement.TheVariants.{AtLaneEnd, AtStation, Given}
use Rattle.place.specs.EndNames.{ends_words}
use Rattle.edit.specs.declared.StopRule.{StopRule}
use Rattle.edit.specs.declared.StopRule.TheVariants.{StopSign, NoRule}
use Rattle.edit.specs.declared.StopLineChoice.{StopLineChoice}
use Rattle.edit.specs.declared.StopLineChoice.TheVariants.{Automatic, Existing, New, NoLine}
use Rattle.edit.specs.Edit.{Outcome}
use Rattle.edit.specs.StopLine.{add_stop_line, open_stop_line}
use Rattle.edit.specs.Light.{NewTrafficSignal, add_traffic_signal, open_light}
use Rattle.edit.specs.Links.{set_regulatory_links, open_links}
use Rattle.place.proofs.Worked.{fresh_map}
use Rattle.edit.proofs.Crossings.{start, after, vehicle_light, p1, p2}

-- a refusal's number and details, or the change set file
abbrev set_of : Answer Outcome → Bytes
set_of (refused n ds) = n ∷ ds
set_of (done o) = change_file.write o.changes

-- the same, and the rules that the call leaves
abbrev set_and_rules : Answer Outcome → Bytes
set_and_rules (refused n ds) = n ∷ ds
set_and_rules (done o) = change_file.write o.changes ++ Rattle.rows.specs.Lists.joined rule.write o.state.map.rules

abbrev placed : StopRule → Placement → List Float → State → Answer Outcome
placed r p cs = add_stop_line (record { lanes = 3 ∷ []; placement = p; points = cs; rule = r })

-- ---- stations past the end: clamped without a warning, and with one

stations : same_list (set_of (placed StopSign (AtStation (decimal 100000000005 10000000000)) [] start) ++ set_of (placed StopSign (AtStation (decimal 1000000001 100000000)) [] start))
    (2 ∷ 5 ∷ 4 ∷ 8 ∷ 5 ∷ 0 ∷ 0 ∷ 0 ∷ 2 ∷ 5 ∷ 4 ∷ 8 ∷ 5 ∷ 0 ∷ 0 ∷ 1 ∷ 1 ∷ 1 ∷ 3 ∷ []) ≡ true
unfolding open_stop_line neg
stations = refl

-- ---- the slips

-- the map after P1 with rules more
abbrev with_more : ℕ → List Rule → State
with_more next rs =
    let m = (after start p1).map in
    opening (record { next = next; lanes = m.lanes; boundaries = m.boundaries; stop_lines = m.stop_lines; signals = []; crosswalks = []; rules = m.rules ++ rs })

abbrev rule_on : ℕ → RuleBody → Rule
rule_on n w = record { num = n; body = w; lanes = 3 ∷ []; controlled = [] }

-- 128 rules, and a light that deletes one: accepted, as the end result has 128
full_light : same_list (set_of (add_traffic_signal (vehicle_light (3 ∷ [])) (with_more 133 (list_to (λ i. rule_on (i + 6) (other 2)) 127))))
    (2 ∷ 6 ∷ 0x85 ∷ 1 ∷ 8 ∷ 0x86 ∷ 1 ∷ 0 ∷ 1 ∷ 8 ∷ 5 ∷ 2 ∷ 3 ∷ 0 ∷ 4 ∷ 8 ∷ 5 ∷ []) ≡ true
unfolding open_stop_line open_light neg
full_light = refl

-- 128 rules, and a stop sign more: full
full_line : same_list (set_of (placed StopSign (AtLaneEnd f0) [] (with_more 133 (list_to (λ i. rule_on (i + 6) (other 2)) 127)))) (10 ∷ []) ≡ true
unfolding open_stop_line open_light neg
full_line = refl

-- 63 lines and two signals: a line more is taken, since signals have places of their own
abbrev many_lines : State
many_lines =
    let m = fresh_map (whole 2) in
    opening (record {
      next = 200;
      lanes = m.lanes;
      boundaries = m.boundaries;
      stop_lines = list_to (λ i. record { num = i + 10; geometry = [] }) 63;
      signals = list_to (λ i. record { num = i + 90; kind = 0; geometry = []; height = None; bulbs = [] }) 2;
      crosswalks = [];
      rules = [];
    })

last_line : same_list (set_of (placed StopSign (AtLaneEnd f0) [] many_lines)) (2 ∷ 5 ∷ 0xC8 ∷ 1 ∷ 8 ∷ 0xC9 ∷ 1 ∷ 0 ∷ 0 ∷ 0 ∷ []) ≡ true
unfolding open_stop_line neg
last_line = refl

-- only a crosswalk rule and a right-of-way rule name line 4 on lane 3: a light draws line 7
abbrev crossed : State
crossed =
    let m = (after start p1).map in
    opening (with_rules (record { next = 7; lanes = m.lanes; boundaries = m.boundaries; stop_lines = m.stop_lines; signals = []; crosswalks = []; rules = [] })
    (rule_on 5 (crossing 9 (4 ∷ [])) ∷ rule_on 6 (right_of_way (3 ∷ []) [] (4 ∷ [])) ∷ []))

other_lines : same_list (set_of (add_traffic_signal (vehicle_light (3 ∷ [])) crossed)) (3 ∷ 5 ∷ 7 ∷ 6 ∷ 8 ∷ 8 ∷ 9 ∷ 0 ∷ 0 ∷ 1 ∷ 3 ∷ 0 ∷ []) ≡ true
unfolding open_stop_line open_light neg
other_lines = refl

-- a group that is no light and controls crosswalks: the crosswalks are looked at first
abbrev light_for : ℕ → StopLineChoice → NewTrafficSignal
light_for g c = record { lanes = 3 ∷ []; choice = c; points = []; housing = None; height = None; kind = Vehicle; bulbs = None; group = Some g }

crosswalk_group : same_list (set_of (add_traffic_signal (light_for 6 Automatic) (with_more 7 (record { num = 6; body = sign 2 None None; lanes = 3 ∷ []; controlled = 9 ∷ [] } ∷ [])))) (7 ∷ 1 ∷ []) ≡ true
unfolding open_stop_line open_light neg
crosswalk_group = refl

-- line 4 is named on lane 8 only: a light on lanes 3 and 8 draws line 9
abbrev second : State
second =
    let m = (after start p1).map in
    opening (record {
      next = 9;
      lanes = m.lanes ++ map (λ l. record { num = 8; kind = l.kind; left = l.left; right = l.right; centerline = l.centerline }) m.lanes;
      boundaries = m.boundaries;
      stop_lines = m.stop_lines;
      signals = [];
      crosswalks = [];
      rules = record { num = 5; body = marking 4; lanes = 8 ∷ []; controlled = [] } ∷ [];
    })

first_lane : same_list (set_of (add_traffic_signal (vehicle_light (3 ∷ 8 ∷ [])) second)) (3 ∷ 5 ∷ 9 ∷ 6 ∷ 10 ∷ 8 ∷ 11 ∷ 0 ∷ 0 ∷ 1 ∷ 3 ∷ 0 ∷ []) ≡ true
unfolding open_stop_line open_light neg
first_lane = refl

-- a sign of type 2 stays on the line; the stop sign goes
other_sign : same_list (set_of (add_traffic_signal (vehicle_light (3 ∷ [])) (with_more 7 (rule_on 6 (sign 2 None (Some 4)) ∷ []))))
    (2 ∷ 6 ∷ 7 ∷ 8 ∷ 8 ∷ 0 ∷ 1 ∷ 8 ∷ 5 ∷ 2 ∷ 3 ∷ 0 ∷ 4 ∷ 8 ∷ 5 ∷ []) ≡ true
unfolding open_stop_line open_light neg
other_sign = refl

-- a rule that named number 7 before line 7 was drawn is lifted as on a line that stood
named_before : same_list (set_and_rules (add_traffic_signal (record { lanes = 3 ∷ []; choice = New (AtLaneEnd f0); points = []; housing = None; height = None; kind = Vehicle; bulbs = None; group = None }) (with_more 7 (rule_on 6 (marking 7) ∷ []))))
    ((3 ∷ 5 ∷ 7 ∷ 6 ∷ 8 ∷ 8 ∷ 9 ∷ 0 ∷ 1 ∷ 8 ∷ 6 ∷ 2 ∷ 3 ∷ 0 ∷ 4 ∷ 8 ∷ 6 ∷ []) ++ rule.write (rule_on 5 (sign 1 None (Some 4))) ++ rule.write (rule_on 9 (light (8 ∷ []) (Some 7)))) ≡ true
unfolding open_stop_line open_light neg
named_before = refl

-- ---- links as they stood: no change; other links: the rule is named; a sign's links are not edited

abbrev linked : List ℕ → List ℕ → ℕ → State → Answer Outcome
linked ls ss r = set_regulatory_links (record { rule = r; lanes = ls; crosswalks = []; stop_lines = ss })

link_sets : same_list (set_of (linked (3 ∷ []) (4 ∷ []) 7 (after start p2)) ++ set_of (linked [] (4 ∷ []) 7 (after start p2)) ++ set_of (linked (3 ∷ []) (4 ∷ []) 5 (after start p1)) ++ set_of (linked (3 ∷ 9 ∷ 8 ∷ []) [] 7 (after start p2)))
    (0 ∷ 0 ∷ 0 ∷ 0 ∷ 0 ∷ 1 ∷ 8 ∷ 7 ∷ 0 ∷ 0 ∷ 8 ∷ 8 ∷ 2 ∷ 1 ∷ 8 ∷ []) ≡ true
unfolding open_stop_line open_light open_links neg
link_sets = refl

-- ---- 9 to 13, and their places in the order

abbrev with_next : ℕ → State
with_next n =
    let m = fresh_map (whole 2) in
    opening (record { next = n; lanes = m.lanes; boundaries = m.boundaries; stop_lines = m.stop_lines; signals = m.signals; crosswalks = m.crosswalks; rules = m.rules })

-- n stop lines without points
abbrev with_lines : ℕ → State
with_lines n =
    let m = fresh_map (whole 2) in
    opening (record { next = n + 4; lanes = m.lanes; boundaries = m.boundaries; stop_lines = list_to (λ i. record { num = i + 4; geometry = [] }) n; signals = []; crosswalks = []; rules = [] })

abbrev with_fold : ChangeSet → ℕ → ℕ → ℕ → State
with_fold f c m d = record { map = fresh_map (whole 2); fold = f; tally = record { created = c; modified = m; deleted = d } }

abbrev sign_at_end_lem : State → Bytes
sign_at_end_lem s = set_of (placed StopSign (AtLaneEnd f0) [] s)

abbrev given : List Float → Bytes
given cs = set_of (placed StopSign Given cs start)

-- 12 for a next number that is not above lane 3, or past 2 ^ 64 - 1
bad_map : same_list (sign_at_end_lem (with_next 3) ++ sign_at_end_lem (with_next 18446744073709551616)) (12 ∷ 12 ∷ []) ≡ true
unfolding open_stop_line neg
bad_map = refl

-- 13: a tally that is not the counts; a record created that is absent; one deleted that is present; a warning; a number not below the next; a list out of order
bad_fold : same_list
    (sign_at_end_lem (with_fold no_changes 1 0 0)
    ++ sign_at_end_lem (with_fold (record { created = entity 5 2 ∷ []; modified = []; deleted = []; warnings = [] }) 1 0 0)
    ++ sign_at_end_lem (with_fold (record { created = []; modified = []; deleted = entity 1 3 ∷ []; warnings = [] }) 0 0 1)
    ++ sign_at_end_lem (with_fold (record { created = []; modified = []; deleted = []; warnings = record { code = 2; about = None } ∷ [] }) 0 0 0)
    ++ sign_at_end_lem (with_fold (record { created = []; modified = []; deleted = entity 8 4 ∷ []; warnings = [] }) 0 0 1)
    ++ sign_at_end_lem (with_fold (record { created = entity 2 1 ∷ entity 1 3 ∷ []; modified = []; deleted = []; warnings = [] }) 2 0 0))
    (13 ∷ 13 ∷ 13 ∷ 13 ∷ 13 ∷ 13 ∷ []) ≡ true
unfolding open_stop_line neg
bad_fold = refl

-- given points: 5/1 for a NaN and for a missing coordinate, before 9; 9 before 10; 10 before 5/2; 5/2
given_points : same_list
    (given (nan ∷ whole (2 ^ 27) ∷ f0 ∷ []) ++ given (f0 ∷ f0 ∷ []) ++ given (list_to (λ i. whole (2 ^ 27)) 195) ++ given (list_to (λ i. f0) 195) ++ given (list_to (λ i. f0) 6) ++ given (f0 ∷ f0 ∷ f0 ∷ [])
    ++ given (f0 ∷ f0 ∷ f0 ∷ f1 ∷ f0 ∷ f0 ∷ []))
    (5 ∷ 1 ∷ 5 ∷ 1 ∷ 9 ∷ 10 ∷ 5 ∷ 2 ∷ 5 ∷ 2 ∷ 2 ∷ 5 ∷ 4 ∷ 8 ∷ 5 ∷ 0 ∷ 0 ∷ 0 ∷ []) ≡ true
unfolding open_stop_line neg
given_points = refl

-- 10 for a 65th line; 9 for a bulb that stands off the map, before 10 for five bulbs and a 65th line; 10 before 11
abbrev bulbs : ℕ → Float → NewTrafficSignal
bulbs n x = record {
  lanes = 3 ∷ [];
  choice = New (AtLaneEnd f0);
  points = [];
  housing = None;
  height = None;
  kind = Vehicle;
  bulbs = Some (list_to (λ i. record { position = at3 x f0 f0; color = Red; arrow = NoArrow }) n);
  group = None;
}

last_tests : same_list
    (sign_at_end_lem (with_lines 64) ++ set_of (add_traffic_signal (bulbs 5 (whole (2 ^ 27))) (with_lines 64)) ++ set_of (add_traffic_signal (bulbs 5 f0) start) ++ set_of (add_traffic_signal (bulbs 5 f0) (with_next 18446744073709551615))
    ++ set_of (add_traffic_signal (bulbs 4 f0) start) ++ sign_at_end_lem (with_next 18446744073709551614) ++ sign_at_end_lem (with_next 18446744073709551615))
    (10 ∷ 9 ∷ 10 ∷ 10 ∷ 3 ∷ 5 ∷ 4 ∷ 6 ∷ 5 ∷ 8 ∷ 6 ∷ 0 ∷ 0 ∷ 1 ∷ 3 ∷ 0 ∷ 11 ∷ 11 ∷ []) ≡ true
unfolding open_stop_line open_light neg
last_tests = refl

-- the last number that can be handed out is 2 ^ 64 - 2
last_number : same_list (set_of (placed NoRule (AtLaneEnd f0) [] (with_next 18446744073709551614)))
    (1 ∷ 5 ∷ 0xfe ∷ 0xff ∷ 0xff ∷ 0xff ∷ 0xff ∷ 0xff ∷ 0xff ∷ 0xff ∷ 0xff ∷ 1 ∷ 0 ∷ 0 ∷ 1 ∷ 2 ∷ 5 ∷ 0xfe ∷ 0xff ∷ 0xff ∷ 0xff ∷ 0xff ∷ 0xff ∷ 0xff ∷ 0xff ∷ 0xff ∷ 1 ∷ []) ≡ true
unfolding open_stop_line neg
last_number = refl

-- ---- the names of a line's ends, in words

-- a refusal's number and details, or the names
abbrev ends_of : Answer Outcome → Bytes
ends_of (refused n ds) = n ∷ ds
ends_of (done o) = ends_words o.ends

abbrev ends_on : Map → List ℕ → Bytes
ends_on m ls = ends_of (add_stop_line (record { lanes = ls; placement = AtLaneEnd f0; points = []; rule = NoRule }) (opening m))

abbrev lane_between : ℕ → ℕ → ℕ → Rattle.map.specs.Record.Lane
lane_between n l r = record { num = n; kind = 0; left = record { boundary = l; reversed = false }; right = record { boundary = r; reversed = false }; centerline = None }

-- the map of the crossings with other lanes, and with boundary 5 at y = -6
abbrev with_lanes : List Rattle.map.specs.Record.Lane → Map
with_lanes ls =
    let m = fresh_map (whole 2) in
    record {
      next = 7;
      lanes = ls;
      boundaries = m.boundaries ++ (record { num = 5; geometry = at3 f0 (neg (whole 6)) f0 ∷ at3 (whole 10) (neg (whole 6)) f0 ∷ [] } ∷ []);
      stop_lines = [];
      signals = [];
      crosswalks = [];
      rules = [];
    }

-- lane 6 to the right of lane 3; lane 6 with the boundaries of lane 3; lane 3 with its boundaries exchanged
abbrev beside : Map
beside = with_lanes (lane_between 3 1 2 ∷ lane_between 6 2 5 ∷ [])

abbrev doubled : Map
doubled = with_lanes (lane_between 3 1 2 ∷ lane_between 6 1 2 ∷ [])

abbrev exchanged : Map
exchanged = with_lanes (lane_between 3 2 1 ∷ [])

ends_named : same_list
    (ends_on (fresh_map (whole 2)) (3 ∷ []) ++ ends_on beside (3 ∷ 6 ∷ []) ++ ends_on beside (6 ∷ 3 ∷ []) ++ ends_on doubled (6 ∷ 3 ∷ []) ++ ends_on doubled (3 ∷ 6 ∷ []) ++ ends_on exchanged (3 ∷ [])
    ++ ends_on (fresh_map (decimal 5 10000)) (3 ∷ []) ++ ends_on (fresh_map (decimal 5 10000)) (3 ∷ 9 ∷ []))
    ((1 ∷ 3 ∷ 0 ∷ 3 ∷ 1 ∷ []) ++ (1 ∷ 3 ∷ 0 ∷ 6 ∷ 1 ∷ []) ++ (1 ∷ 3 ∷ 0 ∷ 6 ∷ 1 ∷ []) ++ (1 ∷ 6 ∷ 0 ∷ 6 ∷ 1 ∷ []) ++ (1 ∷ 3 ∷ 0 ∷ 3 ∷ 1 ∷ []) ++ (1 ∷ 3 ∷ 1 ∷ 3 ∷ 0 ∷ [])
    ++ (6 ∷ 5 ∷ []) ++ (2 ∷ 1 ∷ 9 ∷ [])) ≡ true
unfolding open_stop_line neg
ends_named = refl

abbrev light_with : StopLineChoice → List Float → State → Answer Outcome
light_with c cs = add_traffic_signal (record { lanes = 3 ∷ []; choice = c; points = cs; housing = None; height = None; kind = Vehicle; bulbs = None; group = None })

abbrev none_told : Bytes
none_told = ends_words None

-- given points; a light that draws, at the end and at a station; one on a line found; on a named line; a new line of given points; no line; links
ends_told : same_list
    (ends_of (placed StopSign Given (f0 ∷ f0 ∷ f0 ∷ f1 ∷ f0 ∷ f0 ∷ []) start) ++ ends_of (light_with Automatic [] start) ++ ends_of (light_with (New (AtLaneEnd f1)) [] start) ++ ends_of (light_with (New (AtStation f1)) [] start)
    ++ ends_of p2 ++ ends_of (light_with (Existing 4) [] (after start p1)) ++ ends_of (light_with (New Given) (f0 ∷ f0 ∷ f0 ∷ f1 ∷ f0 ∷ f0 ∷ []) start) ++ ends_of (light_with NoLine [] start)
    ++ ends_of (linked [] (4 ∷ []) 7 (after start p2)))
    (none_told ++ (1 ∷ 3 ∷ 0 ∷ 3 ∷ 1 ∷ []) ++ (1 ∷ 3 ∷ 0 ∷ 3 ∷ 1 ∷ []) ++ (1 ∷ 3 ∷ 0 ∷ 3 ∷ 1 ∷ []) ++ none_told ++ none_told ++ none_told ++ none_told ++ none_told) ≡ true
unfolding open_stop_line open_light open_links neg
ends_told = refl
