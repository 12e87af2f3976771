-- No edit refuses with 12 or above: those come from the state that it is handed.
use mathlib.Core.Path.{◌≡◌, refl}
use mathlib.Core.Bool.{Bool, true, false, not, ◌&&◌, ◌||◌, cond}
use Rattle.std.specs.Prelude.{Option, None, Some}
use mathlib.Core.List.{List, [], ◌∷◌}
use Prim.Native.Nat.{ℕ, ◌^◌, ◌%◌}
use lib.Dec.{eqb, ltb, leb}
use lib.ListN.{length, get_or}
use lib.Ieee.{Float, lt}
use Rattle.geometry.specs.declared.Point2.{Point2}
use Rattle.geometry.specs.declared.Point3.{Point3}
use Rattle.refusal.specs.Answer.{Answer, refused, done, ◌>>=◌, ◌>>◌, refuse_when, present}
use Rattle.rows.specs.Lists.{or_else, every, twice, sorted, same_list, no_entries}
use Rattle.geometry.specs.Double.{f0, is_finite, clamp, milli, ◌⊖◌, half, on_map}
use Rattle.geometry.specs.Point.{perp, point_on_map, xy}
use Rattle.geometry.specs.Polyline.{Polyline, polyline_length, point_at, direction_at, nearest_point, point_at_fraction, polyline_of, is_valid}
use Rattle.map.specs.Ceilings.{within_ceilings}
use Rattle.map.specs.Lookup.{lane_of, oriented, unknown_in, line_of, rule_of, signal_of}
use Rattle.map.specs.Record.{Map, RuleBody, light, sign, marking, right_of_way, crossing, other, BoundaryRef}
use Rattle.changes.specs.ChangeSet.{normalize, fold_step}
use Rattle.changes.specs.Running.{State, fold_fits}
use Rattle.edit.specs.Edit.{Draft, finish}
use Rattle.edit.specs.Light.{NewTrafficSignal, Plan, use_line, use_none, draw, light_line, group_line, differs, check_choice, existing_stop_line, draw_plan, auto_plan, plan_for, anchor_for, synthesize_signal_geometry, housing_for, station_of, bad_height, check_housing, light_plan, light_edit}
use Rattle.edit.specs.Links.{RegulatoryLinks, kinds_of, relinked, links_edit}
use Rattle.place.specs.declared.LaneSide.TheVariants.{Left, Right}
use Rattle.place.specs.declared.EndName.{EndName}
use Rattle.place.specs.Place.{End, Ends, lane_centerline, refuse_found, check_lane_list, check_polyline, with_side, with_lane, with_lanes, section, cross_section, place_at, place_as, place_stop_line}
use Rattle.edit.specs.StopLine.{NewStopLine, stop_line_edit}
use Rattle.place.specs.declared.Placement.{Placement}
use Rattle.place.specs.declared.Placement.TheVariants.{AtLaneEnd, AtStation, Given}
use Rattle.edit.specs.declared.StopLineChoice.{StopLineChoice}
use Rattle.edit.specs.declared.StopLineChoice.TheVariants.{Existing, New, NoLine, Automatic}

abbrev pub low : {A : Type 0} → Answer A → Bool
low (refused n ds) = ltb n 12
low (done a) = true

module _ {A B : Type 0} where
  low_bind : (x : Answer A) (f : A → Answer B) → low x ≡ true → ((a : A) → low (f a) ≡ true) → low (x >>= f) ≡ true
  low_bind (refused n ds) f h k = h
  low_bind (done a) f h k = k a

  low_then : (x : Answer A) (y : Answer B) → low x ≡ true → low y ≡ true → low (x >> y) ≡ true
  low_then (refused n ds) y h k = h
  low_then (done a) y h k = k

low_past : {B : Type 0} (b : Bool) (n : ℕ) (ds : List ℕ) (y : Answer B) → ltb n 12 ≡ true → low y ≡ true → low (refuse_when b n ds >> y) ≡ true
low_past true n ds y h k = h
low_past false n ds y h k = k

low_when : (b : Bool) (n : ℕ) (ds : List ℕ) → ltb n 12 ≡ true → low (refuse_when b n ds) ≡ true
low_when true n ds h = h
low_when false n ds h = refl

low_present : {A : Type 0} (o : Option A) (n : ℕ) (ds : List ℕ) → ltb n 12 ≡ true → low (present o n ds) ≡ true
low_present None n ds h = h
low_present (Some a) n ds h = refl

low_pass : {B : Type 0} (o : Option ℕ) (k : ℕ) (y : Answer B) → low y ≡ true → low (refuse_found o k >> y) ≡ true
low_pass None k y h = h
low_pass (Some n) k y h = refl

low_cond : {A : Type 0} (b : Bool) (x y : Answer A) → low x ≡ true → low y ≡ true → low (cond b x y) ≡ true
low_cond true x y h k = h
low_cond false x y h k = k

low_lanes : (m : Map) (ls : List ℕ) → low (check_lane_list m ls) ≡ true
unfolding check_lane_list
low_lanes m ls = low_past (no_entries ls) 1 [] _ refl (low_pass (unknown_in (λ l. l.num) m.lanes ls) 1 _ (low_when (twice ls) 3 (1 ∷ []) refl))

low_given : (cs : List Float) → low (check_polyline cs) ≡ true
unfolding check_polyline
low_given cs =
    low_past (not (eqb (length cs % 3) 0 && every is_finite cs)) 5 (1 ∷ []) _ refl (low_past (not (every on_map cs)) 9 [] _ refl (low_past (ltb 64 (length (polyline_of cs))) 10 [] _ refl
    (low_when (not (is_valid (polyline_of cs))) 5 (2 ∷ []) refl)))

low_side : (m : Map) (p : Point3) (v : Point2) (x : EndName) (s : BoundaryRef) (es : Ends) → low (with_side m p v x s es) ≡ true
unfolding with_side
low_side m p v x s es = low_bind (present (oriented m s) 6 (4 ∷ [])) _ (low_present (oriented m s) 6 (4 ∷ []) refl) (λ b. refl)

low_lane : (m : Map) (p : Point3) (v : Point2) (n : ℕ) (es : Ends) → low (with_lane m p v n es) ≡ true
unfolding with_lane
low_lane m p v n es =
    low_bind (present (lane_of m n) 6 (4 ∷ [])) _ (low_present (lane_of m n) 6 (4 ∷ []) refl) (λ l.
    low_bind (with_side m p v (record { lane = n; side = Left }) l.left es) _ (low_side m p v (record { lane = n; side = Left }) l.left es) (λ o. low_side m p v (record { lane = n; side = Right }) l.right o))

low_all_lanes : (m : Map) (p : Point3) (v : Point2) (ns : List ℕ) (es : Ends) → low (with_lanes m p v ns es) ≡ true
unfolding with_lanes
low_all_lanes m p v [] es = refl
low_all_lanes m p v (n ∷ ns) es = low_bind (with_lane m p v n es) _ (low_lane m p v n es) (λ o. low_all_lanes m p v ns o)

low_section : (l r : Option End) → low (section l r) ≡ true
unfolding section
low_section None r = refl
low_section (Some l) None = refl
low_section (Some l) (Some r) = low_cond (lt milli (l.lateral ⊖ r.lateral)) _ _ refl refl

low_cross : (m : Map) (n : ℕ) (x : Float) (ls : List ℕ) → low (cross_section m n x ls) ≡ true
unfolding cross_section
low_cross m n x ls =
    low_bind (present (lane_centerline m n) 6 (1 ∷ [])) _ (low_present (lane_centerline m n) 6 (1 ∷ []) refl) (λ c.
    low_bind (present (point_at c x) 6 (2 ∷ [])) _ (low_present (point_at c x) 6 (2 ∷ []) refl) (λ p.
    low_bind (present (direction_at c x) 6 (3 ∷ [])) _ (low_present (direction_at c x) 6 (3 ∷ []) refl) (λ d.
    low_bind (with_lanes m p (perp d) ls (record { left = None; right = None })) _ (low_all_lanes m p (perp d) ls (record { left = None; right = None })) (λ es. low_section es.left es.right))))

low_place_at : (m : Map) (ls : List ℕ) (n : ℕ) (x y : Float) → low (place_at m ls n x y) ≡ true
unfolding place_at
low_place_at m ls n x y = low_past (not (is_finite y)) 4 (3 ∷ []) _ refl (low_bind (cross_section m n (clamp y f0 x) ls) _ (low_cross m n (clamp y f0 x) ls) (λ p. refl))

low_place_as : (how : Placement) (cs : List Float) (m : Map) (ls : List ℕ) (n : ℕ) (x : Float) → low (place_as how cs m ls n x) ≡ true
unfolding place_as
low_place_as Given cs m ls n x = low_then (check_polyline cs) _ (low_given cs) refl
low_place_as (AtLaneEnd o) cs m ls n x = low_past (not (is_finite o) || lt o f0) 4 (2 ∷ []) _ refl (low_place_at m ls n x (x ⊖ o))
low_place_as (AtStation s) cs m ls n x = low_place_at m ls n x s

low_place : (m : Map) (ls : List ℕ) (how : Placement) (cs : List Float) → low (place_stop_line m ls how cs) ≡ true
unfolding place_stop_line
low_place m ls how cs = low_bind (present (lane_centerline m (get_or ls 0 0)) 6 (1 ∷ [])) _ (low_present (lane_centerline m (get_or ls 0 0)) 6 (1 ∷ []) refl) (λ c. low_place_as how cs m ls (get_or ls 0 0) (polyline_length c))

pub low_line : (a : NewStopLine) (m : Map) → low (stop_line_edit a m) ≡ true
unfolding stop_line_edit
low_line a m = low_then (check_lane_list m a.lanes) _ (low_lanes m a.lanes) (low_bind (place_stop_line m a.lanes a.placement a.points) _ (low_place m a.lanes a.placement a.points) (λ p. refl))

-- ---- the light

low_light_line : (w : RuleBody) → low (light_line w) ≡ true
unfolding light_line
low_light_line (light signals line) = refl
low_light_line (sign type shape line) = refl
low_light_line (marking line) = refl
low_light_line (right_of_way priority yielding stop_lines) = refl
low_light_line (crossing c stop_lines) = refl
low_light_line (other k) = refl

low_group : (m : Map) (g : Option ℕ) → low (group_line m g) ≡ true
unfolding group_line
low_group m None = refl
low_group m (Some g) = low_bind (present (rule_of m g) 2 (8 ∷ g ∷ [])) _ (low_present (rule_of m g) 2 (8 ∷ g ∷ []) refl) (λ r. low_past (not (no_entries r.controlled)) 7 (1 ∷ []) _ refl (low_light_line r.body))

low_choice : (m : Map) (g : Option ℕ) (c : StopLineChoice) → low (check_choice m g c) ≡ true
unfolding check_choice
low_choice m g Automatic = refl
low_choice m None (New how) = refl
low_choice m (Some s) (New how) = refl
low_choice m g NoLine = refl
low_choice m g (Existing s) = low_then (present (line_of m s) 2 (5 ∷ s ∷ [])) _ (low_present (line_of m s) 2 (5 ∷ s ∷ []) refl) (low_when (differs g s) 7 (3 ∷ []) refl)

low_draw : (m : Map) (ls : List ℕ) (how : Placement) (cs : List Float) → low (draw_plan m ls how cs) ≡ true
unfolding draw_plan
low_draw m ls how cs = low_bind (place_stop_line m ls how cs) _ (low_place m ls how cs) (λ p. refl)

low_auto : (m : Map) (ls : List ℕ) (o : Option ℕ) → low (auto_plan m ls o) ≡ true
unfolding auto_plan
low_auto m ls None = low_draw m ls (AtLaneEnd f0) []
low_auto m ls (Some s) = refl

low_plan : (m : Map) (ls : List ℕ) (g : Option ℕ) (c : StopLineChoice) (cs : List Float) → low (plan_for m ls g c cs) ≡ true
unfolding plan_for
low_plan m ls g (Existing s) cs = refl
low_plan m ls g NoLine cs = refl
low_plan m ls g (New how) cs = low_draw m ls how cs
low_plan m ls g Automatic cs = low_auto m ls (or_else g (existing_stop_line m (get_or ls 0 0)))

low_anchor : (m : Map) (ls : List ℕ) (p : Plan) → low (anchor_for m ls p) ≡ true
unfolding anchor_for
low_anchor m ls (use_line s) = low_bind (present (line_of m s) 2 (5 ∷ s ∷ [])) _ (low_present (line_of m s) 2 (5 ∷ s ∷ []) refl) (λ l. refl)
low_anchor m ls (draw p) = refl
low_anchor m ls use_none = low_bind (cross_section m (get_or ls 0 0) _ ls) _ (low_cross m (get_or ls 0 0) _ ls) (λ x. refl)

low_synthesized : (m : Map) (n : ℕ) (xs : Polyline) → low (synthesize_signal_geometry m n xs) ≡ true
unfolding synthesize_signal_geometry
low_synthesized m n xs =
    low_bind (present (point_at_fraction xs half) 6 (6 ∷ [])) _ (low_present (point_at_fraction xs half) 6 (6 ∷ []) refl) (λ p.
    low_bind (present (lane_centerline m n) 6 (1 ∷ [])) _ (low_present (lane_centerline m n) 6 (1 ∷ []) refl) (λ c.
    low_bind (present (direction_at c (station_of (nearest_point c (xy p)))) 6 (3 ∷ [])) _ (low_present (direction_at c (station_of (nearest_point c (xy p)))) 6 (3 ∷ []) refl) (λ d. refl)))

low_housing : (m : Map) (n : ℕ) (xs : Polyline) (o : Option (List Float)) → low (housing_for m n xs o) ≡ true
unfolding housing_for
low_housing m n xs (Some cs) = refl
low_housing m n xs None = low_bind (synthesize_signal_geometry m n xs) _ (low_synthesized m n xs) (λ ys. refl)

low_points : (o : Option (List Float)) → low (check_housing o) ≡ true
unfolding check_housing
low_points None = refl
low_points (Some xs) = low_given xs

pub low_light : (a : NewTrafficSignal) (m : Map) → low (light_edit a m) ≡ true
unfolding light_edit light_plan
low_light a m = low_bind (light_plan a m) _
    (low_then (check_lane_list m a.lanes) _ (low_lanes m a.lanes)
    (low_past (bad_height a.height) 4 (1 ∷ []) _ refl
    (low_then (check_housing a.housing) _ (low_points a.housing)
    (low_bind (group_line m a.group) _ (low_group m a.group) (λ g.
    low_then (check_choice m g a.choice) _ (low_choice m g a.choice)
    (low_bind (plan_for m a.lanes g a.choice a.points) _ (low_plan m a.lanes g a.choice a.points) (λ p.
    low_bind (anchor_for m a.lanes p) _ (low_anchor m a.lanes p) (λ x.
    low_bind (housing_for m (get_or a.lanes 0 0) x a.housing) _ (low_housing m (get_or a.lanes 0 0) x a.housing) (λ b. refl)))))))))
    (λ p. refl)

-- ---- the links

low_kinds : (m : Map) (ns : List ℕ) → low (kinds_of m ns) ≡ true
unfolding kinds_of
low_kinds m [] = refl
low_kinds m (n ∷ ns) = low_bind (present (signal_of m n) 2 (6 ∷ n ∷ [])) _ (low_present (signal_of m n) 2 (6 ∷ n ∷ []) refl) (λ s. low_bind (kinds_of m ns) _ (low_kinds m ns) (λ k. refl))

low_relinked : (m : Map) (a : RegulatoryLinks) (w : RuleBody) → low (relinked m a w) ≡ true
unfolding relinked
low_relinked m a (light signals line) =
    low_past (no_entries signals) 8 (1 ∷ []) _ refl (low_bind (kinds_of m signals) _ (low_kinds m signals) (λ k.
    low_past (k.pedestrian && k.vehicle) 8 (2 ∷ []) _ refl
    (low_past (k.pedestrian && not (no_entries a.lanes && no_entries a.stop_lines)) 8 (3 ∷ []) _ refl
    (low_past (k.vehicle && not (no_entries a.crosswalks)) 8 (4 ∷ []) _ refl
    (low_past (ltb 1 (length a.stop_lines)) 8 (5 ∷ []) _ refl refl)))))
low_relinked m a (crossing c stop_lines) = low_past (not (no_entries a.crosswalks)) 8 (6 ∷ []) _ refl refl
low_relinked m a (marking line) = low_past (not (no_entries a.crosswalks && same_list a.stop_lines (line ∷ []))) 8 (7 ∷ []) _ refl refl
low_relinked m a (sign type shape line) = refl
low_relinked m a (right_of_way priority yielding stop_lines) = refl
low_relinked m a (other k) = refl

pub low_links : (a : RegulatoryLinks) (m : Map) → low (links_edit a m) ≡ true
unfolding links_edit
low_links a m =
    low_bind (present (rule_of m a.rule) 2 (8 ∷ a.rule ∷ [])) _ (low_present (rule_of m a.rule) 2 (8 ∷ a.rule ∷ []) refl) (λ r.
    low_past (twice a.lanes) 3 (1 ∷ []) _ refl (low_past (twice a.crosswalks) 3 (2 ∷ []) _ refl (low_past (twice a.stop_lines) 3 (3 ∷ []) _ refl
    (low_pass (unknown_in (λ l. l.num) m.lanes (sorted a.lanes)) 1 _
    (low_pass (unknown_in (λ c. c.num) m.crosswalks (sorted a.crosswalks)) 7 _
    (low_pass (unknown_in (λ l. l.num) m.stop_lines (sorted a.stop_lines)) 5 _
    (low_bind (relinked m (record { rule = a.rule; lanes = sorted a.lanes; crosswalks = sorted a.crosswalks; stop_lines = sorted a.stop_lines }) r.body) _ (low_relinked m _ r.body) (λ w. refl))))))))

-- ---- the end

pub low_finish : (s : State) (d : Draft) → low (finish s d) ≡ true
unfolding finish
low_finish s d =
    low_past (not (every point_on_map d.stored)) 9 [] _ refl
    (low_past (not (within_ceilings d.map && fold_fits (fold_step s.fold (normalize d.changes)))) 10 [] _ refl
    (low_past (leb (2 ^ 64) d.map.next) 11 [] _ refl refl))
