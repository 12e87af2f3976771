-- A light's plan: its refusals in their order, and what storing it asks for. Assumes nothing.
use Prim.Native.Nat.{ℕ, suc, ◌+◌, ◌≤◌, max}
use mathlib.Core.Path.{◌≡◌, refl, sym, ap, ◌∙◌}
use mathlib.Core.Bool.{Bool, true, false, not, ◌&&◌, cond, and_assoc}
use mathlib.Core.List.{List, [], ◌++◌, map}
use native.Mathlib.Nat.{max-eq_right}
use native.Mathlib.Omega.{arith}
use borrow.Author.Tests.{leb-true, leb-false, le-leb, lt-leb, ltb-true, lt-ltb}
use lib.Dec.{leb, ltb}
use lib.Ieee.{Float}
use lib.ListN.{length, get_or, take, length-take}
use Rattle.refusal.specs.Answer.{Answer, refused, done, refused_as, ◌>>◌}
use Rattle.refusal.specs.declared.Refusal.{Refusal}
use Rattle.rows.specs.Lists.{every, total}
use Rattle.rows.proofs.Bools.{agree}
use Rattle.rows.proofs.Indexed.{length-list_to}
use Rattle.geometry.specs.Point.{point_on_map}
use Rattle.geometry.specs.Polyline.{point_in}
use Rattle.centerline.specs.declared.Line.{Line}
use Rattle.centerline.specs.Line.{points_of}
use Rattle.store.specs.Layout.{count_of, next_of, row_of, coords_of}
use Rattle.row_tests.specs.Flat.{all_points}
use Rattle.validity.proofs.Whole.{points_are}
use Rattle.map.specs.declared.Entries.{Entries}
use Rattle.map.specs.Access.{Found}
use Rattle.std.specs.Prelude.{Some, None, Option, Err, Ok, Result}
use Rattle.map.specs.Ceilings.{rule_points, points, within_ceilings}
use Rattle.map.specs.MapFile.{is_map}
use Rattle.map.specs.Record.{light, Signal, Rule, Map}
use Rattle.map.specs.Rows.{fresh, with_line, with_signal}
use Rattle.map.specs.Lookup.{rule_of}
use Rattle.map.specs.Tables.{list_at, body_of, rule_in, map_of, is_map_tables}
use Rattle.map.specs.Access.{lookup}
use Rattle.map.proofs.ReadLaws.{rule_found, no_rule}
use Rattle.map.proofs.SoundLaws.{sound}
use Rattle.place.specs.Place.{Placed}
use Rattle.place.specs.Values.{Roomy, maybe_ends}
use Rattle.placing.specs.Answers.{checked}
use Rattle.edit.specs.Request.{new_traffic_signal}
use Rattle.signal_row.specs.declared.Bulbs.{Bulbs}
use Rattle.edit.specs.declared.SignalRequest.{SignalRequest}
use Rattle.edit.specs.Light.{NewTrafficSignal, line_drawn, plan_points, plan_ends, positions, joined_lanes, group_rule, bulbs_of, new_signal, light_plan, light_draft, light_edit}
use Rattle.finishing.specs.Finish.{planned}
use Rattle.finishing.proofs.CallLaws.{edit_refused, plan_off, plan_tests}
use Rattle.finishing.proofs.CeilingLaws.{every_join}
use Rattle.lighting.specs.declared.LinePlan.{LinePlan}
use Rattle.lighting.specs.declared.LinePlan.TheVariants.{Use, NoLine, Draw}
use Rattle.lighting.specs.Housing.{housing_of}
use Rattle.lighting.specs.declared.LightPlan.{LightPlan}
use Rattle.lighting.specs.Plan.{plan_of, drawn_of, draws, plan_answer, LightPlanned}
use Rattle.signal_row.specs.Row.{BulbsRead}
use Rattle.grouping.specs.Group.{JoinedRead}
use Rattle.light_draft.specs.declared.Light.{Light}
use Rattle.light_draft.specs.Drafting.{line_for, one_if, rule_number, joins, numbers_for, LightNumbered, line_in, lifted_first, with_plan, with_light, stored_map, Joinable}
use Rattle.light_draft.proofs.DraftLaws.{group_light, map_order}
use Rattle.light_store.specs.Storing.{group_in, light_map}
use Rattle.light_store.proofs.StoreLaws.{lines_are, signals_are, rules_are, body_kind, body_signals, rule_body}
use Rattle.light_room.specs.declared.SignalPlan.{SignalPlan}
use Rattle.light_room.specs.Room.{lamps_on, on_map, JoinedFor, room_for, RoomTested, Fitted, PlanRefused, planned_in, signal_draft, SignalPlanned}
use Rattle.light_room.proofs.RoomLaws as R
use Rattle.light_room.proofs.TestLaws.{lamps_all}
use Rattle.place.specs.declared.SectionNames.{SectionNames}

pub points_count : (l : Line) → length (points_of l) ≡ l.count
unfolding points_of
points_count l = length-list_to (point_in l.coords) l.count

-- ---- the map that is left, by its numbers

module _ (a : NewTrafficSignal) (m : Map) where
  plain : fresh m + 0 ≡ fresh m
  plain = omega arith

  second : max 1 (suc (fresh m)) ≡ fresh m + 1
  second = max-eq_right {n = 1} {m = suc (fresh m)} (omega arith) ∙ omega arith

  pub stored_light : (plan : LinePlan) (line housing : Line) (clamped made : Bool) (es : Option SectionNames)
      → stored_map a m (record { plan = plan_of plan (drawn_of (get_or a.lanes 0 0) line clamped es); housing = housing_of housing made })
      ≡ light_map m (numbers_for false m.next plan a.group) a.lanes (points_of line) (new_signal a (numbers_for false m.next plan a.group).signal (points_of housing)) (group_in m (numbers_for false m.next plan a.group))
  unfolding stored_map light_map line_drawn lifted_first with_plan group_rule
  stored_light plan line housing clamped made es = go plan a.group
    where
      go : (pl : LinePlan) (o : Option ℕ)
          → (let ln = (line_drawn m (plan_of pl (drawn_of (get_or a.lanes 0 0) line clamped es))).line in
          let one = with_plan (lifted_first m ln a.lanes) (plan_of pl (drawn_of (get_or a.lanes 0 0) line clamped es)) in
          with_light (with_signal one (new_signal a (fresh one) (points_of housing))) a.lanes (fresh one) ln (group_rule m o))
          ≡ light_map m (numbers_for false m.next pl o) a.lanes (points_of line) (new_signal a (numbers_for false m.next pl o).signal (points_of housing)) (group_in m (numbers_for false m.next pl o))
      go (Use s) None = rw plain
      go (Use s) (Some g) = rw plain
      go NoLine None = rw plain
      go NoLine (Some g) = rw plain
      go (Draw how) None = rw second
      go (Draw how) (Some g) = rw second

-- ---- what is stored

module _ (a : NewTrafficSignal) (m : Map) (plan : LinePlan) (line housing : Line) (clamped made : Bool) (es : Option SectionNames) (on : Bool) (eo : on ≡ every point_on_map (positions (bulbs_of a (points_of housing)))) where
  pub stored_is : every point_on_map (light_draft a m (record { plan = plan_of plan (drawn_of (get_or a.lanes 0 0) line clamped es); housing = housing_of housing made })).stored
      ≡ on_map (line_for plan (fresh m)).drawn (points_of line) (points_of housing) on
  unfolding light_draft on_map plan_points every
  stored_is =
      every_join point_on_map (plan_points (plan_of plan (drawn_of (get_or a.lanes 0 0) line clamped es)) ++ points_of housing) (positions (bulbs_of a (points_of housing)))
      ∙ ap (λ (x : Bool). x && every point_on_map (positions (bulbs_of a (points_of housing)))) (every_join point_on_map (plan_points (plan_of plan (drawn_of (get_or a.lanes 0 0) line clamped es))) (points_of housing))
      ∙ and_assoc (every point_on_map (plan_points (plan_of plan (drawn_of (get_or a.lanes 0 0) line clamped es)))) (every point_on_map (points_of housing)) (every point_on_map (positions (bulbs_of a (points_of housing))))
      ∙ ap (λ (t : Bool). every point_on_map (plan_points (plan_of plan (drawn_of (get_or a.lanes 0 0) line clamped es))) && (every point_on_map (points_of housing) && t)) (sym eo)
      ∙ go plan
    where
      go : (pl : LinePlan) → (every point_on_map (plan_points (plan_of pl (drawn_of (get_or a.lanes 0 0) line clamped es))) && (every point_on_map (points_of housing) && on))
          ≡ (cond (line_for pl (fresh m)).drawn (every point_on_map (points_of line)) true && (every point_on_map (points_of housing) && on))
      go (Use s) = refl
      go NoLine = refl
      go (Draw how) = refl

-- ---- the names of the ends

ends_are : (plan : LinePlan) (x : Placed) → (draws plan ≡ false → x.ends ≡ None) → x.ends ≡ plan_ends (plan_of plan x)
unfolding plan_ends
ends_are (Use s) x h = h refl
ends_are NoLine x h = h refl
ends_are (Draw how) x h = refl

-- ---- the lists of the rule

module _ (ws : List ℕ) (cs : List Float) (g : ℕ) (j : Joinable (map_of ws cs) g) where
  its_rule : (i : ℕ) → lookup ws 5 g ≡ Some i → rule_in (row_of ws 5 i) (coords_of cs 5 i) ≡ j.rule
  its_rule i e = let a = rule_found ws cs g i e in let b = j.found in cc

  its_body : (i : ℕ) → lookup ws 5 g ≡ Some i → body_of (get_or (row_of ws 5 i) 1 0) (row_of ws 5 i) (coords_of cs 5 i) ≡ light j.signals j.line
  its_body i e = sym (rule_body (row_of ws 5 i) (coords_of cs 5 i)) ∙ ap (λ (r : Rule). r.body) (its_rule i e) ∙ j.body

  pub its_signals : (i : ℕ) → lookup ws 5 g ≡ Some i → get_or (row_of ws 5 i) 41 0 ≡ length j.signals
  its_signals i e =
      body_signals (get_or (row_of ws 5 i) 1 0) (row_of ws 5 i) (coords_of cs 5 i) j.signals j.line
      (body_kind (get_or (row_of ws 5 i) 1 0) (row_of ws 5 i) (coords_of cs 5 i) j.signals j.line (its_body i e)) (its_body i e)

  pub its_lanes : (i : ℕ) → lookup ws 5 g ≡ Some i → list_at (row_of ws 5 i) 7 ≡ j.rule.lanes
  unfolding rule_in
  its_lanes i e = ap (λ (r : Rule). r.lanes) (its_rule i e)

  -- where the rule stands
  pub at_index : {A : Type 0} → ((i : ℕ) → lookup ws 5 g ≡ Some i → A) → A
  at_index {A = A} f = go (lookup ws 5 g) refl
    where
      go : (o : Found) → lookup ws 5 g ≡ o → A
      go (Some i) e = f i e
      go None e = let a = no_rule ws cs g e in let b = j.found in absurd (let z : ◌≡◌ {A = ℕ} 0 1 = cc in omega arith)

  module _ (lanes : List ℕ) (r : Entries) (read : (i : ℕ) → lookup ws 5 g ≡ Some i → JoinedRead (list_at (row_of ws 5 i) 7) lanes r) where
    its_read : JoinedRead j.rule.lanes lanes r
    its_read = at_index (λ i e. rw (its_lanes i e) at (read i e))

    pub joined-all : r.count ≤ 16 → take r.count r.entries ≡ joined_lanes j.rule.lanes lanes
    joined-all = its_read.fits

    joined_count : leb r.count 16 ≡ leb (length (joined_lanes j.rule.lanes lanes)) 16
    joined_count = go (leb r.count 16) refl
      where
        go : (b : Bool) → leb r.count 16 ≡ b → b ≡ leb (length (joined_lanes j.rule.lanes lanes)) 16
        go true e =
            let k = leb-true r.count 16 e in
            let q : length (take r.count r.entries) ≡ length (joined_lanes j.rule.lanes lanes) = ap length (joined-all k) in
            sym (le-leb (length (joined_lanes j.rule.lanes lanes)) 16 (omega (arith, q, its_read.room, length-take r.count r.entries)))
        go false e = let k = leb-false r.count 16 e in sym (lt-leb (length (joined_lanes j.rule.lanes lanes)) 16 (its_read.full k))

    pub lists_are : (n : ℕ) (b : Bool) → ((i : ℕ) → lookup ws 5 g ≡ Some i → b ≡ (ltb (get_or (row_of ws 5 i) 41 0) 16 && leb r.count 16))
        → b ≡ (leb (length j.signals + 1) 16 && leb (length (joined_lanes j.rule.lanes lanes)) 16)
    lists_are n b h = at_index (λ i e. h i e ∙ rw (its_signals i e, joined_count, one_more (length j.signals) 16))
      where
        one_more : (k l : ℕ) → ltb k l ≡ leb (k + 1) l
        one_more k l = agree (ltb k l) (leb (k + 1) l) (λ t. le-leb (k + 1) l (let u = ltb-true k l t in omega arith)) (λ t. lt-ltb k l (let u = leb-true (k + 1) l t in omega arith))

-- ---- a plan with its tests

same_room : {a a' b b' c c' u u' x x' h h' n n' : ℕ} {d d' : Bool} (j : Bool) (fr fp : ℕ) (lists : Bool) → a ≡ a' → b ≡ b' → c ≡ c' → u ≡ u' → d ≡ d' → x ≡ x' → h ≡ h' → n ≡ n'
    → room_for a b c u d j fr fp (cond d x 0 + h) n lists ≡ room_for a' b' c' u' d' j fr fp (cond d' x' 0 + h') n' lists
same_room j fr fp lists ea eb ec eu ed ex eh en = rw (ea, eb, ec, eu, ed, ex, eh, en)

module _ (ws : List ℕ) (cs : List Float) (ok : is_map_tables ws cs ≡ true) (a : NewTrafficSignal) (p : SignalPlan) (hl : light_plan a (map_of ws cs) ≡ done (planned_in a.lanes p))
    (hn : LightNumbered (next_of ws) p.plan a.group p.light) (r1 : Roomy p.line) (r2 : Roomy p.housing) (hc : length (bulbs_of a (points_of p.housing)) ≡ p.bulbs.count)
    (on : Bool) (ho : on ≡ every point_on_map (positions (bulbs_of a (points_of p.housing))))
    (hj : JoinedFor ws p.light.joins p.light.rule a.lanes p.joined) where
  abbrev right : Light
  right = numbers_for false (map_of ws cs).next p.plan a.group

  is_map_lem : is_map (map_of ws cs) ≡ true
  is_map_lem = (sound ws cs ok).map

  joinable : (g : ℕ) → a.group ≡ Some g → Joinable (map_of ws cs) g
  joinable g e = group_light a (map_of ws cs) (planned_in a.lanes p) hl g e

  drawn_is : p.light.drawn ≡ right.drawn
  unfolding map_of
  drawn_is = ap (λ (l : Light). l.drawn) hn.answer

  line_is : line_in p.light ≡ line_in right
  unfolding map_of
  line_is = ap line_in hn.answer

  joins_is : p.light.joins ≡ joins a.group
  joins_is = ap (λ (l : Light). l.joins) hn.answer

  rule_is : (g : ℕ) → a.group ≡ Some g → p.light.rule ≡ g
  rule_is g e = ap (λ (l : Light). l.rule) hn.answer ∙ rw e

  abbrev sig : Signal
  sig = new_signal a right.signal (points_of p.housing)

  map_is : (signal_draft a (map_of ws cs) p).map ≡ light_map (map_of ws cs) right a.lanes (points_of p.line) sig (group_in (map_of ws cs) right)
  map_is = map_order a (map_of ws cs) is_map_lem (planned_in a.lanes p) joinable ∙ stored_light a (map_of ws cs) p.plan p.line p.housing p.clamped p.synthesized p.ends

  -- what the tests say, with the lists and what goes

  module _ (r : Result (Unit {0}) Refusal) (hf : Fitted ws a.lanes p.light p.line p.housing on p.bulbs.count p.joined r) where
    module _ (t : RoomTested ws a.lanes p.light p.line p.housing p.bulbs.count p.joined r) where
      goes_rules : length (map_of ws cs).rules ≡ length (lifted_first (map_of ws cs) (line_in right) a.lanes).rules + t.freed.rules
      goes_rules = t.goes.rules cs ∙ ap (λ (o : Option ℕ). length (lifted_first (map_of ws cs) o a.lanes).rules + t.freed.rules) line_is

      goes_points : total rule_points (map_of ws cs).rules ≡ total rule_points (lifted_first (map_of ws cs) (line_in right) a.lanes).rules + t.freed.points
      goes_points = t.goes.points cs ∙ ap (λ (o : Option ℕ). total rule_points (lifted_first (map_of ws cs) o a.lanes).rules + t.freed.points) line_is

      short : length (points_of p.line) ≤ 64
      short = omega (arith, points_count p.line, r1.few)

      small : length sig.geometry ≤ 64
      unfolding new_signal
      small = omega (arith, points_count p.housing, r2.few)

      abbrev end : Option Rule → Map
      end g = with_light (with_signal (cond right.drawn (with_line (lifted_first (map_of ws cs) (line_in right) a.lanes) (points_of p.line)) (lifted_first (map_of ws cs) (line_in right) a.lanes)) sig) a.lanes right.signal (line_in right) g

      -- the test of the end, for a group that is or is not there
      within_of : (g : Option Rule) → group_in (map_of ws cs) right ≡ g → R.Rules (lifted_first (map_of ws cs) (line_in right) a.lanes) (end g).rules (one_if (not p.light.joins)) t.lists
          → within_ceilings (signal_draft a (map_of ws cs) p).map
          ≡ room_for (length (map_of ws cs).stop_lines) (length (map_of ws cs).signals) (length (map_of ws cs).rules) (points (map_of ws cs)) right.drawn p.light.joins t.freed.rules t.freed.points
          (cond right.drawn (length (points_of p.line)) 0 + length sig.geometry) (length sig.bulbs) t.lists
      unfolding light_map
      within_of g e h =
          ap within_ceilings map_is ∙ ap (λ (o : Option Rule). within_ceilings (end o)) e
          ∙ R.end_room (map_of ws cs) is_map_lem (line_in right) a.lanes right.drawn (points_of p.line) short sig small right.signal g p.light.joins t.lists h t.freed.rules t.freed.points goes_rules goes_points

      within_is : (o : Option ℕ) → a.group ≡ o → within_ceilings (signal_draft a (map_of ws cs) p).map
          ≡ room_for (length (map_of ws cs).stop_lines) (length (map_of ws cs).signals) (length (map_of ws cs).rules) (points (map_of ws cs)) right.drawn p.light.joins t.freed.rules t.freed.points
          (cond right.drawn (length (points_of p.line)) 0 + length sig.geometry) (length sig.bulbs) t.lists
      within_is None e =
          let k : p.light.joins ≡ false = joins_is ∙ ap joins e in
          let h = R.new_rules (map_of ws cs) is_map_lem (line_in right) a.lanes right.drawn (points_of p.line) short sig small right.signal in
          within_of None (ap (λ (b : Bool). cond b (rule_of (map_of ws cs) right.rule) None) (ap joins e))
          (record { count = h.count ∙ ap (λ (b : Bool). length (lifted_first (map_of ws cs) (line_in right) a.lanes).rules + one_if (not b)) (sym k); within = h.within ∙ sym (t.fit.new k); points = h.points })
      within_is (Some g) e =
          let k : p.light.joins ≡ true = joins_is ∙ ap joins e in
          let j = joinable g e in
          let n : p.light.rule ≡ g = rule_is g e in
          let h = R.joined_rules (map_of ws cs) is_map_lem (line_in right) a.lanes right.drawn (points_of p.line) short sig small right.signal g j in
          let q = lists_are ws cs g j a.lanes p.joined (λ i f. hj.lists k i (ap (lookup ws 5) n ∙ f)) 0 t.lists (λ i f. t.fit.group k i (ap (lookup ws 5) n ∙ f)) in
          within_of (Some j.rule) (ap (λ (b : Bool). cond b (rule_of (map_of ws cs) right.rule) None) (ap joins e) ∙ ap (rule_of (map_of ws cs)) (ap (rule_number (fresh (map_of ws cs)) false right.drawn) e) ∙ j.found)
          (record { count = h.count ∙ ap (λ (b : Bool). length (lifted_first (map_of ws cs) (line_in right) a.lanes).rules + one_if (not b)) (sym k); within = h.within ∙ sym q; points = h.points })

      lamps_count : length sig.bulbs ≡ p.bulbs.count
      unfolding new_signal
      lamps_count = hc

      housing_count : length sig.geometry ≡ p.housing.count
      unfolding new_signal
      housing_count = points_count p.housing

      room_answer_lem : within_ceilings (signal_draft a (map_of ws cs) p).map
          ≡ room_for (count_of ws 2) (count_of ws 3) (count_of ws 5) (all_points ws) p.light.drawn p.light.joins t.freed.rules t.freed.points (cond p.light.drawn p.line.count 0 + p.housing.count) p.bulbs.count t.lists
      room_answer_lem =
          within_is a.group refl
          ∙ same_room p.light.joins t.freed.rules t.freed.points t.lists (sym (lines_are ws cs)) (sym (signals_are ws cs)) (sym (rules_are ws cs)) (points_are ws cs) (sym drawn_is) (points_count p.line) housing_count lamps_count

    edit_done : light_edit a (map_of ws cs) ≡ done (signal_draft a (map_of ws cs) p)
    unfolding light_edit
    edit_done = rw hl

    on_is : every point_on_map (signal_draft a (map_of ws cs) p).stored ≡ on_map p.light.drawn (points_of p.line) (points_of p.housing) on
    on_is =
        stored_is a (map_of ws cs) p.plan p.line p.housing p.clamped p.synthesized p.ends on ho
        ∙ ap (λ (b : Bool). on_map b (points_of p.line) (points_of p.housing) on) (sym drawn_is)

    tests_are : (b : Bool) → on_map p.light.drawn (points_of p.line) (points_of p.housing) on ≡ b → planned (light_edit a) (map_of ws cs) ≡ (checked r >> done (signal_draft a (map_of ws cs) p))
    tests_are false e =
        plan_off (light_edit a) (map_of ws cs) (signal_draft a (map_of ws cs) p) edit_done (on_is ∙ e) ∙ sym (ap (λ (x : Result (Unit {0}) Refusal). checked x >> done (signal_draft a (map_of ws cs) p)) (hf.off e))
    tests_are true e =
        let t = hf.on e in
        plan_tests (light_edit a) (map_of ws cs) (signal_draft a (map_of ws cs) p) edit_done true _ (on_is ∙ e) (room_answer_lem t)
        ∙ ap (λ (x : Answer (Unit {0})). x >> done (signal_draft a (map_of ws cs) p)) (sym t.answer)

    pub turned_down : (x : Refusal) → r ≡ Err x → planned (light_edit a) (map_of ws cs) ≡ refused_as x
    turned_down x e = tests_are _ refl ∙ ap (λ (y : Result (Unit {0}) Refusal). checked y >> done (signal_draft a (map_of ws cs) p)) e

    pub accepted : r ≡ (Ok tt) → planned (light_edit a) (map_of ws cs) ≡ done (signal_draft a (map_of ws cs) p)
    accepted e = tests_are _ refl ∙ ap (λ (y : Result (Unit {0}) Refusal). checked y >> done (signal_draft a (map_of ws cs) p)) e

-- ---- the code's plan

-- what is fine is on the map, and was tested for room
room_tested : (ws lanes : List ℕ) (l : Light) (line housing : Line) (lamps : Bool) (n : ℕ) (e : Entries) (r : Result (Unit {0}) Refusal) → Fitted ws lanes l line housing lamps n e r → r ≡ (Ok tt)
    → RoomTested ws lanes l line housing n e (Ok tt)
room_tested ws lanes l line housing lamps n e r h f = go (on_map l.drawn (points_of line) (points_of housing) lamps) refl
  where
    go : (t : Bool) → on_map l.drawn (points_of line) (points_of housing) lamps ≡ t → RoomTested ws lanes l line housing n e (Ok tt)
    go true k = rw f at (h.on k)
    go false k = let z = h.off k in absurd (let y : ◌≡◌ {A = ℕ} 0 1 = cc in omega arith)

-- the lamps play no part in where a light goes
plan_any : (lanes : List ℕ) (q : SignalRequest) (points housing lamps : List Float) (m : Map) → light_plan (new_traffic_signal lanes q points housing []) m ≡ light_plan (new_traffic_signal lanes q points housing lamps) m
unfolding light_plan new_traffic_signal
plan_any lanes q points housing lamps m = refl

module _ (ws : List ℕ) (cs : List Float) (ok : is_map_tables ws cs ≡ true) (q : SignalRequest) (lanes : List ℕ) (points given lamps : List Float) (lp : LightPlan)
    (hp : LightPlanned lanes (light_plan (new_traffic_signal lanes q points given []) (map_of ws cs)) lp) (l : Light) (b : Bulbs) (e : Entries) where
  abbrev all : SignalPlan
  all = record { checked = lp.checked; plan = lp.plan; light = l; line = lp.line; clamped = lp.clamped; ends = lp.ends; housing = lp.housing; synthesized = lp.synthesized; bulbs = b; joined = e }

  abbrev asked : NewTrafficSignal
  asked = new_traffic_signal lanes q points given lamps

  planned_so : plan_answer lanes lp ≡ light_plan asked (map_of ws cs)
  planned_so = hp.read.answer ∙ plan_any lanes q points given lamps (map_of ws cs)

  pub plan_lost : (x : Refusal) → lp.checked ≡ Err x → SignalPlanned ws cs q lamps asked all
  unfolding light_edit
  plan_lost x k = record {
    refused = λ y f. edit_refused (light_edit asked) (map_of ws cs) y (rw (← planned_so, f));
    ready = λ f. absurd (let z : ◌≡◌ {A = ℕ} 0 1 = cc in omega arith);
  }

  module _ (k : lp.checked ≡ (Ok tt)) (hn : LightNumbered (next_of ws) lp.plan q.group l) (hb : BulbsRead q (points_of lp.housing) lamps b) (hj : JoinedFor ws l.joins l.rule lanes e)
      (on : Bool) (eo : on ≡ lamps_on q.lamps.given lamps b) (r : Result (Unit {0}) Refusal) (hf : Fitted ws lanes l lp.line lp.housing on b.count e r) where
    hl : light_plan asked (map_of ws cs) ≡ done (planned_in lanes all)
    hl = sym planned_so ∙ rw k

    he : maybe_ends lp.ends ≡ (signal_draft asked (map_of ws cs) all).ends
    unfolding light_draft new_traffic_signal
    he = ends_are lp.plan (drawn_of (get_or lanes 0 0) lp.line lp.clamped lp.ends) (hp.read.ends.told k)

    ho : on ≡ every point_on_map (positions (bulbs_of asked (points_of lp.housing)))
    ho = eo ∙ lamps_all q (points_of lp.housing) lamps b hb lanes points given

    pub plan_full : (x : Refusal) → r ≡ Err x → (s : SignalPlan) → PlanRefused x s → SignalPlanned ws cs q lamps asked s
    unfolding new_traffic_signal
    plan_full x f s hs = record {
      refused = λ y g. let z : Err x ≡ Err y = sym hs.answer ∙ g in let w : x ≡ y = cc in
          turned_down ws cs ok asked all hl hn hp.read.line hp.read.housing (hb.count lanes points given) on ho hj r hf y (f ∙ ap Err w);
      ready = λ g. absurd (let z : Err x ≡ (Ok tt) = sym hs.answer ∙ g in let y : ◌≡◌ {A = ℕ} 0 1 = cc in omega arith);
    }

    pub plan_ready : r ≡ (Ok tt) → SignalPlanned ws cs q lamps asked all
    unfolding new_traffic_signal
    plan_ready f = record {
      refused = λ y g. absurd (let z : Err y ≡ (Ok tt) = sym g ∙ k in let w : ◌≡◌ {A = ℕ} 0 1 = cc in omega arith);
      ready = λ _. record {
        answer = accepted ws cs ok asked all hl hn hp.read.line hp.read.housing (hb.count lanes points given) on ho hj r hf f;
        ends = he;
        numbers = hn;
        line_room = hp.read.line;
        housing_room = hp.read.housing;
        lanes = hp.some_lanes k;
        lamps_read = hb;
        group = λ g eg. group_light asked (map_of ws cs) (planned_in lanes all) hl g eg;
        joined_lanes_is = hj;
        tested = room_tested ws lanes l lp.line lp.housing on b.count e r hf f;
      };
    }
