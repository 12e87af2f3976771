-- A light's draft comes to the same in the order of the code: the lifts first, and then the line, the signal and the rule. Assumes nothing.
use Prim.Native.Nat.{ℕ, suc, ◌+◌, max}
use mathlib.Core.Path.{◌≡◌, refl, ap, ◌∙◌}
use mathlib.Core.Bool.{Bool, true, false, not, cond}
use Rattle.std.specs.Prelude.{Option, None, Some}
use mathlib.Core.List.{List, [], ◌∷◌, ◌++◌, append-nil}
use native.Mathlib.Nat.{max-eq_right}
use native.Mathlib.Omega.{arith}
use lib.ListN.{get_or}
use Rattle.refusal.specs.Answer.{Answer, refused, done, ◌>>=◌, ◌>>◌, refuse_when, present}
use Rattle.rows.specs.Lists.{every, or_else, no_entries}
use Rattle.rows.specs.Table.{find, replaced, rising}
use Rattle.rows.proofs.Tables.{found_is}
use Rattle.map.specs.Record.{RuleBody, light, sign, marking, right_of_way, crossing, other, Rule, Map}
use Rattle.map.specs.Entity.{entity}
use Rattle.map.specs.Lookup.{rule_of}
use Rattle.map.specs.Ceilings.{max_rules}
use Rattle.map.specs.MapFile.{rule, is_map}
use Rattle.map.specs.Rows.{fresh, with_line, with_signal, with_rule, with_rules, rule_with}
use Rattle.map.proofs.Parts.{map-parts, table_rises}
use Rattle.changes.specs.ChangeSet.{ChangeSet, warning}
use Rattle.place.specs.Place.{Placed, check_lane_list}
use Rattle.edit.specs.Light.{NewTrafficSignal, Plan, use_line, use_none, draw, Planned, Drawing, bad_height, check_housing, check_choice, plan_for, anchor_for, housing_for, light_line, group_line, line_drawn, signal_drawn, grouped, extended, joined_lanes, group_rule, lift, kept, eased_ref, gone_ref, lift_warning, lift_all, new_signal, light_plan, light_draft}
use Rattle.centerline.specs.declared.Line.{Line}
use Rattle.centerline.specs.Line.{points_of}
use Rattle.lighting.specs.declared.LinePlan.{LinePlan}
use Rattle.lighting.specs.declared.LinePlan.TheVariants.{Use, NoLine, Draw}
use Rattle.lighting.specs.Housing.{housing_of}
use Rattle.lighting.specs.Plan.{plan_of, drawn_of}
use Rattle.lifting.specs.Lifting.{lifted_rules}
use Rattle.lifting.proofs.OrderLaws.{light_kept, none_eased, none_gone, none_warned, lifted_push, notes_push, alone, found_alone, lifted_replaced, notes_replaced}
use Rattle.light_draft.specs.Drafting.{Joinable, numbers_for, light_set, notes, lifted_first, with_plan, group_with, with_light, stored_map}
use Rattle.place.specs.declared.SectionNames.{SectionNames}

-- ---- the last two steps, whatever was drawn before

-- a new rule, which is a light
module _ (a : NewTrafficSignal) (d : Drawing) (n s : ℕ) where
  abbrev new_rule : Rule
  new_rule = record { num = fresh d.map; body = light (n ∷ []) d.line; lanes = a.lanes; controlled = [] }

  new_kept : lift s a.lanes new_rule ≡ kept
  new_kept = light_kept s a.lanes new_rule (n ∷ []) d.line refl

  pub new_lifted : lift_all a.lanes (grouped d a n None) (Some s)
      ≡ record {
        map = with_rules (with_rule d.map (light (n ∷ []) d.line) a.lanes) (lifted_rules s a.lanes d.map.rules ++ (new_rule ∷ []));
        line = d.line;
        created = d.created ++ (entity 8 (fresh d.map) ∷ []);
        modified = d.modified ++ notes eased_ref (Some s) a.lanes d.map.rules;
        deleted = d.deleted ++ notes gone_ref (Some s) a.lanes d.map.rules;
        warnings = d.warnings ++ notes lift_warning (Some s) a.lanes d.map.rules;
      }
  unfolding lift_all grouped
  new_lifted = rw (
    lifted_push s a.lanes d.map.rules new_rule new_kept,
    notes_push s a.lanes d.map.rules new_rule new_kept eased_ref (none_eased new_rule),
    notes_push s a.lanes d.map.rules new_rule new_kept gone_ref (none_gone new_rule),
    notes_push s a.lanes d.map.rules new_rule new_kept lift_warning (none_warned new_rule),
  )

-- the rule of a light, put in its place
module _ (a : NewTrafficSignal) (d : Drawing) (n s : ℕ) (r : Rule) (signals : List ℕ) (line : Option ℕ) (body : r.body ≡ light signals line)
    (high : ℕ) (up : rising (λ (x : Rule). x.num) 0 high d.map.rules ≡ true) (found : find (λ (x : Rule). x.num) r.num d.map.rules ≡ Some r) where
  abbrev next_rule : Rule
  next_rule = rule_with r (extended r.body n d.line) (joined_lanes r.lanes a.lanes) r.controlled

  next_kept : lift s a.lanes next_rule ≡ kept
  next_kept = light_kept s a.lanes next_rule (signals ++ (n ∷ [])) (or_else line d.line) (rw body (unfold extended in refl))

  old_alone : every (alone s a.lanes r.num) d.map.rules ≡ true
  old_alone = found_alone s a.lanes r.num 0 high d.map.rules r up found (light_kept s a.lanes r signals line body)

  pub joined_lifted : lift_all a.lanes (grouped d a n (Some r)) (Some s)
      ≡ record {
        map = with_rules d.map (replaced (λ x. x.num) next_rule (lifted_rules s a.lanes d.map.rules));
        line = d.line;
        created = d.created;
        modified = (d.modified ++ (entity 8 r.num ∷ [])) ++ notes eased_ref (Some s) a.lanes d.map.rules;
        deleted = d.deleted ++ notes gone_ref (Some s) a.lanes d.map.rules;
        warnings = d.warnings ++ notes lift_warning (Some s) a.lanes d.map.rules;
      }
  unfolding lift_all grouped
  joined_lifted = rw (
    lifted_replaced s a.lanes next_rule next_kept d.map.rules old_alone,
    notes_replaced s a.lanes next_rule next_kept eased_ref none_eased d.map.rules old_alone,
    notes_replaced s a.lanes next_rule next_kept gone_ref none_gone d.map.rules old_alone,
    notes_replaced s a.lanes next_rule next_kept lift_warning none_warned d.map.rules old_alone,
  )

-- ---- the group

abbrev is_done : {A : Type 0} → Answer A → Bool
is_done (refused n ds) = false
is_done (done x) = true

-- the light that an accepted plan joins
pub group_light : (a : NewTrafficSignal) (m : Map) (p : Planned) → light_plan a m ≡ done p → (g : ℕ) → a.group ≡ Some g → Joinable m g
unfolding light_plan group_line light_line no_entries
group_light a m p e g eg = found (rule_of m g) refl (rw eg at (fourth (check_lane_list m a.lanes) (refuse_when (bad_height a.height) 4 (1 ∷ [])) (check_housing a.housing) (group_line m a.group) rest e))
  where
    rest : Option ℕ → Answer Planned
    rest group =
        check_choice m group a.choice
        >> (plan_for m a.lanes group a.choice a.points
        >>= λ plan. (anchor_for m a.lanes plan >>= λ anchor. (housing_for m (get_or a.lanes 0 0) anchor a.housing >>= λ housing. done (record { plan = plan; housing = housing }))))

    fourth : (x y z : Answer (Unit {0})) (w : Answer (Option ℕ)) (f : Option ℕ → Answer Planned) → (x >> (y >> (z >> (w >>= f)))) ≡ done p → is_done w ≡ true
    fourth (refused n ds) y z w f h = absurd (let q : ◌≡◌ {A = ℕ} 0 1 = cc in omega arith)
    fourth (done u) (refused n ds) z w f h = absurd (let q : ◌≡◌ {A = ℕ} 0 1 = cc in omega arith)
    fourth (done u) (done v) (refused n ds) w f h = absurd (let q : ◌≡◌ {A = ℕ} 0 1 = cc in omega arith)
    fourth (done u) (done v) (done k) (refused n ds) f h = absurd (let q : ◌≡◌ {A = ℕ} 0 1 = cc in omega arith)
    fourth (done u) (done v) (done k) (done x) f h = refl

    no : {A : Type 0} → false ≡ true → A
    no h = absurd (let q : ◌≡◌ {A = ℕ} 0 1 = cc in omega arith)

    its : (r : Rule) → rule_of m g ≡ Some r → (cs : List ℕ) (b : RuleBody) → r.controlled ≡ cs → r.body ≡ b → is_done (refuse_when (not (no_entries cs)) 7 (1 ∷ []) >> light_line b) ≡ true → Joinable m g
    its r er (x ∷ xs) b ec eb h = no h
    its r er [] (light signals line) ec eb h = record { rule = r; found = er; bare = ec; signals = signals; line = line; body = eb }
    its r er [] (sign type shape line) ec eb h = no h
    its r er [] (marking line) ec eb h = no h
    its r er [] (right_of_way priority yielding stop_lines) ec eb h = no h
    its r er [] (crossing c stop_lines) ec eb h = no h
    its r er [] (other k) ec eb h = no h

    found : (o : Option Rule) → rule_of m g ≡ o → is_done (present o 2 (8 ∷ g ∷ []) >>= λ r. refuse_when (not (no_entries r.controlled)) 7 (1 ∷ []) >> light_line r.body) ≡ true → Joinable m g
    found None eo h = no h
    found (Some r) eo h = its r eo r.controlled r.body refl refl h

pub rules_rise : (m : Map) → is_map m ≡ true → rising (λ (x : Rule). x.num) 0 m.next m.rules ≡ true
rules_rise m ok = table_rises (λ (x : Rule). x.num) max_rules rule m.next m.rules (map-parts m ok).rules

-- the group's rule has the number that it was found by
pub group_number : (m : Map) (g : ℕ) (j : Joinable m g) → j.rule.num ≡ g
unfolding rule_of every
group_number m g j = (found_is (λ (x : Rule). x.num) g m.rules (λ _. true) j.rule (all_yes m.rules) j.found).1
  where
    all_yes : (xs : List Rule) → every (λ _. true) xs ≡ true
    all_yes [] = refl
    all_yes (x ∷ xs) = all_yes xs

-- ---- the map

module _ (a : NewTrafficSignal) (m : Map) (ok : is_map m ≡ true) where
  abbrev two : Plan → Placed → Drawing
  two pl h = signal_drawn (line_drawn m pl) (new_signal a (fresh (line_drawn m pl).map) h.points) h.warnings

  abbrev four : Plan → Placed → Option Rule → Drawing
  four pl h o = lift_all a.lanes (grouped (two pl h) a (fresh (line_drawn m pl).map) o) (line_drawn m pl).line

  abbrev stored : Plan → Placed → Option Rule → Map
  stored pl h o =
      let line = (line_drawn m pl).line in
      let one = with_plan (lifted_first m line a.lanes) pl in
      with_light (with_signal one (new_signal a (fresh one) h.points)) a.lanes (fresh one) line o

  new_order : (pl : Plan) (h : Placed) → (four pl h None).map ≡ stored pl h None
  unfolding lift_all grouped signal_drawn line_drawn lifted_first with_plan with_light
  new_order use_none h = refl
  new_order (use_line s) h = ap (λ (d : Drawing). d.map) (new_lifted a (two (use_line s) h) (fresh m) s)
  new_order (draw p) h = ap (λ (d : Drawing). d.map) (new_lifted a (two (draw p) h) (fresh (with_line m p.points)) (fresh m))

  module _ (g : ℕ) (j : Joinable m g) where
    here : find (λ (x : Rule). x.num) j.rule.num m.rules ≡ Some j.rule
    unfolding rule_of
    here = ap (λ (n : ℕ). find (λ (x : Rule). x.num) n m.rules) (group_number m g j) ∙ j.found

    joined_order : (pl : Plan) (h : Placed) → (four pl h (Some j.rule)).map ≡ stored pl h (Some j.rule)
    unfolding lift_all grouped signal_drawn line_drawn lifted_first with_plan with_light group_with
    joined_order use_none h = refl
    joined_order (use_line s) h =
        ap (λ (d : Drawing). d.map) (joined_lifted a (two (use_line s) h) (fresh m) s j.rule j.signals j.line j.body m.next (rules_rise m ok) here)
    joined_order (draw p) h =
        ap (λ (d : Drawing). d.map) (joined_lifted a (two (draw p) h) (fresh (with_line m p.points)) (fresh m) j.rule j.signals j.line j.body m.next (rules_rise m ok) here)

  pub map_order : (p : Planned) → ((g : ℕ) → a.group ≡ Some g → Joinable m g) → (light_draft a m p).map ≡ stored_map a m p
  unfolding light_draft stored_map group_rule
  map_order p f = go a.group refl
    where
      go : (o : Option ℕ) → a.group ≡ o → (four p.plan p.housing (group_rule m o)).map ≡ stored p.plan p.housing (group_rule m o)
      go None e = new_order p.plan p.housing
      go (Some g) e = let j = f g e in rw j.found (joined_order g j p.plan p.housing)

  -- ---- the change set

  -- what a plan of the code leaves, with numbers to spare
  abbrev planned_of : LinePlan → Line → Bool → Option SectionNames → Line → Bool → Planned
  planned_of plan line clamped es housing made = record { plan = plan_of plan (drawn_of (get_or a.lanes 0 0) line clamped es); housing = housing_of housing made }

  second : max 1 (suc (fresh m)) ≡ fresh m + 1
  second = max-eq_right {n = 1} {m = suc (fresh m)} (omega arith) ∙ omega arith

  third : max 1 (suc (max 1 (suc (fresh m)))) ≡ fresh m + 1 + 1
  third = max-eq_right {n = 1} {m = suc (max 1 (suc (fresh m)))} (omega arith) ∙ ap suc second ∙ omega arith

  plain : fresh m + 0 ≡ fresh m
  plain = omega arith

  after : fresh m + 0 + 1 ≡ max 1 (suc (fresh m))
  after = omega (arith, second)

  abbrev set_in : Drawing → ChangeSet
  set_in d = record { created = d.created; modified = d.modified; deleted = d.deleted; warnings = d.warnings }

  new_set : (plan : LinePlan) (line housing : Line) (clamped made : Bool) (es : Option SectionNames)
      → set_in (four (plan_of plan (drawn_of (get_or a.lanes 0 0) line clamped es)) (housing_of housing made) None) ≡ light_set (numbers_for false m.next plan None) clamped made a.lanes m.rules
  unfolding light_set lift_all grouped signal_drawn line_drawn new_signal
  new_set (Use s) line housing clamped made es = ap set_in (new_lifted a (two (use_line s) (housing_of housing made)) (fresh m) s) ∙ rw (after, plain)
  new_set NoLine line housing clamped made es = rw (after, plain, append-nil (cond made (warning 3 None ∷ []) []))
  new_set (Draw how) line housing clamped made es =
      ap set_in (new_lifted a (two (draw (drawn_of (get_or a.lanes 0 0) line clamped es)) (housing_of housing made)) (fresh (with_line m (points_of line))) (fresh m)) ∙ rw (third, second)

  module _ (g : ℕ) (j : Joinable m g) where
    joined-set : (plan : LinePlan) (line housing : Line) (clamped made : Bool) (es : Option SectionNames)
        → set_in (four (plan_of plan (drawn_of (get_or a.lanes 0 0) line clamped es)) (housing_of housing made) (Some j.rule)) ≡ light_set (numbers_for false m.next plan (Some g)) clamped made a.lanes m.rules
    unfolding light_set lift_all grouped signal_drawn line_drawn new_signal
    joined-set (Use s) line housing clamped made es =
        ap set_in (joined_lifted a (two (use_line s) (housing_of housing made)) (fresh m) s j.rule j.signals j.line j.body m.next (rules_rise m ok) (here g j)) ∙ rw (group_number m g j, plain)
    joined-set NoLine line housing clamped made es = rw (group_number m g j, plain, append-nil (cond made (warning 3 None ∷ []) []))
    joined-set (Draw how) line housing clamped made es =
        ap set_in (joined_lifted a (two (draw (drawn_of (get_or a.lanes 0 0) line clamped es)) (housing_of housing made)) (fresh (with_line m (points_of line))) (fresh m) j.rule j.signals j.line j.body m.next (rules_rise m ok) (here g j))
        ∙ rw (group_number m g j, second)

  pub changes_are : (plan : LinePlan) (line housing : Line) (clamped made : Bool) (es : Option SectionNames) → ((g : ℕ) → a.group ≡ Some g → Joinable m g)
      → (light_draft a m (planned_of plan line clamped es housing made)).changes ≡ light_set (numbers_for false m.next plan a.group) clamped made a.lanes m.rules
  unfolding light_draft group_rule
  changes_are plan line housing clamped made es f = go a.group refl
    where
      go : (o : Option ℕ) → a.group ≡ o → set_in (four (plan_of plan (drawn_of (get_or a.lanes 0 0) line clamped es)) (housing_of housing made) (group_rule m o)) ≡ light_set (numbers_for false m.next plan o) clamped made a.lanes m.rules
      go None e = new_set plan line housing clamped made es
      go (Some g) e = let j = f g e in rw j.found (joined-set g j plan line housing clamped made es)
