-- A light whose group has a line takes that one, and the group's rule has it still.
use mathlib.Core.Path.{◌≡◌, refl, sym, ap, subst, ◌∙◌}
use mathlib.Core.Bool.{Bool, true, false, not}
use Rattle.std.specs.Prelude.{Option, None, Some}
use mathlib.Core.List.{List, [], ◌∷◌}
use Prim.Native.Nat.{ℕ}
use lib.Dec.{eqb}
use lib.Ieee.{Float}
use borrow.Author.Tests.{eq-eqb, eqb-true}
use Rattle.refusal.specs.Answer.{done, refuse_when, present}
use Rattle.rows.specs.Lists.{no_entries}
use Rattle.rows.specs.Table.{find, replaced}
use Rattle.rows.proofs.Tables.{changed, find_changed, rising_changed}
use Rattle.map.specs.Lookup.{line_of, rule_of}
use Rattle.map.specs.MapFile.{is_map}
use Rattle.map.specs.Record.{RuleBody, light, sign, marking, right_of_way, crossing, other, Rule, Map}
use Rattle.map.specs.Rows.{rule_with, fresh}
use Rattle.map.proofs.ByKind.{up₈}
use Rattle.place.specs.Place.{Placed}
use Rattle.place.proofs.Answers.{never, done_is, went, next, past, there}
use Rattle.edit.specs.declared.StopLineChoice.{StopLineChoice}
use Rattle.edit.specs.declared.StopLineChoice.TheVariants.{Existing, New, NoLine, Automatic}
use Rattle.edit.specs.Edit.{Draft}
use Rattle.edit.specs.Light.{NewTrafficSignal, stops_at, light_line, group_line, differs, check_choice, Plan, use_line, auto_plan, plan_for, line_drawn, Drawing, signal_drawn, new_signal, extended, joined_lanes, grouped, group_rule, is_stop_at, lift, light_plan, light_draft, light_edit}
use Rattle.run.specs.Law.{groups_line, lights_line, no_stop, Joined}
use Rattle.run.proofs.Lifts.{lift_by, lift_same}
use Rattle.run.proofs.Rules.{put, put_all, put_same}
use Rattle.run.proofs.LightStep.{lifts_map, plans}
use Rattle.run.proofs.LightLine.{rule_line, group_line_lem, light_line_lem, light_clears}
use Rattle.run.proofs.LineEnds.{light_lines}

-- ---- the plan

plan_joins : (m : Map) (lanes : List ℕ) (g : ℕ) (c : StopLineChoice) (cs : List Float) (u : Unit {0}) (pl : Plan) → check_choice m (Some g) c ≡ done u → plan_for m lanes (Some g) c cs ≡ done pl → pl ≡ use_line g
unfolding check_choice plan_for auto_plan
plan_joins m lanes g Automatic cs u pl h e = sym (done_is e)
plan_joins m lanes g (New how) cs u pl h e = never h
plan_joins m lanes g NoLine cs u pl h e = sym (done_is e)
plan_joins m lanes g (Existing s) cs u pl h e = sym (done_is e) ∙ ap use_line (sym (unfold differs in go (eqb g s) refl (next (present (line_of m s) 2 (5 ∷ s ∷ [])) _ u h).rest))
  where
    go : (b : Bool) → eqb g s ≡ b → refuse_when (not b) 7 (3 ∷ []) ≡ done u → g ≡ s
    go true q k = eqb-true g s q
    go false q k = never k

-- ---- the group's rule

abbrev num : Rule → ℕ
num r = r.num

-- it is a light with the line g, which stays one
light_stays : (w : RuleBody) (g n : ℕ) → light_line w ≡ done (Some g) → (is_stop_at g (extended w n (Some g)) ≡ false) × (stops_at (extended w n (Some g)) ≡ Some g)
unfolding light_line is_stop_at extended stops_at
light_stays (light signals line) g n e = (refl, rw (done_is e))
light_stays (sign type shape line) g n e = never e
light_stays (marking line) g n e = never e
light_stays (right_of_way priority yielding stop_lines) g n e = never e
light_stays (crossing c stop_lines) g n e = never e
light_stays (other k) g n e = never e

module _ (a : NewTrafficSignal) (m : Map) (ok : is_map m ≡ true) (g : ℕ) (h : Placed) where
  abbrev after : Map
  after = (light_draft a m (record { plan = use_line g; housing = h })).map

  abbrev more : Rule → Rule
  more r = rule_with r (extended r.body (fresh m) (Some g)) (joined_lanes r.lanes a.lanes) r.controlled

  -- the draft before lifting
  abbrev joining : Option Rule → Drawing
  joining o = grouped (signal_drawn (line_drawn m (use_line g)) (new_signal a (fresh m) h.points) h.warnings) a (fresh m) o

  joining_rules : (r : Rule) → (joining (Some r)).map.rules ≡ replaced num (more r) m.rules
  unfolding grouped signal_drawn line_drawn
  joining_rules r = refl

  after_rules : after.rules ≡ changed (lift_by (Some g) a.lanes) (joining (group_rule m a.group)).map.rules
  unfolding light_draft line_drawn
  after_rules = ap (λ (x : Map). x.rules) (lifts_map a.lanes (joining (group_rule m a.group)) (Some g))

  rules_are : (r : Rule) → group_rule m a.group ≡ Some r → after.rules ≡ changed (lift_by (Some g) a.lanes) (changed (put (more r)) m.rules)
  rules_are r e = after_rules ∙ ap (changed (lift_by (Some g) a.lanes)) (ap (λ (o : Option Rule). (joining o).map.rules) e ∙ joining_rules r ∙ put_all (more r) m.rules)

  rule_found : (k : ℕ) (r : Rule) → find num k m.rules ≡ Some r → is_stop_at g (more r).body ≡ false
      → find num k (changed (lift_by (Some g) a.lanes) (changed (put (more r)) m.rules)) ≡ Some (more r)
  unfolding lift
  rule_found k r e q =
      rw (
        find_changed num (lift_by (Some g) a.lanes) (lift_same (Some g) a.lanes) 0 m.next k (changed (put (more r)) m.rules)
            (rising_changed num (put (more r)) (put_same (more r)) 0 m.next m.rules (up₈ m ok)),
        find_changed num (put (more r)) (put_same (more r)) 0 m.next k m.rules (up₈ m ok),
        e,
        eq-eqb r.num r.num refl,
        q,
      )

  own_stays : (k : Option ℕ) → a.group ≡ k → group_line m k ≡ done (Some g) → groups_line k after.rules ≡ Some g
  unfolding group_line rule_of groups_line group_rule
  own_stays None q e = done_is e
  own_stays (Some k) q e =
      let p₁ = went (present (find num k m.rules) 2 (8 ∷ k ∷ [])) _ (Some g) e in
      let r = p₁.value in
      let f = there (find num k m.rules) 2 (8 ∷ k ∷ []) r p₁.first in
      let p₂ = past (not (no_entries r.controlled)) 7 (1 ∷ []) _ (Some g) p₁.rest in
      let l = light_stays r.body g (fresh m) p₂.rest in
      rw (rules_are r (rw q f)) (rule_line k _ (more r) (rule_found k r f l.0) ∙ l.1)

-- ---- the light

pub light_joins : (a : NewTrafficSignal) (m : Map) (d : Draft) → is_map m ≡ true → light_edit a m ≡ done d → (g : ℕ) → groups_line a.group m.rules ≡ Some g → Joined a m d.map g
unfolding light_edit
light_joins a m d ok e g own =
    let w = went (light_plan a m) _ d e in
    let p = plans a m w.value w.first in
    let o : p.own ≡ Some g = sym (group_line_lem m a.group p.own p.own_is) ∙ own in
    let pl = plan_joins m a.lanes g a.choice a.points p.fine w.value.plan (rw o at p.fine_is) (rw o at p.plan_is) in
    let s : lights_line a m ≡ Some g = sym (light_line_lem a m w.value w.first) ∙ (rw pl (unfold line_drawn in refl)) in
    record {
      lines = ap (λ (x : Draft). x.map.stop_lines) (sym (done_is w.rest)) ∙ light_lines a m w.value ∙ (rw pl (unfold line_drawn in refl));
      own = subst (λ (x : Draft). groups_line a.group x.map.rules ≡ Some g) (done_is w.rest) (stays w.value.plan pl w.value.housing (rw o at p.own_is));
      cleared = subst (λ (l : Option ℕ). no_stop l a.lanes d.map ≡ true) s (light_clears a m d e);
    }
  where
    stays : (pl : Plan) → pl ≡ use_line g → (h : Placed) → group_line m a.group ≡ done (Some g) → groups_line a.group (light_draft a m (record { plan = pl; housing = h })).map.rules ≡ Some g
    stays pl q h e = rw q (own_stays a m ok g h a.group refl e)
