-- The line of a light in the law's own words is the one that the edit takes, and no stop rule of its lanes is left on it.
use mathlib.Core.Path.{◌≡◌, refl, subst, ◌∙◌}
use mathlib.Core.Bool.{Bool, true, false, not, ◌&&◌, ◌||◌, cond}
use Rattle.std.specs.Prelude.{Option, None, Some}
use mathlib.Core.List.{List, [], ◌∷◌, ◌++◌}
use Prim.Native.Nat.{ℕ, max}
use lib.Dec.{eqb}
use lib.ListN.{get_or}
use lib.Ieee.{Float}
use native.Mathlib.Omega.{arith}
use Rattle.refusal.specs.Answer.{done, present}
use Rattle.rows.specs.Lists.{every, first_of, or_else, member, no_entries}
use Rattle.rows.specs.Table.{find}
use Rattle.rows.proofs.Bools.{and_i, clash}
use Rattle.rows.proofs.Tables.{changed, one}
use Rattle.geometry.specs.Double.{f0}
use Rattle.map.specs.Lookup.{rule_of}
use Rattle.map.specs.Record.{RuleBody, light, sign, marking, right_of_way, crossing, other, Rule, Map}
use Rattle.map.specs.Rows.{fresh}
use Rattle.edit.specs.Edit.{Draft}
use Rattle.edit.specs.Light.{stops_at, existing_stop_line, light_line, group_line, Plan, Planned, Drawing, draw_plan, auto_plan, plan_for, line_drawn, light_plan, light_draft, light_edit, lift_all, is_stop_at, NewTrafficSignal}
use Rattle.place.specs.Place.{check_lane_list, place_stop_line}
use Rattle.place.specs.declared.Placement.{Placement}
use Rattle.place.specs.declared.Placement.TheVariants.{AtLaneEnd}
use Rattle.place.proofs.Answers.{never, done_is, went, past, there}
use Rattle.edit.specs.declared.StopLineChoice.{StopLineChoice}
use Rattle.edit.specs.declared.StopLineChoice.TheVariants.{Existing, New, NoLine, Automatic}
use Rattle.run.specs.Law.{own_line, or_next, line_on_lane, line_of_rule, groups_line, first_lanes_line, found_or, chosen_line, lights_line, meets, halt_line, is_line, no_stop}
use Rattle.run.proofs.Lifts.{lift_by, lift_clears}
use Rattle.run.proofs.LightStep.{lifts_map, plans}

-- ---- which line it is

own_is : (w : RuleBody) → own_line w ≡ stops_at w
unfolding own_line stops_at
own_is (light signals line) = refl
own_is (sign type shape line) = refl
own_is (marking line) = refl
own_is (right_of_way priority yielding stop_lines) = refl
own_is (crossing c stop_lines) = refl
own_is (other k) = refl

next_else : (a b : Option ℕ) → or_next a b ≡ or_else a b
next_else None b = refl
next_else (Some s) b = refl

lane_line : (n : ℕ) (rs : List Rule) → line_on_lane n rs ≡ first_of (λ r. cond (member n r.lanes) (stops_at r.body) None) rs
unfolding line_on_lane first_of
lane_line n [] = refl
lane_line n (r ∷ rs) = rw (lane_line n rs, own_is r.body) (go (member n r.lanes) (first_of (λ r. cond (member n r.lanes) (stops_at r.body) None) rs))
  where
    go : (b : Bool) (rest : Option ℕ) → cond b (or_next (stops_at r.body) rest) rest ≡ or_else (cond b (stops_at r.body) None) rest
    go true rest = next_else (stops_at r.body) rest
    go false rest = refl

pub rule_line : (n : ℕ) (rs : List Rule) (r : Rule) → find (λ x. x.num) n rs ≡ Some r → line_of_rule n rs ≡ stops_at r.body
unfolding line_of_rule find
rule_line n [] r e = let z : ◌≡◌ {A = ℕ} 0 1 = cc in absurd (omega arith)
rule_line n (x ∷ rs) r e = go (eqb x.num n) e (rule_line n rs r)
  where
    go : (b : Bool) → cond b (Some x) (find (λ y. y.num) n rs) ≡ Some r → (find (λ y. y.num) n rs ≡ Some r → line_of_rule n rs ≡ stops_at r.body) → cond b (own_line x.body) (line_of_rule n rs) ≡ stops_at r.body
    go true e k = let q : x ≡ r = cc in rw q (own_is r.body)
    go false e k = k e

pub group_line_lem : (m : Map) (k g : Option ℕ) → group_line m k ≡ done g → groups_line k m.rules ≡ g
unfolding group_line groups_line rule_of
group_line_lem m None g e = done_is e
group_line_lem m (Some k) g e =
    let p₁ = went (present (find (λ x. x.num) k m.rules) 2 (8 ∷ k ∷ [])) _ g e in
    let r = p₁.value in
    let p₂ = past (not (no_entries r.controlled)) 7 (1 ∷ []) _ g p₁.rest in
    rule_line k m.rules r (there (find (λ x. x.num) k m.rules) 2 (8 ∷ k ∷ []) r p₁.first) ∙ is_one r.body p₂.rest
  where
    is_one : (w : RuleBody) → light_line w ≡ done g → stops_at w ≡ g
    is_one (light signals line) e = unfold light_line stops_at in done_is e
    is_one (sign type shape line) e = unfold light_line in never e
    is_one (marking line) e = unfold light_line in never e
    is_one (right_of_way priority yielding stop_lines) e = unfold light_line in never e
    is_one (crossing c stop_lines) e = unfold light_line in never e
    is_one (other k) e = unfold light_line in never e

first_line : (m : Map) (lanes : List ℕ) (u : Unit {0}) → check_lane_list m lanes ≡ done u → first_lanes_line lanes m.rules ≡ existing_stop_line m (get_or lanes 0 0)
unfolding check_lane_list first_lanes_line existing_stop_line
first_line m [] u e = let p = past (no_entries []) 1 [] _ u e in unfold no_entries in clash refl p.test
first_line m (n ∷ ns) u e = lane_line n m.rules

drawn_line : (m : Map) (lanes : List ℕ) (how : Placement) (cs : List Float) (pl : Plan) → draw_plan m lanes how cs ≡ done pl → (line_drawn m pl).line ≡ Some (fresh m)
unfolding draw_plan line_drawn
drawn_line m lanes how cs pl e = let q = went (place_stop_line m lanes how cs) _ pl e in rw (← done_is q.rest)

plan_line : (m : Map) (lanes : List ℕ) (g : Option ℕ) (c : StopLineChoice) (cs : List Float) (pl : Plan) → plan_for m lanes g c cs ≡ done pl
    → (line_drawn m pl).line ≡ chosen_line c (max 1 m.next) g (existing_stop_line m (get_or lanes 0 0))
unfolding plan_for chosen_line
plan_line m lanes g (Existing s) cs pl e = unfold line_drawn in rw (← done_is e)
plan_line m lanes None NoLine cs pl e = unfold line_drawn in rw (← done_is e)
plan_line m lanes (Some s) NoLine cs pl e = unfold line_drawn in rw (← done_is e)
plan_line m lanes g (New how) cs pl e = drawn_line m lanes how cs pl e
plan_line m lanes g Automatic cs pl e = rw (next_else g (existing_stop_line m (get_or lanes 0 0))) (go (or_else g (existing_stop_line m (get_or lanes 0 0))) e)
  where
    go : (o : Option ℕ) → auto_plan m lanes o ≡ done pl → (line_drawn m pl).line ≡ Some (found_or (max 1 m.next) o)
    go None e = unfold auto_plan in drawn_line m lanes (AtLaneEnd f0) [] pl e
    go (Some s) e = unfold auto_plan line_drawn in rw (← done_is e)

pub light_line_lem : (a : NewTrafficSignal) (m : Map) (p : Planned) → light_plan a m ≡ done p → (line_drawn m p.plan).line ≡ lights_line a m
unfolding lights_line
light_line_lem a m p e =
    let q = plans a m p e in
    rw (group_line_lem m a.group q.own q.own_is, first_line m a.lanes q.unit q.lanes)
    (plan_line m a.lanes q.own a.choice a.points p.plan q.plan_is)

-- ---- what is lifted from it

not_meets : (ls ns : List ℕ) → every (λ n. not (member n ls)) ns ≡ not (meets ls ns)
unfolding every meets
not_meets ls [] = refl
not_meets ls (n ∷ ns) = go (member n ls) (not_meets ls ns)
  where
    go : (b : Bool) → every (λ n. not (member n ls)) ns ≡ not (meets ls ns) → (not b && every (λ n. not (member n ls)) ns) ≡ not (b || meets ls ns)
    go true h = refl
    go false h = h

every_made : {A : Type 0} (f : A → Option A) (p : A → Bool) (t : List A) → ((x y : A) → f x ≡ Some y → p y ≡ true) → every p (changed f t) ≡ true
unfolding every changed
every_made f p [] k = refl
every_made f p (x ∷ t) k = go (f x) refl (every_made f p t k)
  where
    go : (o : Option _) → f x ≡ o → every p (changed f t) ≡ true → every p (one o ++ changed f t) ≡ true
    go None e h = h
    go (Some y) e h = and_i (p y) _ (k x y e) h

-- what the edit tests is what the law speaks of
stop_is : (s : ℕ) (w : RuleBody) → is_stop_at s w ≡ is_line s (halt_line w)
unfolding is_stop_at is_line halt_line
stop_is s (light signals line) = refl
stop_is s (sign type shape None) = go (eqb type 1)
  where
    go : (b : Bool) → false ≡ is_line s (cond b None None)
    go true = refl
    go false = refl
stop_is s (sign type shape (Some line)) = go (eqb type 1)
  where
    go : (b : Bool) → (b && eqb line s) ≡ is_line s (cond b (Some line) None)
    go true = refl
    go false = refl
stop_is s (marking line) = refl
stop_is s (right_of_way priority yielding stop_lines) = refl
stop_is s (crossing c stop_lines) = refl
stop_is s (other k) = refl

clears : (lanes : List ℕ) (d : Drawing) (l : Option ℕ) → no_stop l lanes (lift_all lanes d l).map ≡ true
unfolding no_stop
clears lanes d None = refl
clears lanes d (Some s) = rw (lifts_map lanes d (Some s)) (every_made (lift_by (Some s) lanes) (λ r. not (is_line s (halt_line r.body) && meets lanes r.lanes)) d.map.rules each)
  where
    demorgan : (b c : Bool) → (not b || not c) ≡ not (b && c)
    demorgan true c = refl
    demorgan false c = refl

    each : (x y : Rule) → lift_by (Some s) lanes x ≡ Some y → not (is_line s (halt_line y.body) && meets lanes y.lanes) ≡ true
    each x y e = rw (← stop_is s y.body, ← demorgan (is_stop_at s y.body) (meets lanes y.lanes), ← not_meets lanes y.lanes) (lift_clears s lanes x y e)

-- an accepted light leaves no stop rule of its lanes on its line
pub light_clears : (a : NewTrafficSignal) (m : Map) (d : Draft) → light_edit a m ≡ done d → no_stop (lights_line a m) a.lanes d.map ≡ true
unfolding light_edit
light_clears a m d e =
    let q = went (light_plan a m) _ d e in
    subst (λ (x : Draft). no_stop (lights_line a m) a.lanes x.map ≡ true) (done_is q.rest)
    (subst (λ (l : Option ℕ). no_stop l a.lanes (light_draft a m q.value).map ≡ true) (light_line_lem a m q.value q.first) (done_clears a m q.value))
  where
    done_clears : (a : NewTrafficSignal) (m : Map) (p : Planned) → no_stop (line_drawn m p.plan).line a.lanes (light_draft a m p).map ≡ true
    done_clears a m p = unfold light_draft in clears a.lanes _ (line_drawn m p.plan).line
