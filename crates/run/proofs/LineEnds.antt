-- A draft has the ends that the table of calls says.
use Prim.Native.Nat.{ℕ}
use mathlib.Core.Path.{◌≡◌, refl, sym, ap, ◌∙◌, subst}
use Rattle.std.specs.Prelude.{Option, None, Some}
use mathlib.Core.List.{List, [], ◌∷◌}
use lib.Ieee.{Float}
use lib.ListN.{get_or}
use Rattle.refusal.specs.Answer.{done, present}
use Rattle.rows.specs.Lists.{or_else, twice, sorted}
use Rattle.geometry.specs.Double.{f0}
use Rattle.map.specs.Record.{RuleBody, Rule, Map}
use Rattle.map.specs.Lookup.{rule_of, unknown_in}
use Rattle.map.specs.Rows.{fresh}
use Rattle.place.specs.declared.Placement.{Placement}
use Rattle.place.specs.declared.Placement.TheVariants.{AtLaneEnd}
use Rattle.place.specs.Place.{check_lane_list, place_stop_line, refuse_found}
use Rattle.place.proofs.EndLaws.{place_ends}
use Rattle.place.proofs.Answers.{done_is, went, next, past}
use Rattle.edit.specs.declared.StopLineChoice.{StopLineChoice}
use Rattle.edit.specs.declared.StopLineChoice.TheVariants.{Automatic, Existing, New, NoLine}
use Rattle.edit.specs.Edit.{Draft}
use Rattle.edit.specs.StopLine.{NewStopLine, rule_at, line_draft, stop_line_edit}
use Rattle.edit.specs.Light.{NewTrafficSignal, Plan, Planned, Drawing, draw_plan, auto_plan, plan_for, line_drawn, plan_ends, signal_drawn, grouped, group_rule, lift_all, existing_stop_line, light_plan, light_draft, light_edit}
use Rattle.edit.specs.Links.{RegulatoryLinks, relinked, links_edit}
use Rattle.run.specs.Run.{line, signal, links}
use Rattle.run.specs.LineEnds.{LineTold, PlacedEnds, NoEnds, AutoEnds, ChoiceEnds, EndsAnswered}
use Rattle.run.proofs.LightStep.{plans}

-- what a draft tells
abbrev pub drafts : Draft → LineTold
drafts d = record { ends = d.ends; lines = d.map.stop_lines }

pub same_told : {t u : LineTold} → t.ends ≡ u.ends → t.lines ≡ u.lines → t ≡ u
same_told {t} {u} x y = rw (x, y)

-- ---- a stop line

line_drafts : (a : NewStopLine) (d : Draft) (o : Option RuleBody) → drafts (line_draft a d o) ≡ drafts d
unfolding line_draft
line_drafts a d None = refl
line_drafts a d (Some w) = refl

pub line_ends : (a : NewStopLine) (m : Map) (d : Draft) → stop_line_edit a m ≡ done d → EndsAnswered (line a) m (drafts d)
unfolding stop_line_edit
line_ends a m d e =
    let one = next (check_lane_list m a.lanes) _ d e in
    let two = went (place_stop_line m a.lanes a.placement a.points) _ d one.rest in
    let t : drafts d ≡ _ = sym (ap drafts (done_is two.rest)) ∙ line_drafts a _ (rule_at a.rule (fresh m)) in
    record {
      placed = two.value;
      placed_is = two.first;
      by = place_ends m a.lanes two.value a.placement a.points two.first;
      ends = ap (λ (x : LineTold). x.ends) t;
      stored = ap (λ (x : LineTold). x.lines) t;
    }

-- ---- a light

lifts_lines : (lanes : List ℕ) (d : Drawing) (o : Option ℕ) → (lift_all lanes d o).map.stop_lines ≡ d.map.stop_lines
unfolding lift_all
lifts_lines lanes d None = refl
lifts_lines lanes d (Some s) = refl

group_lines : (d : Drawing) (a : NewTrafficSignal) (n : ℕ) (o : Option Rule) → (grouped d a n o).map.stop_lines ≡ d.map.stop_lines
unfolding grouped
group_lines d a n None = refl
group_lines d a n (Some r) = refl

pub light_lines : (a : NewTrafficSignal) (m : Map) (p : Planned) → (light_draft a m p).map.stop_lines ≡ (line_drawn m p.plan).map.stop_lines
unfolding light_draft signal_drawn
light_lines a m p = lifts_lines a.lanes _ (line_drawn m p.plan).line ∙ group_lines _ a _ (group_rule m a.group)

light_told : (a : NewTrafficSignal) (m : Map) (p : Planned) → (drafts (light_draft a m p)).ends ≡ plan_ends p.plan
unfolding light_draft
light_told a m p = refl

-- what a plan tells
abbrev planned : Map → Plan → LineTold
planned m pl = record { ends = plan_ends pl; lines = (line_drawn m pl).map.stop_lines }

draws : (m : Map) (lanes : List ℕ) (how : Placement) (cs : List Float) (pl : Plan) → draw_plan m lanes how cs ≡ done pl → PlacedEnds m lanes how cs (planned m pl)
unfolding draw_plan plan_ends line_drawn
draws m lanes how cs pl e =
    let w = went (place_stop_line m lanes how cs) _ pl e in
    subst (λ (x : Plan). PlacedEnds m lanes how cs (planned m x)) (done_is w.rest)
    (record { placed = w.value; placed_is = w.first; by = place_ends m lanes w.value how cs w.first; ends = refl; stored = refl })

auto_ends : (m : Map) (lanes : List ℕ) (o : Option ℕ) (pl : Plan) → auto_plan m lanes o ≡ done pl → AutoEnds m lanes o (planned m pl)
unfolding auto_plan plan_ends line_drawn
auto_ends m lanes None pl e = draws m lanes (AtLaneEnd f0) [] pl e
auto_ends m lanes (Some s) pl e = subst (λ (x : Plan). NoEnds m (planned m x)) (done_is e) (record { ends = refl; stored = refl })

plan_ends_lem : (m : Map) (lanes : List ℕ) (g : Option ℕ) (c : StopLineChoice) (cs : List Float) (pl : Plan) → plan_for m lanes g c cs ≡ done pl → ChoiceEnds m lanes g c cs (planned m pl)
unfolding plan_for plan_ends line_drawn
plan_ends_lem m lanes g (Existing s) cs pl e = subst (λ (x : Plan). NoEnds m (planned m x)) (done_is e) (record { ends = refl; stored = refl })
plan_ends_lem m lanes None NoLine cs pl e = subst (λ (x : Plan). NoEnds m (planned m x)) (done_is e) (record { ends = refl; stored = refl })
plan_ends_lem m lanes (Some s) NoLine cs pl e = subst (λ (x : Plan). NoEnds m (planned m x)) (done_is e) (record { ends = refl; stored = refl })
plan_ends_lem m lanes g (New how) cs pl e = draws m lanes how cs pl e
plan_ends_lem m lanes g Automatic cs pl e = auto_ends m lanes (or_else g (existing_stop_line m (get_or lanes 0 0))) pl e

pub light_ends : (a : NewTrafficSignal) (m : Map) (d : Draft) → light_edit a m ≡ done d → EndsAnswered (signal a) m (drafts d)
unfolding light_edit
light_ends a m d e =
    let w = went (light_plan a m) _ d e in
    let p = plans a m w.value w.first in
    let t : planned m w.value.plan ≡ drafts d =
    sym (same_told (light_told a m w.value) (light_lines a m w.value)) ∙ ap drafts (done_is w.rest) in
    record { group = p.own; group_is = p.own_is; ends = subst (ChoiceEnds m a.lanes p.own a.choice a.points) t (plan_ends_lem m a.lanes p.own a.choice a.points w.value.plan p.plan_is) }

-- ---- links

pub links_ends : (a : RegulatoryLinks) (m : Map) (d : Draft) → links_edit a m ≡ done d → EndsAnswered (links a) m (drafts d)
unfolding links_edit
links_ends a m d e =
    let p₁ = went (present (rule_of m a.rule) 2 (8 ∷ a.rule ∷ [])) _ d e in
    let p₂ = past (twice a.lanes) 3 (1 ∷ []) _ d p₁.rest in
    let p₃ = past (twice a.crosswalks) 3 (2 ∷ []) _ d p₂.rest in
    let p₄ = past (twice a.stop_lines) 3 (3 ∷ []) _ d p₃.rest in
    let p₅ = next (refuse_found (unknown_in (λ l. l.num) m.lanes (sorted a.lanes)) 1) _ d p₄.rest in
    let p₆ = next (refuse_found (unknown_in (λ c. c.num) m.crosswalks (sorted a.crosswalks)) 7) _ d p₅.rest in
    let p₇ = next (refuse_found (unknown_in (λ l. l.num) m.stop_lines (sorted a.stop_lines)) 5) _ d p₆.rest in
    let p₈ = went (relinked m (record { rule = a.rule; lanes = sorted a.lanes; crosswalks = sorted a.crosswalks; stop_lines = sorted a.stop_lines }) p₁.value.body) _ d p₇.rest in
    subst (λ (x : Draft). NoEnds m (drafts x)) (done_is p₈.rest) (record { ends = refl; stored = refl })
