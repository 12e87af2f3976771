-- The names apart, each edit's answer is what it was.
use Prim.Native.Nat.{ℕ, ◌^◌}
use mathlib.Core.Path.{◌≡◌, refl, ap, ◌∙◌}
use mathlib.Core.Bool.{false, not, ◌&&◌}
use Rattle.std.specs.Prelude.{Option, None, Some}
use mathlib.Core.List.{List, [], ◌∷◌}
use lib.Dec.{leb}
use lib.ListN.{get_or}
use lib.Ieee.{Float}
use Rattle.refusal.specs.Answer.{Answer, refused, done, ◌>>=◌, refuse_when, present}
use Rattle.rows.specs.Lists.{or_else, every, twice, sorted}
use Rattle.geometry.specs.Double.{f0}
use Rattle.geometry.specs.Point.{point_on_map}
use Rattle.geometry.specs.Polyline.{Polyline}
use Rattle.map.specs.Record.{RuleBody, Map}
use Rattle.map.specs.Ceilings.{within_ceilings}
use Rattle.map.specs.Lookup.{rule_of, unknown_in}
use Rattle.map.specs.MapFile.{is_map}
use Rattle.map.specs.Entity.{entity}
use Rattle.map.specs.Rows.{fresh, with_line}
use Rattle.changes.specs.ChangeSet.{normalize, fold_step}
use Rattle.changes.specs.ChangeFile.{lists_ok}
use Rattle.changes.specs.Running.{State, fold_ok, fold_fits}
use Rattle.place.specs.declared.Placement.{Placement}
use Rattle.place.specs.declared.Placement.TheVariants.{AtLaneEnd}
use Rattle.place.specs.Place.{Section, Placed, refuse_found, check_lane_list, cross_section, place_stop_line}
use Rattle.names_apart.specs.Placing as place
use Rattle.edit.specs.declared.StopLineChoice.{StopLineChoice}
use Rattle.edit.specs.declared.StopLineChoice.TheVariants.{Automatic, Existing, New, NoLine}
use Rattle.edit.specs.Edit.{Draft, finish, call}
use Rattle.edit.specs.StopLine.{NewStopLine, rule_at, line_draft, stop_line_edit, add_stop_line}
use Rattle.edit.specs.Light.{NewTrafficSignal, Plan, use_line, use_none, draw, Planned, group_line, existing_stop_line, draw_plan, auto_plan, anchor_for, synthesize_signal_geometry, housing_for, line_drawn, plan_points, bad_height, check_housing, light_draft, add_traffic_signal}
use Rattle.edit.specs.Links.{RegulatoryLinks, relinked, links_edit, set_regulatory_links}
use Rattle.group_line.specs.Before as between
use Rattle.group_line.specs.Before.{check_choice, plan_for, light_plan, light_edit}
use Rattle.group_line.specs.Law.{answered_anew}
use Rattle.group_line.proofs.Laws.{group_line_law}
use Rattle.names_apart.specs.Edits as old
use Rattle.names_apart.specs.Apart.{with_result, bare, bare_outcome, NamesApart}
use Rattle.names_apart.proofs.PlacingLaws.{through, past, behind, section_points_kept, place_kept}

-- ---- the call

abbrev bare_draft : Draft → old.Draft
bare_draft d = record { map = d.map; id = d.id; changes = d.changes; stored = d.stored }

finish_kept : (s : State) (d : Draft) → with_result bare_outcome (finish s d) ≡ old.finish s (bare_draft d)
unfolding finish old.finish
finish_kept s d =
    behind bare_outcome (refuse_when (not (every point_on_map d.stored)) 9 []) _ _
    (behind bare_outcome (refuse_when (not (within_ceilings d.map && fold_fits (fold_step s.fold (normalize d.changes)))) 10 []) _ _
    (behind bare_outcome (refuse_when (leb (2 ^ 64) d.map.next) 11 []) _ _ refl))

call_kept : (edit : Map → Answer Draft) (before : Map → Answer old.Draft) → ((m : Map) → with_result bare_draft (edit m) ≡ before m) → (s : State)
    → with_result bare_outcome (call edit s) ≡ old.call before s
unfolding call old.call
call_kept edit before e s =
    behind bare_outcome (refuse_when (not (is_map s.map)) 12 []) _ _
    (behind bare_outcome (refuse_when (not (lists_ok s.fold && fold_ok s)) 13 []) _ _
    (through bare_draft bare_outcome (edit s.map) _ (λ d. old.finish s d) (λ d. finish_kept s d) ∙ ap (λ (a : Answer old.Draft). a >>= λ d. old.finish s d) (e s.map)))

-- ---- a stop line

line_draft_kept : (a : NewStopLine) (d : Draft) (o : Option RuleBody) → bare_draft (line_draft a d o) ≡ old.line_draft a (bare_draft d) o
unfolding line_draft old.line_draft
line_draft_kept a d None = refl
line_draft_kept a d (Some w) = refl

line_edit_kept : (a : NewStopLine) (m : Map) → with_result bare_draft (stop_line_edit a m) ≡ old.stop_line_edit a m
unfolding stop_line_edit old.stop_line_edit
line_edit_kept a m =
    behind bare_draft (check_lane_list m a.lanes) _ _
    (through bare bare_draft (place_stop_line m a.lanes a.placement a.points) _ rest (λ p. ap done (line_draft_kept a _ (rule_at a.rule (fresh m))))
    ∙ ap (λ (x : Answer place.Placed). x >>= rest) (place_kept m a.lanes a.placement a.points))
  where
    rest : place.Placed → Answer old.Draft
    rest p =
        done (old.line_draft a
        (record { map = with_line m p.points; id = fresh m; stored = p.points; changes = record { created = entity 5 (fresh m) ∷ []; modified = []; deleted = []; warnings = p.warnings } })
        (rule_at a.rule (fresh m)))

stop_line_kept : (a : NewStopLine) (s : State) → with_result bare_outcome (add_stop_line a s) ≡ old.add_stop_line a s
unfolding add_stop_line old.add_stop_line
stop_line_kept a s = call_kept (stop_line_edit a) (old.stop_line_edit a) (line_edit_kept a) s

-- ---- a light, as it was before it joined its group's line

abbrev bare_plan : Plan → old.Plan
bare_plan (use_line s) = old.use_line s
bare_plan use_none = old.use_none
bare_plan (draw p) = old.draw (bare p)

abbrev bare_planned : Planned → old.Planned
bare_planned p = record { plan = bare_plan p.plan; housing = bare p.housing }

module _ (m : Map) (lanes : List ℕ) where
  draw_kept : (how : Placement) (cs : List Float) → with_result bare_plan (draw_plan m lanes how cs) ≡ old.draw_plan m lanes how cs
  unfolding draw_plan old.draw_plan
  draw_kept how cs =
      through bare bare_plan (place_stop_line m lanes how cs) _ (λ p. done (old.draw p)) (λ p. refl) ∙ ap (λ (x : Answer place.Placed). x >>= λ p. done (old.draw p)) (place_kept m lanes how cs)

  auto_kept : (o : Option ℕ) → with_result bare_plan (auto_plan m lanes o) ≡ old.auto_plan m lanes o
  unfolding auto_plan old.auto_plan
  auto_kept None = draw_kept (AtLaneEnd f0) []
  auto_kept (Some s) = refl

  plan_kept : (g : Option ℕ) (c : StopLineChoice) (cs : List Float) → with_result bare_plan (plan_for m lanes g c cs) ≡ old.plan_for m lanes g c cs
  unfolding plan_for old.plan_for
  plan_kept g (Existing s) cs = refl
  plan_kept g NoLine cs = refl
  plan_kept g (New how) cs = draw_kept how cs
  plan_kept g Automatic cs = auto_kept (or_else g (existing_stop_line m (get_or lanes 0 0)))

  anchor_kept : (p : Plan) → anchor_for m lanes p ≡ old.anchor_for m lanes (bare_plan p)
  unfolding anchor_for old.anchor_for
  anchor_kept (use_line s) = refl
  anchor_kept (draw p) = refl
  anchor_kept use_none = go (cross_section m (get_or lanes 0 0) _ lanes) ∙ section_points_kept m (get_or lanes 0 0) _ lanes
    where
      go : (a : Answer Section) → (a >>= λ x. done x.points) ≡ with_result (λ x. x.points) a
      go (refused n ds) = refl
      go (done x) = refl

housing_kept : (m : Map) (n : ℕ) (xs : Polyline) (o : Option (List Float)) → with_result bare (housing_for m n xs o) ≡ old.housing_for m n xs o
unfolding housing_for old.housing_for
housing_kept m n xs (Some cs) = refl
housing_kept m n xs None = past bare (synthesize_signal_geometry m n xs) _ _ (λ ys. refl)

light_plan_kept : (a : NewTrafficSignal) (m : Map) → with_result bare_planned (light_plan a m) ≡ old.light_plan a m
unfolding light_plan old.light_plan
light_plan_kept a m =
    behind bare_planned (check_lane_list m a.lanes) _ _
    (behind bare_planned (refuse_when (bad_height a.height) 4 (1 ∷ [])) _ _
    (behind bare_planned (check_housing a.housing) _ _
    (past bare_planned (group_line m a.group) _ _ (λ g.
    behind bare_planned (check_choice m g a.choice) _ _
    (through bare_plan bare_planned (plan_for m a.lanes g a.choice a.points) _ rest (λ p.
    rw (← anchor_kept m a.lanes p) (past bare_planned (anchor_for m a.lanes p) _ _ (λ x.
    through bare bare_planned (housing_for m (get_or a.lanes 0 0) x a.housing) _ (last (bare_plan p)) (λ h. refl)
    ∙ ap (λ (y : Answer place.Placed). y >>= last (bare_plan p)) (housing_kept m (get_or a.lanes 0 0) x a.housing))))
    ∙ ap (λ (x : Answer old.Plan). x >>= rest) (plan_kept m a.lanes g a.choice a.points))))))
  where
    last : old.Plan → place.Placed → Answer old.Planned
    last p h = done (record { plan = p; housing = h })

    rest : old.Plan → Answer old.Planned
    rest p = old.anchor_for m a.lanes p >>= λ x. old.housing_for m (get_or a.lanes 0 0) x a.housing >>= last p

light_draft_kept : (a : NewTrafficSignal) (m : Map) (pl : Plan) (h : Placed)
    → bare_draft (light_draft a m (record { plan = pl; housing = h })) ≡ old.light_draft a m (record { plan = bare_plan pl; housing = bare h })
unfolding light_draft line_drawn plan_points old.light_draft old.line_drawn old.plan_points
light_draft_kept a m (use_line s) h = refl
light_draft_kept a m use_none h = refl
light_draft_kept a m (draw p) h = refl

light_edit_kept : (a : NewTrafficSignal) (m : Map) → with_result bare_draft (light_edit a m) ≡ old.light_edit a m
unfolding light_edit old.light_edit
light_edit_kept a m =
    through bare_planned bare_draft (light_plan a m) _ (λ p. done (old.light_draft a m p)) (λ p. ap done (light_draft_kept a m p.plan p.housing))
    ∙ ap (λ (x : Answer old.Planned). x >>= λ p. done (old.light_draft a m p)) (light_plan_kept a m)

between_kept : (a : NewTrafficSignal) (s : State) → with_result bare_outcome (between.add_traffic_signal a s) ≡ old.add_traffic_signal a s
unfolding between.add_traffic_signal old.add_traffic_signal
between_kept a s = call_kept (light_edit a) (old.light_edit a) (light_edit_kept a) s

light_kept : (a : NewTrafficSignal) (s : State) → answered_anew a s.map ≡ false → with_result bare_outcome (add_traffic_signal a s) ≡ old.add_traffic_signal a s
light_kept a s h = ap (with_result bare_outcome) ((group_line_law a s).others h) ∙ between_kept a s

-- ---- links

links_edit_kept : (a : RegulatoryLinks) (m : Map) → with_result bare_draft (links_edit a m) ≡ old.links_edit a m
unfolding links_edit old.links_edit
links_edit_kept a m =
    past bare_draft (present (rule_of m a.rule) 2 (8 ∷ a.rule ∷ [])) _ _ (λ r.
    behind bare_draft (refuse_when (twice a.lanes) 3 (1 ∷ [])) _ _
    (behind bare_draft (refuse_when (twice a.crosswalks) 3 (2 ∷ [])) _ _
    (behind bare_draft (refuse_when (twice a.stop_lines) 3 (3 ∷ [])) _ _
    (behind bare_draft (refuse_found (unknown_in (λ l. l.num) m.lanes (sorted a.lanes)) 1) _ _
    (behind bare_draft (refuse_found (unknown_in (λ c. c.num) m.crosswalks (sorted a.crosswalks)) 7) _ _
    (behind bare_draft (refuse_found (unknown_in (λ l. l.num) m.stop_lines (sorted a.stop_lines)) 5) _ _
    (past bare_draft (relinked m (record { rule = a.rule; lanes = sorted a.lanes; crosswalks = sorted a.crosswalks; stop_lines = sorted a.stop_lines }) r.body) _ _ (λ w. refl))))))))

links_kept : (a : RegulatoryLinks) (s : State) → with_result bare_outcome (set_regulatory_links a s) ≡ old.set_regulatory_links a s
unfolding set_regulatory_links old.set_regulatory_links
links_kept a s = call_kept (links_edit a) (old.links_edit a) (links_edit_kept a) s

-- ---- all of it

pub names_apart : NamesApart
names_apart = record { section = section_points_kept; placement = place_kept; line = stop_line_kept; light = light_kept; links = links_kept }
