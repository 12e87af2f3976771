-- For a group with a line a new one is turned down right after the tests before the choice, and no line is the group's line by its number.
use Prim.Native.Nat.{ℕ}
use mathlib.Core.Path.{◌≡◌, refl, ap, ◌∙◌}
use Rattle.std.specs.Prelude.{Option, None, Some}
use mathlib.Core.List.{[], ◌∷◌}
use borrow.Author.Tests.{eq-eqb}
use Rattle.refusal.specs.Answer.{Answer, refused, done, ◌>>=◌}
use Rattle.map.specs.Record.{LineString, Rule, Map}
use Rattle.map.specs.Lookup.{line_of}
use Rattle.place.specs.declared.Placement.{Placement}
use Rattle.place.specs.Place.{check_lane_list}
use Rattle.place.proofs.Answers.{next, past}
use Rattle.edit.specs.declared.StopLineChoice.{StopLineChoice}
use Rattle.edit.specs.declared.StopLineChoice.TheVariants.{Existing, New, NoLine}
use Rattle.edit.specs.Light.{NewTrafficSignal, group_line, differs, check_choice, plan_for, anchor_for, bad_height, check_housing, Planned, light_plan, Drawing, grouped, group_rule, height_of, bulbs_of, new_signal, light_draft, light_edit}
use Rattle.edit.specs.GroupLine.{before_choice, choosing}

-- ---- a new line

pub new_turned_down : (a : NewTrafficSignal) (m : Map) (g : ℕ) (how : Placement) → a.choice ≡ New how → before_choice a m ≡ done (Some g) → light_edit a m ≡ refused 7 (4 ∷ [])
unfolding light_edit light_plan check_choice before_choice
new_turned_down a m g how c e =
    let p₁ = next (check_lane_list m a.lanes) _ (Some g) e in
    let p₂ = past (bad_height a.height) 4 (1 ∷ []) _ (Some g) p₁.rest in
    let p₃ = next (check_housing a.housing) _ (Some g) p₂.rest in
    rw (p₁.first, p₂.test, p₃.first, p₃.rest, c)

-- ---- no line

-- what is drafted does not look at the choice
module _ (c : StopLineChoice) (a : NewTrafficSignal) where
  group_apart : (d : Drawing) (n : ℕ) (o : Option Rule) → grouped d (choosing c a) n o ≡ grouped d a n o
  unfolding grouped
  group_apart d n None = refl
  group_apart d n (Some r) = refl

  draft_apart : (m : Map) (p : Planned) → light_draft (choosing c a) m p ≡ light_draft a m p
  unfolding light_draft new_signal height_of bulbs_of
  draft_apart m p = rw (group_apart _ _ (group_rule m a.group))

-- a group that is turned down is so for either choice
module _ (a : NewTrafficSignal) (m : Map) (g : ℕ) (own : (o : Option ℕ) → group_line m a.group ≡ done o → o ≡ Some g) where
  plan_as_named : light_plan (choosing NoLine a) m ≡ light_plan (choosing (Existing g) a) m
  unfolding light_plan check_choice plan_for anchor_for differs
  plan_as_named = go (group_line m a.group) refl
    where
      with_line_lem : (o : Option LineString) → line_of m g ≡ o → group_line m a.group ≡ done (Some g) → light_plan (choosing NoLine a) m ≡ light_plan (choosing (Existing g) a) m
      with_line_lem None q e = rw (e, q)
      with_line_lem (Some l) q e = rw (e, q, eq-eqb g g refl)

      go : (x : Answer (Option ℕ)) → group_line m a.group ≡ x → light_plan (choosing NoLine a) m ≡ light_plan (choosing (Existing g) a) m
      go (refused n ds) e = rw e
      go (done o) e = with_line_lem (line_of m g) refl (e ∙ ap done (own o e))

  pub none_as_named : light_edit (choosing NoLine a) m ≡ light_edit (choosing (Existing g) a) m
  unfolding light_edit
  none_as_named = rw plan_as_named (go (light_plan (choosing (Existing g) a) m))
    where
      go : (x : Answer Planned) → (x >>= λ p. done (light_draft (choosing NoLine a) m p)) ≡ (x >>= λ p. done (light_draft (choosing (Existing g) a) m p))
      go (refused n ds) = refl
      go (done p) = rw (draft_apart NoLine a m p, draft_apart (Existing g) a m p)
