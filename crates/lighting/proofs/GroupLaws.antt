-- The light that is joined, and the choice of a line: each refusal, and what is chosen.
use Prim.Native.Nat.{ℕ, zero, suc, ◌+◌, ◌<◌}
use mathlib.Core.Path.{◌≡◌, refl, sym, ap, ◌∙◌}
use mathlib.Core.Bool.{true, false}
use Rattle.std.specs.Prelude.{Some, Err, Ok, Result, None, Option}
use mathlib.Core.List.{List, [], ◌∷◌}
use native.Mathlib.Omega.{arith}
use lib.Ieee.{Float}
use lib.ListN.{get_or}
use borrow.Author.Tests.{eq-eqb, ne_eqb}
use Rattle.refusal.specs.Answer.{refused, done}
use Rattle.refusal.specs.declared.Refusal.TheVariants.{Unknown, WrongGroup}
use Rattle.refusal.specs.declared.GroupFault.TheVariants as group_fault
use Rattle.refusal.specs.declared.RecordKind.TheVariants as record_kind
use Rattle.rows.specs.Lists.{list_to, no_entries}
use Rattle.rows.proofs.Indexed.{length-list_to}
use Rattle.geometry.specs.Double.{f0}
use Rattle.store.specs.Layout.{SizedWords, limit_of, width_of, row_of, coords_of}
use Rattle.map.specs.Access.{Found}
use Rattle.std.specs.declared.option.Option.TheVariants as f
use Rattle.map.specs.declared.RuleHead.{RuleHead}
use Rattle.map.specs.Lookup.{rule_of}
use Rattle.map.specs.Tables.{list_at, body_of, rule_in, map_of}
use Rattle.map.specs.Access.{lookup, HeadRead}
use Rattle.map.proofs.ReadLaws.{rule_found, no_rule, line_found, no_line}
use Rattle.place.specs.declared.Placement.{Placement}
use Rattle.place.specs.declared.Placement.TheVariants.{AtLaneEnd}
use Rattle.place.specs.Place.{place_as, place_stop_line}
use Rattle.place.proofs.LineLaws.{found_within}
use Rattle.placing.specs.Answers.{checked}
use Rattle.placing.proofs.CheckLaws.{no_entries_lem, some_entries}
use Rattle.edit.specs.declared.StopLineChoice.{StopLineChoice}
use Rattle.edit.specs.declared.StopLineChoice.TheVariants as ch
use Rattle.edit.specs.Light.{light_line, group_line, differs, check_new, check_choice, stops_at, draw_plan, auto_plan, plan_for}
use Rattle.lighting.specs.declared.GroupLine.{GroupLine}
use Rattle.lighting.specs.declared.LinePlan.{LinePlan}
use Rattle.lighting.specs.declared.LinePlan.TheVariants.{Use, NoLine, Draw}
use Rattle.lighting.specs.Group.{GroupRefused, GroupRead, ExistingChecked, ChoiceChecked, chosen_plan, AutoChosen, OwnChosen, PlanChosen}
use Rattle.lighting.specs.RuleLines.{head_line, LineFound}
use Rattle.lighting.proofs.RuleLaws.{head_is}
use Rattle.refusal.specs.declared.Refusal.{Refusal}

-- ---- a list of a row: none, or some

none_listed : (r : List ℕ) (o : ℕ) → get_or r o 0 ≡ 0 → no_entries (list_at r o) ≡ true
unfolding list_at
none_listed r o e = no_entries_lem (list_to (λ i. get_or r (o + 1 + i) 0) (get_or r o 0)) (length-list_to _ (get_or r o 0) ∙ e)

some_listed : (r : List ℕ) (o : ℕ) → (get_or r o 0 ≡ 0 → ⊥) → no_entries (list_at r o) ≡ false
unfolding list_at
some_listed r o h = some_entries (list_to (λ i. get_or r (o + 1 + i) 0) (get_or r o 0)) (λ e. h (sym (length-list_to _ (get_or r o 0)) ∙ e))

-- ---- a rule by its kind

other_kind : (k : ℕ) (r : List ℕ) (c : List Float) → (k ≡ 1 → ⊥) → light_line (body_of k r c) ≡ refused 7 (2 ∷ [])
unfolding light_line
other_kind zero r c h = refl
other_kind (suc zero) r c h = absurd (h refl)
other_kind (suc (suc zero)) r c h = refl
other_kind (suc (suc (suc zero))) r c h = refl
other_kind (suc (suc (suc (suc zero)))) r c h = refl
other_kind (suc (suc (suc (suc (suc zero))))) r c h = refl
other_kind (suc (suc (suc (suc (suc (suc zero)))))) r c h = refl
other_kind (suc (suc (suc (suc (suc (suc (suc k))))))) r c h = refl

light_kind : (k : ℕ) (r : List ℕ) (c : List Float) → k ≡ 1 → light_line (body_of k r c) ≡ done (stops_at (body_of k r c))
unfolding light_line stops_at
light_kind k r c e = rw e

-- ---- the group

rule_size : (limit_of 5 ≡ 128) × (24 < width_of 5)
unfolding limit_of width_of
rule_size = (refl, omega arith)

module _ (ws : List ℕ) (group : Option ℕ) where
  pub group_none : group ≡ None → GroupRead ws group (record { checked = (Ok tt); line = None })
  unfolding group_line
  group_none q = record { answer = λ cs. rw q }

  module _ (g : ℕ) (q : group ≡ Some g) (r : Found) (e : r ≡ lookup ws 5 g) where
    pub group_unknown : (a : GroupLine) → r ≡ f.None → GroupRefused (Unknown record_kind.Rule g) a → GroupRead ws group a
    unfolding group_line
    group_unknown a n h = record { answer = λ cs. h.answer ∙ rw (q, no_rule ws cs g (sym e ∙ n)) }

    module _ (i : ℕ) (at : r ≡ f.Some i) where
      rule_at_lem : (cs : List Float) → rule_of (map_of ws cs) g ≡ Some (rule_in (row_of ws 5 i) (coords_of cs 5 i))
      rule_at_lem cs = rule_found ws cs g i (sym e ∙ at)

      pub group_row : SizedWords ws → SizedWords ws × (i < 128)
      group_row ok = (ok, omega (arith, found_within ws 5 g i r e at ok (omega arith), rule_size.0))

      pub group_word : SizedWords ws → SizedWords ws × (i < limit_of 5) × (24 < width_of 5)
      group_word ok = (ok, found_within ws 5 g i r e at ok (omega arith), rule_size.1)

      module _ (w : ℕ) (ew : w ≡ get_or (row_of ws 5 i) 24 0) where
        pub group_controls : (a : GroupLine) → (w ≡ 0 → ⊥) → GroupRefused (WrongGroup group_fault.ControlsCrosswalks) a → GroupRead ws group a
        unfolding group_line rule_in
        group_controls a n h = record { answer = λ cs. h.answer ∙ rw (q, rule_at_lem cs, some_listed (row_of ws 5 i) 24 (λ z. n (ew ∙ z))) }

        module _ (z : w ≡ 0) (h : RuleHead) (read : HeadRead (row_of ws 5 i) h) where
          pub group_other : (a : GroupLine) → (h.kind ≡ 1 → ⊥) → GroupRefused (WrongGroup group_fault.NotALight) a → GroupRead ws group a
          unfolding group_line rule_in
          group_other a n k =
              record {
                answer = λ cs. k.answer
                    ∙ rw (q, rule_at_lem cs, none_listed (row_of ws 5 i) 24 (sym ew ∙ z), other_kind (get_or (row_of ws 5 i) 1 0) (row_of ws 5 i) (coords_of cs 5 i) (λ y. n (read.kind ∙ y)));
              }

          pub group_light : (l : Option ℕ) → h.kind ≡ 1 → l ≡ head_line h → GroupRead ws group (record { checked = (Ok tt); line = l })
          unfolding group_line rule_in
          group_light l n k =
              record {
                answer = λ cs. rw (
                  q,
                  rule_at_lem cs,
                  none_listed (row_of ws 5 i) 24 (sym ew ∙ z),
                  light_kind (get_or (row_of ws 5 i) 1 0) (row_of ws 5 i) (coords_of cs 5 i) (sym read.kind ∙ n),
                )
                    (ap done (k ∙ head_is (row_of ws 5 i) h read (coords_of cs 5 i)));
              }

-- ---- a line that is there

module _ (ws : List ℕ) (group : Option ℕ) (s : ℕ) (r : Found) (e : r ≡ lookup ws 2 s) where
  pub existing_unknown : r ≡ f.None → ExistingChecked ws group s (Err (Unknown record_kind.StopLine s))
  existing_unknown n = record { answer = λ cs. rw (no_line ws cs s (sym e ∙ n)) }

  module _ (i : ℕ) (at : r ≡ f.Some i) where
    pub existing_free : group ≡ None → ExistingChecked ws group s (Ok tt)
    unfolding differs
    existing_free q = record { answer = λ cs. rw (line_found ws cs s i (sym e ∙ at), q) }

    module _ (g : ℕ) (q : group ≡ Some g) where
      pub existing_other : (g ≡ s → ⊥) → ExistingChecked ws group s (Err (WrongGroup group_fault.UsesAnotherLine))
      unfolding differs
      existing_other n = record { answer = λ cs. rw (line_found ws cs s i (sym e ∙ at), q, ne_eqb g s n) }

      pub existing_same : g ≡ s → ExistingChecked ws group s (Ok tt)
      unfolding differs
      existing_same n = record { answer = λ cs. rw (line_found ws cs s i (sym e ∙ at), q, eq-eqb g s n) }

-- ---- a new line

pub new_free : (group : Option ℕ) → group ≡ None → checked (Ok tt) ≡ check_new group
new_free group q = rw q

pub new_taken : (group : Option ℕ) (g : ℕ) → group ≡ Some g → checked (Err (WrongGroup group_fault.HasALine)) ≡ check_new group
new_taken group g q = rw q

-- ---- no line

pub own_none : (group : Option ℕ) → group ≡ None → OwnChosen group NoLine
unfolding chosen_plan
own_none group q = record { answer = λ m lanes points. rw q }

pub own_some : (group : Option ℕ) (g : ℕ) → group ≡ Some g → OwnChosen group (Use g)
unfolding chosen_plan
own_some group g q = record { answer = λ m lanes points. rw q }

-- ---- the choice

module _ (ws : List ℕ) (group : Option ℕ) (choice : StopLineChoice) where
  pub choice_automatic : choice ≡ ch.Automatic → ChoiceChecked ws group choice (Ok tt)
  unfolding check_choice
  choice_automatic q = record { answer = λ cs. rw q }

  pub choice_new : (how : Placement) (r : Result (Unit {0}) Refusal) → choice ≡ ch.New how → checked r ≡ check_new group → ChoiceChecked ws group choice r
  unfolding check_choice
  choice_new how r q h = record { answer = λ cs. rw q h }

  pub choice_none : choice ≡ ch.NoLine → ChoiceChecked ws group choice (Ok tt)
  unfolding check_choice
  choice_none q = record { answer = λ cs. rw q }

  pub choice_existing : (s : ℕ) (r : Result (Unit {0}) Refusal) → choice ≡ ch.Existing s → ExistingChecked ws group s r → ChoiceChecked ws group choice r
  unfolding check_choice
  choice_existing s r q h = record { answer = λ cs. rw q (h.answer cs) }

-- ---- the plan

module _ (ws : List ℕ) (lane : ℕ) (group : Option ℕ) where
  pub auto_group : (g : ℕ) → group ≡ Some g → AutoChosen ws lane group (Use g)
  unfolding chosen_plan auto_plan
  auto_group g q = record { answer = λ cs points lanes. rw q }

  module _ (q : group ≡ None) (u : Option ℕ) (e : LineFound ws lane u) where
    pub auto_found : (s : ℕ) → u ≡ Some s → AutoChosen ws lane group (Use s)
    unfolding chosen_plan auto_plan
    auto_found s h = record { answer = λ cs points lanes. rw (q, ← e.answer cs, h) }

    pub auto_new : u ≡ None → AutoChosen ws lane group (Draw (AtLaneEnd f0))
    unfolding chosen_plan auto_plan draw_plan place_stop_line place_as
    auto_new h = record { answer = λ cs points lanes. rw (q, ← e.answer cs, h) }

module _ (ws lanes : List ℕ) (group : Option ℕ) (choice : StopLineChoice) where
  pub plan_existing : (s : ℕ) → choice ≡ ch.Existing s → PlanChosen ws lanes group choice (Use s)
  unfolding chosen_plan plan_for
  plan_existing s q = record { answer = λ cs points. rw q }

  pub plan_none : (r : LinePlan) → choice ≡ ch.NoLine → OwnChosen group r → PlanChosen ws lanes group choice r
  unfolding plan_for
  plan_none r q h = record { answer = λ cs points. rw q (h.answer (map_of ws cs) lanes points) }

  pub plan_new : (how : Placement) → choice ≡ ch.New how → PlanChosen ws lanes group choice (Draw how)
  unfolding chosen_plan plan_for
  plan_new how q = record { answer = λ cs points. rw q }

  pub plan_automatic : (r : LinePlan) → choice ≡ ch.Automatic → AutoChosen ws (get_or lanes 0 0) group r → PlanChosen ws lanes group choice r
  unfolding plan_for
  plan_automatic r q h = record { answer = λ cs points. rw q (h.answer cs points lanes) }
