-- The law of a group's line: what is new is as 01 and the request have it, and every other call is answered as before.
use Prim.Native.Nat.{ℕ}
use mathlib.Core.Path.{◌≡◌, refl, sym, ◌∙◌}
use mathlib.Core.Bool.{Bool, true, false, not, ◌&&◌}
use Rattle.std.specs.Prelude.{Option, None, Some}
use mathlib.Core.List.{List, [], ◌∷◌}
use lib.Ieee.{Float}
use Rattle.refusal.specs.Answer.{Answer, refused, done, ◌>>=◌, ◌>>◌, refuse_when}
use Rattle.rows.proofs.Bools.{parts, clash}
use Rattle.rows.specs.Table.{holds}
use Rattle.map.specs.Record.{LineString, Map}
use Rattle.map.specs.MapFile.{is_map}
use Rattle.map.specs.Entity.{entity, has, listed}
use Rattle.changes.specs.ChangeFile.{lists_ok}
use Rattle.changes.specs.Running.{State, fold_ok}
use Rattle.place.specs.declared.Placement.{Placement}
use Rattle.place.specs.Place.{check_lane_list}
use Rattle.edit.specs.declared.StopLineChoice.{StopLineChoice}
use Rattle.edit.specs.declared.StopLineChoice.TheVariants.{Automatic, Existing, New, NoLine}
use Rattle.edit.specs.Edit.{Draft, Outcome, call}
use Rattle.edit.specs.Light.{NewTrafficSignal, group_line, check_choice, plan_for, bad_height, check_housing, light_plan, light_edit, add_traffic_signal}
use Rattle.edit.specs.GroupLine.{before_choice, choosing}
use Rattle.edit.proofs.GroupLine.{new_turned_down, none_as_named}
use Rattle.run.specs.Run.{run_one, signal}
use Rattle.run.specs.Law.{groups_line, passes, Accepted}
use Rattle.run.proofs.LightLine.{group_line_lem}
use Rattle.run.proofs.Calls.{call_law}
use Rattle.group_line.specs.Before as before
use Rattle.group_line.specs.Law.{new_or_none, answered_anew, GroupLineLaw}

-- ---- two calls that are alike where the first test passes

module _ {A B : Type 0} where
  alike : (x : Answer A) (f g : A → Answer B) → ((a : A) → x ≡ done a → f a ≡ g a) → (x >>= f) ≡ (x >>= g)
  alike (refused n ds) f g h = refl
  alike (done a) f g h = h a refl

  alike_then : (x : Answer A) (y z : Answer B) → ((a : A) → x ≡ done a → y ≡ z) → (x >> y) ≡ (x >> z)
  alike_then (refused n ds) y z h = refl
  alike_then (done a) y z h = h a refl

same_call : (f g : Map → Answer Draft) (s : State) → f s.map ≡ g s.map → call f s ≡ call g s
unfolding call
same_call f g s e = rw e

-- ---- every other call

module _ (m : Map) where
  choice_same : (group : Option ℕ) (c : StopLineChoice) → new_or_none group c ≡ false → check_choice m group c ≡ before.check_choice m group c
  unfolding check_choice before.check_choice
  choice_same group Automatic h = refl
  choice_same None (New how) h = refl
  choice_same (Some g) (New how) h = clash refl h
  choice_same group NoLine h = refl
  choice_same group (Existing s) h = refl

  plan_same : (lanes : List ℕ) (group : Option ℕ) (c : StopLineChoice) (cs : List Float) → new_or_none group c ≡ false → plan_for m lanes group c cs ≡ before.plan_for m lanes group c cs
  unfolding plan_for before.plan_for
  plan_same lanes group Automatic cs h = refl
  plan_same lanes group (New how) cs h = refl
  plan_same lanes None NoLine cs h = refl
  plan_same lanes (Some g) NoLine cs h = clash refl h
  plan_same lanes group (Existing s) cs h = refl

anew_by : (a : NewTrafficSignal) (m : Map) (g : Option ℕ) → answered_anew a m ≡ false → before_choice a m ≡ done g → new_or_none g a.choice ≡ false
anew_by a m g h e = rw (e, answered_anew) at h

light_plan_same : (a : NewTrafficSignal) (m : Map) → answered_anew a m ≡ false → light_plan a m ≡ before.light_plan a m
unfolding light_plan before.light_plan
light_plan_same a m h =
    alike_then (check_lane_list m a.lanes) _ _ (λ u p₁.
    alike_then (refuse_when (bad_height a.height) 4 (1 ∷ [])) _ _ (λ v p₂.
    alike_then (check_housing a.housing) _ _ (λ w p₃.
    alike (group_line m a.group) _ _ (λ g p₄.
    let q = anew_by a m g h (unfold before_choice in rw (p₁, p₂, p₃, p₄)) in
    rw (choice_same m g a.choice q, plan_same m a.lanes g a.choice a.points q)))))

light_same : (a : NewTrafficSignal) (m : Map) → answered_anew a m ≡ false → light_edit a m ≡ before.light_edit a m
unfolding light_edit before.light_edit
light_same a m h = rw (light_plan_same a m h)

-- ---- the law

and_not : (b : Bool) → (b && not b) ≡ false
and_not true = refl
and_not false = refl

module _ (a : NewTrafficSignal) (s : State) where
  new_refused : (g : ℕ) (how : Placement) → a.choice ≡ New how → passes s ≡ true → before_choice a s.map ≡ done (Some g) → add_traffic_signal a s ≡ refused 7 (4 ∷ [])
  unfolding add_traffic_signal call passes
  new_refused g how c ok e = past_tests (search parts) (search parts) (search parts)
    where
      past_tests : is_map s.map ≡ true → lists_ok s.fold ≡ true → fold_ok s ≡ true → add_traffic_signal a s ≡ refused 7 (4 ∷ [])
      past_tests p q r = rw (p, q, r, new_turned_down a s.map g how c e)

  none_named : (g : ℕ) → groups_line a.group s.map.rules ≡ Some g → add_traffic_signal (choosing NoLine a) s ≡ add_traffic_signal (choosing (Existing g) a) s
  unfolding add_traffic_signal
  none_named g e = same_call (light_edit (choosing NoLine a)) (light_edit (choosing (Existing g) a)) s (none_as_named a s.map g (λ o q. sym (group_line_lem s.map a.group o q) ∙ e))

  accepted : (o : Outcome) → add_traffic_signal a s ≡ done o → Accepted (signal a) s o
  unfolding run_one
  accepted o e = (call_law (signal a) s).accepted o e

  no_line_drawn : (g n : ℕ) (o : Outcome) → groups_line a.group s.map.rules ≡ Some g → add_traffic_signal a s ≡ done o → listed o.changes.created (entity 5 n) ≡ false
  unfolding has
  no_line_drawn g n o e q = (accepted o q).created (entity 5 n) ∙ rw ((accepted o q).joins g e).lines (and_not (holds (λ (l : LineString). l.num) n s.map.stop_lines))

  others_same : answered_anew a s.map ≡ false → add_traffic_signal a s ≡ before.add_traffic_signal a s
  unfolding add_traffic_signal before.add_traffic_signal
  others_same h = same_call (light_edit a) (before.light_edit a) s (light_same a s.map h)

  pub group_line_law : GroupLineLaw a s
  group_line_law = record { new = new_refused; none_is_named = none_named; joined = λ g o e q. (accepted o q).joins g e; undrawn = no_line_drawn; others = others_same }
