-- The steps of the call, joined. Assumes nothing.
use Prim.Native.Nat.{◌-◌, ℕ, ◌+◌, ◌^◌, ◌≤◌, ◌<◌, max}
use mathlib.Core.Path.{◌≡◌, refl, sym, ap, ◌∙◌, subst}
use mathlib.Core.Bool.{Bool, true, false, not, ◌&&◌, cond}
use mathlib.Core.List.{List, []}
use native.Mathlib.Omega.{arith}
use borrow.Author.Tests.{leb-true, leb-false, ltb-true}
use lib.Dec.{leb, ltb}
use lib.Ieee.{Float}
use lib.ListN.{length, get_or}
use Rattle.refusal.specs.Answer.{done, refuse_when}
use Rattle.refusal.specs.declared.Refusal.{Refusal}
use Rattle.rows.proofs.Bools.{parts}
use Rattle.centerline.specs.Line.{points_of}
use Rattle.store.specs.Layout.{count_of, next_of, row_of}
use Rattle.row_tests.specs.Flat.{all_points}
use Rattle.std.specs.Prelude.{Some, Option, None, Err, Ok, Result}
use Rattle.map.specs.Record.{Map}
use Rattle.map.specs.Tables.{map_of, is_map_tables}
use Rattle.map.proofs.SoundLaws.{sound}
use Rattle.map.specs.Access.{lookup}
use Rattle.changes.specs.declared.Tally.{Tally}
use Rattle.changes.specs.ChangeSet.{ChangeSet, normalize, fold_step, tally_of}
use Rattle.changes.specs.Layout.{change_set_of}
use Rattle.changes.specs.Running.{fold_fits}
use Rattle.place.specs.Readable.{ReadableWords}
use Rattle.place.proofs.Sound.{readable}
use Rattle.placing.specs.Answers.{checked}
use Rattle.edit.specs.declared.SignalRequest.{SignalRequest}
use Rattle.edit.specs.Edit.{Draft}
use Rattle.edit.specs.Lent.{Lent, CallLeft}
use Rattle.edit.specs.Light.{NewTrafficSignal, new_signal, light_edit, add_traffic_signal}
use Rattle.edit.specs.Request.{new_traffic_signal}
use Rattle.finishing.specs.Finish.{lent_checks, CallEnds, TakenIn}
use Rattle.finishing.proofs.CallLaws.{LentFine, lent_fine, lent_refused, plan_refused, call_refused}
use Rattle.finishing.proofs.EndLaws.{ends_refused, not_late, takes, ends_done}
use Rattle.light_draft.specs.declared.Light.{Light}
use Rattle.light_draft.specs.Drafting.{line_for, one_if, rule_number, joins, late_for, numbers_for, light_set, SetDrafted, Joinable}
use Rattle.light_draft.proofs.DraftLaws.{rules_rise, changes_are}
use Rattle.light_store.specs.Storing.{GroupAsks, group_in, light_map}
use Rattle.light_store.proofs.StoreLaws.{rules_are}
use Rattle.light_room.specs.declared.SignalPlan.{SignalPlan}
use Rattle.light_room.specs.Room.{counts_fit, room_for, signal_draft, SignalReady, SignalPlanned}
use Rattle.light_room.proofs.PlanLaws.{its_signals, at_index, joined-all}
use Rattle.signals.specs.Signal.{LightSettles, AsksToStore, StoredAs}
use Rattle.signals.proofs.SignalLaws.{map_is, next_is, id_is, fits_alike, group_below}
use Rattle.place.specs.declared.SectionNames.{SectionNames}

-- ---- what a plan that is ready gives

is_room : (b : Bool) → done tt ≡ refuse_when (not b) 10 [] → b ≡ true
is_room true e = refl
is_room false e = absurd (let z : ◌≡◌ {A = ℕ} 0 1 = cc in omega arith)

module _ (ws : List ℕ) (cs : List Float) (q : SignalRequest) (lamps : List Float) (a : NewTrafficSignal) (p : SignalPlan) (ready : SignalReady ws cs q lamps a p) where
  drawn_is : p.light.drawn ≡ (line_for p.plan (max 1 (next_of ws))).drawn
  drawn_is = ap (λ (l : Light). l.drawn) ready.numbers.answer

  joins_is : p.light.joins ≡ joins a.group
  joins_is = ap (λ (l : Light). l.joins) ready.numbers.answer

  late_is : p.light.late ≡ late_for (next_of ws) p.plan a.group
  late_is = ap (λ (l : Light). l.late) ready.numbers.answer

  rule_is : (g : ℕ) → a.group ≡ Some g → p.light.rule ≡ g
  rule_is g e = ap (λ (l : Light). l.rule) ready.numbers.answer ∙ ap (rule_number (max 1 (next_of ws)) (late_for (next_of ws) p.plan a.group) (line_for p.plan (max 1 (next_of ws))).drawn) e

  abbrev tests : Bool
  tests =
      room_for (count_of ws 2) (count_of ws 3) (count_of ws 5) (all_points ws) p.light.drawn p.light.joins ready.tested.freed.rules ready.tested.freed.points
      (cond p.light.drawn p.line.count 0 + p.housing.count) p.bulbs.count ready.tested.lists

  room : tests ≡ true
  room = is_room tests ready.tested.answer

  lines_free : leb (count_of ws 2 + one_if p.light.drawn) 64 ≡ true
  unfolding room_for counts_fit
  lines_free = let r = room in search parts

  signals_free : leb (count_of ws 3 + 1) 64 ≡ true
  unfolding room_for counts_fit
  signals_free = let r = room in search parts

  rules_free : leb (count_of ws 5 + one_if (not p.light.joins)) (128 + ready.tested.freed.rules) ≡ true
  unfolding room_for counts_fit
  rules_free = let r = room in search parts

  lamps_few : leb p.bulbs.count 4 ≡ true
  unfolding room_for counts_fit
  lamps_few = let r = room in search parts

  lists_fit : ready.tested.lists ≡ true
  unfolding room_for counts_fit
  lists_fit = let r = room in search parts

  -- the group's row has room
  module _ (g : ℕ) (e : a.group ≡ Some g) where
    j : Joinable (map_of ws cs) g
    j = ready.group g e

    joined : p.light.joins ≡ true
    joined = joins_is ∙ ap joins e

    there : (i : ℕ) → lookup ws 5 g ≡ Some i → lookup ws 5 p.light.rule ≡ Some i
    there i f = ap (lookup ws 5) (rule_is g e) ∙ f

    both_fit : (i : ℕ) → lookup ws 5 g ≡ Some i → (ltb (get_or (row_of ws 5 i) 41 0) 16 && leb p.joined.count 16) ≡ true
    both_fit i f = sym (ready.tested.fit.group joined i (there i f)) ∙ lists_fit

    lanes_few : p.joined.count ≤ 16
    lanes_few = at_index ws cs g j (λ i f. let h = both_fit i f in leb-true p.joined.count 16 (search parts))

    group_room : GroupAsks (map_of ws cs) g a.lanes p.joined
    group_room = record {
      joins = j;
      free = at_index ws cs g j (λ i f. let h = both_fit i f in let w : get_or (row_of ws 5 i) 41 0 < 16 = ltb-true (get_or (row_of ws 5 i) 41 0) 16 (search parts) in omega (arith, its_signals ws cs g j i f));
      room = ready.joined_lanes_is.room;
      few = lanes_few;
      all = joined-all ws cs g j a.lanes p.joined (λ i f. ready.joined_lanes_is.lists joined i (there i f)) lanes_few;
    }

  group_asks : (o : Option ℕ) → a.group ≡ o → p.light.joins ≡ true → GroupAsks (map_of ws cs) p.light.rule a.lanes p.joined
  group_asks None e h = absurd (let z : ◌≡◌ {A = Bool} true false = sym h ∙ joins_is ∙ ap joins e in let y : ◌≡◌ {A = ℕ} 0 1 = cc in omega arith)
  group_asks (Some g) e h = subst (λ (x : ℕ). GroupAsks (map_of ws cs) x a.lanes p.joined) (sym (rule_is g e)) (group_room g e)

  -- with numbers to spare
  module _ (lf : p.light.late ≡ false) where
    not_spent : late_for (next_of ws) p.plan a.group ≡ false
    not_spent = sym late_is ∙ lf

    light_is : p.light ≡ numbers_for false (next_of ws) p.plan a.group
    light_is = ready.numbers.answer ∙ ap (λ (b : Bool). numbers_for b (next_of ws) p.plan a.group) not_spent

    numbers_left : (o : Option ℕ) → a.group ≡ o → max 1 (next_of ws) + one_if p.light.drawn + one_if (not p.light.joins) < 2 ^ 64 - 1
    numbers_left None e =
        let h : late_for (next_of ws) p.plan None ≡ false = ap (late_for (next_of ws) p.plan) (sym e) ∙ not_spent in
        let w = leb-false (2 ^ 64) (max 1 (next_of ws) + (one_if (line_for p.plan (max 1 (next_of ws))).drawn + 2)) h in
        omega (arith, w, ap one_if drawn_is, ap (λ (b : Bool). one_if (not b)) (joins_is ∙ ap joins e))
    numbers_left (Some g) e =
        let h : late_for (next_of ws) p.plan (Some g) ≡ false = ap (late_for (next_of ws) p.plan) (sym e) ∙ not_spent in
        let w = leb-false (2 ^ 64) (max 1 (next_of ws) + (one_if (line_for p.plan (max 1 (next_of ws))).drawn + 1)) h in
        omega (arith, w, ap one_if drawn_is, ap (λ (b : Bool). one_if (not b)) (joins_is ∙ ap joins e))

    module _ (tables : is_map_tables ws cs ≡ true) where
      pub asks_to_store : AsksToStore ws cs a.lanes q p
      asks_to_store = record {
        readable = readable ws cs tables;
        rises = rules_rise (map_of ws cs) (sound ws cs tables).map;
        line_room = ready.line_room;
        housing_room = ready.housing_room;
        lines = λ e. omega (arith, leb-true (count_of ws 2 + one_if p.light.drawn) 64 lines_free, ap one_if e);
        signals = omega (arith, leb-true (count_of ws 3 + 1) 64 signals_free);
        rules = λ e. omega (arith, leb-true (count_of ws 5 + one_if (not p.light.joins)) (128 + ready.tested.freed.rules) rules_free, ap (λ (b : Bool). one_if (not b)) e, ready.tested.goes.rules cs, rules_are ws cs);
        few = λ e. leb-true (length a.lanes) 16 (sym (ready.tested.fit.new e) ∙ lists_fit);
        spare = numbers_left a.group refl;
        number = ap (λ (l : Light). l.signal) light_is ∙ ap (λ (b : Bool). max 1 (next_of ws) + one_if b) (sym drawn_is);
        lamps = leb-true p.bulbs.count 4 lamps_few;
        group = group_asks a.group refl;
      }

-- ---- carried out

module _ (ws : List ℕ) (cs : List Float) (f : List ℕ) (t : Tally) (s : List ℕ) where
  abbrev lent : Lent
  lent = record { words = ws; coords = cs; fold = f; tally = t; set = s }

  module _ (fine : lent_checks lent ≡ done tt) where
    pub known : LentFine lent
    known = lent_fine lent fine

    module _ (q : SignalRequest) (lanes : List ℕ) (points given lamps : List Float) (p : SignalPlan) (ready : SignalReady ws cs q lamps (new_traffic_signal lanes q points given lamps) p) where
      abbrev a : NewTrafficSignal
      a = new_traffic_signal lanes q points given lamps

      abbrev draft : Draft
      draft = signal_draft a (map_of ws cs) p

      pub set_asks : ReadableWords ws × (0 < length lanes)
      unfolding new_traffic_signal
      set_asks = ((readable ws cs known.tables).words, ready.lanes)

      module _ (r : Result (Unit {0}) Refusal) (h : LightSettles ws f lanes p.light p.clamped p.synthesized r) where
        abbrev tried : ChangeSet
        tried = light_set p.light p.clamped p.synthesized lanes (map_of ws cs).rules

        late_next : p.light.late ≡ leb (2 ^ 64) draft.map.next
        unfolding map_of
        late_next = late_is ws cs q lamps a p ready ∙ ap (leb (2 ^ 64)) (sym (next_is a (map_of ws cs) known.sound.map p.plan p.line p.housing p.clamped p.synthesized p.ends ready.group))

        tried_is : (late : Bool) → p.light ≡ numbers_for late (next_of ws) p.plan a.group → tried ≡ light_set (numbers_for late (map_of ws cs).next p.plan a.group) p.clamped p.synthesized a.lanes (map_of ws cs).rules
        unfolding map_of new_traffic_signal
        tried_is late e = ap (λ (l : Light). light_set l p.clamped p.synthesized lanes (map_of ws cs).rules) e

        draft_set_is : draft.changes ≡ light_set (numbers_for false (map_of ws cs).next p.plan a.group) p.clamped p.synthesized a.lanes (map_of ws cs).rules
        draft_set_is = changes_are a (map_of ws cs) known.sound.map p.plan p.line p.housing p.clamped p.synthesized p.ends ready.group

        alike : fold_fits (fold_step (change_set_of f) (normalize tried)) ≡ fold_fits (fold_step (change_set_of f) (normalize draft.changes))
        alike =
            ap (λ (x : ChangeSet). fold_fits (fold_step (change_set_of f) (normalize x))) (tried_is _ ready.numbers.answer)
            ∙ fits_alike (map_of ws cs) known.sound.map (change_set_of f) known.below p.plan p.clamped p.synthesized a.lanes a.group
            (λ g e. group_below (map_of ws cs) known.sound.map (change_set_of f) known.below p.plan p.clamped p.synthesized a.lanes g (ready.group g e)) (late_for (next_of ws) p.plan a.group)
            ∙ ap (λ (x : ChangeSet). fold_fits (fold_step (change_set_of f) (normalize x))) (sym draft_set_is)

        pub out_refused : (x : Refusal) → r ≡ Err x → (b : Result (ℕ × Option SectionNames) Refusal) (u : Tally) → (b ≡ Err x) × (u ≡ t) → CallEnds lent draft b (record { words = ws; coords = cs; fold = f; tally = u; set = s })
        out_refused = ends_refused lent fine draft tried p.light.late late_next alike r (h.settles cs)

        module _ (e : r ≡ (Ok tt)) where
          in_time : p.light.late ≡ false
          in_time = not_late lent fine draft tried p.light.late late_next alike r (h.settles cs) e

          pub store_needs : AsksToStore ws cs lanes q p
          unfolding new_traffic_signal
          store_needs = asks_to_store ws cs q lamps a p ready in_time known.tables

          abbrev made : Light → Map
          made l = light_map (map_of ws cs) l a.lanes (points_of p.line) (new_signal a l.signal (points_of p.housing)) (group_in (map_of ws cs) l)

          map_stored : (ws' : List ℕ) (cs' : List Float) → StoredAs ws cs lanes q p ws' cs' → map_of ws' cs' ≡ draft.map
          unfolding map_of new_traffic_signal
          map_stored ws' cs' st =
              st.map points given lamps ready.lamps_read ∙ ap made (light_is ws cs q lamps a p ready in_time)
              ∙ sym (map_is a (map_of ws cs) known.sound.map p.plan p.line p.housing p.clamped p.synthesized p.ends ready.group)

          id_stored : p.light.signal ≡ draft.id
          unfolding map_of
          id_stored = ap (λ (l : Light). l.signal) (light_is ws cs q lamps a p ready in_time) ∙ sym (id_is a (map_of ws cs) known.sound.map p.plan p.line p.housing p.clamped p.synthesized p.ends ready.group)

          module _ (t0 : List ℕ) (ht : SetDrafted ws lanes p.light p.clamped p.synthesized t0) where
            same_set : change_set_of t0 ≡ draft.changes
            same_set = ht.set cs ∙ tried_is false (light_is ws cs q lamps a p ready in_time) ∙ sym draft_set_is

            pub taken : fold_fits (fold_step (change_set_of f) (normalize (change_set_of t0))) ≡ true
            taken = takes lent fine draft tried p.light.late late_next alike r (h.settles cs) e t0 same_set

            pub out_done : (f' t1 : List ℕ) → TakenIn f t0 f' t1 → (ws' : List ℕ) (cs' : List Float) (u : Tally) → StoredAs ws cs lanes q p ws' cs' → u ≡ tally_of (change_set_of f')
                → CallEnds lent draft (Ok (p.light.signal, p.ends)) (record { words = ws'; coords = cs'; fold = f'; tally = u; set = t1 })
            out_done f' t1 w ws' cs' u st eu = ends_done lent fine draft tried p.light.late late_next alike r (h.settles cs) e t0 same_set f' t1 w ws' cs' u p.light.signal p.ends (map_stored ws' cs' st) eu id_stored ready.ends

  -- ---- the whole call

  module _ (q : SignalRequest) (lamps : List Float) (a : NewTrafficSignal) (r0 : Result (Unit {0}) Refusal) (h0 : checked r0 ≡ lent_checks lent) where
    pub lent_turned_down : (x : Refusal) → r0 ≡ Err x → (r : Result (ℕ × Option SectionNames) Refusal) (u : Tally) → (r ≡ Err x) × (u ≡ t) → CallLeft (add_traffic_signal a) lent r (record { words = ws; coords = cs; fold = f; tally = u; set = s })
    unfolding add_traffic_signal
    lent_turned_down x e r u g = call_refused (light_edit a) lent x (lent_refused (light_edit a) lent x (sym h0 ∙ ap checked e)) f refl r u g

    module _ (e : r0 ≡ (Ok tt)) where
      pub is_fine : lent_checks lent ≡ done tt
      is_fine = sym h0 ∙ ap checked e

      module _ (p : SignalPlan) (hp : SignalPlanned ws cs q lamps a p) where
        pub plan_turned_down : (x : Refusal) → p.checked ≡ Err x → (r : Result (ℕ × Option SectionNames) Refusal) (u : Tally) → (r ≡ Err x) × (u ≡ t) → CallLeft (add_traffic_signal a) lent r (record { words = ws; coords = cs; fold = f; tally = u; set = s })
        unfolding add_traffic_signal
        plan_turned_down x d r u g = call_refused (light_edit a) lent x (plan_refused (light_edit a) lent is_fine x (hp.refused x d)) f refl r u g

        pub is_left : (d : p.checked ≡ (Ok tt)) (r : Result (ℕ × Option SectionNames) Refusal) (new : Lent) → CallEnds lent (signal_draft a (map_of ws cs) p) r new → CallLeft (add_traffic_signal a) lent r new
        unfolding add_traffic_signal
        is_left d r new h = h.left (light_edit a) (hp.ready d).answer
