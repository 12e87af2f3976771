-- All that a light's call tests: each refusal, and the plan.
use Prim.Native.Nat.{ℕ, ◌+◌, ◌*◌, ◌/◌, ◌≤◌, ◌<◌}
use mathlib.Core.Path.{◌≡◌, refl, sym, ap, ◌∙◌}
use mathlib.Core.Bool.{Bool, true, false, not, ◌||◌, cond}
use Rattle.std.specs.Prelude.{Option, None, Some, Err, Ok, Result}
use mathlib.Core.List.{List, [], ◌∷◌}
use native.Mathlib.Omega.{arith}
use lib.Ieee.{Float, lt}
use lib.ListN.{length, get_or, take}
use borrow.Author.Tests.{not-true, not-false}
use Rattle.refusal.specs.Answer.{Answer, refused, done, refused_as, ◌>>=◌, ◌>>◌, present}
use Rattle.refusal.specs.declared.Refusal.{Refusal}
use Rattle.refusal.specs.declared.Refusal.TheVariants.{Unknown, BadMeasure, NoPlace}
use Rattle.refusal.specs.declared.Measure.TheVariants as measure
use Rattle.refusal.specs.declared.PlaceFault.TheVariants as place_fault
use Rattle.refusal.specs.declared.RecordKind.TheVariants as record_kind
use Rattle.rows.proofs.Bools.{clash}
use Rattle.geometry.specs.Double.{f0, is_finite}
use Rattle.geometry.specs.Polyline.{Polyline, polyline_of, polyline_length}
use Rattle.centerline.specs.declared.Line.{Line}
use Rattle.centerline.specs.Line.{points_of}
use Rattle.store.specs.Layout.{SizedWords, limit_of, width_of, coord_width_of, row_of, coords_of, all_coords}
use Rattle.map.specs.Access.{Found}
use Rattle.std.specs.declared.option.Option.TheVariants as f
use Rattle.map.specs.Record.{Map}
use Rattle.map.specs.Lookup.{line_of}
use Rattle.map.specs.Tables.{line_at, line_string_in, map_of}
use Rattle.map.specs.Access.{lookup}
use Rattle.map.proofs.ReadLaws.{line_found, no_line}
use Rattle.place.specs.declared.CrossSection.{CrossSection}
use Rattle.place.specs.declared.MaybeLine.{MaybeLine}
use Rattle.place.specs.declared.Placement.{Placement}
use Rattle.place.specs.declared.SectionNames.{SectionNames}
use Rattle.place.specs.Place.{Placed, Section, check_polyline, lane_centerline, cross_section, place_stop_line}
use Rattle.place.specs.Readable.{Readable}
use Rattle.place.specs.Steps.{section_on}
use Rattle.place.specs.Values.{maybe_line, Roomy, LineRead, section_answer, maybe_ends}
use Rattle.place.proofs.Answers.{never, done_is}
use Rattle.place.proofs.LineLaws.{line_part_lem, found_below, found_within, part_few}
use Rattle.place.proofs.SectionLaws.{cross_section_is}
use Rattle.placing.specs.declared.PlacedLine.{PlacedLine}
use Rattle.placing.specs.Answers.{checked, LanesChecked, placed_answer, RefusedWith}
use Rattle.placing.proofs.CheckLaws.{shape_few, lanes_there}
use Rattle.placing.proofs.PlaceLaws.{across_room, given_room}
use Rattle.edit.specs.declared.Height.{Height}
use Rattle.edit.specs.declared.Height.TheVariants as h
use Rattle.edit.specs.declared.SignalRequest.{SignalRequest}
use Rattle.edit.specs.Light.{use_line, use_none, draw, draw_plan, anchor_for, housing_for, synthesize_signal_geometry, bad_height, check_housing, light_plan}
use Rattle.edit.specs.Request.{height_given, new_traffic_signal}
use Rattle.lighting.specs.declared.ChosenLine.{ChosenLine}
use Rattle.lighting.specs.declared.GroupLine.{GroupLine}
use Rattle.lighting.specs.declared.Housing.{Housing}
use Rattle.lighting.specs.declared.LightPlan.{LightPlan}
use Rattle.lighting.specs.declared.LinePlan.{LinePlan}
use Rattle.lighting.specs.declared.LinePlan.TheVariants.{Use, NoLine, Draw}
use Rattle.lighting.specs.Group.{GroupRead, ChoiceChecked, PlanChosen, chosen_plan}
use Rattle.lighting.specs.Housing.{housing_of, HousingRead, synthesized_on, housing_on}
use Rattle.lighting.specs.Plan.{plan_of, draws, LightRead, LightPlanned, planned_from, planned_as, ChoiceMade, asks_center, CenterAt, StoredRead, end_of, EndRead, AnchorRead, Anchored}

-- ---- answers in turn

bind_done : {A B C : Type 0} (x : Answer A) (u : A → B) (g : B → Answer C) → ((x >>= λ a. done (u a)) >>= g) ≡ (x >>= λ a. g (u a))
bind_done (refused n ds) u g = refl
bind_done (done a) u g = refl

then_done : {B C : Type 0} (x : Answer (Unit {0})) (y : B) (g : B → Answer C) → ((x >> done y) >>= g) ≡ (x >> g y)
then_done (refused n ds) y g = refl
then_done (done tt) y g = refl

bind_same : {A B : Type 0} (x : Answer A) (g k : A → Answer B) → ((a : A) → g a ≡ k a) → (x >>= g) ≡ (x >>= k)
bind_same (refused n ds) g k e = refl
bind_same (done a) g k e = e a

never_fine : {A : Type 0} (k : Result (Unit {0}) Refusal) (x : Refusal) → k ≡ Err x → k ≡ (Ok tt) → A
never_fine k x e q = let z : ◌≡◌ {A = ℕ} 0 1 = cc in absurd (let y : ⊥ = omega arith in y)

-- ---- the height, and a given housing

module _ (a : Height) where
  pub height_standard : a ≡ h.Standard → false ≡ bad_height (height_given a)
  unfolding bad_height
  height_standard q = rw q

  module _ (x : Float) (q : a ≡ h.Metres x) (b : Bool) (e : b ≡ is_finite x) where
    pub height_infinite : not b ≡ true → true ≡ bad_height (height_given a)
    unfolding bad_height
    height_infinite t = rw (q, ← e, not-true b t)

    pub height_is : not b ≡ false → not (lt f0 x) ≡ bad_height (height_given a)
    unfolding bad_height
    height_is t = rw (q, ← e, not-false b t)

module _ (given : Bool) (cs : List Float) where
  pub housing_checked : (r : Result (Unit {0}) Refusal) → given ≡ true → checked r ≡ check_polyline cs → checked r ≡ check_housing (cond given (Some cs) None)
  unfolding check_housing
  housing_checked r t e = rw t e

  pub housing_unchecked : given ≡ false → checked (Ok tt) ≡ check_housing (cond given (Some cs) None)
  unfolding check_housing
  housing_unchecked t = rw t

-- ---- the tests before the line's place

module _ (ws lanes : List ℕ) (q : SignalRequest) (housing : List Float) where
  made_refused : (x : Refusal) (r : ChosenLine) → r.checked ≡ Err x → ((cs points : List Float) → light_plan (new_traffic_signal lanes q points housing []) (map_of ws cs) ≡ refused_as x)
      → ChoiceMade ws lanes q housing r
  made_refused x r e h =
      record {
        answer = λ cs points. h cs points ∙ rw e;
        some_lanes = λ k. never_fine r.checked x e k;
        few = λ k t. never_fine r.checked x e k;
      }

  module _ (l : Result (Unit {0}) Refusal) (el : LanesChecked ws lanes l) where
    pub choose_lanes : (x : Refusal) (r : ChosenLine) → l ≡ Err x → r.checked ≡ Err x → ChoiceMade ws lanes q housing r
    unfolding light_plan new_traffic_signal
    choose_lanes x r ql e = made_refused x r e (λ cs points. rw (← el.answer cs, ql))

    module _ (ql : l ≡ (Ok tt)) (b : Bool) (eb : b ≡ bad_height (height_given q.height)) where
      pub choose_height : (r : ChosenLine) → b ≡ true → r.checked ≡ Err (BadMeasure measure.Height) → ChoiceMade ws lanes q housing r
      unfolding light_plan new_traffic_signal
      choose_height r t e = made_refused (BadMeasure measure.Height) r e (λ cs points. rw (← el.answer cs, ql, ← eb, t))

      module _ (tb : b ≡ false) (k : Result (Unit {0}) Refusal) (ek : checked k ≡ check_housing (cond q.housing_given (Some housing) None)) where
        pub choose_shape : (x : Refusal) (r : ChosenLine) → k ≡ Err x → r.checked ≡ Err x → ChoiceMade ws lanes q housing r
        unfolding light_plan new_traffic_signal
        choose_shape x r qk e = made_refused x r e (λ cs points. rw (← el.answer cs, ql, ← eb, tb, ← ek, qk))

        module _ (qk : k ≡ (Ok tt)) (g : GroupLine) (eg : GroupRead ws q.group g) where
          pub choose_group : (x : Refusal) (r : ChosenLine) → g.checked ≡ Err x → r.checked ≡ Err x → ChoiceMade ws lanes q housing r
          unfolding light_plan new_traffic_signal
          choose_group x r qg e = made_refused x r e (λ cs points. rw (← el.answer cs, ql, ← eb, tb, ← ek, qk, ← eg.answer cs, qg))

          module _ (qg : g.checked ≡ (Ok tt)) (d : Result (Unit {0}) Refusal) (ed : ChoiceChecked ws g.line q.choice d) where
            pub choose_choice : (x : Refusal) (r : ChosenLine) → d ≡ Err x → r.checked ≡ Err x → ChoiceMade ws lanes q housing r
            unfolding light_plan new_traffic_signal
            choose_choice x r qd e = made_refused x r e (λ cs points. rw (← el.answer cs, ql, ← eb, tb, ← ek, qk, ← eg.answer cs, qg, ← ed.answer cs, qd))

            pub choose_fine : (p : LinePlan) → d ≡ (Ok tt) → PlanChosen ws lanes g.line q.choice p → ChoiceMade ws lanes q housing (record { checked = (Ok tt); plan = p })
            unfolding light_plan new_traffic_signal planned_as planned_from check_housing
            choose_fine p qd ep =
                record {
                  answer = λ cs points. rw (← el.answer cs, ql, ← eb, tb, ← ek, qk, ← eg.answer cs, qg, ← ed.answer cs, qd, ← ep.answer cs points);
                  some_lanes = λ z. lanes_there ws lanes (rw ql at el);
                  few = λ z t. shape_few housing (rw (qk, t) at ek);
                }

-- ---- the centreline

module _ (m : Map) (n : ℕ) where
  pub center_needless : (plan : LinePlan) (given : Bool) (x : ℕ) (c : MaybeLine) → plan ≡ Use x → given ≡ true → LineRead None c → CenterAt m n (asks_center plan || not given) c
  center_needless plan given x c q t e = record { answer = λ y. clash y (let z : (asks_center plan || not given) ≡ false = rw (q, t) in z); room = e.room }

  pub center_asked : (b : Bool) (c : MaybeLine) → b ≡ true → CenterAt m n b c → CenterAt m n true c
  center_asked b c t e = record { answer = λ y. e.answer t; room = e.room }

  pub center_line : (b : Bool) (c : MaybeLine) → b ≡ true → CenterAt m n b c → LineRead (lane_centerline m n) c
  center_line b c t e = record { answer = e.answer t; room = e.room }

pub center_anchor : (m : Map) (n : ℕ) (plan : LinePlan) (given : Bool) (c : MaybeLine) → CenterAt m n (asks_center plan || not given) c → CenterAt m n (asks_center plan) c
center_anchor m n plan given c e = record { answer = λ t. e.answer (rw t); room = e.room }

-- ---- a line of the map

line_wide : (1 < width_of 2) × (coord_width_of 2 ≡ 192)
unfolding width_of coord_width_of
line_wide = (omega arith, refl)

module _ (ws : List ℕ) (cs : List Float) (x : ℕ) (r : Found) (e : r ≡ lookup ws 2 x) where
  pub no_stored : (a : PlacedLine) → r ≡ f.None → RefusedWith (Unknown record_kind.StopLine x) a → StoredRead (map_of ws cs) x a
  no_stored a q k = record { answer = λ n. k.answer n ∙ rw (no_line ws cs x (sym e ∙ q)); room = k.room }

  module _ (ok : Readable ws cs) (i : ℕ) (at : r ≡ f.Some i) where
    pub stored_word : SizedWords ws × (i < limit_of 2) × (1 < width_of 2)
    stored_word = (ok.words.sized, found_within ws 2 x i r e at ok.words.sized (omega arith), line_wide.0)

    module _ (w n : ℕ) (ew : w ≡ get_or (row_of ws 2 i) 1 0) (en : n ≡ w) where
      stored_few : n ≤ 64
      stored_few = let k = ok.words.line i (found_below ws 2 x i r e at (omega arith)) in omega arith

      pub stored_points : (length cs ≡ all_coords) × (i < limit_of 2) × (0 + n * 3 ≤ coord_width_of 2)
      stored_points = (ok.coords, found_within ws 2 x i r e at ok.words.sized (omega arith), omega (arith, stored_few, line_wide.1))

      module _ (p : List Float) (ep : polyline_of p ≡ line_at (coords_of cs 2 i) 0 n) where
        pub stored_part : length p / 3 ≤ 64
        stored_part = part_few p (coords_of cs 2 i) 0 n ep stored_few

        pub stored_line : (l : Line) → points_of l ≡ polyline_of p → length l.coords ≡ 192 → StoredRead (map_of ws cs) x (record { checked = (Ok tt); line = l; clamped = false; ends = None })
        unfolding line_string_in
        stored_line l el w192 =
            record {
              answer = λ k. rw (line_found ws cs x i (sym e ∙ at), ← ew, ← en, ← ep, el);
              room = given_room p l stored_part el w192;
            }

-- ---- the end of the first lane

module _ (m : Map) (lanes : List ℕ) (c : MaybeLine) (read : CenterAt m (get_or lanes 0 0) true c) where
  pub end_missing : (a : PlacedLine) → not c.there ≡ true → RefusedWith (NoPlace place_fault.NoLaneGeometry) a → EndRead m lanes a
  end_missing a t k =
      let z = not-true c.there t in
      let g : lane_centerline m (get_or lanes 0 0) ≡ None = sym (read.answer refl) ∙ rw z in
      record { answer = λ n. k.answer n ∙ rw (cross_section_is m (get_or lanes 0 0) (end_of (lane_centerline m (get_or lanes 0 0))) lanes, g); room = k.room }

  module _ (t : not c.there ≡ false) (len : Float) (el : len ≡ polyline_length (polyline_of (take (c.line.count * 3) c.line.coords))) (x : Result (CrossSection × SectionNames) Refusal)
      (ex : section_answer x ≡ section_on m (polyline_of (take (c.line.count * 3) c.line.coords)) len lanes) where
    center_is : lane_centerline m (get_or lanes 0 0) ≡ Some (polyline_of (take (c.line.count * 3) c.line.coords))
    center_is =
        let z = not-false c.there t in
        sym (read.answer refl) ∙ rw z (ap Some (sym (line_part_lem c.line read.room)))

    end_is : cross_section m (get_or lanes 0 0) (end_of (lane_centerline m (get_or lanes 0 0))) lanes ≡ section_answer x
    end_is = cross_section_is m (get_or lanes 0 0) (end_of (lane_centerline m (get_or lanes 0 0))) lanes ∙ rw (center_is, ← el) (sym ex)

    pub end_refused : (y : Refusal) (a : PlacedLine) → x ≡ Err y → RefusedWith y a → EndRead m lanes a
    end_refused y a q k = record { answer = λ n. k.answer n ∙ rw (end_is, q); room = k.room }

    pub end_placed : (y : CrossSection) (z : SectionNames) (l : Line) → x ≡ Ok (y, z) → points_of l ≡ y.left ∷ y.right ∷ [] → length l.coords ≡ 192
        → EndRead m lanes (record { checked = (Ok tt); line = l; clamped = false; ends = None })
    end_placed y z l q k w = record { answer = λ n. rw (end_is, q, k); room = across_room y.left y.right l k w }

-- ---- the anchor

-- a line that is only read has no names
no_ends_lem : {A : Type 0} (n : ℕ) (a : PlacedLine) (x : Answer A) (u : A → Polyline) → placed_answer n a ≡ (x >>= λ y. done (record { points = u y; warnings = []; ends = None })) → a.checked ≡ (Ok tt)
    → maybe_ends a.ends ≡ None
no_ends_lem n a (refused i ds) u e q = never (sym (rw q at e))
no_ends_lem n a (done y) u e q = ap (λ (p : Placed). p.ends) (done_is (rw q at e))

module _ (m : Map) (lanes : List ℕ) (plan : LinePlan) (points : List Float) (a : PlacedLine) where
  pub anchor_used : (x : ℕ) → plan ≡ Use x → StoredRead m x a → AnchorRead m lanes plan points a
  unfolding chosen_plan anchor_for
  anchor_used x q k =
      record {
        answer = λ g. rw q
            (ap (λ (z : Answer Placed). z >>= λ p. g (use_line x) p.points) (k.answer (get_or lanes 0 0))
            ∙ bind_done (present (line_of m x) 2 (5 ∷ x ∷ [])) (λ l. record { points = l.geometry; warnings = []; ends = None }) (λ p. g (use_line x) p.points)
            ∙ sym (bind_done (present (line_of m x) 2 (5 ∷ x ∷ [])) (λ l. l.geometry) (λ xs. g (use_line x) xs)));
        ends = record { told = λ z d. no_ends_lem (get_or lanes 0 0) a (present (line_of m x) 2 (5 ∷ x ∷ [])) (λ l. l.geometry) (k.answer (get_or lanes 0 0)) z };
        room = k.room;
      }

  pub anchor_end : plan ≡ NoLine → EndRead m lanes a → AnchorRead m lanes plan points a
  unfolding chosen_plan anchor_for
  anchor_end q k =
      record {
        answer = λ g. rw q
            (ap (λ (z : Answer Placed). z >>= λ p. g use_none p.points) (k.answer (get_or lanes 0 0))
            ∙ bind_done (cross_section m (get_or lanes 0 0) (end_of (lane_centerline m (get_or lanes 0 0))) lanes) (λ x. record { points = x.points; warnings = []; ends = None }) (λ p. g use_none p.points)
            ∙ sym (bind_done (cross_section m (get_or lanes 0 0) (end_of (lane_centerline m (get_or lanes 0 0))) lanes) (λ (x : Section). x.points) (λ xs. g use_none xs)));
        ends = record { told = λ z d. no_ends_lem (get_or lanes 0 0) a (cross_section m (get_or lanes 0 0) (end_of (lane_centerline m (get_or lanes 0 0))) lanes) (λ x. x.points) (k.answer (get_or lanes 0 0)) z };
        room = k.room;
      }

  pub anchor_drawn : (how : Placement) → plan ≡ Draw how → placed_answer (get_or lanes 0 0) a ≡ place_stop_line m lanes how points → Roomy a.line → AnchorRead m lanes plan points a
  unfolding chosen_plan anchor_for draw_plan
  anchor_drawn how q k w =
      record {
        answer = λ g. rw q
            (ap (λ (z : Answer Placed). z >>= λ p. g (draw p) p.points) k
            ∙ sym (bind_done (place_stop_line m lanes how points) draw (λ x. anchor_for m lanes x >>= λ xs. g x xs)));
        ends = record { told = λ z d. clash (let y : draws plan ≡ true = rw q in y) d };
        room = w;
      }

-- ---- the signal above it

module _ (center : MaybeLine) (plan : LinePlan) (a : PlacedLine) (given : Option (List Float)) where
  pub anchored_refused : (x : Refusal) (r : LightPlan) → a.checked ≡ Err x → (r.checked ≡ Err x) × Roomy r.line × Roomy r.housing → Anchored center plan a given r
  anchored_refused x r q e = record { answer = λ n. rw (q, e.0); ends = λ w. record { told = λ z d. never_fine r.checked x e.0 z }; line = e.1; housing = e.2 }

  pub anchored_fine : (k : Housing) → a.checked ≡ (Ok tt) → HousingRead (housing_on (maybe_line center) (points_of a.line) given) k → Roomy a.line
      → Anchored center plan a given (record { checked = k.checked; plan = plan; line = a.line; clamped = a.clamped; ends = a.ends; housing = k.line; synthesized = k.synthesized })
  anchored_fine k q e w =
      record {
        answer = λ n. rw (q, ← e.answer) (sym (then_done (checked k.checked) (housing_of k.line k.synthesized) _));
        ends = λ t. record { told = λ z d. t.told q d };
        line = w;
        housing = e.room;
      }

housing_is : (m : Map) (n : ℕ) (plan : LinePlan) (given : Bool) (cs : List Float) (center : MaybeLine) (xs : Polyline) → CenterAt m n (asks_center plan || not given) center
    → housing_on (maybe_line center) xs (cond given (Some cs) None) ≡ housing_for m n xs (cond given (Some cs) None)
unfolding housing_on housing_for synthesized_on synthesize_signal_geometry
housing_is m n plan true cs center xs e = refl
housing_is m n plan false cs center xs e = rw (e.answer (or_true (asks_center plan)))
  where
    or_true : (b : Bool) → (b || true) ≡ true
    or_true true = refl
    or_true false = refl

pub light_is : (m : Map) (lanes : List ℕ) (plan : LinePlan) (points : List Float) (given : Bool) (cs : List Float) (center : MaybeLine) (a : PlacedLine) (r : LightPlan)
    → CenterAt m (get_or lanes 0 0) (asks_center plan || not given) center → AnchorRead m lanes plan points a → Anchored center plan a (cond given (Some cs) None) r
    → LightRead lanes (planned_as m lanes plan points (cond given (Some cs) None)) r
unfolding planned_as planned_from
light_is m lanes plan points given cs center a r ec ea er =
    let n : ℕ = get_or lanes 0 0 in
    let o : Option (List Float) = cond given (Some cs) None in
    record {
      answer = er.answer n
          ∙ bind_same (placed_answer n a) (λ p. housing_on (maybe_line center) p.points o >>= λ k. done (record { plan = plan_of plan p; housing = k }))
          (λ p. housing_for m n p.points o >>= λ k. done (record { plan = plan_of plan p; housing = k }))
          (λ p. ap (λ (z : Answer Placed). z >>= λ k. done (record { plan = plan_of plan p; housing = k })) (housing_is m n plan given cs center p.points ec))
          ∙ ea.answer (λ x xs. housing_for m n xs o >>= λ k. done (record { plan = x; housing = k }));
      ends = er.ends ea.ends;
      line = er.line;
      housing = er.housing;
    }

-- ---- the whole

module _ (ws lanes : List ℕ) (q : SignalRequest) (housing cs points : List Float) (c : ChosenLine) (made : ChoiceMade ws lanes q housing c) (r : LightPlan) where
  pub plan_refused : (x : Refusal) → c.checked ≡ Err x → (r.checked ≡ Err x) × Roomy r.line × Roomy r.housing
      → LightPlanned lanes (light_plan (new_traffic_signal lanes q points housing []) (map_of ws cs)) r
  plan_refused x k e =
      record {
        read = record {
          answer = rw e.0 (sym (made.answer cs points ∙ rw k));
          ends = record { told = λ z d. never_fine r.checked x e.0 z };
          line = e.1;
          housing = e.2;
        };
        some_lanes = λ z. never_fine r.checked x e.0 z;
      }

  pub plan_is : c.checked ≡ (Ok tt) → LightRead lanes (planned_as (map_of ws cs) lanes c.plan points (cond q.housing_given (Some housing) None)) r
      → LightPlanned lanes (light_plan (new_traffic_signal lanes q points housing []) (map_of ws cs)) r
  plan_is k e =
      record {
        read = record { answer = e.answer ∙ sym (made.answer cs points ∙ rw k); ends = e.ends; line = e.line; housing = e.housing };
        some_lanes = λ z. made.some_lanes k;
      }
