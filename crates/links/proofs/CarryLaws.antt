-- What each step of the call leaves, and the whole call.
use Prim.Native.Nat.{ℕ, ◌^◌, ◌≤◌, ◌<◌}
use mathlib.Core.Path.{◌≡◌, refl, sym, ap, ◌∙◌}
use mathlib.Core.Bool.{Bool, true, false, not, cond}
use Rattle.std.specs.Prelude.{None, Err, Ok, Result, Option}
use mathlib.Core.List.{List, [], ◌∷◌}
use native.Mathlib.Omega.{arith}
use lib.Dec.{eqb, ltb, leb}
use lib.Ieee.{Float}
use lib.ListN.{length, get_or}
use borrow.Author.Tests.{eq-eqb, leb-true, not-true, not-false}
use Rattle.refusal.specs.Answer.{Answer, refused, done, refused_as, ◌>>=◌, ◌>>◌, refuse_when, present}
use Rattle.refusal.specs.declared.Refusal.{Refusal}
use Rattle.refusal.specs.declared.Refusal.TheVariants as e
use Rattle.refusal.specs.declared.RecordKind.TheVariants as record_kind
use Rattle.rows.specs.Lists.{every, twice, sorted}
use Rattle.rows.proofs.Bools.{parts}
use Rattle.geometry.specs.Point.{point_on_map}
use Rattle.store.specs.Layout.{count_of, row_of}
use Rattle.map.specs.Access.{Found}
use Rattle.std.specs.declared.option.Option.TheVariants as o
use Rattle.map.specs.Entity.{entity}
use Rattle.map.specs.Record.{Rule, Map}
use Rattle.map.specs.Ceilings.{within_ceilings}
use Rattle.map.specs.Lookup.{rule_of}
use Rattle.map.specs.Tables.{map_of}
use Rattle.map.specs.Access.{lookup, index_in}
use Rattle.map.proofs.ReadLaws.{rule_found, no_rule}
use Rattle.map.proofs.SoundLaws.{Sound, sound}
use Rattle.changes.specs.declared.Tally.{Tally}
use Rattle.changes.specs.ChangeFile.{max_entries}
use Rattle.changes.specs.ChangeSet.{ChangeSet, normalize, fold_step, tally_of}
use Rattle.changes.specs.Layout.{set_words, count_in, change_set_of, lists_ok_in}
use Rattle.changes.specs.Running.{fold_fits}
use Rattle.building.specs.Build.{Cleared, EntryAdded}
use Rattle.placing.specs.Answers.{checked}
use Rattle.edit.specs.Edit.{Draft, call}
use Rattle.edit.specs.Lent.{Lent, CallLeft}
use Rattle.edit.specs.Links.{RegulatoryLinks, link_changes, links_edit, set_regulatory_links}
use Rattle.finishing.specs.Finish.{lent_checks, planned, Few, FoldRoom, Settles, TakenIn}
use Rattle.finishing.proofs.CallLaws.{lent_fine, lent_refused, plan_refused, call_refused, edit_refused}
use Rattle.finishing.proofs.EndLaws.{room_settles, ends_refused, takes, ends_done}
use Rattle.linking.specs.Linking.{ListsChecked}
use Rattle.linking.proofs.FewLaws.{Passed, passed, lists_few}
use Rattle.link_plan.specs.LinkPlan.{LinkWords, rule_checks, RuleChecked, links_fit, SameRead, LinksPut, rule_at}
use Rattle.link_plan.proofs.PlanLaws.{link_words}
use Rattle.links.specs.Linked.{rule_links, sorted_links, links_checks, LinksChecked, draft_for, rising_edit, RulePlanned, SetDrafted, LinksEnd, RuleEnds}
use Rattle.links.proofs.EditLaws as E
use Rattle.place.specs.declared.SectionNames.{SectionNames}

-- ---- the checks of the links

module _ (ws : List ℕ) (a : RegulatoryLinks) (b : Bool) (eb : b ≡ ltb (index_in ws 5 a.rule) (count_of ws 5)) where
  there : b ≡ true → lookup ws 5 a.rule ≡ o.Some (index_in ws 5 a.rule)
  unfolding lookup
  there t = rw (← eb, t)

  absent : b ≡ false → lookup ws 5 a.rule ≡ o.None
  unfolding lookup
  absent t = rw (← eb, t)

  pub no_such_rule : not b ≡ true → LinksChecked ws a (Err (e.Unknown record_kind.Rule a.rule))
  unfolding links_checks
  no_such_rule q = record { answer = λ cs. rw (no_rule ws cs a.rule (absent (not-true b q))) }

  pub lists_next : not b ≡ false → (r : Result (Unit {0}) Refusal) → ListsChecked ws a.lanes a.crosswalks a.stop_lines r → LinksChecked ws a r
  unfolding links_checks
  lists_next q r h = record { answer = λ cs. rw (rule_found ws cs a.rule (index_in ws 5 a.rule) (there (not-false b q))) (h.answer cs) }

-- ---- lists that can be put in rising order

abbrev pub Sorts : List ℕ → Type 0
Sorts xs = (length xs ≤ 64) × (twice xs ≡ false)

-- ---- room for the rule's lists

pub fits_each : (k l s n : ℕ) → links_fit k l s n ≡ true → (k ≡ 5 → n ≤ 16) × (l ≤ 16) × (s ≤ 16)
unfolding links_fit
fits_each k l s n h =
    let z : cond (eqb k 5) (leb n 16) true ≡ true = search parts in
    let x : leb l 16 ≡ true = search parts in
    let y : leb s 16 ≡ true = search parts in
    (λ e. leb-true n 16 (rw (eq-eqb k 5 e) at z), leb-true l 16 x, leb-true s 16 y)

-- ---- the checks of the rule

module _ (ws : List ℕ) (i l s : ℕ) (lines : List ℕ) (r : Result (Unit {0}) Refusal) (h : RuleChecked ws i l s lines r) where
  pub rule_refused : (x : Refusal) → r ≡ Err x → RulePlanned ws i l s lines (Err x)
  rule_refused x q = record { answer = λ cs. rw (← h.answer cs, q) }

  module _ (q : r ≡ (Ok tt)) (b : Bool) (eb : b ≡ links_fit (get_or (row_of ws 5 i) 1 0) l s (length lines)) where
    pub rule_fits : b ≡ true → RulePlanned ws i l s lines (Ok tt)
    rule_fits t = record { answer = λ cs. rw (← h.answer cs, q, ← eb, t) }

    pub rule_full : b ≡ false → RulePlanned ws i l s lines (Err e.Full)
    rule_full t = record { answer = λ cs. rw (← h.answer cs, q, ← eb, t) }

-- ---- the change set

pub cleared_few : (s : List ℕ) → Cleared s → count_in s 1 < max_entries
cleared_few s h = let a = h.none 1 (omega arith) in omega arith

module _ (same : Bool) (n : ℕ) (s : List ℕ) (h : Cleared s) where
  pub drafted_none : same ≡ true → SetDrafted same n s
  unfolding link_changes
  drafted_none t = record { set = h.set ∙ rw t; room = record { lists = h.room; warnings = let a = h.none 3 (omega arith) in omega arith } }

  pub drafted_one : same ≡ false → (s' : List ℕ) → EntryAdded s 1 (entity 8 n) s' → SetDrafted same n s'
  unfolding link_changes
  drafted_one t s' g = record {
    set = g.set ∙ rw (h.set, t);
    room = record { lists = g.room; warnings = let a = h.none 3 (omega arith) in let b = g.others 3 (omega arith) (λ q. omega arith) in omega arith };
  }

-- ---- the fold

few_links : (same : Bool) (n : ℕ) → Few (link_changes same n)
unfolding link_changes
few_links true n = record { created = omega arith; modified = omega arith; deleted = omega arith }
few_links false n = record { created = omega arith; modified = omega arith; deleted = omega arith }

module _ (f : List ℕ) (same : Bool) (n : ℕ) where
  pub fold_takes : (b : Bool) → FoldRoom f false b → b ≡ true → Settles f (link_changes same n) false (Ok tt)
  fold_takes b h q = room_settles f false b h q (link_changes same n) (few_links same n)

  pub fold_tried : (d : List ℕ) → SetDrafted same n d → (r : Result (Unit {0}) Refusal) → Settles f (change_set_of d) false r → Settles f (link_changes same n) false r
  fold_tried d ht r h = rw ht.set at h

-- ---- the plan carried out

pub record Known (ws : List ℕ) (cs : List Float) (f s : List ℕ) : Type 0 where
  pub sound : Sound ws cs
  pub fold : lists_ok_in f ≡ true
  pub long : length f ≡ set_words
  pub set : length s ≡ set_words

module _ (ws : List ℕ) (cs : List Float) (f : List ℕ) (t : Tally) (s : List ℕ) where
  abbrev lent : Lent
  lent = record { words = ws; coords = cs; fold = f; tally = t; set = s }

  module _ (fine : lent_checks lent ≡ done tt) where
    pub known : Known ws cs f s
    known =
        let a = lent_fine lent fine in
        record { sound = sound ws cs a.tables; fold = a.fold; long = a.fold_size; set = a.set }

    module _ (n i : ℕ) (found : lookup ws 5 n ≡ o.Some i) where
      pub ready : LinkWords ws i
      ready = link_words ws cs known.sound i (E.here ws cs known.sound n i found (rule_links n [] [] []))

      module _ (lanes crosswalks lines : List ℕ) where
        abbrev b : RegulatoryLinks
        b = rule_links n lanes crosswalks lines

        abbrev draft : Draft
        draft = draft_for b (map_of ws cs) (rule_at ws cs i)

        module _ (same : Bool) (es : SameRead ws i lanes crosswalks lines same) (r : Result (Unit {0}) Refusal) (h : Settles f (link_changes same n) false r) where
          same_set : link_changes same n ≡ draft.changes
          same_set = ap (λ (x : Bool). link_changes x n) (es.answer cs) ∙ sym (E.draft_changes ws cs known.sound n i found b)

          alike : fold_fits (fold_step (change_set_of f) (normalize (link_changes same n))) ≡ fold_fits (fold_step (change_set_of f) (normalize draft.changes))
          alike = ap (λ (y : ChangeSet). fold_fits (fold_step (change_set_of f) (normalize y))) same_set

          abbrev in_time : false ≡ leb (2 ^ 64) draft.map.next
          in_time = E.draft_early ws cs known.sound n i found b

          pub out_refused : (x : Refusal) → r ≡ Err x → (a : Result (ℕ × Option SectionNames) Refusal) (u : Tally) → (a ≡ Err x) × (u ≡ t)
              → LinksEnd lent i b a (record { words = ws; coords = cs; fold = f; tally = u; set = s })
          out_refused x q a u g = record { left = λ edit plan. (ends_refused lent fine draft (link_changes same n) false in_time alike r h x q a u g).left edit plan }

          module _ (q : r ≡ (Ok tt)) (t0 : List ℕ) (ht : SetDrafted same n t0) where
            pub taken : fold_fits (fold_step (change_set_of f) (normalize (change_set_of t0))) ≡ true
            taken = takes lent fine draft (link_changes same n) false in_time alike r h q t0 (ht.set ∙ same_set)

            pub out_done : (f' t1 : List ℕ) → TakenIn f t0 f' t1 → (ws' : List ℕ) (u : Tally) → LinksPut ws i lanes crosswalks lines ws' → u ≡ tally_of (change_set_of f')
                → LinksEnd lent i b (Ok (n, None)) (record { words = ws'; coords = cs; fold = f'; tally = u; set = t1 })
            out_done f' t1 w ws' u p eu = record {
              left = λ edit plan.
                  (ends_done lent fine draft (link_changes same n) false in_time alike r h q t0 (ht.set ∙ same_set) f' t1 w ws' cs u n None
                  (p.map cs known.sound.sized.coords ∙ sym (E.draft_map ws cs known.sound n i found b)) eu (sym (E.draft_id ws cs known.sound n i found b))
                  (sym (E.draft_ends ws cs known.sound n i found b))).left edit plan;
            }

    -- ---- the rule

    module _ (n : ℕ) (lanes crosswalks lines : List ℕ) (fd : Found) (ef : fd ≡ lookup ws 5 n) where
      abbrev links : RegulatoryLinks
      links = rule_links n lanes crosswalks lines

      turned_down : (edit : Map → Answer Draft) (x : Refusal) (a : Result (ℕ × Option SectionNames) Refusal) (u : Tally) → (a ≡ Err x) × (u ≡ t) → planned edit (map_of ws cs) ≡ refused_as x
          → CallLeft (call edit) lent a (record { words = ws; coords = cs; fold = f; tally = u; set = s })
      turned_down edit x a u g p = call_refused edit lent x (plan_refused edit lent fine x p) f refl a u g

      none_edit : fd ≡ o.None → rising_edit links (map_of ws cs) ≡ refused_as (e.Unknown record_kind.Rule n)
      unfolding rising_edit
      none_edit q = rw (no_rule ws cs n (sym ef ∙ q))

      pub rule_missing : fd ≡ o.None → (a : Result (ℕ × Option SectionNames) Refusal) (u : Tally) → (a ≡ Err (e.Unknown record_kind.Rule n)) × (u ≡ t)
          → RuleEnds lent links a (record { words = ws; coords = cs; fold = f; tally = u; set = s })
      rule_missing q a u g = record { left = λ edit d. turned_down edit (e.Unknown record_kind.Rule n) a u g (edit_refused edit (map_of ws cs) (e.Unknown record_kind.Rule n) (d ∙ none_edit q)) }

      module _ (i : ℕ) (q : fd ≡ o.Some i) where
        pub at : lookup ws 5 n ≡ o.Some i
        at = sym ef ∙ q

        abbrev end : Draft
        end = draft_for links (map_of ws cs) (rule_at ws cs i)

        some_edit : rising_edit links (map_of ws cs) ≡ (rule_checks (map_of ws cs) (rule_at ws cs i).body (length lanes) (length crosswalks) lines >> done end)
        unfolding rising_edit
        some_edit = rw (rule_found ws cs n i at)

        tests : (u : Answer (Unit {0})) (w : Bool) → within_ceilings end.map ≡ w
            → ((u >> done end) >>= λ x. refuse_when (not (every point_on_map x.stored)) 9 [] >> (refuse_when (not (within_ceilings x.map)) 10 [] >> done x)) ≡ ((u >> refuse_when (not w) 10 []) >> done end)
        unfolding every
        tests (refused m ds) w h = refl
        tests (done v) true h = rw (E.draft_stored ws cs known.sound n i at links, h)
        tests (done v) false h = rw (E.draft_stored ws cs known.sound n i at links, h)

        module _ (p : Result (Unit {0}) Refusal) (hp : RulePlanned ws i (length lanes) (length crosswalks) lines p) where
          planned_is : (edit : Map → Answer Draft) → edit (map_of ws cs) ≡ rising_edit links (map_of ws cs) → planned edit (map_of ws cs) ≡ (checked p >> done end)
          unfolding planned
          planned_is edit d =
              rw (d, some_edit)
              (tests (rule_checks (map_of ws cs) (rule_at ws cs i).body (length lanes) (length crosswalks) lines) _ (E.draft_within ws cs known.sound n i at links)
              ∙ ap (λ (x : Answer (Unit {0})). x >> done end) (sym (hp.answer cs)))

          pub plan_refused_rule : (x : Refusal) → p ≡ Err x → (a : Result (ℕ × Option SectionNames) Refusal) (u : Tally) → (a ≡ Err x) × (u ≡ t)
              → RuleEnds lent links a (record { words = ws; coords = cs; fold = f; tally = u; set = s })
          plan_refused_rule x z a u g = record { left = λ edit d. turned_down edit x a u g (planned_is edit d ∙ rw z) }

          module _ (z : p ≡ (Ok tt)) where
            pub fits : links_fit (get_or (row_of ws 5 i) 1 0) (length lanes) (length crosswalks) (length lines) ≡ true
            fits = go (rule_checks (map_of ws cs) (rule_at ws cs i).body (length lanes) (length crosswalks) lines) _ (sym (hp.answer cs) ∙ ap checked z)
              where
                go : (u : Answer (Unit {0})) (w : Bool) → (u >> refuse_when (not w) 10 []) ≡ done tt → w ≡ true
                go (refused m ds) w d = absurd (let y : ◌≡◌ {A = ℕ} 0 1 = cc in omega arith)
                go (done v) true d = refl
                go (done v) false d = absurd (let y : ◌≡◌ {A = ℕ} 0 1 = cc in omega arith)

            pub rule_ends : (a : Result (ℕ × Option SectionNames) Refusal) (new : Lent) → LinksEnd lent i links a new → RuleEnds lent links a new
            rule_ends a new h = record { left = λ edit d. h.left edit (planned_is edit d ∙ rw z) }

  -- ---- the whole call

  module _ (a : RegulatoryLinks) (r0 : Result (Unit {0}) Refusal) (h0 : checked r0 ≡ lent_checks lent) where
    pub lent_turned_down : (x : Refusal) → r0 ≡ Err x → (r : Result (ℕ × Option SectionNames) Refusal) (u : Tally) → (r ≡ Err x) × (u ≡ t)
        → CallLeft (set_regulatory_links a) lent r (record { words = ws; coords = cs; fold = f; tally = u; set = s })
    unfolding set_regulatory_links
    lent_turned_down x q r u g = call_refused (links_edit a) lent x (lent_refused (links_edit a) lent x (sym h0 ∙ ap checked q)) f refl r u g

    module _ (q : r0 ≡ (Ok tt)) where
      pub is_fine : lent_checks lent ≡ done tt
      is_fine = sym h0 ∙ ap checked q

      module _ (p : Result (Unit {0}) Refusal) (hp : LinksChecked ws a p) where
        after : links_edit a (map_of ws cs) ≡ (checked p >> rising_edit (sorted_links a) (map_of ws cs))
        after = E.edit_is a (map_of ws cs) ∙ ap (λ (x : Answer (Unit {0})). x >> rising_edit (sorted_links a) (map_of ws cs)) (sym (hp.answer cs))

        pub links_turned_down : (x : Refusal) → p ≡ Err x → (r : Result (ℕ × Option SectionNames) Refusal) (u : Tally) → (r ≡ Err x) × (u ≡ t)
            → CallLeft (set_regulatory_links a) lent r (record { words = ws; coords = cs; fold = f; tally = u; set = s })
        unfolding set_regulatory_links
        links_turned_down x z r u g =
            call_refused (links_edit a) lent x (plan_refused (links_edit a) lent is_fine x (edit_refused (links_edit a) (map_of ws cs) x (after ∙ rw z))) f refl r u g

        module _ (z : p ≡ (Ok tt)) where
          list_checks_lem : (u : Answer Rule) (v : Answer (Unit {0})) → (u >> v) ≡ done tt → v ≡ done tt
          list_checks_lem (refused m ds) v d = absurd (let y : ◌≡◌ {A = ℕ} 0 1 = cc in omega arith)
          list_checks_lem (done w) v d = d

          pub lists_passed : Passed (map_of ws cs) a.lanes a.crosswalks a.stop_lines
          unfolding links_checks
          lists_passed = passed (map_of ws cs) a.lanes a.crosswalks a.stop_lines (list_checks_lem (present (rule_of (map_of ws cs) a.rule) 2 (8 ∷ a.rule ∷ [])) _ (sym (hp.answer cs) ∙ ap checked z))

          pub few : (length a.lanes ≤ 64) × (length a.crosswalks ≤ 32) × (length a.stop_lines ≤ 64)
          few = lists_few ws cs (known is_fine).sound a.lanes a.crosswalks a.stop_lines lists_passed

          pub each_sorts : Sorts a.lanes × Sorts a.crosswalks × Sorts a.stop_lines
          each_sorts =
              let wide : length a.crosswalks ≤ 64 = omega (arith, few.1) in
              ((few.0, lists_passed.lanes_once), (wide, lists_passed.crosswalks_once), (few.2, lists_passed.lines_once))

          pub call_left : (x y w : List ℕ) → x ≡ sorted a.lanes → y ≡ sorted a.crosswalks → w ≡ sorted a.stop_lines → (r : Result (ℕ × Option SectionNames) Refusal) (new : Lent)
              → RuleEnds lent (rule_links a.rule x y w) r new → CallLeft (set_regulatory_links a) lent r new
          unfolding set_regulatory_links
          call_left x y w ex ey ew r new h = h.left (links_edit a) (after ∙ rw (z, ex, ey, ew))
