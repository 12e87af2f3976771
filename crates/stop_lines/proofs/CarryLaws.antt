-- A plan carried out, and the whole call. Assumes nothing.
use Rattle.std.specs.Prelude.{Option, Err, Ok, Result}
use Prim.Native.Nat.{ℕ, suc, ◌*◌, ◌^◌, ◌≤◌, ◌<◌, max}
use mathlib.Core.Path.{◌≡◌, refl, sym, ap, ◌∙◌}
use mathlib.Core.Bool.{Bool, true}
use mathlib.Core.List.{List}
use native.Mathlib.Omega.{arith}
use lib.Dec.{leb}
use lib.Ieee.{Float}
use lib.ListN.{length, get_or, take}
use borrow.Author.Tests.{leb-false}
use Rattle.refusal.specs.Answer.{done}
use Rattle.refusal.specs.declared.Refusal.{Refusal}
use Rattle.store.specs.Layout.{count_of, next_of}
use Rattle.row_tests.specs.Flat.{all_points}
use Rattle.geometry.specs.Polyline.{polyline_of}
use Rattle.polyline.proofs.Lines.{length-points}
use Rattle.map.specs.Ceilings.{within_ceilings}
use Rattle.map.specs.Rows.{fresh, with_line}
use Rattle.map.specs.Tables.{map_of}
use Rattle.changes.specs.declared.Tally.{Tally}
use Rattle.changes.specs.ChangeSet.{ChangeSet, tally_of, normalize, fold_step}
use Rattle.changes.specs.Layout.{change_set_of}
use Rattle.changes.specs.Running.{fold_fits}
use Rattle.place.specs.Place.{Placed}
use Rattle.place.specs.Values.{maybe_ends}
use Rattle.place.proofs.LineLaws.{line_part_lem}
use Rattle.placing.specs.declared.PlacedLine.{PlacedLine}
use Rattle.placing.specs.Answers.{checked}
use Rattle.edit.specs.declared.StopRule.{StopRule}
use Rattle.edit.specs.Edit.{Draft}
use Rattle.edit.specs.Lent.{Lent, CallLeft}
use Rattle.edit.specs.StopLine.{NewStopLine, rule_at, stop_line_edit, add_stop_line}
use Rattle.finishing.specs.Finish.{lent_checks, planned, CallEnds, TakenIn}
use Rattle.finishing.proofs.CallLaws.{LentFine, lent_fine, lent_refused, plan_refused, call_refused, plan_within}
use Rattle.finishing.proofs.EndLaws.{ends_refused, not_late, takes, ends_done}
use Rattle.stop_lines.specs.Stop.{placed_draft, clamped_by, line_changes, SetDrafted, LineSettles, next_after, ruled, LinePlanned}
use Rattle.stop_lines.proofs.RoomLaws.{within_room, HasRoom, has_room}
use Rattle.stop_lines.proofs.DraftLaws.{draft_changes, draft_next, draft_map, draft_id, draft_ends, exact, fits_alike}
use Rattle.place.specs.declared.SectionNames.{SectionNames}

module _ (ws : List ℕ) (cs : List Float) (f : List ℕ) (t : Tally) (s : List ℕ) where
  abbrev lent : Lent
  lent = record { words = ws; coords = cs; fold = f; tally = t; set = s }

  module _ (fine : lent_checks lent ≡ done tt) where
    pub known : LentFine lent
    known = lent_fine lent fine

    -- ---- carried out

    module _ (rule : StopRule) (lanes : List ℕ) (pts : List Float) (clamped : Bool) (es : Option SectionNames) where
      abbrev placed : Placed
      placed = record { points = polyline_of pts; warnings = clamped_by clamped (get_or lanes 0 0); ends = maybe_ends es }

      abbrev draft : Draft
      draft = placed_draft rule lanes (map_of ws cs) placed

      module _ (n : ℕ) (en : n ≡ max 1 (next_of ws)) (late : Bool) (el : late ≡ leb (2 ^ 64) (next_after rule n)) (r : Result (Unit {0}) Refusal) (h : LineSettles f rule n (clamped_by clamped (get_or lanes 0 0)) late r) where
        is_fresh : n ≡ fresh (map_of ws cs)
        unfolding map_of
        is_fresh = en

        late_is : late ≡ leb (2 ^ 64) draft.map.next
        late_is = el ∙ ap (leb (2 ^ 64)) (ap (next_after rule) is_fresh ∙ sym (draft_next lanes (map_of ws cs) placed rule))

        changes_are : draft.changes ≡ line_changes rule n (suc n) (clamped_by clamped (get_or lanes 0 0))
        changes_are = draft_changes lanes (map_of ws cs) placed rule ∙ ap (λ (i : ℕ). line_changes rule i (suc i) (clamped_by clamped (get_or lanes 0 0))) (sym is_fresh)

        abbrev tried : ChangeSet
        tried = line_changes rule n h.second (clamped_by clamped (get_or lanes 0 0))

        alike : fold_fits (fold_step (change_set_of f) (normalize tried)) ≡ fold_fits (fold_step (change_set_of f) (normalize draft.changes))
        alike =
            fits_alike (change_set_of f) (map_of ws cs).next n h.second known.below (let a = is_fresh in omega arith) (clamped_by clamped (get_or lanes 0 0)) h.follows.from rule
            ∙ ap (λ (x : ChangeSet). fold_fits (fold_step (change_set_of f) (normalize x))) (sym changes_are)

        pub out_refused : (x : Refusal) → r ≡ Err x → (a : Result (ℕ × Option SectionNames) Refusal) (u : Tally) → (a ≡ Err x) × (u ≡ t) → CallEnds lent draft a (record { words = ws; coords = cs; fold = f; tally = u; set = s })
        out_refused = ends_refused lent fine draft tried late late_is alike r h.settles

        module _ (q : r ≡ (Ok tt)) where
          pub numbers_left : next_after rule (max 1 (next_of ws)) < 2 ^ 64
          numbers_left = rw (← en) (leb-false (2 ^ 64) (next_after rule n) (sym el ∙ not_late lent fine draft tried late late_is alike r h.settles q))

          module _ (t0 : List ℕ) (ht : SetDrafted rule n (clamped_by clamped (get_or lanes 0 0)) t0) where
            same_set : change_set_of t0 ≡ draft.changes
            same_set = ht.set ∙ exact rule n ht.second (clamped_by clamped (get_or lanes 0 0)) ht.follows (rw (← en) at numbers_left) ∙ sym changes_are

            pub taken : fold_fits (fold_step (change_set_of f) (normalize (change_set_of t0))) ≡ true
            taken = takes lent fine draft tried late late_is alike r h.settles q t0 same_set

            pub out_done : (f' t1 : List ℕ) → TakenIn f t0 f' t1 → (ws' : List ℕ) (cs' : List Float) (u : Tally)
                → map_of ws' cs' ≡ ruled (rule_at rule n) (with_line (map_of ws cs) (polyline_of pts)) lanes → u ≡ tally_of (change_set_of f')
                → CallEnds lent draft (Ok (n, es)) (record { words = ws'; coords = cs'; fold = f'; tally = u; set = t1 })
            out_done f' t1 w ws' cs' u em eu =
                ends_done lent fine draft tried late late_is alike r h.settles q t0 same_set f' t1 w ws' cs' u n es
                (em ∙ ap (λ (i : ℕ). ruled (rule_at rule i) (with_line (map_of ws cs) (polyline_of pts)) lanes) is_fresh ∙ sym (draft_map lanes (map_of ws cs) placed rule)) eu (is_fresh ∙ sym (draft_id lanes (map_of ws cs) placed rule))
                (sym (draft_ends lanes (map_of ws cs) placed rule))

      module _ (within : within_ceilings draft.map ≡ true) (few : length pts ≤ 192) where
        pub room_left : HasRoom rule (length lanes) (count_of ws 2) (count_of ws 5)
        room_left =
            has_room rule (length lanes) (count_of ws 2) (count_of ws 5) (all_points ws) (length (polyline_of pts))
            (sym (within_room ws cs known.sound.map placed (let a = length-points pts in omega arith) lanes rule) ∙ within)

  -- ---- the whole call

  module _ (a : NewStopLine) where
    module _ (r0 : Result (Unit {0}) Refusal) (h0 : checked r0 ≡ lent_checks lent) where
      pub lent_turned_down : (x : Refusal) → r0 ≡ Err x → (r : Result (ℕ × Option SectionNames) Refusal) (u : Tally) → (r ≡ Err x) × (u ≡ t)
          → CallLeft (add_stop_line a) lent r (record { words = ws; coords = cs; fold = f; tally = u; set = s })
      unfolding add_stop_line
      lent_turned_down x q r u e = call_refused (stop_line_edit a) lent x (lent_refused (stop_line_edit a) lent x (sym h0 ∙ ap checked q)) f refl r u e

      module _ (q : r0 ≡ (Ok tt)) where
        pub is_fine : lent_checks lent ≡ done tt
        is_fine = sym h0 ∙ ap checked q

        module _ (p : PlacedLine) (hp : LinePlanned ws cs a p) where
          pub plan_turned_down : (x : Refusal) → p.checked ≡ Err x → (r : Result (ℕ × Option SectionNames) Refusal) (u : Tally) → (r ≡ Err x) × (u ≡ t)
              → CallLeft (add_stop_line a) lent r (record { words = ws; coords = cs; fold = f; tally = u; set = s })
          unfolding add_stop_line
          plan_turned_down x e r u g = call_refused (stop_line_edit a) lent x (plan_refused (stop_line_edit a) lent is_fine x (sym hp.answer ∙ rw e)) f refl r u g

          module _ (e : p.checked ≡ (Ok tt)) where
            abbrev pts : List Float
            pts = take (p.line.count * 3) p.line.coords

            is_planned : planned (stop_line_edit a) (map_of ws cs) ≡ done (placed_draft a.rule a.lanes (map_of ws cs) (record { points = polyline_of pts; warnings = clamped_by p.clamped (get_or a.lanes 0 0); ends = maybe_ends p.ends }))
            is_planned = sym hp.answer ∙ rw (e, line_part_lem p.line hp.room)

            pub is_within : within_ceilings (placed_draft a.rule a.lanes (map_of ws cs) (record { points = polyline_of pts; warnings = clamped_by p.clamped (get_or a.lanes 0 0); ends = maybe_ends p.ends })).map ≡ true
            is_within = plan_within (stop_line_edit a) (map_of ws cs) _ is_planned

            pub is_left : (r : Result (ℕ × Option SectionNames) Refusal) (new : Lent)
                → CallEnds lent (placed_draft a.rule a.lanes (map_of ws cs) (record { points = polyline_of pts; warnings = clamped_by p.clamped (get_or a.lanes 0 0); ends = maybe_ends p.ends })) r new
                → CallLeft (add_stop_line a) lent r new
            unfolding add_stop_line
            is_left r new h = h.left (stop_line_edit a) is_planned
