-- The plan of a stop line: each refusal, and the draft. Assumes nothing.
use Rattle.std.specs.Prelude.{Err, Ok, Result}
use Prim.Native.Nat.{ℕ, ◌*◌, ◌%◌, ◌≤◌}
use mathlib.Core.Path.{◌≡◌, refl, sym, ap, ◌∙◌}
use mathlib.Core.Bool.{Bool, true, false, not}
use mathlib.Core.List.{List, [], ◌∷◌}
use native.Mathlib.Omega.{arith}
use lib.Ieee.{Float}
use lib.ListN.{length, get_or, take}
use borrow.Author.Tests.{not-true, not-false}
use Rattle.rows.specs.Lists.{every}
use Rattle.rows.proofs.Indexed.{length-list_to}
use Rattle.refusal.specs.Answer.{Answer, refused, done, refused_as, ◌>>=◌, ◌>>◌, refuse_when}
use Rattle.refusal.specs.declared.Refusal.{Refusal}
use Rattle.refusal.specs.declared.Refusal.TheVariants.{OffTheMap, Full}
use Rattle.store.specs.Layout.{count_of}
use Rattle.row_tests.specs.Flat.{all_points}
use Rattle.geometry.specs.Point.{point_on_map}
use Rattle.geometry.specs.Polyline.{point_in, polyline_of}
use Rattle.centerline.specs.declared.Line.{Line}
use Rattle.centerline.specs.Line.{points_of}
use Rattle.map.specs.Record.{Map}
use Rattle.map.specs.Entity.{entity}
use Rattle.map.specs.Rows.{fresh, with_line}
use Rattle.map.specs.Tables.{map_of, is_map_tables}
use Rattle.map.proofs.SoundLaws.{sound}
use Rattle.place.specs.Place.{Placed, check_lane_list, place_stop_line}
use Rattle.place.specs.Values.{Roomy, maybe_ends}
use Rattle.place.proofs.LineLaws.{line_part_lem, part_long}
use Rattle.placing.specs.declared.PlacedLine.{PlacedLine}
use Rattle.placing.specs.Answers.{checked, placed_answer, RefusedWith, LanesChecked}
use Rattle.placing.proofs.CheckLaws.{lanes_there}
use Rattle.edit.specs.declared.StopRule.{StopRule}
use Rattle.edit.specs.declared.StopRule.TheVariants.{StopSign, Marking, NoRule}
use Rattle.edit.specs.Edit.{Draft}
use Rattle.edit.specs.StopLine.{NewStopLine, rule_at, line_draft, stop_line_edit}
use Rattle.finishing.specs.Finish.{planned}
use Rattle.finishing.proofs.CallLaws.{plan_tests}
use Rattle.stop_lines.specs.Stop.{placed_draft, room_for, end_tests, clamped_by, LinePlanned}
use Rattle.stop_lines.proofs.RoomLaws.{within_room}

-- ---- a placed line's points

pub points_few : (l : Line) → Roomy l → length (points_of l) ≤ 64
unfolding points_of
points_few l h = let a = length-list_to (point_in l.coords) l.count in let b = h.few in omega arith

points_count : (l : Line) → length (points_of l) ≡ l.count
unfolding points_of
points_count l = length-list_to (point_in l.coords) l.count

module _ (l : Line) (room : Roomy l) where
  pub part_inside : l.count * 3 ≤ length l.coords
  part_inside = let a = room.few in let b = room.long in omega arith

  pub part_thirds : length (take (l.count * 3) l.coords) % 3 ≡ 0
  part_thirds = let a = part_long l.coords l.count part_inside in omega arith

  pub part_short : length (take (l.count * 3) l.coords) ≤ 192
  part_short = let a = part_long l.coords l.count part_inside in let b = room.few in omega arith

  module _ (rule : StopRule) (lanes lines rules used : ℕ) (b : Bool) (eb : b ≡ every point_on_map (polyline_of (take (l.count * 3) l.coords))) where
    same : b ≡ every point_on_map (points_of l)
    same = eb ∙ ap (every point_on_map) (line_part_lem l room)

    pub end_off : not b ≡ true → refused_as OffTheMap ≡ end_tests rule lanes lines rules used (points_of l)
    unfolding end_tests
    end_off t = rw (← same, not-true b t)

    module _ (t : not b ≡ false) (r : Bool) (er : r ≡ room_for rule lanes lines rules used l.count) where
      end_room : end_tests rule lanes lines rules used (points_of l) ≡ refuse_when (not r) 10 []
      unfolding end_tests
      end_room = rw (← same, not-false b t, points_count l, ← er)

      pub end_full : not r ≡ true → refused_as Full ≡ end_tests rule lanes lines rules used (points_of l)
      end_full q = sym (end_room ∙ rw (not-true r q))

      pub end_fine : not r ≡ false → done tt ≡ end_tests rule lanes lines rules used (points_of l)
      end_fine q = sym (end_room ∙ rw (not-false r q))

-- ---- the edit

abbrev drawn : Map → Placed → Draft
drawn m p = record { map = with_line m p.points; id = fresh m; stored = p.points; ends = p.ends; changes = record { created = entity 5 (fresh m) ∷ []; modified = []; deleted = []; warnings = p.warnings } }

-- the draft does not go by how the line was placed
draft_is : (a : NewStopLine) (m : Map) (p : Placed) (rule : StopRule) → line_draft a (drawn m p) (rule_at rule (fresh m)) ≡ placed_draft rule a.lanes m p
unfolding placed_draft line_draft rule_at
draft_is a m p StopSign = refl
draft_is a m p Marking = refl
draft_is a m p NoRule = refl

pub edit_is : (a : NewStopLine) (m : Map) → stop_line_edit a m ≡ (check_lane_list m a.lanes >> (place_stop_line m a.lanes a.placement a.points >>= λ p. done (placed_draft a.rule a.lanes m p)))
unfolding stop_line_edit
edit_is a m = ap (λ (x : Answer Draft). check_lane_list m a.lanes >> x) (go (place_stop_line m a.lanes a.placement a.points))
  where
    go : (x : Answer Placed) → (x >>= λ p. done (line_draft a (drawn m p) (rule_at a.rule (fresh m)))) ≡ (x >>= λ p. done (placed_draft a.rule a.lanes m p))
    go (refused n ds) = refl
    go (done p) = ap done (draft_is a m p a.rule)

-- no fine answer is a refusal
never : {A : Type 0} (k : Result (Unit {0}) Refusal) (p : Placed) (x : Refusal) → k ≡ (Ok tt) → (checked k >> done p) ≡ refused_as x → A
never k p x e h = let z : (checked (Ok tt) >> done p) ≡ refused_as x = sym (ap (λ (y : Result (Unit {0}) Refusal). checked y >> done p) e) ∙ h in absurd (let y : ◌≡◌ {A = ℕ} 0 1 = cc in omega arith)

module _ (ws : List ℕ) (cs : List Float) (a : NewStopLine) where
  abbrev m : Map
  m = map_of ws cs

  abbrev reference : ℕ
  reference = get_or a.lanes 0 0

  turned_down : (x : Refusal) (p : PlacedLine) → RefusedWith x p → planned (stop_line_edit a) m ≡ refused_as x → LinePlanned ws cs a p
  turned_down x p h e = record {
    answer = ap (λ (y : Answer Placed). y >>= λ q. done (placed_draft a.rule a.lanes m q)) (h.answer reference) ∙ sym e;
    room = h.room;
    lanes = λ q. never p.checked _ x q (h.answer reference);
  }

  module _ (r0 : Result (Unit {0}) Refusal) (h0 : LanesChecked ws a.lanes r0) where
    pub lanes_refused : (x : Refusal) → r0 ≡ Err x → (p : PlacedLine) → RefusedWith x p → LinePlanned ws cs a p
    unfolding planned
    lanes_refused x e p h = turned_down x p h (rw (edit_is a m, ← h0.answer cs, e))

    module _ (e0 : r0 ≡ (Ok tt)) (p : PlacedLine) (hp : placed_answer reference p ≡ place_stop_line m a.lanes a.placement a.points) where
      placed_edit : stop_line_edit a m ≡ (placed_answer reference p >>= λ q. done (placed_draft a.rule a.lanes m q))
      placed_edit = edit_is a m ∙ rw (← h0.answer cs, e0, ← hp)

      pub place_refused : (x : Refusal) → p.checked ≡ Err x → (p' : PlacedLine) → RefusedWith x p' → LinePlanned ws cs a p'
      unfolding planned
      place_refused x e p' h = turned_down x p' h (rw (placed_edit, e))

      module _ (ok : is_map_tables ws cs ≡ true) (room : Roomy p.line) (e1 : p.checked ≡ (Ok tt)) (r : Result (Unit {0}) Refusal)
          (hr : checked r ≡ end_tests a.rule (length a.lanes) (count_of ws 2) (count_of ws 5) (all_points ws) (points_of p.line)) where
        abbrev placed : Placed
        placed = record { points = points_of p.line; warnings = clamped_by p.clamped reference; ends = maybe_ends p.ends }

        abbrev draft : Draft
        draft = placed_draft a.rule a.lanes m placed

        stored_is : (rule : StopRule) → (placed_draft rule a.lanes m placed).stored ≡ points_of p.line
        unfolding placed_draft line_draft rule_at
        stored_is StopSign = refl
        stored_is Marking = refl
        stored_is NoRule = refl

        done_edit : stop_line_edit a m ≡ done draft
        done_edit = placed_edit ∙ rw e1

        plan_is : planned (stop_line_edit a) m ≡ (checked r >> done draft)
        unfolding end_tests
        plan_is =
            plan_tests (stop_line_edit a) m draft done_edit (every point_on_map (points_of p.line)) (room_for a.rule (length a.lanes) (count_of ws 2) (count_of ws 5) (all_points ws) (length (points_of p.line)))
            (ap (every point_on_map) (stored_is a.rule)) (within_room ws cs (sound ws cs ok).map placed (points_few p.line room) a.lanes a.rule)
            ∙ ap (λ (x : Answer (Unit {0})). x >> done draft) (sym hr)

        pub end_refused : (x : Refusal) → r ≡ Err x → (p' : PlacedLine) → RefusedWith x p' → LinePlanned ws cs a p'
        end_refused x e p' h = turned_down x p' h (plan_is ∙ rw e)

        pub all-planned : r ≡ (Ok tt) → LinePlanned ws cs a p
        all-planned e = record { answer = rw e1 (sym (plan_is ∙ rw e)); room = room; lanes = λ _. lanes_there ws a.lanes (rw e0 at h0) }
