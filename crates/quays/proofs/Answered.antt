-- Two quays give the same answer to a stop line.
use Prim.Native.Nat.{ℕ, ◌^◌, ◌≤◌}
use mathlib.Core.Path.{◌≡◌, refl, sym, ap, ap₂, ◌∙◌}
use mathlib.Core.Bool.{Bool, true, false, not, ◌&&◌}
use Rattle.std.specs.Prelude.{Some}
use mathlib.Core.List.{List, []}
use native.Mathlib.Omega.{arith}
use lib.Dec.{leb}
use lib.ListN.{length}
use borrow.Author.Tests.{le-leb, eq-eqb}
use Rattle.refusal.specs.Answer.{Answer, refused, done, ◌>>=◌, ◌>>◌, refuse_when}
use Rattle.rows.specs.Lists.{every}
use Rattle.rows.proofs.Bools.{parts, and_i}
use Rattle.rows.proofs.Tables.{find-append, find_above}
use Rattle.geometry.specs.Point.{point_on_map}
use Rattle.geometry.specs.Polyline.{Polyline}
use Rattle.map.specs.Record.{LineString, Map}
use Rattle.map.specs.Lookup.{line_of}
use Rattle.map.specs.Ceilings.{points, within_ceilings}
use Rattle.map.specs.MapFile.{is_map}
use Rattle.map.specs.Rows.{fresh, with_line}
use Rattle.map.proofs.ByKind.{up₅}
use Rattle.changes.specs.ChangeSet.{ChangeSet, normalize, fold_step}
use Rattle.changes.specs.ChangeFile.{lists_ok}
use Rattle.changes.specs.Running.{State, opening, fold_ok, fold_fits}
use Rattle.changes.proofs.EntryLaws.{entries_rise, entries_few}
use Rattle.changes.proofs.FoldLaws.{normal_counts, fold_counts}
use Rattle.place.specs.Place.{Placed, check_lane_list, place_stop_line}
use Rattle.place.proofs.Answers.{done_is, went}
use Rattle.place.proofs.SameLanes.{SameLanes, oriented_same, placed_same}
use Rattle.edit.specs.declared.StopRule.{StopRule}
use Rattle.edit.specs.declared.StopRule.TheVariants.{StopSign, Marking, NoRule}
use Rattle.edit.specs.Edit.{Draft, Outcome, finish, call}
use Rattle.edit.specs.StopLine.{NewStopLine, rule_at, line_draft, stop_line_edit, add_stop_line}
use Rattle.finishing.proofs.CallLaws.{outcome_of, bind_then}
use Rattle.stop_lines.specs.Stop.{placed_draft}
use Rattle.stop_lines.proofs.RoomLaws.{map_room}
use Rattle.stop_lines.proofs.PlanLaws.{edit_is}
use Rattle.run.specs.Run.{Edit, line, run_one, run_all}
use Rattle.run.specs.Law.{passes}
use Rattle.run.proofs.Counts.{present_few}
use Rattle.run.proofs.Calls.{ended}
use Rattle.run.proofs.Runs.{run_law}
use Rattle.quays.specs.Quays.{SameQuay, SameRoom, SameOutcome, SameAnswer, Alike, placed_for, Stored}

-- ---- the line is placed alike

same_lanes : (ls : List ℕ) (m n : Map) → SameQuay ls m n → SameLanes m n ls
same_lanes ls m n q k h = record {
  lane = q.lanes k h;
  sides = λ l e. let b = q.boundaries k l h e in record { left = oriented_same m n l.left b.0; right = oriented_same m n l.right b.1 };
}

pub placed_alike : (a : NewStopLine) (m n : Map) → SameQuay a.lanes m n → placed_for a m ≡ placed_for a n
placed_alike a m n q = placed_same m n a.lanes a.placement a.points (same_lanes a.lanes m n q)

-- ---- the fold has room: what it has as created is on the map, and a line adds nothing to what is modified or deleted

-- as a line and its rule
record LineEntries (c : ChangeSet) : Type 0 where
  created : length c.created ≤ 2
  modified : length c.modified ≤ 0
  deleted : length c.deleted ≤ 0

fold_takes : (s : State) (c : ChangeSet) → passes s ≡ true → LineEntries c → fold_fits (fold_step s.fold (normalize c)) ≡ true
unfolding passes fold_fits lists_ok fold_ok
fold_takes s c ok few =
    let own = few.created in
    let own' = few.modified in
    let own'' = few.deleted in
    let n = normal_counts c in
    let n₀ = n.0 in
    let n₁ = n.1 in
    let n₂ = n.2 in
    let f = fold_counts s.fold (normalize c) in
    let f₀ = f.0 in
    let f₁ = f.1 in
    let f₂ = f.2 in
    let made = present_few s.map (search parts depth 12) s.fold.created (entries_rise s.fold.created (search parts depth 12)) (search parts depth 12) in
    let changed = entries_few s.fold.modified (search parts depth 12) in
    let gone = entries_few s.fold.deleted (search parts depth 12) in
    and_i _ _ (and_i _ _ (le-leb (length (fold_step s.fold (normalize c)).created) 512 (omega arith)) (le-leb (length (fold_step s.fold (normalize c)).modified) 512 (omega arith)))
    (le-leb (length (fold_step s.fold (normalize c)).deleted) 512 (omega arith))

-- ---- a placed line's draft

-- the line under its number
new_line : (m : Map) → is_map m ≡ true → (xs : Polyline) → line_of (with_line m xs) (fresh m) ≡ Some (record { num = fresh m; geometry = xs })
unfolding line_of
new_line m ok xs = find-append (λ (x : LineString). x.num) (fresh m) m.stop_lines (record { num = fresh m; geometry = xs })
    ∙ rw (find_above (λ (x : LineString). x.num) 0 m.next (fresh m) m.stop_lines (up₅ m ok) (omega arith), eq-eqb (fresh m) (fresh m) refl)

-- two drafts that end alike: 9 and 10 of the map, and the outcome
record SameEnd (s t : State) (d e : Draft) : Type 0 where
  stored : d.stored ≡ e.stored
  within : within_ceilings d.map ≡ within_ceilings e.map
  outcome : SameOutcome (outcome_of s d) (outcome_of t e)

module _ (s t : State) (oks : is_map s.map ≡ true) (okt : is_map t.map ≡ true) (r : SameRoom s.map t.map) (ls : List ℕ) (p : Placed) where
  room_same : (rule : StopRule) → within_ceilings (placed_draft rule ls s.map p).map ≡ within_ceilings (placed_draft rule ls t.map p).map
  room_same rule = map_room s.map oks p ls rule ∙ rw (r.lines, r.rules, r.used) (sym (map_room t.map okt p ls rule))

  line_same : line_of (with_line s.map p.points) (fresh s.map) ≡ line_of (with_line t.map p.points) (fresh t.map)
  line_same = new_line s.map oks p.points ∙ rw r.next (sym (new_line t.map okt p.points))

  -- numbers go by the next one
  outcome_same : (rule : StopRule) → SameOutcome (outcome_of s (placed_draft rule ls s.map p)) (outcome_of t (placed_draft rule ls t.map p))
  unfolding placed_draft line_draft rule_at line_of
  outcome_same StopSign = record { number = rw r.next; changes = rw r.next; ends = refl; next = rw r.next; line = line_same }
  outcome_same Marking = record { number = rw r.next; changes = rw r.next; ends = refl; next = rw r.next; line = line_same }
  outcome_same NoRule = record { number = rw r.next; changes = rw r.next; ends = refl; next = rw r.next; line = line_same }

  stored_same : (rule : StopRule) → (placed_draft rule ls s.map p).stored ≡ (placed_draft rule ls t.map p).stored
  unfolding placed_draft line_draft rule_at
  stored_same StopSign = refl
  stored_same Marking = refl
  stored_same NoRule = refl

  draft_same : (rule : StopRule) → SameEnd s t (placed_draft rule ls s.map p) (placed_draft rule ls t.map p)
  draft_same rule = record { stored = stored_same rule; within = room_same rule; outcome = outcome_same rule }

draft_few : (rule : StopRule) (ls : List ℕ) (m : Map) (p : Placed) → LineEntries (placed_draft rule ls m p).changes
unfolding placed_draft line_draft rule_at
draft_few StopSign ls m p = record { created = omega arith; modified = omega arith; deleted = omega arith }
draft_few Marking ls m p = record { created = omega arith; modified = omega arith; deleted = omega arith }
draft_few NoRule ls m p = record { created = omega arith; modified = omega arith; deleted = omega arith }

-- ---- the end of a call

ending : Bool → Bool → Bool → Outcome → Answer Outcome
ending on_map fits late o = refuse_when (not on_map) 9 [] >> (refuse_when (not fits) 10 [] >> (refuse_when late 11 [] >> done o))

ending_same : (on_map fits late : Bool) (o u : Outcome) → SameOutcome o u → SameAnswer (ending on_map fits late o) (ending on_map fits late u)
unfolding ending
ending_same false fits late o u e = (refl, refl)
ending_same true false late o u e = (refl, refl)
ending_same true true true o u e = (refl, refl)
ending_same true true false o u e = e

finish_same : (s t : State) (d e : Draft) → SameEnd s t d e → fold_fits (fold_step s.fold (normalize d.changes)) ≡ true → fold_fits (fold_step t.fold (normalize e.changes)) ≡ true → SameAnswer (finish s d) (finish t e)
unfolding finish ending
finish_same s t d e q f g = alike (ap (every point_on_map) q.stored) (ap₂ ◌&&◌ q.within (f ∙ sym g)) (ap (leb (2 ^ 64)) q.outcome.next) q.outcome
  where
    alike : {x y z x' y' z' : Bool} {o u : Outcome} → x ≡ x' → y ≡ y' → z ≡ z' → SameOutcome o u → SameAnswer (ending x y z o) (ending x' y' z' u)
    alike {x} {y} {z} {x'} {y'} {z'} {o} {u} a b c same = rw (a, b, c) (ending_same x' y' z' o u same)

-- ---- the call

edit_by : (a : NewStopLine) (m : Map) → stop_line_edit a m ≡ (placed_for a m >>= λ p. done (placed_draft a.rule a.lanes m p))
edit_by a m = edit_is a m ∙ bind_then (check_lane_list m a.lanes) (place_stop_line m a.lanes a.placement a.points) _

past_tests : (a : NewStopLine) (s : State) → passes s ≡ true → add_stop_line a s ≡ (placed_for a s.map >>= λ p. finish s (placed_draft a.rule a.lanes s.map p))
unfolding add_stop_line call passes
past_tests a s ok =
    let map : is_map s.map ≡ true = search parts in
    let fold : (lists_ok s.fold && fold_ok s) ≡ true = and_i (lists_ok s.fold) (fold_ok s) (search parts) (search parts) in
    rw (map, fold, edit_by a s.map) (go (placed_for a s.map))
  where
    go : (x : Answer Placed) → ((x >>= λ p. done (placed_draft a.rule a.lanes s.map p)) >>= λ d. finish s d) ≡ (x >>= λ p. finish s (placed_draft a.rule a.lanes s.map p))
    go (refused n ds) = refl
    go (done p) = refl

is_map_lem : (s : State) → passes s ≡ true → is_map s.map ≡ true
unfolding passes
is_map_lem s ok = search parts

pub answers_same : (a : NewStopLine) (s t : State) → passes s ≡ true → passes t ≡ true → SameQuay a.lanes s.map t.map → SameRoom s.map t.map → Alike a s t
answers_same a s t oks okt q r = rw (past_tests a s oks, past_tests a t okt, placed_alike a s.map t.map q) (go (placed_for a t.map))
  where
    go : (x : Answer Placed) → SameAnswer (x >>= λ p. finish s (placed_draft a.rule a.lanes s.map p)) (x >>= λ p. finish t (placed_draft a.rule a.lanes t.map p))
    go (refused n ds) = (refl, refl)
    go (done p) = finish_same s t _ _ (draft_same s t (is_map_lem s oks) (is_map_lem t okt) r a.lanes p a.rule)
        (fold_takes s _ oks (draft_few a.rule a.lanes s.map p)) (fold_takes t _ okt (draft_few a.rule a.lanes t.map p))

-- two runs, each from an opened map
pub runs_same : (a : NewStopLine) (m n : Map) → is_map m ≡ true → is_map n ≡ true → (es fs : List Edit)
    → SameQuay a.lanes (run_all es (opening m)).map (run_all fs (opening n)).map → SameRoom (run_all es (opening m)).map (run_all fs (opening n)).map
    → Alike a (run_all es (opening m)) (run_all fs (opening n))
unfolding passes
runs_same a m n okm okn es fs q r = answers_same a (run_all es (opening m)) (run_all fs (opening n)) (run_law m okm es).valid (run_law n okn fs).valid q r

-- ---- the line on the map

draft_line : (rule : StopRule) (ls : List ℕ) (m : Map) → is_map m ≡ true → (p : Placed) → let d = placed_draft rule ls m p in line_of d.map d.id ≡ Some (record { num = d.id; geometry = p.points })
unfolding placed_draft line_draft rule_at line_of
draft_line StopSign ls m ok p = new_line m ok p.points
draft_line Marking ls m ok p = new_line m ok p.points
draft_line NoRule ls m ok p = new_line m ok p.points

pub line_stored : (a : NewStopLine) (s : State) (o : Outcome) → add_stop_line a s ≡ done o → Stored a s.map o
unfolding run_one
line_stored a s o e =
    let w = ended (line a) s o e in
    let v = went (placed_for a s.map) (λ p. done (placed_draft a.rule a.lanes s.map p)) w.draft (sym (edit_by a s.map) ∙ w.drawn) in
    record { placed = v.value; placed_is = v.first; line = stands w.map w.draft v.value (ap (λ (t : State). t.map) w.end.state) w.end.number (done_is v.rest) }
  where
    stands : is_map s.map ≡ true → (d : Draft) (p : Placed) → o.state.map ≡ d.map → o.id ≡ d.id → placed_draft a.rule a.lanes s.map p ≡ d
        → line_of o.state.map o.id ≡ Some (record { num = o.id; geometry = p.points })
    stands ok d p m n q = rw (m, n, ← q) (draft_line a.rule a.lanes s.map ok p)
