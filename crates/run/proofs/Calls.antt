-- One call: what it says of the draft that it finished, and from that the law of one call, on any state.
use mathlib.Core.Path.{◌≡◌, refl, sym, ap, ◌∙◌, subst}
use mathlib.Core.Bool.{Bool, true, false, not, ◌&&◌, ◌||◌}
use Rattle.std.specs.Prelude.{Option, None, Some}
use mathlib.Core.List.{List, [], append-nil}
use Prim.Native.Nat.{ℕ, ◌≤◌}
use native.Mathlib.Omega.{arith}
use borrow.Author.Tests.{ltb-true, ne_eqb, not-false}
use Rattle.refusal.specs.Answer.{Answer, refused, done}
use Rattle.rows.specs.Lists.{joined, same_list}
use Rattle.rows.specs.Table.{rising}
use Rattle.rows.proofs.Bools.{and_i, and_no, parts}
use Rattle.rows.proofs.Tables.{is_some}
use Rattle.codec.specs.Format.{Bytes}
use Rattle.map.specs.Entity.{EntityRef, has, form_of}
use Rattle.map.specs.MapFile.{is_map}
use Rattle.map.specs.Record.{Map}
use Rattle.map.proofs.Presence.{has_form}
use Rattle.changes.specs.ChangeFile.{lists_ok, is_set}
use Rattle.changes.specs.ChangeSet.{ChangeSet, normalize}
use Rattle.changes.specs.Running.{State, fold_ok, fold_call}
use Rattle.changes.proofs.Entries.{set_fits}
use Rattle.place.proofs.Answers.{went, past}
use Rattle.edit.specs.Edit.{Draft, Outcome, call}
use Rattle.edit.specs.Light.{light_edit, add_traffic_signal}
use Rattle.edit.specs.Links.{links_edit, set_regulatory_links}
use Rattle.edit.specs.StopLine.{stop_line_edit, add_stop_line}
use Rattle.run.specs.Law.{alters, well_handed, lifted_by, JoinsGroup, clears_line, same_form, differ, names, leaves, handed, passes, Accepted, CallLaw}
use Rattle.run.specs.LineEnds.{told_by, EndsAnswered}
use Rattle.run.specs.Run.{Edit, line, signal, links, run_one, state_after, sets_after}
use Rattle.run.proofs.LineEnds.{drafts, same_told, line_ends, light_ends, links_ends}
use Rattle.run.proofs.GroupLine.{light_joins}
use Rattle.run.proofs.Counts.{named_count, named_lists, Named}
use Rattle.run.proofs.Fold.{StepLaw, finished, Finished, set_named}
use Rattle.run.proofs.LightLine.{light_clears}
use Rattle.run.proofs.LightStep.{light_step}
use Rattle.run.proofs.LineStep.{line_shape}
use Rattle.run.proofs.LinksStep.{links_shape}
use Rattle.run.proofs.Passing.{passes_again}
use Rattle.run.proofs.Refusals.{low, low_line, low_light, low_links, low_finish}
use Rattle.run.proofs.Shape.{Shape, law}
use Rattle.run.proofs.Told.{alters_has}

-- ---- one edit

-- what the three have in common
abbrev edited : Edit → Map → Answer Draft
edited (line a) = stop_line_edit a
edited (signal a) = light_edit a
edited (links a) = links_edit a

one_call : (e : Edit) (s : State) → run_one e s ≡ call (edited e) s
unfolding run_one add_stop_line add_traffic_signal set_regulatory_links
one_call (line a) s = refl
one_call (signal a) s = refl
one_call (links a) s = refl

edit_shape : (e : Edit) (m : Map) (d : Draft) → is_map m ≡ true → edited e m ≡ done d → Shape m d
edit_shape (line a) m d ok q = line_shape a m d ok q
edit_shape (signal a) m d ok q = light_step a m d ok q
edit_shape (links a) m d ok q = links_shape a m d ok q

edit_low : (e : Edit) (m : Map) → low (edited e m) ≡ true
edit_low (line a) m = low_line a m
edit_low (signal a) m = low_light a m
edit_low (links a) m = low_links a m

edit_lifts : (e : Edit) (m : Map) (d : Draft) → edited e m ≡ done d → lifted_by e m d.map ≡ true
unfolding lifted_by
edit_lifts (line a) m d q = refl
edit_lifts (signal a) m d q = light_clears a m d q
edit_lifts (links a) m d q = refl

edit_ends : (e : Edit) (m : Map) (d : Draft) → edited e m ≡ done d → EndsAnswered e m (drafts d)
edit_ends (line a) m d q = line_ends a m d q
edit_ends (signal a) m d q = light_ends a m d q
edit_ends (links a) m d q = links_ends a m d q

edit_joins : (e : Edit) (m : Map) (d : Draft) → is_map m ≡ true → edited e m ≡ done d → JoinsGroup e m d.map
edit_joins (line a) m d ok q = tt
edit_joins (signal a) m d ok q = λ g e. light_joins a m d ok q g e
edit_joins (links a) m d ok q = tt

-- ---- the draft of an accepted call

-- past both tests, drafted in its edit's shape, and finished
pub record Ended (e : Edit) (s : State) (o : Outcome) : Type 0 where
  pub map : is_map s.map ≡ true
  pub fold : (lists_ok s.fold && fold_ok s) ≡ true
  pub draft : Draft
  pub drawn : edited e s.map ≡ done draft
  pub step : StepLaw s.map draft
  pub end : Finished s draft o

pub ended : (e : Edit) (s : State) (o : Outcome) → run_one e s ≡ done o → Ended e s o
ended e s o q = go (sym (one_call e s) ∙ q)
  where
    go : call (edited e) s ≡ done o → Ended e s o
    go q = unfold call in
        let p₁ = past (not (is_map s.map)) 12 [] _ o q in
        let p₂ = past (not (lists_ok s.fold && fold_ok s)) 13 [] _ o p₁.rest in
        let p₃ = went (edited e s.map) _ o p₂.rest in
        let ok = not-false (is_map s.map) p₁.test in
        record {
          map = ok;
          fold = not-false (lists_ok s.fold && fold_ok s) p₂.test;
          draft = p₃.value;
          drawn = p₃.first;
          step = law s.map ok p₃.value (edit_shape e s.map p₃.value ok p₃.first);
          end = finished s p₃.value o p₃.rest;
        }

-- ---- a record that is not named: by its forms before and after

frame_one : (f g : Option Bytes) → ((is_some g && not (is_some f)) || (is_some f && is_some g && differ f g) || (is_some f && not (is_some g)) || same_form f g) ≡ true
unfolding differ same_form
frame_one None None = refl
frame_one None (Some y) = refl
frame_one (Some x) None = refl
frame_one (Some x) (Some y) = go (same_list x y)
  where
    go : (b : Bool) → (not b || false || b) ≡ true
    go true = refl
    go false = refl

named_frame : (m n : Map) (c : ChangeSet) (a : EntityRef) → Named m n (alters m n) c → (names c a || same_form (form_of m a) (form_of n a)) ≡ true
unfolding names alters
named_frame m n c a k = rw (k.created a, k.modified a, k.deleted a, has_form m a, has_form n a) (frame_one (form_of m a) (form_of n a))

only_altered : (p q v : Bool) → (v ≡ true → (p && q) ≡ true) → (p && q && v) ≡ v
only_altered p q true f = and_i (p && q) true (f refl) refl
only_altered p q false f = and_no (p && q)

-- the numbers of a call, or of a run
pub record Rises (s t : State) (ns : List ℕ) : Type 0 where
  pub grows : s.map.next ≤ t.map.next
  pub rise : rising (λ n. n) s.map.next t.map.next ns ≡ true

-- ---- an accepted call

module _ (e : Edit) (s : State) (o : Outcome) (x : Ended e s o) where
  drawn_map : is_map x.draft.map ≡ true
  drawn_map = x.step.valid x.end.stored x.end.ceilings x.end.spent

  drawn_set : Named s.map x.draft.map (alters s.map x.draft.map) (normalize x.draft.changes)
  drawn_set = set_named s x.draft o x.step x.end

  map_left : is_map o.state.map ≡ true
  map_left = rw x.end.state drawn_map

  set_left : Named s.map o.state.map (alters s.map o.state.map) o.changes
  set_left = rw (x.end.changes, x.end.state) drawn_set

  set_lists : lists_ok (normalize x.draft.changes) ≡ true
  set_lists = named_lists s.map x.draft.map _ (normalize x.draft.changes) x.map drawn_map drawn_set

  pub call-set : is_set o.changes ≡ true
  call-set = rw x.end.changes (set_fits (normalize x.draft.changes) set_lists (unfold normalize in x.step.warned x.end.spent))

  pub call_folds : fold_call s.fold o.changes ≡ done o.state.fold
  unfolding fold_call
  call_folds = go (search parts)
    where
      go : lists_ok s.fold ≡ true → fold_call s.fold o.changes ≡ done o.state.fold
      go h = rw (x.end.changes, x.end.state, h, set_lists, x.end.fits)

  pub call_lights : lifted_by e s.map o.state.map ≡ true
  call_lights = rw x.end.state (edit_lifts e s.map x.draft x.drawn)

  pub call_frame : (a : EntityRef) → (names o.changes a || same_form (form_of s.map a) (form_of o.state.map a)) ≡ true
  call_frame a = named_frame s.map o.state.map o.changes a set_left

  pub call_rise : Rises s o.state (handed o.changes)
  call_rise = rw (x.end.changes, x.end.state) (record { grows = x.step.later; rise = x.step.rise })

  pub call_passes : passes o.state ≡ true
  call_passes = rw x.end.state (passes_again s x.fold x.map x.draft.map drawn_map x.step.later _ (normalize x.draft.changes) drawn_set x.end.fits)

  call_ends : EndsAnswered e s.map (told_by o)
  call_ends = subst (EndsAnswered e s.map) (same_told (sym x.end.ends) (rw x.end.state)) (edit_ends e s.map x.draft x.drawn)

  call_joins : JoinsGroup e s.map o.state.map
  call_joins = rw x.end.state (edit_joins e s.map x.draft x.map x.drawn)

  is_accepted : Accepted e s o
  is_accepted = record {
    set = call-set;
    folded = call_folds;
    tally = rw x.end.state;
    created = set_left.created;
    deleted = set_left.deleted;
    modified = λ a. set_left.modified a ∙ only_altered (has s.map a) (has o.state.map a) _ (alters_has s.map o.state.map a);
    frame = λ a h. rw h at (call_frame a);
    count = named_count s.map o.state.map _ o.changes x.map map_left set_left;
    rise = call_rise.rise;
    lights = call_lights;
    joins = call_joins;
    ends = call_ends;
    valid = call_passes;
  }

-- ---- any answer

pub call_clears : (e : Edit) (s : State) (x : Answer Outcome) → run_one e s ≡ x → clears_line (record { edit = e; before = s; answer = x }) ≡ true
unfolding clears_line
call_clears e s (refused n ds) q = refl
call_clears e s (done o) q = call_lights e s o (ended e s o q)

pub call_leaves : (e : Edit) (s : State) (a : EntityRef) (x : Answer Outcome) → run_one e s ≡ x → leaves a (record { edit = e; before = s; answer = x }) ≡ true
unfolding leaves
call_leaves e s a (refused n ds) q = refl
call_leaves e s a (done o) q = call_frame e s o (ended e s o q) a

pub call_rises : (e : Edit) (s : State) (x : Answer Outcome) → run_one e s ≡ x → Rises s (state_after s x) (joined handed (sets_after x))
unfolding joined
call_rises e s (refused n ds) q = record { grows = omega arith; rise = unfold rising in refl }
call_rises e s (done o) q = rw (append-nil (handed o.changes)) (call_rise e s o (ended e s o q))

-- a call that is handed a good state refuses with 11 at most
call_low : (e : Edit) (s : State) → is_map s.map ≡ true → (lists_ok s.fold && fold_ok s) ≡ true → low (run_one e s) ≡ true
call_low e s p q = rw (one_call e s) (go (edited e s.map) refl (edit_low e s.map))
  where
    go : (x : Answer Draft) → edited e s.map ≡ x → low x ≡ true → low (call (edited e) s) ≡ true
    go (refused n ds) b h = unfold call in rw (p, q, b) h
    go (done d) b h = unfold call in rw (p, q, b) (low_finish s d)

low_handed : (e : Edit) (s : State) (x : Answer Outcome) → low x ≡ true → well_handed (record { edit = e; before = s; answer = x }) ≡ true
unfolding well_handed
low_handed e s (refused n ds) h = let u = ltb-true n 12 h in rw (ne_eqb n 12 (λ z. omega arith), ne_eqb n 13 (λ z. omega arith))
low_handed e s (done o) h = refl

-- 12 or 13 just where the state does not pass
pub call_handed : (e : Edit) (s : State) → well_handed (record { edit = e; before = s; answer = run_one e s }) ≡ passes s
unfolding passes
call_handed e s = go (is_map s.map) (lists_ok s.fold) (fold_ok s) refl refl refl
  where
    go : (b c d : Bool) → is_map s.map ≡ b → lists_ok s.fold ≡ c → fold_ok s ≡ d → well_handed (record { edit = e; before = s; answer = run_one e s }) ≡ (b && c && d)
    go true true true p q r = low_handed e s (run_one e s) (call_low e s p (and_i _ _ q r))
    go true true false p q r = unfold well_handed call in rw (one_call e s, p, q, r)
    go true false d p q r = unfold well_handed call in rw (one_call e s, p, q)
    go false c d p q r = unfold well_handed call in rw (one_call e s, p)

pub passes_after : (e : Edit) (s : State) → passes s ≡ true → (x : Answer Outcome) → run_one e s ≡ x → passes (state_after s x) ≡ true
passes_after e s ok (refused n ds) q = ok
passes_after e s ok (done o) q = call_passes e s o (ended e s o q)

-- ---- the law of one call

pub call_law : (e : Edit) (s : State) → CallLaw e s
call_law e s = record { accepted = λ o q. is_accepted e s o (ended e s o q); refusal = λ n ds q. ap (state_after s) q; well_handed_over = call_handed e s }
