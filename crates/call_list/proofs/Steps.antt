-- One call of a list: from the contract of the call to the outcome of its row. Assumes nothing.
use Prim.Native.Nat.{ℕ}
use mathlib.Core.Path.{◌≡◌, refl, sym, ap, subst, ◌∙◌}
use mathlib.Core.Bool.{Bool, true, false, not, ◌&&◌}
use Rattle.std.specs.Prelude.{Option, None, Some, Result, Err, Ok}
use mathlib.Core.List.{List, []}
use lib.Dec.{eqb}
use lib.Ieee.{Float}
use lib.ListN.{get_or}
use borrow.Author.Tests.{eq-eqb}
use Rattle.refusal.specs.Answer.{Answer, refused, done, ◌>>=◌, ◌>>◌, refuse_when}
use Rattle.rows.proofs.Bools.{clash}
use Rattle.store.specs.Layout.{all_words, all_coords}
use Rattle.map.specs.MapFile.{is_map}
use Rattle.map.specs.Tables.{map_of, is_map_tables}
use Rattle.changes.specs.declared.Tally.{Tally}
use Rattle.changes.specs.ChangeFile.{lists_ok}
use Rattle.changes.specs.Layout.{set_words}
use Rattle.changes.specs.Running.{State, fold_ok}
use Rattle.placing.specs.Answers.{checked}
use Rattle.edit.specs.Edit.{Draft, Outcome, finish, call}
use Rattle.edit.specs.StopLine.{add_stop_line}
use Rattle.edit.specs.Light.{add_traffic_signal}
use Rattle.edit.specs.Links.{set_regulatory_links}
use Rattle.edit.specs.Lent.{Lent, state_of, lent_call, answered, is_refused, CallLeft}
use Rattle.finishing.specs.Finish.{lent_checks, planned, steps}
use Rattle.finishing.proofs.CallLaws.{outcome_of, call_is}
use Rattle.run.specs.Run.{Edit, line, signal, links, run_one}
use Rattle.call_list.specs.declared.Reply.{Reply}
use Rattle.call_list.specs.Reply.{reply_of, no_such_call, reply_words, Replied, NoCallReplied}
use Rattle.call_list.specs.Step.{Fitting, Held, held_of, held_after, call_of, StepLeft}
use Rattle.refusal.specs.declared.Refusal.{Refusal}
use Rattle.place.specs.declared.SectionNames.{SectionNames}

-- ---- on slices of the tables' lengths a call is the definition's call on what they stand for

no_map_lem : (o : Option Edit) (s : State) → is_map s.map ≡ false → call_of o s ≡ refused 12 []
unfolding call_of run_one add_stop_line add_traffic_signal set_regulatory_links call
no_map_lem None s q = rw q
no_map_lem (Some (line a)) s q = rw q
no_map_lem (Some (signal a)) s q = rw q
no_map_lem (Some (links a)) s q = rw q

pub lent_run : (o : Option Edit) (l : Lent) → Fitting l → lent_call (call_of o) l ≡ call_of o (state_of l)
unfolding lent_call is_map_tables
lent_run o l f = go (is_map (map_of l.words l.coords)) refl
  where
    go : (b : Bool) → is_map (map_of l.words l.coords) ≡ b → lent_call (call_of o) l ≡ call_of o (state_of l)
    go true q = rw (eq-eqb _ all_words f.words, eq-eqb _ all_coords f.coords, eq-eqb _ set_words f.fold, eq-eqb _ set_words f.set, q)
    go false q = rw (eq-eqb _ all_words f.words, eq-eqb _ all_coords f.coords, q) (sym (no_map_lem o (state_of l) q))

-- ---- what is no call

-- 12 and 13, then an answer of its own
no_call_is : (l : Lent) → lent_call (call_of None) l ≡ (lent_checks l >> refused no_such_call [])
unfolding call_of steps planned
no_call_is l = call_is (λ m. refused no_such_call []) l ∙ go (lent_checks l)
  where
    go : (a : Answer (Unit {0})) → ((a >> refused no_such_call []) >>= (λ (d : Draft). done (outcome_of (state_of l) d))) ≡ (a >> refused no_such_call [])
    go (refused n ds) = refl
    go (done u) = refl

-- it leaves all as it was
pub no_call_held : (h : Held) → held_after h (call_of None h.state) ≡ h
unfolding call_of call
no_call_held h = go (not (is_map h.state.map)) (not (lists_ok h.state.fold && fold_ok h.state))
  where
    go : (a b : Bool) → held_after h (refuse_when a 12 [] >> (refuse_when b 13 [] >> (refused no_such_call [] >>= finish h.state))) ≡ h
    go true b = refl
    go false true = refl
    go false false = refl

-- ---- the outcome of a row

pub step_done : (e : Edit) (old : Lent) (x : Result (ℕ × Option SectionNames) Refusal) (new : Lent) (r : Reply) → CallLeft (run_one e) old x new → Replied x r → StepLeft (Some e) old r new
unfolding call_of
step_done e old x new r h w = record { reply = w.words new ∙ ap reply_of h.answer; held = held x h.answer h.kept; kept = kept x h.kept (w.words new) }
  where
    held : (x : Result (ℕ × Option SectionNames) Refusal) → answered x new ≡ lent_call (run_one e) old → (is_refused x ≡ true → new ≡ old) → held_of new ≡ held_after (held_of old) (lent_call (run_one e) old)
    held (Ok (n, es)) a k = subst (λ (x : Answer Outcome). held_of new ≡ held_after (held_of old) x) a refl
    held (Err y) a k = subst (λ (x : Answer Outcome). held_of new ≡ held_after (held_of old) x) a (ap held_of (k refl))

    kept : (x : Result (ℕ × Option SectionNames) Refusal) → (is_refused x ≡ true → new ≡ old) → reply_words r ≡ reply_of (answered x new) → eqb r.what 0 ≡ false → new ≡ old
    kept (Ok (n, es)) k w q = clash (eq-eqb r.what 0 (ap (λ (l : List ℕ). get_or l 0 0) w)) q
    kept (Err y) k w q = k refl

pub step_none : (old : Lent) (k : Result (Unit {0}) Refusal) (r : Reply) → checked k ≡ lent_checks old → NoCallReplied k r → StepLeft None old r old
step_none old k r e w =
    let a = no_call_is old in
    record { reply = rw (a, ← e) w.words; held = rw a (go (lent_checks old)); kept = λ q. refl }
  where
    go : (a : Answer (Unit {0})) → held_of old ≡ held_after (held_of old) (a >> refused no_such_call [])
    go (refused n ds) = refl
    go (done u) = refl

-- ---- as the code has them: the lent memory taken apart, and the tally by value

abbrev pub lent : List ℕ → List Float → List ℕ → Tally → List ℕ → Lent
lent ws cs f t s = record { words = ws; coords = cs; fold = f; tally = t; set = s }

-- what is shown to be no call
pub none_called : (o : Option Edit) (old : Lent) (r : Reply) (new : Lent) → o ≡ None → StepLeft None old r new → StepLeft o old r new
none_called o old r new p h = rw p h

pub was_called : (o : Option Edit) (e : Edit) (old : Lent) (x : Result (ℕ × Option SectionNames) Refusal) (ws : List ℕ) (cs : List Float) (f : List ℕ) (t : Tally) (s : List ℕ) (r : Reply) (t' : Tally)
    → o ≡ Some e → CallLeft (run_one e) old x (lent ws cs f t s) → Replied x r → t' ≡ t → StepLeft o old r (lent ws cs f t' s)
was_called o e old x ws cs f t s r t' p h w q = rw (p, q) (step_done e old x (lent ws cs f t s) r h w)
