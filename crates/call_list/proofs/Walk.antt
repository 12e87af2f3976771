-- A list of calls, row by row: what is left to do at row i, and what the end is. Assumes nothing.
use Prim.Native.Nat.{ℕ, ◌+◌, ◌-◌, ◌*◌, ◌≤◌, ◌<◌}
use mathlib.Core.Path.{◌≡◌, refl, sym, ap, ◌∙◌}
use Rattle.std.specs.Prelude.{Option, None, Some}
use mathlib.Core.List.{List, [], ◌∷◌, ◌++◌, append_assoc, append-nil}
use lib.ListN.{length, take, drop, length-take, length-append, take-append-drop}
use lib.Seq.{take_all, take_at, drop_at, drop-drop}
use native.Mathlib.Nat.{sub-zero}
use native.Mathlib.Omega.{arith}
use Rattle.refusal.specs.Answer.{Answer, refused, done}
use Rattle.rows.specs.Lists.{list_to, joined}
use Rattle.rows.specs.Rows.{pasted}
use Rattle.rows.proofs.Indexed.{tab, tab_step, tab_none, list_to_tab}
use Rattle.rows.proofs.RowLaws.{length-pasted}
use Rattle.changes.specs.ChangeSet.{ChangeSet}
use Rattle.changes.specs.Running.{State}
use Rattle.edit.specs.Edit.{Outcome}
use Rattle.edit.specs.Lent.{Lent, lent_call}
use Rattle.run.specs.Run.{Edit, run_one, run_all, sets_of, state_after, sets_after}
use Rattle.call_list.specs.declared.Reply.{Reply}
use Rattle.call_list.specs.Reply.{reply_of, reply_length, reply_words}
use Rattle.call_list.specs.Step.{Fitting, Held, held_of, held_after, call_of, StepLeft}
use Rattle.call_list.specs.Rows.{edits_of}
use Rattle.call_list.specs.Ran.{replies, last_set}
use Rattle.call_list.proofs.Replies.{reply_length_lem}
use Rattle.call_list.proofs.Steps.{lent_run, no_call_held}

-- where the rows lead, and their answers
unfoldable pub walk : List (Option Edit) → Held → Held
walk [] h = h
walk (o ∷ rows) h = walk rows (held_after h (call_of o h.state))

unfoldable pub told : List (Option Edit) → Held → List ℕ
told [] h = []
told (o ∷ rows) h = let a = call_of o h.state in reply_of a ++ told rows (held_after h a)

-- ---- the definition's run

after_state : (h : Held) (a : Answer Outcome) → (held_after h a).state ≡ state_after h.state a
after_state h (refused n ds) = refl
after_state h (done o) = refl

after-set : (h : Held) (a : Answer Outcome) (cs : List ChangeSet) → last_set (held_after h a).set cs ≡ last_set h.set (sets_after a ++ cs)
unfolding last_set
after-set h (refused n ds) cs = refl
after-set h (done o) cs = refl

pub walk_state : (rows : List (Option Edit)) (h : Held) → (walk rows h).state ≡ run_all (edits_of rows) h.state
unfolding walk run_all edits_of joined call_of
walk_state [] h = refl
walk_state (None ∷ rows) h = ap (λ (k : Held). (walk rows k).state) (no_call_held h) ∙ walk_state rows h
walk_state (Some e ∷ rows) h = walk_state rows (held_after h (run_one e h.state)) ∙ ap (run_all (edits_of rows)) (after_state h (run_one e h.state))

pub walk_set : (rows : List (Option Edit)) (h : Held) → (walk rows h).set ≡ last_set h.set (sets_of (edits_of rows) h.state)
unfolding walk sets_of edits_of joined last_set call_of
walk_set [] h = refl
walk_set (None ∷ rows) h = ap (λ (k : Held). (walk rows k).set) (no_call_held h) ∙ walk_set rows h
walk_set (Some e ∷ rows) h =
    walk_set rows (held_after h (run_one e h.state))
    ∙ ap (λ (s : State). last_set (held_after h (run_one e h.state)).set (sets_of (edits_of rows) s)) (after_state h (run_one e h.state))
    ∙ after-set h (run_one e h.state) (sets_of (edits_of rows) (state_after h.state (run_one e h.state)))

pub told_replies : (rows : List (Option Edit)) (h : Held) → told rows h ≡ replies rows h.state
unfolding told replies
told_replies [] h = refl
told_replies (o ∷ rows) h =
    let a = call_of o h.state in
    ap (λ (l : List ℕ). reply_of a ++ l) (told_replies rows (held_after h a) ∙ ap (replies rows) (after_state h a))

-- ---- one row further

walk_step : (o : Option Edit) (rows : List (Option Edit)) (old : Lent) (r : Reply) (new : Lent) → Fitting old → StepLeft o old r new
    → walk (o ∷ rows) (held_of old) ≡ walk rows (held_of new)
unfolding walk
walk_step o rows old r new f s = ap (walk rows) (ap (held_after (held_of old)) (sym (lent_run o old f)) ∙ sym s.held)

told_step : (o : Option Edit) (rows : List (Option Edit)) (old : Lent) (r : Reply) (new : Lent) → Fitting old → StepLeft o old r new
    → told (o ∷ rows) (held_of old) ≡ reply_words r ++ told rows (held_of new)
unfolding told
told_step o rows old r new f s =
    ap (λ (a : Answer Outcome). reply_of a ++ told rows (held_after (held_of old) a)) (sym (lent_run o old f))
    ∙ ap (λ (l : List ℕ). l ++ told rows (held_after (held_of old) (lent_call (call_of o) old))) (sym s.reply)
    ∙ ap (λ (h : Held). reply_words r ++ told rows h) (sym s.held)

-- ---- answers as they are stored

module _ (l row : List ℕ) (at : ℕ) (e : length row ≡ reply_length) (h : at + reply_length ≤ length l) where
  before_row : length (take at l) ≡ at
  before_row = simp length-take (omega arith)

  row_end : length (take at l ++ row) ≡ at + reply_length
  row_end = length-append (take at l) row ∙ go before_row
    where
      go : length (take at l) ≡ at → length (take at l) + length row ≡ at + reply_length
      go q = omega (arith, q, e)

  stored_take : take (at + reply_length) (pasted l at row reply_length) ≡ take at l ++ row
  unfolding pasted
  stored_take = rw (take_all reply_length row (omega arith)) (take_at (take at l ++ row) (drop (at + reply_length) l) (at + reply_length) row_end)

  stored_drop : drop (at + reply_length) (pasted l at row reply_length) ≡ drop (at + reply_length) l
  unfolding pasted
  stored_drop = rw (take_all reply_length row (omega arith)) (drop_at (take at l ++ row) (drop (at + reply_length) l) (at + reply_length) row_end)

-- ---- the loop

-- at row i of n: what is left to do from here is what was left at the beginning, and the answers so far stand before those to come
pub record Going (f : ℕ → Option Edit) (n : ℕ) (h : Held) (answers : List ℕ) (i : ℕ) (l : Lent) (answers' : List ℕ) : Type 0 where
  pub at : i ≤ n
  pub fits : Fitting l
  pub held : walk (tab f i (n - i)) (held_of l) ≡ walk (list_to f n) h
  pub words : take (i * reply_length) answers' ++ told (tab f i (n - i)) (held_of l) ≡ told (list_to f n) h
  pub rest : drop (i * reply_length) answers' ≡ drop (i * reply_length) answers
  pub size : length answers' ≡ length answers

pub going_start : (f : ℕ → Option Edit) (n : ℕ) (l : Lent) (answers : List ℕ) → Fitting l → Going f n (held_of l) answers 0 l answers
going_start f n l answers q = record {
  at = omega arith;
  fits = q;
  held = rw (list_to_tab f n, sub-zero);
  words = rw (list_to_tab f n, sub-zero);
  rest = refl;
  size = refl;
}

pub going_on : (f : ℕ → Option Edit) (n : ℕ) (h : Held) (answers : List ℕ) (i : ℕ) (l : Lent) (answers' : List ℕ) (r : Reply) (l' : Lent)
    → n * reply_length ≤ length answers → i < n → Fitting l' → StepLeft (f i) l r l' → Going f n h answers i l answers'
    → Going f n h answers (i + 1) l' (pasted answers' (i * reply_length) (reply_words r) reply_length)
going_on f n h answers i l answers' r l' room q fit s g =
    let e : (i + 1) * reply_length ≡ i * reply_length + reply_length = omega arith in
    let z : i * reply_length + reply_length ≤ length answers' = omega (arith, g.size) in
    record {
      at = omega arith;
      fits = fit;
      held = sym (walk_step (f i) (tab f (i + 1) (n - (i + 1))) l r l' g.fits s) ∙ ap (λ (t : List (Option Edit)). walk t (held_of l)) (sym (tab_step f n i q)) ∙ g.held;
      words =
          rw (e, stored_take answers' (reply_words r) (i * reply_length) (reply_length_lem r) z)
          (append_assoc (take (i * reply_length) answers') (reply_words r) (told (tab f (i + 1) (n - (i + 1))) (held_of l'))
          ∙ ap (λ (t : List ℕ). take (i * reply_length) answers' ++ t) (sym (told_step (f i) (tab f (i + 1) (n - (i + 1))) l r l' g.fits s) ∙ ap (λ (t : List (Option Edit)). told t (held_of l)) (sym (tab_step f n i q)))
          ∙ g.words);
      rest = rw (e, stored_drop answers' (reply_words r) (i * reply_length) (reply_length_lem r) z) (drop_more answers' answers (i * reply_length) g.rest);
      size = length-pasted answers' (i * reply_length) (reply_words r) reply_length z (omega (arith, reply_length_lem r)) ∙ g.size;
    }
  where
    drop_more : (a b : List ℕ) (k : ℕ) → drop k a ≡ drop k b → drop (k + reply_length) a ≡ drop (k + reply_length) b
    drop_more a b k p = sym (drop-drop reply_length k a) ∙ ap (drop reply_length) p ∙ drop-drop reply_length k b

-- the end
pub going_end : (f : ℕ → Option Edit) (n : ℕ) (h : Held) (answers : List ℕ) (i : ℕ) (l : Lent) (answers' : List ℕ) → n ≤ i → Going f n h answers i l answers'
    → (held_of l ≡ walk (list_to f n) h) × (answers' ≡ told (list_to f n) h ++ drop (n * reply_length) answers)
unfolding walk told
going_end f n h answers i l answers' q g =
    let e : i ≡ n = omega (arith, g.at) in
    let None = tab_none f n i q in (
      ap (λ (t : List (Option Edit)). walk t (held_of l)) (sym None) ∙ g.held,
      sym (take-append-drop (i * reply_length) answers')
          ∙ ap (λ (t : List ℕ). t ++ drop (i * reply_length) answers') (sym (append-nil (take (i * reply_length) answers')) ∙ ap (λ (t : List (Option Edit)). take (i * reply_length) answers' ++ told t (held_of l)) (sym None) ∙ g.words)
          ∙ ap (λ (t : List ℕ). told (list_to f n) h ++ t) (g.rest ∙ ap (λ (k : ℕ). drop (k * reply_length) answers) e),
    )
