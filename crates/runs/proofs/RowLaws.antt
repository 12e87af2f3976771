-- One row further in a run, and the run of a list of calls. Assumes nothing.
use Rattle.std.specs.Prelude.{Err, Ok, Result}
use Prim.Native.Nat.{ℕ, ◌+◌, ◌*◌, ◌/◌, ◌≤◌, ◌<◌}
use mathlib.Core.Path.{◌≡◌, sym, ap, subst, ◌∙◌}
use mathlib.Core.List.{List}
use lib.Ieee.{Float}
use lib.ListN.{length}
use native.Mathlib.Nat.{div-add-mod'}
use native.Mathlib.Omega.{arith}
use Rattle.refusal.specs.declared.Refusal.{Refusal}
use Rattle.refusal.specs.Answer.{done}
use Rattle.rows.specs.Lists.{list_to}
use Rattle.rows.specs.Rows.{cut, pasted}
use Rattle.rows.proofs.RowLaws.{length_cut}
use Rattle.edit.specs.Lent.{Lent}
use Rattle.call_list.specs.declared.Reply.{Reply}
use Rattle.call_list.specs.Reply.{reply_length, reply_words}
use Rattle.call_list.specs.Step.{Fitting, Held, held_of, StepLeft}
use Rattle.call_list.specs.Rows.{row_words, call_at, row_at, rows_in}
use Rattle.call_list.specs.Ran.{ran, run_answer, RowsLeft, RunLeft}
use Rattle.call_list.proofs.Walk.{Going, going_start, going_on, going_end}
use Rattle.call_list.proofs.Ends.{all_fit, rows_left, left_refused, left_done}
use Rattle.runs.specs.Loop.{Room}

-- ---- the loop

-- at row i: what is left to do, and what is known from the beginning
pub record Looping (calls lists : List ℕ) (reals : List Float) (n : ℕ) (old : Lent) (a : List ℕ) (i : ℕ) (l : Lent) (a' : List ℕ) : Type 0 where
  pub going : Going (row_at calls lists reals) n (held_of old) a i l a'
  pub room : Room old calls a n

pub first_row : (calls lists : List ℕ) (reals : List Float) (n : ℕ) (old : Lent) (answers : List ℕ) → Room old calls answers n → Looping calls lists reals n old answers 0 old answers
first_row calls lists reals n old answers m = record { going = going_start (row_at calls lists reals) n old answers m.tables; room = m }

next_row' : (calls lists : List ℕ) (reals : List Float) (n : ℕ) (h : Held) (answers : List ℕ) (i : ℕ) (l : Lent) (answers' : List ℕ) (r : Reply) (l' : Lent) (row answers'' : List ℕ)
    → n * reply_length ≤ length answers → i < n → Fitting l' → StepLeft (call_at row lists reals) l r l' → row ≡ cut calls (i * row_words) row_words → answers'' ≡ pasted answers' (i * reply_length) (reply_words r) reply_length
    → Going (row_at calls lists reals) n h answers i l answers' → Going (row_at calls lists reals) n h answers (i + 1) l' answers''
next_row' calls lists reals n h answers i l answers' r l' row answers'' room q fit s e p g =
    subst (λ (a : List ℕ). Going (row_at calls lists reals) n h answers (i + 1) l' a) (sym p)
    (going_on (row_at calls lists reals) n h answers i l answers' r l' room q fit (subst (λ (x : List ℕ). StepLeft (call_at x lists reals) l r l') e s) g)

pub next_row : (calls lists : List ℕ) (reals : List Float) (n : ℕ) (old : Lent) (answers : List ℕ) (i : ℕ) (l : Lent) (answers' : List ℕ) (r : Reply) (l' : Lent) (row answers'' : List ℕ)
    → Looping calls lists reals n old answers i l answers' → i < n → Fitting l' → StepLeft (call_at row lists reals) l r l' → row ≡ cut calls (i * row_words) row_words
    → answers'' ≡ pasted answers' (i * reply_length) (reply_words r) reply_length → Looping calls lists reals n old answers (i + 1) l' answers''
next_row calls lists reals n old answers i l answers' r l' row answers'' g q fit s e p = record {
  going = next_row' calls lists reals n (held_of old) answers i l answers' r l' row answers'' g.room.answers q fit s e p g.going;
  room = g.room;
}

pub last_row : (calls lists : List ℕ) (reals : List Float) (n : ℕ) (old : Lent) (answers : List ℕ) (i : ℕ) (l : Lent) (answers' : List ℕ) → Looping calls lists reals n old answers i l answers' → n ≤ i
    → RowsLeft (list_to (row_at calls lists reals) n) old answers l answers'
last_row calls lists reals n old answers i l answers' g q =
    let e = going_end (row_at calls lists reals) n (held_of old) answers i l answers' q g.going in
    rows_left (row_at calls lists reals) n old answers l answers' e.0 e.1

pub row_words_lem : (calls row : List ℕ) (i n : ℕ) → row ≡ cut calls (i * row_words) row_words → i < n → n * row_words ≤ length calls → length row ≡ row_words
row_words_lem calls row i n e q h = ap length e ∙ length_cut calls (i * 28) 28 (omega arith)

-- ---- a list of calls

pub whole_rows : (n x : ℕ) → n ≡ x / row_words → n * row_words ≤ x
whole_rows n x e = rw e (omega (arith, div-add-mod' x 28))

module _ (calls lists : List ℕ) (reals : List Float) (old : Lent) (answers : List ℕ) (k : Result ℕ Refusal) (h : ran k ≡ run_answer (length calls / row_words) old answers) where
  pub run_refused : (x : Refusal) → k ≡ Err x → RunLeft (rows_in calls lists reals) old answers (Err x) old answers
  unfolding rows_in
  run_refused x e = left_refused (row_at calls lists reals) (length calls / row_words) old answers x (ap ran (sym e) ∙ h)

  counted : (n : ℕ) → k ≡ Ok n → done n ≡ run_answer (length calls / row_words) old answers
  counted n e = ap ran (sym e) ∙ h

  pub run_room : (n : ℕ) → k ≡ Ok n → Room old calls answers n
  run_room n e =
      let f = all_fit old answers (length calls / row_words) n (counted n e) in
      record { tables = f.tables; rows = whole_rows n (length calls) f.count; answers = f.answers }

  pub run_done : (n : ℕ) → k ≡ Ok n → (new : Lent) (answers' : List ℕ) → RowsLeft (list_to (row_at calls lists reals) n) old answers new answers'
      → RunLeft (rows_in calls lists reals) old answers (Ok n) new answers'
  unfolding rows_in
  run_done n e new answers' g = left_done (row_at calls lists reals) (length calls / row_words) old answers n new answers' (counted n e) g
