-- A list of calls carried out on lent memory, one after another.
use Rattle.std.specs.Prelude.{ℕ, ◌*◌, ◌≡◌, Bool, true, false, List, [], ◌∷◌, ◌++◌, ltb, length, drop, Option, Err, Ok, Result}
use Rattle.refusal.specs.Answer.{Answer, done, refused_as, ◌>>◌, refuse_when}
use Rattle.map.specs.Record.{Map}
use Rattle.map.specs.MapFile.{is_map}
use Rattle.changes.specs.ChangeSet.{ChangeSet}
use Rattle.changes.specs.Layout.{change_set_of}
use Rattle.changes.specs.Running.{State, opening}
use Rattle.edit.specs.Lent.{Lent, state_of}
use Rattle.finishing.specs.Finish.{lent_checks}
use Rattle.run.specs.Run.{Edit, state_after, run_all, sets_of}
use Rattle.run.specs.Law.{RunLaw}
use Rattle.call_list.specs.Reply.{reply_of, reply_length}
use Rattle.call_list.specs.Step.{call_of}
use Rattle.call_list.specs.Rows.{edits_of}
use Rattle.refusal.specs.declared.Refusal.{Refusal}

-- the answers, row by row, each on what the rows before it left
unfoldable pub replies : List (Option Edit) → State → List ℕ
replies [] s = []
replies (row ∷ rows) s = let a = call_of row s in reply_of a ++ replies rows (state_after s a)

-- the change set of the last accepted call, or the one before all of them
unfoldable pub last_set : ChangeSet → List ChangeSet → ChangeSet
last_set c [] = c
last_set c (d ∷ ds) = last_set d ds

abbrev pub ran : Result ℕ Refusal → Answer ℕ
ran (Ok n) = done n
ran (Err x) = refused_as x

abbrev pub is_refused : Result ℕ Refusal → Bool
is_refused (Ok n) = false
is_refused (Err x) = true

-- 14 for a slice of answers that is too short for n rows
unfoldable pub room_answer : ℕ → List ℕ → Answer ℕ
room_answer n answers = do
  refuse_when (ltb (length answers) (n * reply_length)) 14 []
  done n

-- of n rows: 12 and 13 as every call tests them, then 14; else how many were carried out
unfoldable pub run_answer : ℕ → Lent → List ℕ → Answer ℕ
run_answer n l answers = do
  lent_checks l
  room_answer n answers

-- what the rows leave: the definition's state, the change set of the last call that was accepted, and each row's answer in words; the words after stay
pub record RowsLeft (rows : List (Option Edit)) (old : Lent) (answers : List ℕ) (new : Lent) (answers' : List ℕ) : Type 0 where
  pub state : state_of new ≡ run_all (edits_of rows) (state_of old)
  pub set : change_set_of new.set ≡ last_set (change_set_of old.set) (sets_of (edits_of rows) (state_of old))
  pub replied : answers' ≡ replies rows (state_of old) ++ drop (length rows * reply_length) answers

-- the whole outcome of a list of calls
pub record RunLeft (rows : List (Option Edit)) (old : Lent) (answers : List ℕ) (r : Result ℕ Refusal) (new : Lent) (answers' : List ℕ) : Type 0 where
  pub answer : ran r ≡ run_answer (length rows) old answers
  pub left : is_refused r ≡ false → RowsLeft rows old answers new answers'
  -- where the memory is where a run of es from the opening of m ends, the law of every run holds of es and these calls after them
  pub law : is_refused r ≡ false → (m : Map) (es : List Edit) → is_map m ≡ true → state_of old ≡ run_all es (opening m) → RunLaw m (es ++ edits_of rows) (state_of new)
  -- refused, everything is as it was
  pub kept : is_refused r ≡ true → (new ≡ old) × (answers' ≡ answers)
