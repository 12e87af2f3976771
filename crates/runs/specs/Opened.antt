-- A map file opened, a list of calls carried out on it, and the running fold written as a change set file. What every run promises, for what this code leaves.
use Rattle.std.specs.Prelude.{ℕ, ◌*◌, ◌/◌, ◌≡◌, true, false, not, ◌&&◌, List, [], ◌++◌, eqb, length, drop, Result, Err, Option, Ok}
use Rattle.refusal.specs.Answer.{Answer, done, refused_as, ◌>>◌, refuse_when}
use Rattle.codec.specs.Format
use Rattle.codec.specs.Format.{Bytes}
use Rattle.store.specs.Layout.{all_words, all_coords}
use Rattle.map.specs.Record.{Map}
use Rattle.changes.specs.ChangeFile.{change_file}
use Rattle.changes.specs.Layout.{set_words, change_set_of}
use Rattle.changes.specs.Running.{opening}
use Rattle.refusal.specs.declared.Refusal.{Refusal}
use Rattle.files.specs.Files.{read_map, put_in}
use Rattle.files.specs.WriteOut.{FileWritten}
use Rattle.edit.specs.Lent.{Lent, state_of}
use Rattle.run.specs.Run.{Edit, run_all, sets_of}
use Rattle.run.specs.Law.{RunLaw}
use Rattle.call_list.specs.Reply.{reply_length}
use Rattle.call_list.specs.Rows.{row_words, edits_of}
use Rattle.call_list.specs.Ran.{ran, is_refused, room_answer, replies, last_set}
use Rattle.runs.specs.Loop.{Room}

-- 13 for the slices of fold and set, 14 for the answers of n rows
unfoldable pub sets_answer : ℕ → List ℕ → List ℕ → List ℕ → Answer ℕ
sets_answer n fold set answers = do
  refuse_when (not (eqb (length fold) set_words && eqb (length set) set_words)) 13 []
  room_answer n answers

-- 12 for the map's slices and then for bytes that are no map file, then 13 and 14; else how many rows were carried out
unfoldable pub opened_answer : Bytes → List (Option Edit) → Lent → List ℕ → Answer ℕ
opened_answer file rows l answers = do
  refuse_when (not (eqb (length l.words) all_words && eqb (length l.coords) all_coords)) 12 []
  read_map file
  sets_answer (length rows) l.fold l.set answers

-- what is tested before the file is opened: a refusal of the whole, or the number of rows where only the file may still be refused
pub record Tested (file : Bytes) (calls : List ℕ) (l : Lent) (a : List ℕ) (r : Result ℕ Refusal) : Type 0 where
  pub refusal : (x : Refusal) → r ≡ Err x → (rows : List (Option Edit)) → length rows ≡ length calls / row_words → refused_as x ≡ opened_answer file rows l a
  pub count : (n : ℕ) → r ≡ Ok n → n ≡ length calls / row_words
  pub room : (n : ℕ) → r ≡ Ok n → Room l calls a n

-- for m the map of the file, es the calls among the rows, and s the state that the tables, the fold and the tally stand for at the end
pub record LeftByRun (m : Map) (rows : List (Option Edit)) (old : Lent) (answers buffer : List ℕ) (w : Result ℕ Refusal) (new : Lent) (answers' buffer' : List ℕ) : Type 0 where
  -- s is where the definition's run of es from the opening of m ends
  pub state : state_of new ≡ run_all (edits_of rows) (opening m)
  -- the law of every run holds of m, es and s: the fold and its tally, what it names, the record count, what no call alters, the numbers, the lights
  pub law : RunLaw m (edits_of rows) (state_of new)
  -- the set that is lent holds the change set of the last call that was accepted
  pub set : change_set_of new.set ≡ last_set (change_set_of old.set) (sets_of (edits_of rows) (opening m))
  -- each row has its answer in words; the words after stay
  pub replied : answers' ≡ replies rows (opening m) ++ drop (length rows * reply_length) answers
  -- the buffer begins with the fold's change set file, and the bytes after stay; where it is too short that is 14, and the buffer stays, but the run is carried out
  pub written : FileWritten (put_in (change_file.write (state_of new).fold) buffer) (change_file.write (state_of new).fold) buffer w buffer'

-- the whole outcome
pub record OpenedLeft (file : Bytes) (rows : List (Option Edit)) (old : Lent) (answers buffer : List ℕ) (r : Result ℕ Refusal) (w : Result ℕ Refusal) (new : Lent) (answers' buffer' : List ℕ) : Type 0 where
  pub answer : ran r ≡ opened_answer file rows old answers
  pub left : (m : Map) → is_refused r ≡ false → read_map file ≡ done m → LeftByRun m rows old answers buffer w new answers' buffer'
  -- refused, nothing is altered
  pub kept : is_refused r ≡ true → (new ≡ old) × (answers' ≡ answers) × (buffer' ≡ buffer)
  -- and what is answered of the writing is that refusal
  pub unwritten : (x : Refusal) → r ≡ Err x → w ≡ Err x
