-- What an exported run leaves: its result, the tally as words, and what was written.
use Rattle.std.specs.Prelude.{ℕ, ◌≡◌, true, List, [], ◌∷◌, ◌++◌, length, Result, Ok, Err, Option}
use Rattle.refusal.specs.Refusal.{refusal_number}
use Rattle.refusal.specs.Answer.{Answer, refused, done}
use Rattle.refusal.specs.declared.Refusal.{Refusal}
use Rattle.codec.specs.Format.{Bytes}
use Rattle.map.specs.Record.{Map}
use Rattle.map.specs.MapFile.{is_map}
use Rattle.changes.specs.Running.{opening}
use Rattle.files.specs.Files.{read_map}
use Rattle.edit.specs.Lent.{Lent, state_of}
use Rattle.run.specs.Run.{Edit, run_all}
use Rattle.run.specs.Law.{RunLaw}
use Rattle.call_list.specs.Rows.{edits_of}
use Rattle.call_list.specs.Ran.{run_answer, RowsLeft}
use Rattle.runs.specs.Opened.{opened_answer, LeftByRun}

abbrev pub code_of : Answer ℕ → ℕ
code_of (refused n ds) = n
code_of (done k) = 0

-- 0 where the rows were carried out, and what they leave; else the refusal's number, and everything as it was
pub record RunWritten (rows : List (Option Edit)) (old : Lent) (answers : List ℕ) (r : ℕ) (new : Lent) (answers' : List ℕ) : Type 0 where
  pub result : r ≡ code_of (run_answer (length rows) old answers)
  pub left : r ≡ 0 → RowsLeft rows old answers new answers'
  pub law : r ≡ 0 → (m : Map) (es : List Edit) → is_map m ≡ true → state_of old ≡ run_all es (opening m) → RunLaw m (es ++ edits_of rows) (state_of new)
  pub kept : (r ≡ 0 → ⊥) → (new ≡ old) × (answers' ≡ answers)

-- what was written: 0 and how many bytes, or the refusal's number and 0
abbrev pub written_words : Result ℕ Refusal → List ℕ
written_words (Ok n) = 0 ∷ n ∷ []
written_words (Err x) = refusal_number x ∷ 0 ∷ []

-- a run from the map m, with what it wrote told in two words
pub record RunTold (m : Map) (rows : List (Option Edit)) (old : Lent) (answers buffer : List ℕ) (new : Lent) (answers' buffer' written' : List ℕ) : Type 0 where
  pub what : Result ℕ Refusal
  pub told : written' ≡ written_words what
  pub left : LeftByRun m rows old answers buffer what new answers' buffer'

-- 0 where the file was opened and the rows were carried out, and what they leave; else the refusal's number, and everything as it was
pub record OpenedWritten (file : Bytes) (rows : List (Option Edit)) (old : Lent) (answers buffer written : List ℕ) (r : ℕ) (new : Lent) (answers' buffer' written' : List ℕ) : Type 0 where
  pub result : r ≡ code_of (opened_answer file rows old answers)
  pub left : (m : Map) → r ≡ 0 → read_map file ≡ done m → RunTold m rows old answers buffer new answers' buffer' written'
  pub kept : (r ≡ 0 → ⊥) → (new ≡ old) × (answers' ≡ answers) × (buffer' ≡ buffer) × (written' ≡ written)
