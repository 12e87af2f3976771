-- What the exported functions leave: their code, 0 or the refusal's number, and the lent memory.
use Rattle.std.specs.Prelude.{ℕ, ◌≡◌, List, [], ◌∷◌, Float, length, Result, Ok, Err}
use Rattle.refusal.specs.Refusal.{refusal_number}
use Rattle.refusal.specs.Answer.{Answer, refused, done}
use Rattle.refusal.specs.declared.Refusal.{Refusal}
use Rattle.codec.specs.Format
use Rattle.codec.specs.Format.{Bytes}
use Rattle.map.specs.MapFile.{map_file}
use Rattle.map.specs.Tables.{map_of}
use Rattle.changes.specs.ChangeFile.{change_file}
use Rattle.changes.specs.Layout.{change_set_of}
use Rattle.changes.specs.Running.{State}
use Rattle.tally_words.specs.Words.{tally_in}
use Rattle.files.specs.ReadInto.{read_into, read_set}
use Rattle.files.specs.OpenInto.{open_into}
use Rattle.files.specs.WriteOut.{write_tables, write_set}

-- done: code 0, and the memory stands for the definition's result; refused: the refusal's number, and the memory is as it was
abbrev pub Left : {A : Type 0} → Answer A → ℕ → A → Type 0 → Type 0
Left (done a) r result Same = (r ≡ 0) × (result ≡ a)
Left (refused n ds) r result Same = (r ≡ n) × Same

abbrev pub MapReadLeft : Bytes → List ℕ → List Float → ℕ → List ℕ → List Float → Type 0
MapReadLeft s ws cs r ws' cs' = Left (read_into s (length ws) (length cs)) r (map_of ws' cs') ((ws' ≡ ws) × (cs' ≡ cs))

abbrev pub ChangesReadLeft : Bytes → List ℕ → ℕ → List ℕ → Type 0
ChangesReadLeft s t r t' = Left (read_set s (length t)) r (change_set_of t') (t' ≡ t)

abbrev pub state_in : List ℕ → List Float → List ℕ → List ℕ → State
state_in ws cs fs t = record { map = map_of ws cs; fold = change_set_of fs; tally = tally_in t }

abbrev pub MapOpenedLeft : Bytes → List ℕ → List Float → List ℕ → List ℕ → ℕ → List ℕ → List Float → List ℕ → List ℕ → Type 0
MapOpenedLeft s ws cs fs t r ws' cs' fs' t' =
    Left (open_into s (length ws) (length cs) (length fs)) r (state_in ws' cs' fs' t') ((ws' ≡ ws) × (cs' ≡ cs) × (fs' ≡ fs) × (t' ≡ t))

-- ---- writing

abbrev pub code_of : {A : Type 0} → Result A Refusal → ℕ
code_of (Ok a) = 0
code_of (Err x) = refusal_number x

abbrev pub size_of : Result ℕ Refusal → List ℕ → List ℕ
size_of (Ok n) size = n ∷ []
size_of (Err x) size = size

-- done: what the buffer holds, and how many bytes of it are the file; refused: buffer and size as they were
abbrev pub WriteLeft : Answer Bytes → Bytes → Bytes → List ℕ → ℕ → Bytes → List ℕ → Type 0
WriteLeft (done b) form old size r new size' = (r ≡ 0) × (new ≡ b) × (size' ≡ length form ∷ [])
WriteLeft (refused n ds) form old size r new size' = (r ≡ n) × (new ≡ old) × (size' ≡ size)

abbrev pub MapWriteLeft : List ℕ → List Float → Bytes → List ℕ → ℕ → Bytes → List ℕ → Type 0
MapWriteLeft ws cs old size r new size' = WriteLeft (write_tables ws cs old) (map_file.write (map_of ws cs)) old size r new size'

abbrev pub ChangesWriteLeft : List ℕ → Bytes → List ℕ → ℕ → Bytes → List ℕ → Type 0
ChangesWriteLeft t old size r new size' = WriteLeft (write_set t old) (change_file.write (change_set_of t)) old size r new size'
