-- What writing a file into a lent buffer leaves.
use Rattle.std.specs.Prelude.{ℕ, ◌≡◌, not, ◌&&◌, List, [], eqb, Float, length, Result, Ok, Err}
use Rattle.refusal.specs.Answer.{Answer, done, refused_as, ◌>>◌, refuse_when}
use Rattle.refusal.specs.declared.Refusal.{Refusal}
use Rattle.codec.specs.Format.{Bytes}
use Rattle.changes.specs.ChangeFile.{change_file}
use Rattle.changes.specs.Layout.{set_words, change_set_of}
use Rattle.store.specs.Layout.{all_words, all_coords}
use Rattle.map.specs.MapFile.{map_file}
use Rattle.map.specs.Tables.{map_of}
use Rattle.files.specs.Files.{write_map, write_changes}

-- the code's answer, with what the buffer holds
abbrev pub written : Result ℕ Refusal → Bytes → Answer Bytes
written (Ok n) b = done b
written (Err x) b = refused_as x

-- how many bytes were written; where the code refused, the buffer is as it was
abbrev pub Left : Result ℕ Refusal → Bytes → Bytes → Bytes → Type 0
Left (Ok n) form old new = n ≡ length form
Left (Err x) form old new = new ≡ old

pub record FileWritten (answer : Answer Bytes) (form old : Bytes) (r : Result ℕ Refusal) (new : Bytes) : Type 0 where
  pub is : written r new ≡ answer
  pub left : Left r form old new

-- a slice of another length is no table of a set: 13
abbrev pub write_set : List ℕ → Bytes → Answer Bytes
write_set t buffer = refuse_when (not (eqb (length t) set_words)) 13 [] >> write_changes (change_set_of t) buffer

abbrev pub ChangesWritten : List ℕ → Bytes → Result ℕ Refusal → Bytes → Type 0
ChangesWritten t old r new = FileWritten (write_set t old) (change_file.write (change_set_of t)) old r new

-- slices of other lengths are no tables: 12
abbrev pub write_tables : List ℕ → List Float → Bytes → Answer Bytes
write_tables ws cs buffer = refuse_when (not (eqb (length ws) all_words && eqb (length cs) all_coords)) 12 [] >> write_map (map_of ws cs) buffer

abbrev pub MapWritten : List ℕ → List Float → Bytes → Result ℕ Refusal → Bytes → Type 0
MapWritten ws cs old r new = FileWritten (write_tables ws cs old) (map_file.write (map_of ws cs)) old r new
