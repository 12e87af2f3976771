-- Reading, writing and opening files.
use Rattle.std.specs.Prelude.{not, [], ◌++◌, ltb, length, drop}
use Rattle.refusal.specs.Answer.{Answer, done, ◌>>=◌, ◌>>◌, refuse_when, present}
use Rattle.codec.specs.Format
use Rattle.codec.specs.Format.{Bytes, file_of}
use Rattle.map.specs.Record.{Map}
use Rattle.map.specs.MapFile.{map_file, is_map}
use Rattle.changes.specs.ChangeSet.{ChangeSet}
use Rattle.changes.specs.ChangeFile.{change_file, is_set}
use Rattle.changes.specs.Running.{State, opening, open_running}

-- ---- reading: the whole of the bytes is the file, or 12, or 13

unfoldable pub read_map : Bytes → Answer Map
read_map s = present (file_of map_file s) 12 []

unfoldable pub read_changes : Bytes → Answer ChangeSet
read_changes s = present (file_of change_file s) 13 []

-- the opening of a run
unfoldable pub open_map : Bytes → Answer State
open_map s = do
  m ← read_map s
  done (opening m)

-- ---- writing: what the buffer holds after it. Bytes after the written form stay.

unfoldable pub put_in : Bytes → Bytes → Answer Bytes
put_in form buffer = do
  refuse_when (ltb (length buffer) (length form)) 14 []
  done (form ++ drop (length form) buffer)

unfoldable pub write_map : Map → Bytes → Answer Bytes
write_map m buffer = do
  refuse_when (not (is_map m)) 12 []
  put_in (map_file.write m) buffer

unfoldable pub write_changes : ChangeSet → Bytes → Answer Bytes
write_changes c buffer = do
  refuse_when (not (is_set c)) 13 []
  put_in (change_file.write c) buffer

unfoldable pub open_files : Unit {0}
unfolding open_running read_map read_changes open_map put_in write_map write_changes
open_files = tt
