-- Files read back as they were written, and no map or set has two files: what is read is exactly its written form.
use Prim.Native.Nat.{ℕ}
use mathlib.Core.Path.{◌≡◌}
use mathlib.Core.Bool.{true}
use Rattle.std.specs.Prelude.{Option, None, Some}
use mathlib.Core.List.{[]}
use Rattle.refusal.specs.Answer.{done, present}
use Rattle.codec.specs.Format
use Rattle.codec.specs.Format.{Bytes, file_of, file_there, file_back, same_form_lem}
use Rattle.map.specs.Record.{Map}
use Rattle.map.specs.MapFile.{map_file, is_map}
use Rattle.changes.specs.ChangeSet.{ChangeSet}
use Rattle.changes.specs.ChangeFile.{change_file, is_set}
use Rattle.files.specs.Files.{read_map, read_changes}

present_done : {A : Type 0} (o : Option A) (n : ℕ) (a : A) → present o n [] ≡ done a → o ≡ Some a
present_done None n a h = cc
present_done (Some b) n a h = cc

-- a map that is one is read back as it was written
pub map_there : (m : Map) → is_map m ≡ true → read_map (map_file.write m) ≡ done m
unfolding read_map is_map
map_there m h = rw (file_there map_file m h)

-- bytes that are read as a map are its written form, and the map is one
pub map_back : (s : Bytes) (m : Map) → read_map s ≡ done m → (is_map m ≡ true) × (s ≡ map_file.write m)
unfolding read_map is_map
map_back s m h = file_back map_file s m (present_done (file_of map_file s) 12 m h)

-- one file, one map
pub map_one_form : (m n : Map) → is_map m ≡ true → is_map n ≡ true → map_file.write m ≡ map_file.write n → m ≡ n
unfolding is_map
map_one_form = same_form_lem map_file

pub set_there : (c : ChangeSet) → is_set c ≡ true → read_changes (change_file.write c) ≡ done c
unfolding read_changes is_set
set_there c h = rw (file_there change_file c h)

pub set_back : (s : Bytes) (c : ChangeSet) → read_changes s ≡ done c → (is_set c ≡ true) × (s ≡ change_file.write c)
unfolding read_changes is_set
set_back s c h = file_back change_file s c (present_done (file_of change_file s) 13 c h)

pub set_one_form : (c d : ChangeSet) → is_set c ≡ true → is_set d ≡ true → change_file.write c ≡ change_file.write d → c ≡ d
unfolding is_set
set_one_form = same_form_lem change_file
