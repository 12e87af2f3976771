-- Closed cases: the worked map's file, and bytes that are no file, refused whole.
use Prim.Native.Nat.{ℕ, ◌+◌}
use mathlib.Core.Path.{◌≡◌, refl}
use mathlib.Core.Bool.{Bool, true, false, ◌&&◌}
use Rattle.std.specs.Prelude.{None}
use mathlib.Core.List.{[], ◌∷◌, ◌++◌, map}
use lib.ListN.{length, take, drop}
use lib.Ieee.{neg}
use Rattle.refusal.specs.Answer.{Answer, refused, done}
use Rattle.rows.specs.Lists.{list_to, every, same_list}
use Rattle.geometry.specs.Double.{whole, f0}
use Rattle.geometry.specs.Point.{at3}
use Rattle.codec.specs.Format
use Rattle.codec.specs.Format.{Bytes}
use Rattle.map.specs.Record.{Map}
use Rattle.map.specs.MapFile.{map_file}
use Rattle.changes.specs.ChangeSet.{ChangeSet, no_changes}
use Rattle.changes.specs.ChangeFile.{change_file}
use Rattle.files.specs.Files.{read_map, read_changes, write_map, write_changes, open_files}

-- ---- the worked map: lane 3, boundaries 1 and 2, next number 4

abbrev worked : Map
worked =
    record {
      next = 4;
      lanes = record { num = 3; kind = 0; left = record { boundary = 1; reversed = false }; right = record { boundary = 2; reversed = false }; centerline = None } ∷ [];
      boundaries = record { num = 1; geometry = at3 f0 (whole 2) f0 ∷ at3 (whole 10) (whole 2) f0 ∷ [] }
          ∷ record { num = 2; geometry = at3 f0 (neg (whole 2)) f0 ∷ at3 (whole 10) (neg (whole 2)) f0 ∷ [] } ∷ [];
      stop_lines = [];
      signals = [];
      crosswalks = [];
      rules = [];
    }

abbrev file : Bytes
file = 4 ∷ 1 ∷ 3 ∷ 0 ∷ 1 ∷ 0 ∷ 2 ∷ 0 ∷ 0 ∷ 2 ∷ 1 ∷ 2 ∷ 0 ∷ 0 ∷ 0 ∷ 0 ∷ 0 ∷ 0 ∷ 0 ∷ 0 ∷ 0 ∷ 0 ∷ 0 ∷ 0 ∷ 0 ∷ 0 ∷ 0 ∷ 64 ∷ 0 ∷ 0 ∷ 0 ∷ 0 ∷ 0 ∷ 0 ∷ 0 ∷ 0 ∷ 0 ∷ 0 ∷ 0 ∷ 0 ∷ 0 ∷ 0 ∷ 36 ∷ 64 ∷ 0 ∷ 0 ∷ 0 ∷ 0 ∷ 0 ∷ 0 ∷ 0 ∷ 64 ∷ 0 ∷ 0 ∷ 0 ∷ 0 ∷ 0 ∷ 0 ∷ 0 ∷ 0 ∷ 2 ∷ 2 ∷ 0 ∷ 0 ∷ 0 ∷ 0 ∷ 0 ∷ 0 ∷ 0 ∷ 0 ∷ 0 ∷ 0 ∷ 0 ∷ 0 ∷ 0 ∷ 0 ∷ 0 ∷ 192 ∷ 0 ∷ 0 ∷ 0 ∷ 0 ∷ 0 ∷ 0 ∷ 0 ∷ 0 ∷ 0 ∷ 0 ∷ 0 ∷ 0 ∷ 0 ∷ 0 ∷ 36 ∷ 64 ∷ 0 ∷ 0 ∷ 0 ∷ 0 ∷ 0 ∷ 0 ∷ 0 ∷ 192 ∷ 0 ∷ 0 ∷ 0 ∷ 0 ∷ 0 ∷ 0 ∷ 0 ∷ 0 ∷ 0 ∷ 0 ∷ 0 ∷ 0 ∷ []

abbrev again : Answer Map → Bytes
again (refused n ds) = n ∷ ds
again (done m) = map_file.write m

written : same_list (map_file.write worked) file && same_list (again (read_map file)) file ≡ true
unfolding open_files neg
written = refl

-- ---- bytes that are no map file: 12

abbrev is12 : Bytes → Bool
is12 s = same_list (again (read_map s)) (12 ∷ [])

-- cut short at each byte
truncated : every (λ k. is12 (take k file)) (list_to (λ k. k) 114) ≡ true
unfolding open_files
truncated = refl

-- the bytes from i on replaced
abbrev patched : ℕ → Bytes → Bytes
patched i s = take i file ++ s ++ drop (i + length s) file

-- a byte left over; a longer form of the next number; of a count; a next number not above lane 3; a count past the ceiling of lanes, boundaries, points
-- a kind of lane 8; a flag 2; an option 2; the same boundary number twice; boundaries out of order
no_maps : every is12
    ((file ++ (0 ∷ [])) ∷ (0x84 ∷ 0 ∷ drop 1 file) ∷ (take 1 file ++ 0x81 ∷ 0 ∷ drop 2 file) ∷ patched 0 (3 ∷ []) ∷ patched 1 (65 ∷ []) ∷ (take 9 file ++ 0x81 ∷ 1 ∷ drop 10 file) ∷ patched 11 (65 ∷ [])
    ∷ patched 3 (8 ∷ []) ∷ patched 5 (2 ∷ []) ∷ patched 8 (2 ∷ []) ∷ patched 60 (1 ∷ []) ∷ patched 10 (2 ∷ []) ∷ (take 10 file ++ 3 ∷ drop 11 file) ∷ []) ≡ true
unfolding open_files
no_maps = refl

-- coordinate x of the first point: a NaN, both infinities, the first double past 2 ^ 26; 2 ^ 26 itself and -0 are read
coordinates : map (λ s. is12 (patched 12 s))
    ((0 ∷ 0 ∷ 0 ∷ 0 ∷ 0 ∷ 0 ∷ 0xf8 ∷ 0x7f ∷ []) ∷ (0 ∷ 0 ∷ 0 ∷ 0 ∷ 0 ∷ 0 ∷ 0xf0 ∷ 0x7f ∷ []) ∷ (0 ∷ 0 ∷ 0 ∷ 0 ∷ 0 ∷ 0 ∷ 0xf0 ∷ 0xff ∷ []) ∷ (1 ∷ 0 ∷ 0 ∷ 0 ∷ 0 ∷ 0 ∷ 0x90 ∷ 0x41 ∷ [])
    ∷ (0 ∷ 0 ∷ 0 ∷ 0 ∷ 0 ∷ 0 ∷ 0x90 ∷ 0x41 ∷ []) ∷ (0 ∷ 0 ∷ 0 ∷ 0 ∷ 0 ∷ 0 ∷ 0 ∷ 0x80 ∷ []) ∷ [])
    ≡ true ∷ true ∷ true ∷ true ∷ false ∷ false ∷ []
unfolding open_files
coordinates = refl

-- tables alone, next number 4: rule bytes after five empty lists
abbrev rules : Bytes → Bytes
rules s = 4 ∷ 0 ∷ 0 ∷ 0 ∷ 0 ∷ 0 ∷ s

-- rules: kind 0 and 7, a sign type 0, an other kind 0, 17 lanes, rule 4 where 4 is next, rules 2 and 1; then a light, a sign of type 1 and an other of kind 1 that are read
rule_files : map (λ s. is12 (rules s))
    ((1 ∷ 1 ∷ 0 ∷ 0 ∷ 0 ∷ []) ∷ (1 ∷ 1 ∷ 7 ∷ 0 ∷ 0 ∷ []) ∷ (1 ∷ 1 ∷ 2 ∷ 0 ∷ 0 ∷ 0 ∷ 0 ∷ 0 ∷ []) ∷ (1 ∷ 1 ∷ 6 ∷ 0 ∷ 0 ∷ 0 ∷ []) ∷ (1 ∷ 1 ∷ 6 ∷ 1 ∷ 17 ∷ list_to (λ i. i) 17 ++ (0 ∷ [])) ∷ (1 ∷ 4 ∷ 6 ∷ 1 ∷ 0 ∷ 0 ∷ [])
    ∷ (2 ∷ 2 ∷ 6 ∷ 1 ∷ 0 ∷ 0 ∷ 1 ∷ 6 ∷ 1 ∷ 0 ∷ 0 ∷ []) ∷ (1 ∷ 1 ∷ 1 ∷ 1 ∷ 9 ∷ 1 ∷ 7 ∷ 2 ∷ 3 ∷ 3 ∷ 0 ∷ []) ∷ (1 ∷ 0 ∷ 2 ∷ 1 ∷ 0 ∷ 1 ∷ 9 ∷ 1 ∷ 3 ∷ 0 ∷ []) ∷ (1 ∷ 3 ∷ 6 ∷ 1 ∷ 16 ∷ list_to (λ i. i) 16 ++ (0 ∷ [])) ∷ [])
    ≡ true ∷ true ∷ true ∷ true ∷ true ∷ true ∷ true ∷ false ∷ false ∷ false ∷ []
unfolding open_files
rule_files = refl

-- a line string of n points at the origin; tables of boundaries with 64 points each: 1,024 points are read, 1,025 are not
abbrev origins : ℕ → Bytes
origins n = n ∷ Rattle.rows.specs.Lists.joined (λ i. list_to (λ k. 0) 24) (list_to (λ i. i) n)

abbrev full : ℕ → Bytes
full extra = 100 ∷ 0 ∷ 17 ∷ Rattle.rows.specs.Lists.joined (λ i. i ∷ origins 64) (list_to (λ i. i) 16) ++ 16 ∷ origins extra ++ (0 ∷ 0 ∷ 0 ∷ 0 ∷ [])

many_points : is12 (full 0) ∷ is12 (full 1) ∷ [] ≡ false ∷ true ∷ []
unfolding open_files
many_points = refl

-- ---- change set files: 13

abbrev again_set : Answer ChangeSet → Bytes
again_set (refused n ds) = n ∷ ds
again_set (done c) = change_file.write c

abbrev is13 : Bytes → Bool
is13 s = same_list (again_set (read_changes s)) (13 ∷ [])

-- P2's set
abbrev set : Bytes
set = 2 ∷ 6 ∷ 6 ∷ 8 ∷ 7 ∷ 0 ∷ 1 ∷ 8 ∷ 5 ∷ 2 ∷ 3 ∷ 0 ∷ 4 ∷ 8 ∷ 5 ∷ []

set_again : again_set (read_changes set) ≡ set
unfolding open_files
set_again = refl

-- cut short at each byte; left over; out of order; twice; in two lists; kind 0 and 9 as an entry; code 0 and 5; a longer form; 513 entries, 161 warnings
no_sets : every (λ k. is13 (take k set)) (list_to (λ k. k) 15) && every is13
    ((set ++ (0 ∷ [])) ∷ (2 ∷ 8 ∷ 7 ∷ 6 ∷ 6 ∷ 0 ∷ 0 ∷ 0 ∷ []) ∷ (2 ∷ 8 ∷ 7 ∷ 8 ∷ 7 ∷ 0 ∷ 0 ∷ 0 ∷ []) ∷ (1 ∷ 8 ∷ 7 ∷ 1 ∷ 8 ∷ 7 ∷ 0 ∷ 0 ∷ []) ∷ (1 ∷ 0 ∷ 7 ∷ 0 ∷ 0 ∷ 0 ∷ []) ∷ (1 ∷ 9 ∷ 7 ∷ 0 ∷ 0 ∷ 0 ∷ [])
    ∷ (0 ∷ 0 ∷ 0 ∷ 1 ∷ 0 ∷ 0 ∷ []) ∷ (0 ∷ 0 ∷ 0 ∷ 1 ∷ 5 ∷ 0 ∷ []) ∷ (0 ∷ 0 ∷ 0 ∷ 1 ∷ 4 ∷ 9 ∷ 1 ∷ []) ∷ (1 ∷ 8 ∷ 0x87 ∷ 0 ∷ 0 ∷ 0 ∷ 0 ∷ []) ∷ (0x81 ∷ 4 ∷ []) ∷ (0 ∷ 0 ∷ 0 ∷ 0xa1 ∷ 1 ∷ []) ∷ []) ≡ true
unfolding open_files
no_sets = refl

-- ---- writing: 14 for a short buffer, bytes after the written form stay; 12 for a map and 13 for a set that is none, before 14

abbrev bytes_of : Answer Bytes → Bytes
bytes_of (refused n ds) = n ∷ ds
bytes_of (done s) = s

abbrev no_map : Map
no_map = record { next = 3; lanes = worked.lanes; boundaries = []; stop_lines = []; signals = []; crosswalks = []; rules = [] }

abbrev no_set : ChangeSet
no_set = record { created = record { kind = 9; num = 1 } ∷ []; modified = []; deleted = []; warnings = [] }

writing : map bytes_of (write_changes no_changes (9 ∷ 9 ∷ 9 ∷ []) ∷ write_changes no_changes (9 ∷ 9 ∷ 9 ∷ 9 ∷ 9 ∷ []) ∷ write_changes no_set [] ∷ write_map no_map [] ∷ write_map worked [] ∷ [])
    ≡ (14 ∷ []) ∷ (0 ∷ 0 ∷ 0 ∷ 0 ∷ 9 ∷ []) ∷ (13 ∷ []) ∷ (12 ∷ []) ∷ (14 ∷ []) ∷ []
unfolding open_files neg
writing = refl
