-- A record is known by kind and number, and present where the tables hold it.
use Prim.Native.Nat.{ℕ, ◌+◌, compare, Ordering}
use Rattle.std.specs.Prelude.{Bool, false, ◌&&◌, ◌||◌, cond, List, [], ◌∷◌, eqb, length, Option, None, Some}
use Rattle.rows.specs.Lists.{by_order}
use Rattle.rows.specs.Table.{find, holds}
use Rattle.codec.specs.Format.{Bytes}
use Rattle.map.specs.Record.{Map}
use Rattle.map.specs.MapFile.{lane, line_string, signal, crosswalk, rule, open_map_file}

-- kinds: lane 1, boundary 2, road 3, junction 4, stop line 5, signal 6, crosswalk 7, rule 8
pub record EntityRef : Type 0 where
  pub kind : ℕ
  pub num : ℕ

abbrev pub entity : ℕ → ℕ → EntityRef
entity k n = record { kind = k; num = n }

-- by kind, then number
unfoldable pub compare_refs : EntityRef → EntityRef → Ordering
compare_refs a b = by_order (compare a.kind b.kind) Ordering.lt (compare a.num b.num) Ordering.gt

unfoldable pub same_ref : EntityRef → EntityRef → Bool
same_ref a b = eqb a.kind b.kind && eqb a.num b.num

unfoldable pub listed : List EntityRef → EntityRef → Bool
listed [] a = false
listed (x ∷ xs) a = same_ref x a || listed xs a

-- whether the map has the record; roads and junctions it never has
unfoldable pub has : Map → EntityRef → Bool
has m a =
    cond (eqb a.kind 1) (holds (λ r. r.num) a.num m.lanes)
    (cond (eqb a.kind 2) (holds (λ r. r.num) a.num m.boundaries)
    (cond (eqb a.kind 5) (holds (λ r. r.num) a.num m.stop_lines)
    (cond (eqb a.kind 6) (holds (λ r. r.num) a.num m.signals)
    (cond (eqb a.kind 7) (holds (λ r. r.num) a.num m.crosswalks)
    (cond (eqb a.kind 8) (holds (λ r. r.num) a.num m.rules) false)))))

unfoldable pub form_in : {A : Type 0} → (A → Bytes) → Option A → Option Bytes
form_in write None = None
form_in write (Some x) = Some (write x)

-- the written form of the record that the map has under a kind and number
unfoldable pub form_of : Map → EntityRef → Option Bytes
form_of m a =
    cond (eqb a.kind 1) (form_in lane.write (find (λ r. r.num) a.num m.lanes))
    (cond (eqb a.kind 2) (form_in line_string.write (find (λ r. r.num) a.num m.boundaries))
    (cond (eqb a.kind 5) (form_in line_string.write (find (λ r. r.num) a.num m.stop_lines))
    (cond (eqb a.kind 6) (form_in signal.write (find (λ r. r.num) a.num m.signals))
    (cond (eqb a.kind 7) (form_in crosswalk.write (find (λ r. r.num) a.num m.crosswalks))
    (cond (eqb a.kind 8) (form_in rule.write (find (λ r. r.num) a.num m.rules)) None)))))

unfoldable pub record_count : Map → ℕ
record_count m =
    length m.lanes + length m.boundaries + length m.stop_lines + length m.signals + length m.crosswalks + length m.rules

unfoldable pub open_entity : Unit {0}
unfolding open_map_file compare_refs same_ref listed has form_in form_of record_count
open_entity = tt
