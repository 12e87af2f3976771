-- The tables of a map can be read.
use Prim.Native.Nat.{ℕ, zero, suc, ◌+◌, ◌≤◌, ◌<◌}
use mathlib.Core.Path.{◌≡◌, refl}
use mathlib.Core.Bool.{Bool, true, false}
use mathlib.Core.List.{List}
use native.Mathlib.Omega.{arith}
use lib.Dec.{eqb, leb}
use lib.Ieee.{Float}
use lib.ListN.{length, get_or}
use borrow.Author.Tests.{leb-true, eqb-true, eqb-false}
use Rattle.rows.specs.Lists.{every, list_to}
use Rattle.rows.proofs.Bools.{parts}
use Rattle.rows.proofs.Indexed.{length-list_to, tab, list_to_tab}
use Rattle.codec.specs.Format.{◌⊗◌, via}
use Rattle.codec.specs.Number.{number}
use Rattle.codec.specs.Items.{option}
use Rattle.codec.proofs.Fits.{list_few, fits_option}
use Rattle.store.specs.Layout.{limit_of, count_of, row_of, coords_of, records_of, all_words, all_coords}
use Rattle.store.proofs.StoreLaws.{length_records}
use Rattle.map.specs.Record.{Lane, LineString, Signal, Crosswalk, Rule}
use Rattle.map.specs.Ceilings.{max_lanes, max_boundaries, max_stop_lines, max_signals, max_crosswalks, max_rules, max_line_points, max_rule_entries}
use Rattle.map.specs.MapFile.{point, polyline, numbers, lane, line_string, signal, crosswalk, rule}
use Rattle.map.specs.Tables.{flag_at, list_at, line_at, lane_in, line_string_in, signal_in, crosswalk_in, rule_in, map_of, is_map_tables}
use Rattle.map.proofs.Parts.{Parts, map-parts, table_each, table_few}
use Rattle.place.specs.Readable.{ReadableWords, Readable}

-- ---- lists by index

module _ {A : Type 0} (p : A → Bool) (f : ℕ → A) where
  every_from : (i n k : ℕ) → every p (tab f i n) ≡ true → i ≤ k → k < i + n → p (f k) ≡ true
  unfolding every tab
  every_from i zero k h a b = absurd (let z : ⊥ = omega arith in z)
  every_from i (suc n) k h a b = go (eqb i k) refl (λ l. every_from (suc i) n k (search parts) l (omega arith))
    where
      go : (t : Bool) → eqb i k ≡ t → (suc i ≤ k → p (f k) ≡ true) → p (f k) ≡ true
      go true e rest = let q = eqb-true i k e in rw (← q) (search parts)
      go false e rest = let q = eqb-false i k e in rest (omega (arith, q))

  every_at : (n k : ℕ) → every p (list_to f n) ≡ true → k < n → p (f k) ≡ true
  every_at n k h l = every_from 0 n k (rw (list_to_tab f n) at h) (omega arith) (omega arith)

-- ---- one record

few : {A : Type 0} (n : ℕ) (f : ℕ → A) (m : ℕ) → leb (length (list_to f n)) m ≡ true → n ≤ m
few n f m h = let l : length (list_to f n) ≤ m = leb-true (length (list_to f n)) m h in omega (arith, length-list_to f n)

line_few : (c : List Float) (o n : ℕ) → polyline.fits (line_at c o n) ≡ true → n ≤ 64
unfolding polyline line_at
line_few c o n h = few n _ 64 (list_few max_line_points point _ h)

numbers_few : (r : List ℕ) (o : ℕ) → numbers.fits (list_at r o) ≡ true → get_or r o 0 ≤ 16
unfolding numbers list_at
numbers_few r o h = few (get_or r o 0) _ 16 (list_few max_rule_entries number _ h)

module _ (r : List ℕ) (c : List Float) where
  center_fits : (l : Lane) → lane.fits l ≡ true → (option polyline).fits l.centerline ≡ true
  unfolding lane via ◌⊗◌
  center_fits l h = search parts depth 8

  center_few : lane.fits (lane_in r c) ≡ true → flag_at r 6 ≡ true → get_or r 7 0 ≤ 64
  unfolding lane_in
  center_few h t = line_few c 0 (get_or r 7 0) (fits_option polyline (line_at c 0 (get_or r 7 0)) (rw t at (center_fits (lane_in r c) h)))

  geometry_fits : (d : LineString) → line_string.fits d ≡ true → polyline.fits d.geometry ≡ true
  unfolding line_string via ◌⊗◌
  geometry_fits d h = search parts depth 8

  geometry_few : line_string.fits (line_string_in r c) ≡ true → get_or r 1 0 ≤ 64
  unfolding line_string_in
  geometry_few h = line_few c 0 (get_or r 1 0) (geometry_fits (line_string_in r c) h)

  lanes_fit : (x : Rule) → rule.fits x ≡ true → numbers.fits x.lanes ≡ true
  unfolding rule via ◌⊗◌
  lanes_fit x h = search parts depth 8

  controlled_fit : (x : Rule) → rule.fits x ≡ true → numbers.fits x.controlled ≡ true
  unfolding rule via ◌⊗◌
  controlled_fit x h = search parts depth 8

  lanes_few : rule.fits (rule_in r c) ≡ true → get_or r 7 0 ≤ 16
  unfolding rule_in
  lanes_few h = numbers_few r 7 (lanes_fit (rule_in r c) h)

  controlled_few : rule.fits (rule_in r c) ≡ true → get_or r 24 0 ≤ 16
  unfolding rule_in
  controlled_few h = numbers_few r 24 (controlled_fit (rule_in r c) h)

-- ---- the tables

module _ (ws : List ℕ) (cs : List Float) where
  count_few : {A : Type 0} (f : List ℕ → List Float → A) (k n : ℕ) → leb (length (records_of f ws cs k)) n ≡ true → count_of ws k ≤ n
  count_few f k n h = let l : length (records_of f ws cs k) ≤ n = leb-true (length (records_of f ws cs k)) n h in omega (arith, length_records f ws cs k)

  each : {A : Type 0} (p : A → Bool) (f : List ℕ → List Float → A) (k i : ℕ) → every p (records_of f ws cs k) ≡ true → i < count_of ws k → p (f (row_of ws k i) (coords_of cs k i)) ≡ true
  unfolding records_of
  each p f k i h l = every_at p _ (count_of ws k) i h l

  counts : Parts (map_of ws cs) → (k : ℕ) → k < 6 → count_of ws k ≤ limit_of k
  unfolding map_of limit_of
  counts p zero h = count_few lane_in 0 64 (table_few (λ (x : Lane). x.num) max_lanes lane _ _ p.lanes)
  counts p (suc zero) h = count_few line_string_in 1 128 (table_few (λ (x : LineString). x.num) max_boundaries line_string _ _ p.boundaries)
  counts p (suc (suc zero)) h = count_few line_string_in 2 64 (table_few (λ (x : LineString). x.num) max_stop_lines line_string _ _ p.stop_lines)
  counts p (suc (suc (suc zero))) h = count_few signal_in 3 64 (table_few (λ (x : Signal). x.num) max_signals signal _ _ p.signals)
  counts p (suc (suc (suc (suc zero)))) h = count_few crosswalk_in 4 32 (table_few (λ (x : Crosswalk). x.num) max_crosswalks crosswalk _ _ p.crosswalks)
  counts p (suc (suc (suc (suc (suc zero))))) h = count_few rule_in 5 128 (table_few (λ (x : Rule). x.num) max_rules rule _ _ p.rules)
  counts p (suc (suc (suc (suc (suc (suc k)))))) h = absurd (let z : ⊥ = omega arith in z)

  words_read : length ws ≡ all_words → Parts (map_of ws cs) → ReadableWords ws
  unfolding map_of
  words_read l p =
      record {
        sized = record { room = l; counts = counts p };
        center = λ i h t. center_few _ (coords_of cs 0 i) (each lane.fits lane_in 0 i (table_each (λ (x : Lane). x.num) max_lanes lane _ _ p.lanes) h) t;
        boundary = λ i h. geometry_few _ (coords_of cs 1 i) (each line_string.fits line_string_in 1 i (table_each (λ (x : LineString). x.num) max_boundaries line_string _ _ p.boundaries) h);
        line = λ i h. geometry_few _ (coords_of cs 2 i) (each line_string.fits line_string_in 2 i (table_each (λ (x : LineString). x.num) max_stop_lines line_string _ _ p.stop_lines) h);
        lanes = λ i h. lanes_few _ (coords_of cs 5 i) (each rule.fits rule_in 5 i (table_each (λ (x : Rule). x.num) max_rules rule _ _ p.rules) h);
        controlled = λ i h. controlled_few _ (coords_of cs 5 i) (each rule.fits rule_in 5 i (table_each (λ (x : Rule). x.num) max_rules rule _ _ p.rules) h);
      }

  pub readable : is_map_tables ws cs ≡ true → Readable ws cs
  unfolding is_map_tables
  readable h =
      record {
        words = words_read (eqb-true (length ws) all_words (search parts)) (map-parts (map_of ws cs) (search parts));
        coords = eqb-true (length cs) all_coords (search parts);
      }
