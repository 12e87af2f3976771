-- What tables that are a map's give to those who read them. Assumes nothing.
use Prim.Native.Nat.{ℕ, zero, suc, ◌+◌, ◌≤◌, ◌<◌}
use mathlib.Core.Path.{◌≡◌}
use mathlib.Core.Bool.{Bool, true, false, ◌&&◌}
use mathlib.Core.Logic.{⊎_elim}
use mathlib.Core.List.{List}
use native.Mathlib.Nat.{eq-or-lt_of_le}
use native.Mathlib.Omega.{arith}
use borrow.Author.Tests.{leb-true, eqb-true, eqb-false}
use lib.Dec.{leb, eqb}
use lib.Ieee.{Float}
use lib.ListN.{length, get_or}
use Rattle.rows.specs.Lists.{every}
use Rattle.rows.proofs.Indexed.{tab, list_to_tab, length-list_to}
use Rattle.store.specs.Layout.{limit_of, count_of, row_of, coords_of, records_of, Sized, all_words, all_coords}
use Rattle.store.proofs.StoreLaws.{length_records}
use Rattle.codec.specs.Format.{◌⊗◌, via, both}
use Rattle.codec.specs.Number.{number, split}
use Rattle.codec.proofs.Fits.{list_few}
use Rattle.map.specs.Ceilings.{body_within, rule_within}
use Rattle.map.specs.MapFile.{polyline, point, lane, line_string, rule, is_map}
use Rattle.map.specs.Tables.{list_at, line_at, lane_in, line_string_in, signal_in, crosswalk_in, body_of, rule_in, map_of, is_map_tables}
use Rattle.map.proofs.Parts.{Parts, map-parts, table_few, table_each, rules_within}

every_left : {A : Type 0} (p : A → Bool) (g : ℕ → A) (i n : ℕ) → every p (tab g i n) ≡ true → (j : ℕ) → i ≤ j → j < i + n → p (g j) ≡ true
unfolding every tab
every_left p g i zero h j a b = absurd (let z : ⊥ = omega arith in z)
every_left p g i (suc n) h j a b =
    let q = both (p (g i)) (every p (tab g (suc i) n)) h in
    split (eqb i j)
    (λ t. rw (← eqb-true i j t) q.0)
    (λ t. every_left p g (suc i) n q.1 j (above t) (omega arith))
  where
    above : eqb i j ≡ false → suc i ≤ j
    above t = let ne = eqb-false i j t in ⊎_elim (λ (e : i ≡ j). absurd (ne e)) (λ (l : i < j). l) (eq-or-lt_of_le a)

-- what holds of every record of a table holds of the one at an index
pub record_at : {A : Type 0} (p : A → Bool) (f : List ℕ → List Float → A) (ws : List ℕ) (cs : List Float) (k : ℕ) → every p (records_of f ws cs k) ≡ true
    → (i : ℕ) → i < count_of ws k → p (f (row_of ws k i) (coords_of cs k i)) ≡ true
unfolding records_of
record_at p f ws cs k h i g =
    every_left p (λ j. f (row_of ws k j) (coords_of cs k j)) 0 (count_of ws k) (rw (list_to_tab (λ j. f (row_of ws k j) (coords_of cs k j)) (count_of ws k)) at h) i (omega arith) (omega arith)

pub record Sound (ws : List ℕ) (cs : List Float) : Type 0 where
  pub sized : Sized ws cs
  pub map : is_map (map_of ws cs) ≡ true

few_of : {A : Type 0} (f : List ℕ → List Float → A) (ws : List ℕ) (cs : List Float) (k n : ℕ) → leb (length (records_of f ws cs k)) n ≡ true → count_of ws k ≤ n
few_of f ws cs k n h = leb-true (count_of ws k) n (rw (length_records f ws cs k) at h)

module _ (ws : List ℕ) (cs : List Float) (h : is_map (map_of ws cs) ≡ true) where
  its_parts : Parts (map_of ws cs)
  its_parts = map-parts (map_of ws cs) h

  counts_few : (k : ℕ) → k < 6 → count_of ws k ≤ limit_of k
  unfolding map_of limit_of
  counts_few zero hk = few_of lane_in ws cs 0 64 (table_few (λ r. r.num) 64 lane _ _ its_parts.lanes)
  counts_few (suc zero) hk = few_of line_string_in ws cs 1 128 (table_few (λ r. r.num) 128 line_string _ _ its_parts.boundaries)
  counts_few (suc (suc zero)) hk = few_of line_string_in ws cs 2 64 (table_few (λ r. r.num) 64 line_string _ _ its_parts.stop_lines)
  counts_few (suc (suc (suc zero))) hk = few_of signal_in ws cs 3 64 (table_few (λ r. r.num) 64 _ _ _ its_parts.signals)
  counts_few (suc (suc (suc (suc zero)))) hk = few_of crosswalk_in ws cs 4 32 (table_few (λ r. r.num) 32 _ _ _ its_parts.crosswalks)
  counts_few (suc (suc (suc (suc (suc zero))))) hk = few_of rule_in ws cs 5 128 (table_few (λ r. r.num) 128 rule _ _ its_parts.rules)
  counts_few (suc (suc (suc (suc (suc (suc k)))))) hk = absurd (let z : ⊥ = omega arith in z)

-- the public test's answer
pub sound : (ws : List ℕ) (cs : List Float) → is_map_tables ws cs ≡ true → Sound ws cs
unfolding is_map_tables
sound ws cs h =
    let a = both (eqb (length ws) all_words && eqb (length cs) all_coords) (is_map (map_of ws cs)) h in
    let b = both (eqb (length ws) all_words) (eqb (length cs) all_coords) a.0 in
    record {
      sized = record { words = record { room = eqb-true (length ws) all_words b.0; counts = counts_few ws cs a.1 }; coords = eqb-true (length cs) all_coords b.1 };
      map = a.1;
    }

-- ---- the counts within a record

list_size : (r : List ℕ) (o : ℕ) → length (list_at r o) ≡ get_or r o 0
unfolding list_at
list_size r o = length-list_to _ (get_or r o 0)

few_in : (r : List ℕ) (o : ℕ) → leb (length (list_at r o)) 16 ≡ true → get_or r o 0 ≤ 16
few_in r o h = leb-true (get_or r o 0) 16 (rw (list_size r o) at h)

module _ (ws : List ℕ) (cs : List Float) (ok : Sound ws cs) (i : ℕ) (here : i < count_of ws 5) where
  its_rule : rule_within (rule_in (row_of ws 5 i) (coords_of cs 5 i)) ≡ true
  unfolding map_of
  its_rule = record_at rule_within rule_in ws cs 5 (rules_within (map_of ws cs) ok.map) i here

  split_rule : (body_within (body_of (get_or (row_of ws 5 i) 1 0) (row_of ws 5 i) (coords_of cs 5 i)) ≡ true) × ((leb (length (list_at (row_of ws 5 i) 7)) 16 ≡ true) × (leb (length (list_at (row_of ws 5 i) 24)) 16 ≡ true))
  unfolding rule_within rule_in
  split_rule =
      let l = leb (length (list_at (row_of ws 5 i) 7)) 16 in
      let c = leb (length (list_at (row_of ws 5 i) 24)) 16 in
      let w = body_within (body_of (get_or (row_of ws 5 i) 1 0) (row_of ws 5 i) (coords_of cs 5 i)) in
      let a = both (w && l) c its_rule in
      let b = both w l a.0 in
      (b.0, (b.1, a.1))

  pub lanes_few : get_or (row_of ws 5 i) 7 0 ≤ 16
  lanes_few = few_in (row_of ws 5 i) 7 split_rule.1.0

  pub controlled_few : get_or (row_of ws 5 i) 24 0 ≤ 16
  controlled_few = few_in (row_of ws 5 i) 24 split_rule.1.1

  pub signals_few : get_or (row_of ws 5 i) 1 0 ≡ 1 → get_or (row_of ws 5 i) 41 0 ≤ 16
  unfolding body_within
  signals_few e = few_in (row_of ws 5 i) 41 (rw e at split_rule.0)

  pub lines_few : get_or (row_of ws 5 i) 1 0 ≡ 5 → get_or (row_of ws 5 i) 75 0 ≤ 16
  unfolding body_within
  lines_few e = few_in (row_of ws 5 i) 75 (rw e at split_rule.0)

line_size : (c : List Float) (o n : ℕ) → length (line_at c o n) ≡ n
unfolding line_at
line_size c o n = length-list_to _ n

points_few : (c : List Float) (o n : ℕ) → polyline.fits (line_at c o n) ≡ true → n ≤ 64
unfolding polyline
points_few c o n h = leb-true n 64 (rw (line_size c o n) at (list_few 64 point (line_at c o n) h))

string_few : (r : List ℕ) (c : List Float) → line_string.fits (line_string_in r c) ≡ true → get_or r 1 0 ≤ 64
unfolding line_string via ◌⊗◌ line_string_in
string_few r c h = points_few c 0 (get_or r 1 0) (both (number.fits (get_or r 0 0)) (polyline.fits (line_at c 0 (get_or r 1 0))) h).1

module _ (ws : List ℕ) (cs : List Float) (ok : Sound ws cs) (i : ℕ) where
  pub boundary_few : i < count_of ws 1 → get_or (row_of ws 1 i) 1 0 ≤ 64
  unfolding map_of
  boundary_few here =
      string_few (row_of ws 1 i) (coords_of cs 1 i)
      (record_at line_string.fits line_string_in ws cs 1 (table_each (λ r. r.num) 128 line_string _ _ (map-parts (map_of ws cs) ok.map).boundaries) i here)

  pub line_few : i < count_of ws 2 → get_or (row_of ws 2 i) 1 0 ≤ 64
  unfolding map_of
  line_few here =
      string_few (row_of ws 2 i) (coords_of cs 2 i)
      (record_at line_string.fits line_string_in ws cs 2 (table_each (λ r. r.num) 64 line_string _ _ (map-parts (map_of ws cs) ok.map).stop_lines) i here)
