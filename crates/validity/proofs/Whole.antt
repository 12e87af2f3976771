-- All tests together are that the tables are those of a map. Assumes nothing.
use Prim.Native.Nat.{ℕ, zero, suc, ◌+◌, ◌*◌, ◌^◌, ◌≤◌, ◌<◌}
use mathlib.Core.Path.{◌≡◌, refl, sym, ap, ◌∙◌}
use mathlib.Core.Bool.{Bool, true, false, not, ◌&&◌, cond}
use Rattle.std.specs.Prelude.{None, Some}
use mathlib.Core.List.{List}
use native.Mathlib.Omega.{arith}
use native.Mathlib.Nat.{eq-or-lt_of_le}
use mathlib.Core.Logic.{⊎_elim}
use borrow.Author.Tests.{leb-true, eq-eqb, eqb-true, eqb-false, ne_eqb}
use lib.Dec.{T, leb, ltb, eqb}
use lib.Ieee.{Float, nan, binary64, fits}
use lib.ListN.{length, get_or}
use Rattle.rows.specs.Lists.{every, list_to, total}
use Rattle.rows.specs.Table.{rising}
use Rattle.rows.specs.Rows.{cut, numbers_at}
use Rattle.rows.proofs.Indexed.{tab, list_to_tab, length-list_to}
use Rattle.store.specs.Layout.{limit_of, width_of, base_of, place_of, count_of, next_of, row_of, coords_of, records_of, SizedWords, all_words, all_coords}
use Rattle.store.proofs.StoreLaws.{length_records}
use Rattle.store.proofs.FindLaws.{rising_record}
use Rattle.codec.specs.Format.{Format, ◌⊗◌, via, only, tagged, both}
use Rattle.codec.specs.Number.{split}
use Rattle.map.specs.Ceilings.{size_of, lane_points, line_string_points, signal_points, crosswalk_points, body_points, rule_points, points, max_points}
use Rattle.map.specs.MapFile.{lane, line_string, signal, crosswalk, rule, table, tables, map_file, is_map}
use Rattle.map.specs.Tables.{flag_at, line_at, lane_in, line_string_in, signal_in, crosswalk_in, body_of, rule_in, map_of, is_map_tables}
use Rattle.map.proofs.SoundLaws.{sound}
use Rattle.map.proofs.ReadLaws.{get_or_row, lane_number, line_number, signal_number, crosswalk_number, rule_number_lem}
use Rattle.row_tests.specs.Flat as flat
use Rattle.row_tests.specs.Flat.{good_line, good_lane, good_string, good_signal, good_crosswalk, good_body, good_rule, good_row, good_rows, good_order, good_table, good_tables, good_counts, row_points, table_points, all_points, Few}
use Rattle.validity.proofs.Numbers.{and_true, every_same, number_true, list_is}
use Rattle.validity.proofs.Records.{lane_is, boundary_is, line_string_is, signal_is, crosswalk_is, rule_is}

-- ---- points

total_tab : {A : Type 0} (f : A → ℕ) (g : ℕ → A) (h : ℕ → ℕ) (i n : ℕ) → ((j : ℕ) → f (g j) ≡ h j) → total f (tab g i n) ≡ total (λ m. m) (tab h i n)
unfolding total tab
total_tab f g h i zero e = refl
total_tab f g h i (suc n) e = rw (e i, total_tab f g h (suc i) n e)

records_points : {A : Type 0} (f : A → ℕ) (make : List ℕ → List Float → A) (ws : List ℕ) (cs : List Float) (k : ℕ)
    → ((i : ℕ) → f (make (row_of ws k i) (coords_of cs k i)) ≡ row_points k ws i) → total f (records_of make ws cs k) ≡ table_points ws k
unfolding records_of table_points
records_points f make ws cs k e =
    rw (list_to_tab (λ i. make (row_of ws k i) (coords_of cs k i)) (count_of ws k), list_to_tab (row_points k ws) (count_of ws k))
    (total_tab f (λ i. make (row_of ws k i) (coords_of cs k i)) (row_points k ws) 0 (count_of ws k) e)

length_line : (c : List Float) (o n : ℕ) → length (line_at c o n) ≡ n
unfolding line_at
length_line c o n = length-list_to _ n

size_is : (b : Bool) (c : List Float) (o n : ℕ) → size_of length (cond b (Some (line_at c o n)) None) ≡ cond b n 0
unfolding size_of
size_is true c o n = length_line c o n
size_is false c o n = refl

module _ (ws : List ℕ) (cs : List Float) (i : ℕ) where
  lane_points_lem : lane_points (lane_in (row_of ws 0 i) (coords_of cs 0 i)) ≡ row_points 0 ws i
  unfolding lane_points lane_in flag_at place_of base_of width_of
  lane_points_lem = size_is (not (eqb (get_or (row_of ws 0 i) 6 0) 0)) (coords_of cs 0 i) 0 (get_or (row_of ws 0 i) 7 0) ∙ rw (get_or_row ws 0 i 6 (omega arith), get_or_row ws 0 i 7 (omega arith))

  boundary_points : line_string_points (line_string_in (row_of ws 1 i) (coords_of cs 1 i)) ≡ row_points 1 ws i
  unfolding line_string_points line_string_in place_of base_of width_of
  boundary_points = length_line (coords_of cs 1 i) 0 (get_or (row_of ws 1 i) 1 0) ∙ get_or_row ws 1 i 1 (omega arith)

  line_points_lem : line_string_points (line_string_in (row_of ws 2 i) (coords_of cs 2 i)) ≡ row_points 2 ws i
  unfolding line_string_points line_string_in place_of base_of width_of
  line_points_lem = length_line (coords_of cs 2 i) 0 (get_or (row_of ws 2 i) 1 0) ∙ get_or_row ws 2 i 1 (omega arith)

  signal_points_lem : signal_points (signal_in (row_of ws 3 i) (coords_of cs 3 i)) ≡ row_points 3 ws i
  unfolding signal_points signal_in place_of base_of width_of
  signal_points_lem = length_line (coords_of cs 3 i) 0 (get_or (row_of ws 3 i) 2 0) ∙ get_or_row ws 3 i 2 (omega arith)

  crosswalk_points_lem : crosswalk_points (crosswalk_in (row_of ws 4 i) (coords_of cs 4 i)) ≡ row_points 4 ws i
  unfolding crosswalk_points crosswalk_in flag_at flat.crosswalk_points place_of base_of width_of
  crosswalk_points_lem =
      rw (
        length_line (coords_of cs 4 i) 0 (get_or (row_of ws 4 i) 1 0),
        length_line (coords_of cs 4 i) 192 (get_or (row_of ws 4 i) 2 0),
        size_is (not (eqb (get_or (row_of ws 4 i) 3 0) 0)) (coords_of cs 4 i) 384 (get_or (row_of ws 4 i) 4 0),
        get_or_row ws 4 i 1 (omega arith),
        get_or_row ws 4 i 2 (omega arith),
        get_or_row ws 4 i 3 (omega arith),
        get_or_row ws 4 i 4 (omega arith),
      )

  shape_points : (k : ℕ) (r : List ℕ) (c : List Float) → body_points (body_of k r c) ≡ cond (eqb k 2 && not (eqb (get_or r 5 0) 0)) (get_or r 6 0) 0
  unfolding body_points flag_at
  shape_points zero r c = refl
  shape_points (suc zero) r c = refl
  shape_points (suc (suc zero)) r c = size_is (not (eqb (get_or r 5 0) 0)) c 0 (get_or r 6 0)
  shape_points (suc (suc (suc zero))) r c = refl
  shape_points (suc (suc (suc (suc zero)))) r c = refl
  shape_points (suc (suc (suc (suc (suc zero))))) r c = refl
  shape_points (suc (suc (suc (suc (suc (suc zero)))))) r c = refl
  shape_points (suc (suc (suc (suc (suc (suc (suc k))))))) r c = rw (ne_eqb (suc (suc (suc (suc (suc (suc (suc k))))))) 2 (omega arith))

  rule_points_lem : rule_points (rule_in (row_of ws 5 i) (coords_of cs 5 i)) ≡ row_points 5 ws i
  unfolding rule_points rule_in place_of base_of width_of
  rule_points_lem =
      shape_points (get_or (row_of ws 5 i) 1 0) (row_of ws 5 i) (coords_of cs 5 i)
      ∙ rw (get_or_row ws 5 i 1 (omega arith), get_or_row ws 5 i 5 (omega arith), get_or_row ws 5 i 6 (omega arith))

six_sum : (a b c d e f : ℕ) → a + b + c + d + e + f ≡ a + (b + (c + (d + (e + (f + 0)))))
six_sum a b c d e f = omega arith

pub points_are : (ws : List ℕ) (cs : List Float) → points (map_of ws cs) ≡ all_points ws
unfolding points map_of all_points total list_to
points_are ws cs =
    rw (
      records_points lane_points lane_in ws cs 0 (lane_points_lem ws cs),
      records_points line_string_points line_string_in ws cs 1 (boundary_points ws cs),
      records_points line_string_points line_string_in ws cs 2 (line_points_lem ws cs),
      records_points signal_points signal_in ws cs 3 (signal_points_lem ws cs),
      records_points crosswalk_points crosswalk_in ws cs 4 (crosswalk_points_lem ws cs),
      records_points rule_points rule_in ws cs 5 (rule_points_lem ws cs),
    )
    (six_sum _ _ _ _ _ _)

-- ---- tables

swap : (g r : Bool) → g && r ≡ r && g
swap true r = sym (and_true r)
swap false true = refl
swap false false = refl

table_is : {A : Type 0} (num : A → ℕ) (make : List ℕ → List Float → A) (f : Format A) (first : (r : List ℕ) (c : List Float) → num (make r c) ≡ get_or r 0 0)
    (ws : List ℕ) (cs : List Float) (k max : ℕ) → k < 6 → max ≡ limit_of k → max < 2 ^ 64
    → ((i : ℕ) → i < limit_of k → f.fits (make (row_of ws k i) (coords_of cs k i)) ≡ good_row k ws cs i)
    → (table num max f (next_of ws)).fits (records_of make ws cs k) ≡ leb (count_of ws k) (limit_of k) && good_table ws cs k
unfolding table only good_table good_order good_rows records_of
table_is num make f first ws cs k max hk em hm each =
    rw (
      list_is max f (records_of make ws cs k) hm,
      length_records make ws cs k,
      em,
      rising_record num make first ws cs k hk 0 (next_of ws),
    )
    (split (leb (count_of ws k) (limit_of k))
    (λ t. let h : count_of ws k ≤ limit_of k = leb-true (count_of ws k) (limit_of k) t in
    rw (t, every_same f.fits (λ i. make (row_of ws k i) (coords_of cs k i)) (good_row k ws cs) (count_of ws k) (λ i g. each i (omega arith)))
    (swap (every (λ b. b) (list_to (good_row k ws cs) (count_of ws k))) (rising (λ x. x) 0 (next_of ws) (numbers_at ws (width_of k) (count_of ws k) (base_of k)))))
    (λ t. rw t))

shuffle : (l g ls gs : Bool) → (l && g) && (ls && gs) ≡ (l && ls) && (g && gs)
shuffle true true ls gs = refl
shuffle true false true gs = refl
shuffle true false false gs = refl
shuffle false g ls gs = refl

and_assoc : (a b c : Bool) → (a && b) && c ≡ a && (b && c)
and_assoc true b c = refl
and_assoc false b c = refl

six : (l0 g0 l1 g1 l2 g2 l3 g3 l4 g4 l5 g5 p : Bool)
    → ((l0 && g0) && ((l1 && g1) && ((l2 && g2) && ((l3 && g3) && ((l4 && g4) && (l5 && g5)))))) && p
    ≡ (l0 && (l1 && (l2 && (l3 && (l4 && (l5 && true)))))) && ((g0 && (g1 && (g2 && (g3 && (g4 && (g5 && true)))))) && p)
six l0 g0 l1 g1 l2 g2 l3 g3 l4 g4 l5 g5 p =
    let e5 : l5 && g5 ≡ (l5 && true) && (g5 && true) = rw (and_true l5, and_true g5) in
    let e4 = ap (λ x. (l4 && g4) && x) e5 ∙ shuffle l4 g4 (l5 && true) (g5 && true) in
    let e3 = ap (λ x. (l3 && g3) && x) e4 ∙ shuffle l3 g3 (l4 && (l5 && true)) (g4 && (g5 && true)) in
    let e2 = ap (λ x. (l2 && g2) && x) e3 ∙ shuffle l2 g2 (l3 && (l4 && (l5 && true))) (g3 && (g4 && (g5 && true))) in
    let e1 = ap (λ x. (l1 && g1) && x) e2 ∙ shuffle l1 g1 (l2 && (l3 && (l4 && (l5 && true)))) (g2 && (g3 && (g4 && (g5 && true)))) in
    let e0 = ap (λ x. (l0 && g0) && x) e1 ∙ shuffle l0 g0 (l1 && (l2 && (l3 && (l4 && (l5 && true))))) (g1 && (g2 && (g3 && (g4 && (g5 && true))))) in
    ap (λ x. x && p) e0 ∙ and_assoc (l0 && (l1 && (l2 && (l3 && (l4 && (l5 && true)))))) (g0 && (g1 && (g2 && (g3 && (g4 && (g5 && true)))))) p

-- ---- the map

next_small : (ws : List ℕ) → ((j : ℕ) → get_or ws j 0 < 2 ^ 64) → next_of ws < 2 ^ 64
unfolding next_of
next_small ws small = small 0

module _ (ws : List ℕ) (small : (j : ℕ) → get_or ws j 0 < 2 ^ 64) (room : length ws ≡ all_words) (cs : List Float) (held : (j : ℕ) → T (fits binary64 (get_or cs j nan))) (long : length cs ≡ all_coords) where
  lanes_are : (table (λ r. r.num) 64 lane (next_of ws)).fits (records_of lane_in ws cs 0) ≡ leb (count_of ws 0) (limit_of 0) && good_table ws cs 0
  unfolding limit_of
  lanes_are = table_is (λ r. r.num) lane_in lane lane_number ws cs 0 64 (omega arith) refl (omega arith) (λ i h. lane_is ws small room cs held long i h)

  boundaries_are : (table (λ r. r.num) 128 line_string (next_of ws)).fits (records_of line_string_in ws cs 1) ≡ leb (count_of ws 1) (limit_of 1) && good_table ws cs 1
  unfolding limit_of
  boundaries_are = table_is (λ r. r.num) line_string_in line_string line_number ws cs 1 128 (omega arith) refl (omega arith) (λ i h. boundary_is ws small room cs held long i h)

  lines_are : (table (λ r. r.num) 64 line_string (next_of ws)).fits (records_of line_string_in ws cs 2) ≡ leb (count_of ws 2) (limit_of 2) && good_table ws cs 2
  unfolding limit_of
  lines_are = table_is (λ r. r.num) line_string_in line_string line_number ws cs 2 64 (omega arith) refl (omega arith) (λ i h. line_string_is ws small room cs held long i h)

  signals_are : (table (λ r. r.num) 64 signal (next_of ws)).fits (records_of signal_in ws cs 3) ≡ leb (count_of ws 3) (limit_of 3) && good_table ws cs 3
  unfolding limit_of
  signals_are = table_is (λ r. r.num) signal_in signal signal_number ws cs 3 64 (omega arith) refl (omega arith) (λ i h. signal_is ws small room cs held long i h)

  crosswalks_are : (table (λ r. r.num) 32 crosswalk (next_of ws)).fits (records_of crosswalk_in ws cs 4) ≡ leb (count_of ws 4) (limit_of 4) && good_table ws cs 4
  unfolding limit_of
  crosswalks_are = table_is (λ r. r.num) crosswalk_in crosswalk crosswalk_number ws cs 4 32 (omega arith) refl (omega arith) (λ i h. crosswalk_is ws small room cs held long i h)

  rules_are : (table (λ r. r.num) 128 rule (next_of ws)).fits (records_of rule_in ws cs 5) ≡ leb (count_of ws 5) (limit_of 5) && good_table ws cs 5
  unfolding limit_of
  rules_are = table_is (λ r. r.num) rule_in rule rule_number_lem ws cs 5 128 (omega arith) refl (omega arith) (λ i h. rule_is ws small room cs held long i h)

  all-tables : leb (points (map_of ws cs)) max_points ≡ leb (all_points ws) 1024
  all-tables = rw (points_are ws cs)

  pub map_is : is_map (map_of ws cs) ≡ good_counts ws && (good_tables ws cs && leb (all_points ws) 1024)
  unfolding is_map map_file only via tagged tables ◌⊗◌ map_of good_counts good_tables every list_to
  map_is =
      rw (number_true (next_of ws) (next_small ws small), lanes_are, boundaries_are, lines_are, signals_are, crosswalks_are, rules_are, all-tables)
      (six
      (leb (count_of ws 0) (limit_of 0)) (good_table ws cs 0)
      (leb (count_of ws 1) (limit_of 1)) (good_table ws cs 1)
      (leb (count_of ws 2) (limit_of 2)) (good_table ws cs 2)
      (leb (count_of ws 3) (limit_of 3)) (good_table ws cs 3)
      (leb (count_of ws 4) (limit_of 4)) (good_table ws cs 4)
      (leb (count_of ws 5) (limit_of 5)) (good_table ws cs 5)
      (leb (all_points ws) 1024))

  pub tables_are : is_map_tables ws cs ≡ good_counts ws && (good_tables ws cs && leb (all_points ws) 1024)
  unfolding is_map_tables
  tables_are = rw (eq-eqb (length ws) all_words room, eq-eqb (length cs) all_coords long) map_is

pub other_words : (ws : List ℕ) (cs : List Float) → (length ws ≡ all_words → ⊥) → false ≡ is_map_tables ws cs
unfolding is_map_tables
other_words ws cs h = rw (ne_eqb (length ws) all_words h)

pub other_coords : (ws : List ℕ) (cs : List Float) → length ws ≡ all_words → (length cs ≡ all_coords → ⊥) → false ≡ is_map_tables ws cs
unfolding is_map_tables
other_coords ws cs e h = rw (eq-eqb (length ws) all_words e, ne_eqb (length cs) all_coords h)

-- ---- what good tests give

every_left : (q : ℕ → Bool) (i n : ℕ) → every (λ b. b) (tab q i n) ≡ true → (j : ℕ) → i ≤ j → j < i + n → q j ≡ true
unfolding every tab
every_left q i zero h j a b = absurd (let z : ⊥ = omega arith in z)
every_left q i (suc n) h j a b =
    let p = both (q i) (every (λ b. b) (tab q (suc i) n)) h in
    split (eqb i j)
    (λ t. rw (← eqb-true i j t) p.0)
    (λ t. every_left q (suc i) n p.1 j (above t) (omega arith))
  where
    above : eqb i j ≡ false → suc i ≤ j
    above t = let ne = eqb-false i j t in ⊎_elim (λ (e : i ≡ j). absurd (ne e)) (λ (l : i < j). l) (eq-or-lt_of_le a)

pub every_at : (q : ℕ → Bool) (n : ℕ) → every (λ b. b) (list_to q n) ≡ true → (j : ℕ) → j < n → q j ≡ true
every_at q n h j g = every_left q 0 n (rw (list_to_tab q n) at h) j (omega arith) (omega arith)

pub counts_sized : (ws : List ℕ) → length ws ≡ all_words → good_counts ws ≡ true → SizedWords ws
unfolding good_counts
counts_sized ws room h = record { room = room; counts = λ k hk. leb-true (count_of ws k) (limit_of k) (every_at (λ k. leb (count_of ws k) (limit_of k)) 6 h k hk) }

line_few : (cs : List Float) (o n : ℕ) → good_line cs o n ≡ true → n ≤ 64
unfolding good_line
line_few cs o n h = leb-true n 64 (both (leb n 64) (every flat.good_coord (cut cs o (n * 3))) h).0

there_few : (b g : Bool) (n : ℕ) → (g ≡ true → n ≤ 64) → cond b g true ≡ true → cond b n 0 ≤ 64
there_few true g n h e = h e
there_few false g n h e = omega arith

module _ (ws : List ℕ) (cs : List Float) where
  line_there_few : (j o n : ℕ) → cond (flat.flagged ws j) (good_line cs o (get_or ws n 0)) true ≡ true → cond (flat.flagged ws j) (get_or ws n 0) 0 ≤ 64
  line_there_few j o n h = there_few (flat.flagged ws j) (good_line cs o (get_or ws n 0)) (get_or ws n 0) (line_few cs o (get_or ws n 0)) h

  lane_few : (at o : ℕ) → good_lane ws cs at o ≡ true → cond (flat.flagged ws (at + 6)) (get_or ws (at + 7) 0) 0 ≤ 64
  unfolding good_lane
  lane_few at o h = line_there_few (at + 6) o (at + 7) (both (ltb (get_or ws (at + 1) 0) 8) (cond (flat.flagged ws (at + 6)) (good_line cs o (get_or ws (at + 7) 0)) true) h).1

  string_few : (at o : ℕ) → good_string ws cs at o ≡ true → get_or ws (at + 1) 0 ≤ 64
  unfolding good_string
  string_few at o h = line_few cs o (get_or ws (at + 1) 0) h

  signal_few : (at o : ℕ) → good_signal ws cs at o ≡ true → get_or ws (at + 2) 0 ≤ 64
  unfolding good_signal
  signal_few at o h =
      let rest = flat.good_height ws cs at o && flat.good_bulbs ws cs at o in
      let line = good_line cs o (get_or ws (at + 2) 0) in
      line_few cs o (get_or ws (at + 2) 0) (both line rest (both (ltb (get_or ws (at + 1) 0) 2) (line && rest) h).1).0

  crosswalk_few : (at o : ℕ) → good_crosswalk ws cs at o ≡ true → flat.crosswalk_points ws at ≤ 192
  unfolding good_crosswalk flat.crosswalk_points
  crosswalk_few at o h =
      let last = (cond (flat.flagged ws (at + 3)) (good_line cs (o + 384) (get_or ws (at + 4) 0)) true) in
      let right = good_line cs (o + 192) (get_or ws (at + 2) 0) in
      let a = both (good_line cs o (get_or ws (at + 1) 0)) (right && last) h in
      let b = both right last a.1 in
      let l = line_few cs o (get_or ws (at + 1) 0) a.0 in
      let r = line_few cs (o + 192) (get_or ws (at + 2) 0) b.0 in
      let t = line_there_few (at + 3) (o + 384) (at + 4) b.1 in
      omega arith

  sign_few : (k at o : ℕ) → good_body k ws cs at o ≡ true → cond (eqb k 2 && flat.flagged ws (at + 5)) (get_or ws (at + 6) 0) 0 ≤ 64
  sign_few zero at o h = omega arith
  sign_few (suc zero) at o h = omega arith
  sign_few (suc (suc zero)) at o h = line_there_few (at + 5) o (at + 6) (both (leb 1 (get_or ws (at + 2) 0)) (cond (flat.flagged ws (at + 5)) (good_line cs o (get_or ws (at + 6) 0)) true) h).1
  sign_few (suc (suc (suc zero))) at o h = omega arith
  sign_few (suc (suc (suc (suc zero)))) at o h = omega arith
  sign_few (suc (suc (suc (suc (suc zero))))) at o h = omega arith
  sign_few (suc (suc (suc (suc (suc (suc zero)))))) at o h = omega arith
  sign_few (suc (suc (suc (suc (suc (suc (suc k))))))) at o h = rw (ne_eqb (suc (suc (suc (suc (suc (suc (suc k))))))) 2 (omega arith)) (omega arith)

  rule_few : (at o : ℕ) → good_rule ws cs at o ≡ true → cond (eqb (get_or ws (at + 1) 0) 2 && flat.flagged ws (at + 5)) (get_or ws (at + 6) 0) 0 ≤ 64
  unfolding good_rule
  rule_few at o h =
      let fields = good_body (get_or ws (at + 1) 0) ws cs at o in
      let few = leb (get_or ws (at + 24) 0) 16 in
      sign_few (get_or ws (at + 1) 0) at o (both few fields (both (leb (get_or ws (at + 7) 0) 16) (few && fields) h).1).1

  row_few : (k i : ℕ) → good_row k ws cs i ≡ true → row_points k ws i ≤ 192
  row_few zero i h = omega (arith, lane_few (7 + i * 8) (i * 192) h)
  row_few (suc zero) i h = omega (arith, string_few (519 + i * 2) (12288 + i * 192) h)
  row_few (suc (suc zero)) i h = omega (arith, string_few (775 + i * 2) (36864 + i * 192) h)
  row_few (suc (suc (suc zero))) i h = omega (arith, signal_few (903 + i * 13) (49152 + i * 205) h)
  row_few (suc (suc (suc (suc zero)))) i h = crosswalk_few (1735 + i * 5) (62272 + i * 576) h
  row_few (suc (suc (suc (suc (suc zero))))) i h = omega (arith, rule_few (1895 + i * 92) (80704 + i * 192) h)
  row_few (suc (suc (suc (suc (suc (suc k)))))) i h = omega arith

  pub tables_few : good_tables ws cs ≡ true → Few ws
  unfolding good_tables good_table good_rows
  tables_few h =
      record {
        few = λ k i hk hi. row_few k i (every_at (good_row k ws cs) (count_of ws k) (both (good_order ws k) (good_rows ws cs k) (every_at (good_table ws cs) 6 h k hk)).1 i hi);
      }

-- ---- the answers

module _ (ws : List ℕ) (small : (j : ℕ) → get_or ws j 0 < 2 ^ 64) (room : length ws ≡ all_words) (cs : List Float) (held : (j : ℕ) → T (fits binary64 (get_or cs j nan))) (long : length cs ≡ all_coords) where
  pub bad_counts : good_counts ws ≡ false → false ≡ is_map_tables ws cs
  bad_counts h = sym (tables_are ws small room cs held long ∙ rw h)

  pub bad_tables : good_counts ws ≡ true → good_tables ws cs ≡ false → false ≡ is_map_tables ws cs
  bad_tables h g = sym (tables_are ws small room cs held long ∙ rw (h, g))

  pub then_points : good_counts ws ≡ true → good_tables ws cs ≡ true → (n : ℕ) → n ≡ all_points ws → leb n 1024 ≡ is_map_tables ws cs
  then_points h g n e = sym (tables_are ws small room cs held long ∙ rw (h, g, e))

-- what the public test's answer gives: each row's points are within its room
pub map_few : (ws : List ℕ) → ((j : ℕ) → get_or ws j 0 < 2 ^ 64) → (cs : List Float) → ((j : ℕ) → T (fits binary64 (get_or cs j nan))) → is_map_tables ws cs ≡ true → Few ws
map_few ws small cs held h =
    let s = sound ws cs h in
    let t : good_counts ws && (good_tables ws cs && leb (all_points ws) 1024) ≡ true = sym (tables_are ws small s.sized.words.room cs held s.sized.coords) ∙ h in
    tables_few ws cs (both (good_tables ws cs) (leb (all_points ws) 1024) (both (good_counts ws) (good_tables ws cs && leb (all_points ws) 1024) t).1).0
