-- What the readers of the tables answer, over plain lists and numbers. Assumes nothing.
use Prim.Native.Nat.{ℕ, ◌+◌, ◌-◌, ◌*◌, ◌/◌, ◌≤◌, ◌<◌}
use mathlib.Core.Path.{◌≡◌, refl, sym, ap, ◌∙◌}
use mathlib.Core.Bool.{Bool, true, false, not, cond}
use mathlib.Core.List.{List}
use native.Mathlib.Nat.{add-zero, add_assoc}
use native.Mathlib.Omega.{arith}
use borrow.Author.Tests.{lt-ltb, le-ltb, ltb-true, ne_eqb}
use lib.Dec.{eqb, ltb}
use lib.Ieee.{Float, nan}
use lib.ListN.{length, get_or, take, drop}
use Rattle.geometry.specs.Polyline.{Polyline, point_in, polyline_of, reversed}
use Rattle.rows.specs.Table.{find, holds}
use Rattle.rows.specs.Rows.{cut}
use Rattle.rows.proofs.RowLaws.{get_or-cut, length_cut, cut_cut, take-cut}
use Rattle.rows.proofs.Indexed.{list_to_same, list_to-cut}
use Rattle.store.specs.Layout.{width_of, base_of, limit_of, place_of, coord_place_of, coord_width_of, count_of, row_of, coords_of, records_of, SizedWords, all_words, all_coords}
use Rattle.store.proofs.StoreLaws.{row_ends, coords_end}
use Rattle.store.proofs.FindLaws.{find_record, holds_record}
use Rattle.std.specs.Prelude.{Some, None, Option}
use Rattle.std.specs.Bool.{then_some}
use Rattle.map.specs.Record.{BoundaryRef, LineString, Map}
use Rattle.map.specs.Entity.{has}
use Rattle.map.specs.Lookup.{lane_of, boundary_of, line_of, signal_of, rule_of, oriented}
use Rattle.map.specs.Tables.{flag_at, list_at, point_from, line_at, lane_in, line_string_in, signal_in, crosswalk_in, rule_in, map_of}
use Rattle.map.specs.Access.{index_in, lookup, centerline_of_row, lane_of_row, LaneRead, HasRead, HeadRead, ListRead}

-- ---- words

pub get_or_row : (ws : List ℕ) (k i o : ℕ) → o < width_of k → get_or (row_of ws k i) o 0 ≡ get_or ws (place_of k i + o) 0
unfolding row_of
get_or_row ws k i o h = get_or-cut ws (place_of k i) (width_of k) o 0 h

lane_word : (ws : List ℕ) (i o : ℕ) → o < 8 → get_or (row_of ws 0 i) o 0 ≡ get_or ws (7 + i * 8 + o) 0
unfolding place_of base_of width_of
lane_word ws i o h = get_or_row ws 0 i o h

rule_word : (ws : List ℕ) (i o : ℕ) → o < 92 → get_or (row_of ws 5 i) o 0 ≡ get_or ws (1895 + i * 92 + o) 0
unfolding place_of base_of width_of
rule_word ws i o h = get_or_row ws 5 i o h

first_word : (ws : List ℕ) (p : ℕ) → get_or ws (p + 0) 0 ≡ get_or ws p 0
first_word ws p = rw add-zero

centerline_is : (c : List Float) (b : Bool) (n : ℕ) → centerline_of_row (then_some b n) c ≡ cond b (Some (line_at c 0 n)) None
centerline_is c true n = refl
centerline_is c false n = refl

pub lane_read : (ws : List ℕ) (i : ℕ)
    → LaneRead (row_of ws 0 i)
    (record {
      number = get_or ws (7 + i * 8) 0;
      kind = get_or ws (7 + i * 8 + 1) 0;
      left = get_or ws (7 + i * 8 + 2) 0;
      left_reversed = not (eqb (get_or ws (7 + i * 8 + 3) 0) 0);
      right = get_or ws (7 + i * 8 + 4) 0;
      right_reversed = not (eqb (get_or ws (7 + i * 8 + 5) 0) 0);
      centerline = then_some (not (eqb (get_or ws (7 + i * 8 + 6) 0) 0)) (get_or ws (7 + i * 8 + 7) 0);
    })
unfolding lane_of_row lane_in flag_at
lane_read ws i =
    record {
      lane = λ c. rw (
        centerline_is c (not (eqb (get_or ws (7 + i * 8 + 6) 0) 0)) (get_or ws (7 + i * 8 + 7) 0),
        lane_word ws i 0 (omega arith),
        first_word ws (7 + i * 8),
        lane_word ws i 1 (omega arith),
        lane_word ws i 2 (omega arith),
        lane_word ws i 3 (omega arith),
        lane_word ws i 4 (omega arith),
        lane_word ws i 5 (omega arith),
        lane_word ws i 6 (omega arith),
        lane_word ws i 7 (omega arith),
      );
    }

pub head_read : (ws : List ℕ) (i : ℕ)
    → HeadRead (row_of ws 5 i)
    (record {
      number = get_or ws (1895 + i * 92) 0;
      kind = get_or ws (1895 + i * 92 + 1) 0;
      value = get_or ws (1895 + i * 92 + 2) 0;
      has_line = not (eqb (get_or ws (1895 + i * 92 + 3) 0) 0);
      line = get_or ws (1895 + i * 92 + 4) 0;
      has_shape = not (eqb (get_or ws (1895 + i * 92 + 5) 0) 0);
      points = get_or ws (1895 + i * 92 + 6) 0;
    })
unfolding flag_at
head_read ws i =
    record {
      number = sym (rule_word ws i 0 (omega arith) ∙ first_word ws (1895 + i * 92));
      kind = sym (rule_word ws i 1 (omega arith));
      value = sym (rule_word ws i 2 (omega arith));
      has_line = rw (rule_word ws i 3 (omega arith));
      line = sym (rule_word ws i 4 (omega arith));
      has_shape = rw (rule_word ws i 5 (omega arith));
      points = sym (rule_word ws i 6 (omega arith));
    }

-- ---- lists

pub length_row : (ws : List ℕ) → SizedWords ws → (k i : ℕ) → k < 6 → i < limit_of k → length (row_of ws k i) ≡ width_of k
unfolding row_of
length_row ws ok k i hk hi = length_cut ws (place_of k i) (width_of k) (omega (arith, ok.room, row_ends k i hk hi))

pub list_in_lem : (r : List ℕ) (o n : ℕ) → get_or r o 0 ≡ n → o + 1 + n ≤ length r → list_at r o ≡ cut r (o + 1) n
unfolding list_at
list_in_lem r o n e h = rw e (list_to-cut r (o + 1) n 0 h)

rule_wide : width_of 5 ≡ 92
unfolding width_of
rule_wide = refl

rule_many : limit_of 5 ≡ 128
unfolding limit_of
rule_many = refl

rule_cut : (ws : List ℕ) (i o n : ℕ) → o + n ≤ 92 → cut (row_of ws 5 i) o n ≡ cut ws (1895 + i * 92 + o) n
unfolding row_of place_of base_of width_of
rule_cut ws i o n h = cut_cut ws (1895 + i * 92) 92 o n h

module _ (ws : List ℕ) (ok : SizedWords ws) (i : ℕ) (hi : i < 128) where
  long : length (row_of ws 5 i) ≡ 92
  long = length_row ws ok 5 i (omega arith) (omega (arith, rule_many)) ∙ rule_wide

  pub rule_count : (o : ℕ) → o < 92 → get_or ws (1895 + i * 92 + o) 0 ≡ get_or (row_of ws 5 i) o 0
  rule_count o h = sym (rule_word ws i o h)

  rule_list : (o n : ℕ) → get_or (row_of ws 5 i) o 0 ≡ n → o + 1 + n ≤ 92 → cut ws (1895 + i * 92 + o + 1) n ≡ list_at (row_of ws 5 i) o
  rule_list o n e h =
      let a : 1895 + i * 92 + (o + 1) ≡ 1895 + i * 92 + o + 1 = omega arith in
      sym (list_in_lem (row_of ws 5 i) o n e (omega (arith, long)) ∙ rule_cut ws i (o + 1) n h ∙ rw a)

  -- as a part of the slice
  pub list_part : (o n at : ℕ) → at ≡ 1895 + i * 92 + o → n ≡ get_or ws at 0 → o < 92 → o + 1 + get_or (row_of ws 5 i) o 0 ≤ 92
      → take (at + 1 + n - (at + 1)) (drop (at + 1) ws) ≡ list_at (row_of ws 5 i) o
  unfolding cut
  list_part o n at ea en ho h =
      let e : n ≡ get_or (row_of ws 5 i) o 0 = en ∙ ap (λ (p : ℕ). get_or ws p 0) ea ∙ rule_count o ho in
      let d : at + 1 + n - (at + 1) ≡ n = omega arith in
      rw (d, ea) (rule_list o n (sym e) (omega arith))

  pub list_room_lem : (o n : ℕ) → n ≡ get_or ws (1895 + i * 92 + o) 0 → o < 92 → o + 1 + get_or (row_of ws 5 i) o 0 ≤ 92 → 1895 + i * 92 + o + 1 + n ≤ all_words
  list_room_lem o n e ho h = omega (arith, e, rule_count o ho)

  -- by value
  pub list_value : (o n at : ℕ) (es : List ℕ) → at ≡ 1895 + i * 92 + o → n ≡ get_or ws at 0 → get_or (row_of ws 5 i) o 0 ≤ 16 → o + 17 ≤ 92 → es ≡ cut ws (at + 1) 16
      → ListRead (row_of ws 5 i) o (record { count = n; entries = es })
  list_value o n at es ea en hn ho e =
      let f : n ≡ get_or (row_of ws 5 i) o 0 = en ∙ ap (λ (p : ℕ). get_or ws p 0) ea ∙ rule_count o (omega arith) in
      record {
        count = f;
        room = ap length e ∙ length_cut ws (at + 1) 16 (omega (arith, ok.room));
        entries = rw (e, ea) (take-cut ws (1895 + i * 92 + o + 1) 16 n (omega arith) ∙ rule_list o n (sym f) (omega arith));
      }

-- ---- points

taken : (l : List Float) (at m : ℕ) → cut l at m ≡ take m (drop at l)
unfolding cut
taken l at m = refl

module _ (c : List Float) (o n : ℕ) (h : o + n * 3 ≤ length c) where
  coordinate : (j d : ℕ) → j < n → d < 3 → get_or (cut c o (n * 3)) (j * 3 + d) nan ≡ get_or c (o + j * 3 + d) nan
  coordinate j d hj hd =
      get_or-cut c o (n * 3) (j * 3 + d) nan (omega arith) ∙ ap (λ (p : ℕ). get_or c p nan) (sym (add_assoc o (j * 3) d))

  point : (j : ℕ) → j < n → point_in (cut c o (n * 3)) j ≡ point_from c (o + j * 3)
  unfolding point_in point_from
  point j hj =
      let a : get_or (cut c o (n * 3)) (j * 3) nan ≡ get_or c (o + j * 3) nan = get_or-cut c o (n * 3) (j * 3) nan (omega arith) in
      rw (a, coordinate j 1 hj (omega arith), coordinate j 2 hj (omega arith))

  pub polyline_cut : polyline_of (cut c o (n * 3)) ≡ line_at c o n
  unfolding polyline_of line_at
  polyline_cut =
      let e : length (cut c o (n * 3)) / 3 ≡ n = rw (length_cut c o (n * 3) h) (omega arith) in
      rw e (list_to_same _ _ n point)

pub length_coords : (cs : List Float) → length cs ≡ all_coords → (k i : ℕ) → k < 6 → i < limit_of k → length (coords_of cs k i) ≡ coord_width_of k
unfolding coords_of
length_coords cs ok k i hk hi = length_cut cs (coord_place_of k i) (coord_width_of k) (omega (arith, ok, coords_end k i hk hi))

coords_cut : (cs : List Float) (k i o m : ℕ) → o + m ≤ coord_width_of k → cut (coords_of cs k i) o m ≡ cut cs (coord_place_of k i + o) m
unfolding coords_of
coords_cut cs k i o m h = cut_cut cs (coord_place_of k i) (coord_width_of k) o m h

pub points_part : (cs : List Float) → length cs ≡ all_coords → (k i o n at : ℕ) → k < 6 → i < limit_of k → o + n * 3 ≤ coord_width_of k → at ≡ coord_place_of k i + o
    → polyline_of (take (at + n * 3 - at) (drop at cs)) ≡ line_at (coords_of cs k i) o n
points_part cs ok k i o n at hk hi h e =
    let d : at + n * 3 - at ≡ n * 3 = omega arith in
    rw (d, e) (ap polyline_of (sym (taken cs (coord_place_of k i + o) (n * 3)) ∙ sym (coords_cut cs k i o (n * 3) h))
    ∙ polyline_cut (coords_of cs k i) o n (omega (arith, length_coords cs ok k i hk hi)))

-- ---- look-ups

pub find_at : (ws : List ℕ) (k x i n : ℕ) → i ≡ index_in ws k x → n ≡ count_of ws k → i < n → Some i ≡ lookup ws k x
unfolding lookup
find_at ws k x i n ei en h = rw (← ei, ← en, lt-ltb i n h)

pub find_none : (ws : List ℕ) (k x i n : ℕ) → i ≡ index_in ws k x → n ≡ count_of ws k → n ≤ i → None ≡ lookup ws k x
unfolding lookup
find_none ws k x i n ei en h = rw (← ei, ← en, le-ltb i n h)

-- a record's number is the first word of its row
pub lane_number : (r : List ℕ) (c : List Float) → (lane_in r c).num ≡ get_or r 0 0
unfolding lane_in
lane_number r c = refl

pub line_number : (r : List ℕ) (c : List Float) → (line_string_in r c).num ≡ get_or r 0 0
unfolding line_string_in
line_number r c = refl

pub signal_number : (r : List ℕ) (c : List Float) → (signal_in r c).num ≡ get_or r 0 0
unfolding signal_in
signal_number r c = refl

pub crosswalk_number : (r : List ℕ) (c : List Float) → (crosswalk_in r c).num ≡ get_or r 0 0
unfolding crosswalk_in
crosswalk_number r c = refl

pub rule_number_lem : (r : List ℕ) (c : List Float) → (rule_in r c).num ≡ get_or r 0 0
unfolding rule_in
rule_number_lem r c = refl

-- what is found is the definition's record, for every kind
module _ {A : Type 0} (num : A → ℕ) (f : List ℕ → List Float → A) (first : (r : List ℕ) (c : List Float) → num (f r c) ≡ get_or r 0 0)
    (ws : List ℕ) (cs : List Float) (k : ℕ) (hk : k < 6) (x : ℕ) where
  pub found_index : (i : ℕ) → lookup ws k x ≡ Some i → (i ≡ index_in ws k x) × (i < count_of ws k)
  unfolding lookup
  found_index i e = go (ltb (index_in ws k x) (count_of ws k)) refl e
    where
      go : (b : Bool) → ltb (index_in ws k x) (count_of ws k) ≡ b → then_some b (index_in ws k x) ≡ Some i → (i ≡ index_in ws k x) × (i < count_of ws k)
      go true t d = let q : i ≡ index_in ws k x = cc in (q, rw q (ltb-true (index_in ws k x) (count_of ws k) t))
      go false t d = let z : ◌≡◌ {A = ℕ} 0 1 = cc in absurd (let q : ⊥ = omega arith in q)

  pub found_record : (i : ℕ) → lookup ws k x ≡ Some i → find num x (records_of f ws cs k) ≡ Some (f (row_of ws k i) (coords_of cs k i))
  unfolding index_in
  found_record i e =
      let q = found_index i e in
      let l = lt-ltb i (count_of ws k) q.1 in
      find_record num f first ws cs k hk x ∙ rw (← q.0, l)

  pub none_record : lookup ws k x ≡ None → find num x (records_of f ws cs k) ≡ None
  unfolding lookup index_in
  none_record e =
      find_record num f first ws cs k hk x ∙ go (ltb (index_in ws k x) (count_of ws k)) e
    where
      go : (b : Bool) → then_some b (index_in ws k x) ≡ None → cond b (Some (f (row_of ws k (index_in ws k x)) (coords_of cs k (index_in ws k x)))) None ≡ None
      go true d = let z : ◌≡◌ {A = ℕ} 0 1 = cc in absurd (let q : ⊥ = omega arith in q)
      go false d = refl

  pub holds_here : holds num x (records_of f ws cs k) ≡ ltb (index_in ws k x) (count_of ws k)
  unfolding index_in
  holds_here = holds_record num f first ws cs k hk x

module _ (ws : List ℕ) (x : ℕ) (b : Bool) (kind : ℕ) where
  pub has_lane : kind ≡ 1 → b ≡ ltb (index_in ws 0 x) (count_of ws 0) → HasRead ws kind x b
  unfolding has map_of
  has_lane e h = record { answer = λ cs. rw e (h ∙ sym (holds_here (λ r. r.num) lane_in lane_number ws cs 0 (omega arith) x)) }

  pub has_boundary : kind ≡ 2 → b ≡ ltb (index_in ws 1 x) (count_of ws 1) → HasRead ws kind x b
  unfolding has map_of
  has_boundary e h = record { answer = λ cs. rw e (h ∙ sym (holds_here (λ r. r.num) line_string_in line_number ws cs 1 (omega arith) x)) }

  pub has_line_lem : kind ≡ 5 → b ≡ ltb (index_in ws 2 x) (count_of ws 2) → HasRead ws kind x b
  unfolding has map_of
  has_line_lem e h = record { answer = λ cs. rw e (h ∙ sym (holds_here (λ r. r.num) line_string_in line_number ws cs 2 (omega arith) x)) }

  pub has_signal : kind ≡ 6 → b ≡ ltb (index_in ws 3 x) (count_of ws 3) → HasRead ws kind x b
  unfolding has map_of
  has_signal e h = record { answer = λ cs. rw e (h ∙ sym (holds_here (λ r. r.num) signal_in signal_number ws cs 3 (omega arith) x)) }

  pub has_crosswalk : kind ≡ 7 → b ≡ ltb (index_in ws 4 x) (count_of ws 4) → HasRead ws kind x b
  unfolding has map_of
  has_crosswalk e h = record { answer = λ cs. rw e (h ∙ sym (holds_here (λ r. r.num) crosswalk_in crosswalk_number ws cs 4 (omega arith) x)) }

  pub has_rule_lem : kind ≡ 8 → b ≡ ltb (index_in ws 5 x) (count_of ws 5) → HasRead ws kind x b
  unfolding has map_of
  has_rule_lem e h = record { answer = λ cs. rw e (h ∙ sym (holds_here (λ r. r.num) rule_in rule_number_lem ws cs 5 (omega arith) x)) }

pub has_none : (ws : List ℕ) (x kind : ℕ) → (kind ≡ 1 → ⊥) → (kind ≡ 2 → ⊥) → (kind ≡ 5 → ⊥) → (kind ≡ 6 → ⊥) → (kind ≡ 7 → ⊥) → (kind ≡ 8 → ⊥) → HasRead ws kind x false
unfolding has
has_none ws x kind a b c d e f =
    record { answer = λ cs. rw (ne_eqb kind 1 a, ne_eqb kind 2 b, ne_eqb kind 5 c, ne_eqb kind 6 d, ne_eqb kind 7 e, ne_eqb kind 8 f) }

-- ---- the definition's look-ups

module _ (ws : List ℕ) (cs : List Float) (x i : ℕ) where
  pub lane_found : lookup ws 0 x ≡ Some i → lane_of (map_of ws cs) x ≡ Some (lane_in (row_of ws 0 i) (coords_of cs 0 i))
  unfolding lane_of map_of
  lane_found e = found_record (λ r. r.num) lane_in lane_number ws cs 0 (omega arith) x i e

  pub boundary_found : lookup ws 1 x ≡ Some i → boundary_of (map_of ws cs) x ≡ Some (line_string_in (row_of ws 1 i) (coords_of cs 1 i))
  unfolding boundary_of map_of
  boundary_found e = found_record (λ r. r.num) line_string_in line_number ws cs 1 (omega arith) x i e

  pub line_found : lookup ws 2 x ≡ Some i → line_of (map_of ws cs) x ≡ Some (line_string_in (row_of ws 2 i) (coords_of cs 2 i))
  unfolding line_of map_of
  line_found e = found_record (λ r. r.num) line_string_in line_number ws cs 2 (omega arith) x i e

  pub signal_found : lookup ws 3 x ≡ Some i → signal_of (map_of ws cs) x ≡ Some (signal_in (row_of ws 3 i) (coords_of cs 3 i))
  unfolding signal_of map_of
  signal_found e = found_record (λ r. r.num) signal_in signal_number ws cs 3 (omega arith) x i e

  pub rule_found : lookup ws 5 x ≡ Some i → rule_of (map_of ws cs) x ≡ Some (rule_in (row_of ws 5 i) (coords_of cs 5 i))
  unfolding rule_of map_of
  rule_found e = found_record (λ r. r.num) rule_in rule_number_lem ws cs 5 (omega arith) x i e

module _ (ws : List ℕ) (cs : List Float) (x : ℕ) where
  pub no_lane : lookup ws 0 x ≡ None → lane_of (map_of ws cs) x ≡ None
  unfolding lane_of map_of
  no_lane e = none_record (λ r. r.num) lane_in lane_number ws cs 0 (omega arith) x e

  pub no_boundary : lookup ws 1 x ≡ None → boundary_of (map_of ws cs) x ≡ None
  unfolding boundary_of map_of
  no_boundary e = none_record (λ r. r.num) line_string_in line_number ws cs 1 (omega arith) x e

  pub no_line : lookup ws 2 x ≡ None → line_of (map_of ws cs) x ≡ None
  unfolding line_of map_of
  no_line e = none_record (λ r. r.num) line_string_in line_number ws cs 2 (omega arith) x e

  pub no_signal : lookup ws 3 x ≡ None → signal_of (map_of ws cs) x ≡ None
  unfolding signal_of map_of
  no_signal e = none_record (λ r. r.num) signal_in signal_number ws cs 3 (omega arith) x e

  pub no_rule : lookup ws 5 x ≡ None → rule_of (map_of ws cs) x ≡ None
  unfolding rule_of map_of
  no_rule e = none_record (λ r. r.num) rule_in rule_number_lem ws cs 5 (omega arith) x e

-- a lane's side, along the lane: the found boundary's points and the side's flag
along : BoundaryRef → Option LineString → Option Polyline
along s None = None
along s (Some b) = Some (cond s.reversed (reversed b.geometry) b.geometry)

oriented_is : (m : Map) (s : BoundaryRef) (o : Option LineString) → boundary_of m s.boundary ≡ o → oriented m s ≡ along s o
unfolding oriented along
oriented_is m s None e = ap (λ (o : Option LineString). elim o [ None ↦ None | Some b ↦ Some (cond s.reversed (reversed b.geometry) b.geometry) ]) e
oriented_is m s (Some b) e = ap (λ (o : Option LineString). elim o [ None ↦ None | Some b ↦ Some (cond s.reversed (reversed b.geometry) b.geometry) ]) e

pub side_found : (ws : List ℕ) (cs : List Float) (s : BoundaryRef) (i : ℕ) → lookup ws 1 s.boundary ≡ Some i
    → oriented (map_of ws cs) s ≡ Some (cond s.reversed (reversed (line_at (coords_of cs 1 i) 0 (get_or (row_of ws 1 i) 1 0))) (line_at (coords_of cs 1 i) 0 (get_or (row_of ws 1 i) 1 0)))
unfolding along line_string_in
side_found ws cs s i e = oriented_is (map_of ws cs) s (Some (line_string_in (row_of ws 1 i) (coords_of cs 1 i))) (boundary_found ws cs s.boundary i e)

pub no_side_lem : (ws : List ℕ) (cs : List Float) (s : BoundaryRef) → lookup ws 1 s.boundary ≡ None → oriented (map_of ws cs) s ≡ None
unfolding along
no_side_lem ws cs s e = oriented_is (map_of ws cs) s None (no_boundary ws cs s.boundary e)
