-- A row's tests are its record's format, kind by kind. Assumes nothing.
use Prim.Native.Nat.{ℕ, zero, suc, ◌+◌, ◌*◌, ◌^◌, ◌≤◌, ◌<◌}
use mathlib.Core.Path.{◌≡◌, refl, sym, ap, ◌∙◌}
use mathlib.Core.Bool.{true, not, cond}
use Rattle.std.specs.Prelude.{None, Some}
use mathlib.Core.List.{List}
use native.Mathlib.Nat.{add-zero, add_assoc}
use native.Mathlib.Omega.{arith}
use borrow.Author.Tests.{leb-true, ltb-true, ltb-false}
use lib.Dec.{T, leb, ltb, eqb}
use lib.Ieee.{Float, nan, binary64, fits}
use lib.ListN.{length, get_or, get_or-eq_default}
use Rattle.rows.specs.Lists.{every, list_to}
use Rattle.rows.specs.Rows.{cut}
use Rattle.rows.proofs.RowLaws.{length_cut}
use Rattle.rows.proofs.Indexed.{length-list_to}
use Rattle.store.specs.Layout.{limit_of, width_of, base_of, place_of, coord_width_of, coord_base_of, coord_place_of, row_of, coords_of, all_words, all_coords}
use Rattle.store.proofs.StoreLaws.{row_ends, coords_end}
use Rattle.codec.specs.Format.{◌⊗◌, via, tagged}
use Rattle.codec.specs.Number.{number, split}
use Rattle.codec.specs.Items.{from, option, list}
use Rattle.map.specs.MapFile.{polyline, height, boundary_ref, lane, line_string, bulb, signal, crosswalk, numbers, body, rule}
use Rattle.map.specs.Tables.{flag_at, list_at, point_from, line_at, lane_in, line_string_in, bulb_at, signal_in, crosswalk_in, body_of, rule_in}
use Rattle.map.proofs.ReadLaws.{get_or_row}
use Rattle.row_tests.specs.Flat.{good_coord, good_line, good_lane, good_string, good_bulb, good_bulbs, good_height, good_signal, good_crosswalk, good_body, good_rule}
use Rattle.validity.proofs.Numbers.{and_true, turned, every_same, every_true, number_true, below_is, from_is, flag_true, list_is, option_is, cond_true, height_is}
use Rattle.validity.proofs.Points.{point_at_lem, coord_word, line_is, three_coords}

module _ (ws : List ℕ) (small : (j : ℕ) → get_or ws j 0 < 2 ^ 64) (room : length ws ≡ all_words) (cs : List Float) (held : (j : ℕ) → T (fits binary64 (get_or cs j nan))) (long : length cs ≡ all_coords) where
  row_long : (k i : ℕ) → k < 6 → i < limit_of k → length (row_of ws k i) ≡ width_of k
  unfolding row_of
  row_long k i hk hi = length_cut ws (place_of k i) (width_of k) (omega (arith, room, row_ends k i hk hi))

  row_small : (k i : ℕ) → k < 6 → i < limit_of k → (j : ℕ) → get_or (row_of ws k i) j 0 < 2 ^ 64
  row_small k i hk hi j = split (ltb j (width_of k))
      (λ t. rw (get_or_row ws k i j (ltb-true j (width_of k) t)) (small (place_of k i + j)))
      (λ t. let a : length (row_of ws k i) ≤ j = omega (arith, row_long k i hk hi, ltb-false j (width_of k) t) in
      rw (get_or-eq_default (row_of ws k i) 0 {n = j} a) (omega arith))

  -- ---- lanes

  module _ (i : ℕ) (hi : i < limit_of 0) where
    lane_word : (o : ℕ) → o < 8 → get_or (row_of ws 0 i) o 0 ≡ get_or ws (7 + i * 8 + o) 0
    unfolding place_of base_of width_of
    lane_word o h = get_or_row ws 0 i o h

    lane_line : (n : ℕ) → polyline.fits (line_at (coords_of cs 0 i) 0 n) ≡ good_line cs (i * 192) n
    unfolding coord_place_of coord_base_of coord_width_of
    lane_line n = line_is cs held long 0 i (omega arith) hi 0 n (i * 192) (omega arith) (omega arith)

    pub lane_is : lane.fits (lane_in (row_of ws 0 i) (coords_of cs 0 i)) ≡ good_lane ws cs (7 + i * 8) (i * 192)
    unfolding lane via ◌⊗◌ boundary_ref lane_in good_lane flag_at
    lane_is =
        let s = row_small 0 i (omega arith) hi in
        rw (
          number_true (get_or (row_of ws 0 i) 0 0) (s 0),
          below_is 8 (get_or (row_of ws 0 i) 1 0) (s 1),
          number_true (get_or (row_of ws 0 i) 2 0) (s 2),
          flag_true (not (eqb (get_or (row_of ws 0 i) 3 0) 0)),
          number_true (get_or (row_of ws 0 i) 4 0) (s 4),
          flag_true (not (eqb (get_or (row_of ws 0 i) 5 0) 0)),
          option_is polyline (not (eqb (get_or (row_of ws 0 i) 6 0) 0)) (line_at (coords_of cs 0 i) 0 (get_or (row_of ws 0 i) 7 0)),
          lane_line (get_or (row_of ws 0 i) 7 0),
          lane_word 1 (omega arith),
          lane_word 6 (omega arith),
          lane_word 7 (omega arith),
        )

  -- ---- boundaries and stop lines

  module _ (k i : ℕ) (hk : k < 6) (hi : i < limit_of k) (at o : ℕ) (wide : 1 < width_of k) (space : 192 ≤ coord_width_of k) (ea : at ≡ place_of k i) (eo : o ≡ coord_place_of k i) where
    pub string_is : line_string.fits (line_string_in (row_of ws k i) (coords_of cs k i)) ≡ good_string ws cs at o
    unfolding line_string via ◌⊗◌ line_string_in good_string
    string_is =
        let s = row_small k i hk hi in
        rw (
          number_true (get_or (row_of ws k i) 0 0) (s 0),
          line_is cs held long k i hk hi 0 (get_or (row_of ws k i) 1 0) o space (eo ∙ sym (add-zero (coord_place_of k i))),
          get_or_row ws k i 1 wide,
          ea,
        )

  pub boundary_is : (i : ℕ) → i < limit_of 1 → line_string.fits (line_string_in (row_of ws 1 i) (coords_of cs 1 i)) ≡ good_string ws cs (519 + i * 2) (12288 + i * 192)
  unfolding place_of base_of width_of coord_place_of coord_base_of coord_width_of
  boundary_is i hi = string_is 1 i (omega arith) hi (519 + i * 2) (12288 + i * 192) (omega arith) (omega arith) refl refl

  pub line_string_is : (i : ℕ) → i < limit_of 2 → line_string.fits (line_string_in (row_of ws 2 i) (coords_of cs 2 i)) ≡ good_string ws cs (775 + i * 2) (36864 + i * 192)
  unfolding place_of base_of width_of coord_place_of coord_base_of coord_width_of
  line_string_is i hi = string_is 2 i (omega arith) hi (775 + i * 2) (36864 + i * 192) (omega arith) (omega arith) refl refl

  -- ---- signals

  module _ (i : ℕ) (hi : i < limit_of 3) where
    signal_word : (o : ℕ) → o < 13 → get_or (row_of ws 3 i) o 0 ≡ get_or ws (903 + i * 13 + o) 0
    unfolding place_of base_of width_of
    signal_word o h = get_or_row ws 3 i o h

    signal_line : (n : ℕ) → polyline.fits (line_at (coords_of cs 3 i) 0 n) ≡ good_line cs (49152 + i * 205) n
    unfolding coord_place_of coord_base_of coord_width_of
    signal_line n = line_is cs held long 3 i (omega arith) hi 0 n (49152 + i * 205) (omega arith) (omega arith)

    signal_height : get_or (coords_of cs 3 i) 192 nan ≡ get_or cs (49152 + i * 205 + 192) nan
    unfolding coord_place_of coord_base_of coord_width_of
    signal_height = coord_word cs held long 3 i (omega arith) hi 192 (omega arith)

    signal_point : (j : ℕ) → j < 4 → point_from (coords_of cs 3 i) (193 + j * 3) ≡ point_from cs (49152 + i * 205 + 193 + j * 3)
    unfolding coord_place_of coord_base_of coord_width_of
    signal_point j h = point_at_lem cs held long 3 i (omega arith) hi (193 + j * 3) (omega arith) ∙ ap (point_from cs) (sym (add_assoc (49152 + i * 205) 193 (j * 3)))

    signal_fits : (j : ℕ) → j < 4 → 49152 + i * 205 + 193 + j * 3 + 3 ≤ length cs
    unfolding coord_place_of coord_base_of coord_width_of
    signal_fits j h = omega (arith, long, coords_end 3 i (omega arith) hi)

    bulb_is : (j : ℕ) → j < 4 → bulb.fits (bulb_at (row_of ws 3 i) (coords_of cs 3 i) j) ≡ good_bulb ws cs (903 + i * 13) (49152 + i * 205) j
    unfolding bulb via ◌⊗◌ bulb_at good_bulb
    bulb_is j h =
        let s = row_small 3 i (omega arith) hi in
        let a : 903 + i * 13 + (5 + j * 2) ≡ 903 + i * 13 + 5 + j * 2 = omega arith in
        let b : 903 + i * 13 + (6 + j * 2) ≡ 903 + i * 13 + 6 + j * 2 = omega arith in
        rw (
          below_is 4 (get_or (row_of ws 3 i) (5 + j * 2) 0) (s (5 + j * 2)),
          below_is 9 (get_or (row_of ws 3 i) (6 + j * 2) 0) (s (6 + j * 2)),
          signal_word (5 + j * 2) (omega arith),
          signal_word (6 + j * 2) (omega arith),
          a,
          b,
          signal_point j h,
          three_coords cs held (49152 + i * 205 + 193 + j * 3) (signal_fits j h),
        )
        (turned (every good_coord (cut cs (49152 + i * 205 + 193 + j * 3) 3)) (ltb (get_or ws (903 + i * 13 + 5 + j * 2) 0) 4) (ltb (get_or ws (903 + i * 13 + 6 + j * 2) 0) 9))

    bulbs_are : (list 4 bulb).fits (list_to (bulb_at (row_of ws 3 i) (coords_of cs 3 i)) (get_or (row_of ws 3 i) 4 0)) ≡ good_bulbs ws cs (903 + i * 13) (49152 + i * 205)
    unfolding good_bulbs
    bulbs_are =
        list_is 4 bulb _ (omega arith)
        ∙ rw (length-list_to (bulb_at (row_of ws 3 i) (coords_of cs 3 i)) (get_or (row_of ws 3 i) 4 0), signal_word 4 (omega arith))
        (split (leb (get_or ws (903 + i * 13 + 4) 0) 4)
        (λ t. let f : get_or ws (903 + i * 13 + 4) 0 ≤ 4 = leb-true _ 4 t in
        rw t (every_same bulb.fits (bulb_at (row_of ws 3 i) (coords_of cs 3 i)) (good_bulb ws cs (903 + i * 13) (49152 + i * 205)) (get_or ws (903 + i * 13 + 4) 0) (λ j g. bulb_is j (omega arith))))
        (λ t. rw t))

    height_there : (option height).fits (cond (flag_at (row_of ws 3 i) 3) (Some (get_or (coords_of cs 3 i) 192 nan)) None) ≡ good_height ws cs (903 + i * 13) (49152 + i * 205)
    unfolding good_height flag_at
    height_there =
        rw (option_is height (not (eqb (get_or (row_of ws 3 i) 3 0) 0)) (get_or (coords_of cs 3 i) 192 nan), height_is (get_or (coords_of cs 3 i) 192 nan), signal_height, signal_word 3 (omega arith))

    pub signal_is : signal.fits (signal_in (row_of ws 3 i) (coords_of cs 3 i)) ≡ good_signal ws cs (903 + i * 13) (49152 + i * 205)
    unfolding signal via ◌⊗◌ signal_in good_signal
    signal_is =
        let s = row_small 3 i (omega arith) hi in
        rw (
          number_true (get_or (row_of ws 3 i) 0 0) (s 0),
          below_is 2 (get_or (row_of ws 3 i) 1 0) (s 1),
          signal_line (get_or (row_of ws 3 i) 2 0),
          height_there,
          bulbs_are,
          signal_word 1 (omega arith),
          signal_word 2 (omega arith),
        )

  -- ---- crosswalks

  module _ (i : ℕ) (hi : i < limit_of 4) where
    crosswalk_word : (o : ℕ) → o < 5 → get_or (row_of ws 4 i) o 0 ≡ get_or ws (1735 + i * 5 + o) 0
    unfolding place_of base_of width_of
    crosswalk_word o h = get_or_row ws 4 i o h

    edge : (o n : ℕ) → o ≤ 384 → polyline.fits (line_at (coords_of cs 4 i) o n) ≡ good_line cs (62272 + i * 576 + o) n
    unfolding coord_place_of coord_base_of coord_width_of
    edge o n h = line_is cs held long 4 i (omega arith) hi o n (62272 + i * 576 + o) (omega arith) refl

    first_edge : (n : ℕ) → polyline.fits (line_at (coords_of cs 4 i) 0 n) ≡ good_line cs (62272 + i * 576) n
    first_edge n = edge 0 n (omega arith) ∙ rw add-zero

    pub crosswalk_is : crosswalk.fits (crosswalk_in (row_of ws 4 i) (coords_of cs 4 i)) ≡ good_crosswalk ws cs (1735 + i * 5) (62272 + i * 576)
    unfolding crosswalk via ◌⊗◌ crosswalk_in good_crosswalk flag_at
    crosswalk_is =
        let s = row_small 4 i (omega arith) hi in
        rw (
          number_true (get_or (row_of ws 4 i) 0 0) (s 0),
          first_edge (get_or (row_of ws 4 i) 1 0),
          edge 192 (get_or (row_of ws 4 i) 2 0) (omega arith),
          option_is polyline (not (eqb (get_or (row_of ws 4 i) 3 0) 0)) (line_at (coords_of cs 4 i) 384 (get_or (row_of ws 4 i) 4 0)),
          edge 384 (get_or (row_of ws 4 i) 4 0) (omega arith),
          crosswalk_word 1 (omega arith),
          crosswalk_word 2 (omega arith),
          crosswalk_word 3 (omega arith),
          crosswalk_word 4 (omega arith),
        )

  -- ---- rules

  module _ (i : ℕ) (hi : i < limit_of 5) where
    rule_word : (o : ℕ) → o < 92 → get_or (row_of ws 5 i) o 0 ≡ get_or ws (1895 + i * 92 + o) 0
    unfolding place_of base_of width_of
    rule_word o h = get_or_row ws 5 i o h

    shape : (n : ℕ) → polyline.fits (line_at (coords_of cs 5 i) 0 n) ≡ good_line cs (80704 + i * 192) n
    unfolding coord_place_of coord_base_of coord_width_of
    shape n = line_is cs held long 5 i (omega arith) hi 0 n (80704 + i * 192) (omega arith) (omega arith)

    list_few : (o : ℕ) → o < 92 → numbers.fits (list_at (row_of ws 5 i) o) ≡ leb (get_or ws (1895 + i * 92 + o) 0) 16
    unfolding numbers list_at
    list_few o h =
        let s = row_small 5 i (omega arith) hi in
        list_is 16 number _ (omega arith)
        ∙ rw (
          length-list_to (λ j. get_or (row_of ws 5 i) (o + 1 + j) 0) (get_or (row_of ws 5 i) o 0),
          every_true number.fits (λ j. get_or (row_of ws 5 i) (o + 1 + j) 0) (get_or (row_of ws 5 i) o 0) (λ j. number_true (get_or (row_of ws 5 i) (o + 1 + j) 0) (s (o + 1 + j))),
          rule_word o h,
        )
        (and_true _)

    line_there : (option number).fits (cond (flag_at (row_of ws 5 i) 3) (Some (get_or (row_of ws 5 i) 4 0)) None) ≡ true
    line_there =
        option_is number (flag_at (row_of ws 5 i) 3) (get_or (row_of ws 5 i) 4 0)
        ∙ rw (number_true (get_or (row_of ws 5 i) 4 0) (row_small 5 i (omega arith) hi 4)) (cond_true (flag_at (row_of ws 5 i) 3))

    shape_there : (option polyline).fits (cond (flag_at (row_of ws 5 i) 5) (Some (line_at (coords_of cs 5 i) 0 (get_or (row_of ws 5 i) 6 0))) None)
        ≡ cond (not (eqb (get_or ws (1895 + i * 92 + 5) 0) 0)) (good_line cs (80704 + i * 192) (get_or ws (1895 + i * 92 + 6) 0)) true
    unfolding flag_at
    shape_there =
        rw (option_is polyline (not (eqb (get_or (row_of ws 5 i) 5 0) 0)) (line_at (coords_of cs 5 i) 0 (get_or (row_of ws 5 i) 6 0)), shape (get_or (row_of ws 5 i) 6 0), rule_word 5 (omega arith), rule_word 6 (omega arith))

    value : (j : ℕ) → number.fits (get_or (row_of ws 5 i) j 0) ≡ true
    value j = number_true (get_or (row_of ws 5 i) j 0) (row_small 5 i (omega arith) hi j)

    from_value : (from 1).fits (get_or (row_of ws 5 i) 2 0) ≡ leb 1 (get_or ws (1895 + i * 92 + 2) 0)
    from_value = from_is 1 (get_or (row_of ws 5 i) 2 0) (row_small 5 i (omega arith) hi 2) ∙ rw (rule_word 2 (omega arith))

    body_is : (k : ℕ) → body.fits (body_of k (row_of ws 5 i) (coords_of cs 5 i)) ≡ good_body k ws cs (1895 + i * 92) (80704 + i * 192)
    unfolding body via tagged ◌⊗◌
    body_is zero = rw (number_true 6 (omega arith), from_is 1 0 (omega arith))
    body_is (suc zero) = rw (number_true 1 (omega arith), list_few 41 (omega arith), line_there) (and_true _)
    body_is (suc (suc zero)) = rw (number_true 2 (omega arith), from_value, shape_there, line_there, and_true (cond (not (eqb (get_or ws (1895 + i * 92 + 5) 0) 0)) (good_line cs (80704 + i * 192) (get_or ws (1895 + i * 92 + 6) 0)) true))
    body_is (suc (suc (suc zero))) = rw (number_true 3 (omega arith), value 4)
    body_is (suc (suc (suc (suc zero)))) = rw (number_true 4 (omega arith), list_few 41 (omega arith), list_few 58 (omega arith), list_few 75 (omega arith))
    body_is (suc (suc (suc (suc (suc zero))))) = rw (number_true 5 (omega arith), value 2, list_few 75 (omega arith))
    body_is (suc (suc (suc (suc (suc (suc zero)))))) = rw (number_true 6 (omega arith), from_value)
    body_is (suc (suc (suc (suc (suc (suc (suc k))))))) = rw (number_true 6 (omega arith), from_is 1 0 (omega arith))

    pub rule_is : rule.fits (rule_in (row_of ws 5 i) (coords_of cs 5 i)) ≡ good_rule ws cs (1895 + i * 92) (80704 + i * 192)
    unfolding rule via ◌⊗◌ rule_in good_rule
    rule_is =
        rw (value 0, body_is (get_or (row_of ws 5 i) 1 0), list_few 7 (omega arith), list_few 24 (omega arith), rule_word 1 (omega arith))
        (turned (good_body (get_or ws (1895 + i * 92 + 1) 0) ws cs (1895 + i * 92) (80704 + i * 192)) (leb (get_or ws (1895 + i * 92 + 7) 0) 16) (leb (get_or ws (1895 + i * 92 + 24) 0) 16))
