-- What the formats of points, polylines and bulbs ask, as tests of coordinates. Assumes nothing.
use Prim.Native.Nat.{ℕ, zero, suc, ◌+◌, ◌*◌, ◌≤◌, ◌<◌}
use mathlib.Core.Path.{◌≡◌, refl, sym, ap, ◌∙◌}
use mathlib.Core.Bool.{◌&&◌}
use mathlib.Core.List.{List, [], ◌∷◌}
use native.Mathlib.Nat.{add_assoc, add-zero, zero-mul}
use native.Mathlib.Omega.{arith}
use borrow.Author.Tests.{leb-true}
use lib.Dec.{T, leb}
use lib.Ieee.{Float, nan, binary64, fits}
use lib.ListN.{length, get_or}
use Rattle.rows.specs.Lists.{every}
use Rattle.rows.specs.Rows.{cut}
use Rattle.rows.proofs.RowLaws.{cut_cons, get_or-cut}
use Rattle.rows.proofs.Indexed.{tab, list_to_tab, list_to_same, length-list_to}
use Rattle.store.specs.Layout.{limit_of, coord_width_of, coord_place_of, coords_of, all_coords}
use Rattle.store.proofs.StoreLaws.{coords_end}
use Rattle.codec.specs.Format.{◌⊗◌, via}
use Rattle.codec.specs.Number.{split}
use Rattle.map.specs.MapFile.{point, polyline}
use Rattle.map.specs.Tables.{point_from, line_at}
use Rattle.row_tests.specs.Flat.{good_coord, good_line}
use Rattle.validity.proofs.Numbers.{and_true, list_is, three, coordinate_is}

cut_three : (l : List Float) (p m : ℕ) → p + 3 ≤ length l → cut l p (suc (suc (suc m))) ≡ get_or l p nan ∷ get_or l (p + 1) nan ∷ get_or l (p + 2) nan ∷ cut l (p + 3) m
cut_three l p m h =
    let a : p + 1 + 1 ≡ p + 2 = omega arith in
    let b : p + 2 + 1 ≡ p + 3 = omega arith in
    let third = cut_cons l (p + 2) m nan (omega arith) in
    let second = cut_cons l (p + 1) (suc m) nan (omega arith) in
    sym (cut_cons l p (suc (suc m)) nan (omega arith)) ∙ ap (λ (r : List Float). get_or l p nan ∷ r) (sym second
    ∙ ap (λ (r : List Float). get_or l (p + 1) nan ∷ r) (rw a (sym third ∙ rw b)))

cut_zero : (l : List Float) (p : ℕ) → cut l p 0 ≡ []
unfolding cut
cut_zero l p = refl

module _ (cs : List Float) (held : (j : ℕ) → T (fits binary64 (get_or cs j nan))) where
  pub point_is : (p : ℕ) → point.fits (point_from cs p) ≡ good_coord (get_or cs p nan) && (good_coord (get_or cs (p + 1) nan) && good_coord (get_or cs (p + 2) nan))
  unfolding point via ◌⊗◌ point_from
  point_is p = rw (coordinate_is (get_or cs p nan) (held p), coordinate_is (get_or cs (p + 1) nan) (held (p + 1)), coordinate_is (get_or cs (p + 2) nan) (held (p + 2)))

  -- three coordinates in a row
  pub three_coords : (p : ℕ) → p + 3 ≤ length cs → point.fits (point_from cs p) ≡ every good_coord (cut cs p 3)
  unfolding every cut
  three_coords p h = point_is p ∙ sym (ap (every good_coord) (cut_three cs p 0 h) ∙ rw (and_true (good_coord (get_or cs (p + 2) nan))))

  points_left : (q i m : ℕ) → q + i * 3 + m * 3 ≤ length cs → every point.fits (tab (λ j. point_from cs (q + j * 3)) i m) ≡ every good_coord (cut cs (q + i * 3) (m * 3))
  unfolding every tab
  points_left q i zero h = rw (zero-mul, cut_zero cs (q + i * 3))
  points_left q i (suc m) h =
      let e : suc m * 3 ≡ suc (suc (suc (m * 3))) = omega arith in
      let n : q + i * 3 + 3 ≡ q + suc i * 3 = omega arith in
      let x = good_coord (get_or cs (q + i * 3) nan) in
      let y = good_coord (get_or cs (q + i * 3 + 1) nan) in
      let z = good_coord (get_or cs (q + i * 3 + 2) nan) in
      rw (point_is (q + i * 3), points_left q (suc i) m (omega arith), e, cut_three cs (q + i * 3) (m * 3) (omega arith), n)
      (three x y z (every good_coord (cut cs (q + suc i * 3) (m * 3))))

  points_are : (q n : ℕ) → q + n * 3 ≤ length cs → every point.fits (line_at cs q n) ≡ every good_coord (cut cs q (n * 3))
  unfolding line_at
  points_are q n h =
      rw (list_to_tab (λ j. point_from cs (q + j * 3)) n) (points_left q 0 n (omega arith) ∙ rw (zero-mul, add-zero))

  module _ (long : length cs ≡ all_coords) (k i : ℕ) (hk : k < 6) (hi : i < limit_of k) where
    coord_at : (o : ℕ) → o < coord_width_of k → get_or (coords_of cs k i) o nan ≡ get_or cs (coord_place_of k i + o) nan
    unfolding coords_of
    coord_at o h = get_or-cut cs (coord_place_of k i) (coord_width_of k) o nan h

    pub coord_word : (o : ℕ) → o < coord_width_of k → get_or (coords_of cs k i) o nan ≡ get_or cs (coord_place_of k i + o) nan
    coord_word = coord_at

    pub point_at_lem : (o : ℕ) → o + 2 < coord_width_of k → point_from (coords_of cs k i) o ≡ point_from cs (coord_place_of k i + o)
    unfolding point_from
    point_at_lem o h = rw (coord_at o (omega arith), coord_at (o + 1) (omega arith), coord_at (o + 2) (omega arith), add_assoc, add_assoc)

    line_at_lem : (o n : ℕ) → o + n * 3 ≤ coord_width_of k → line_at (coords_of cs k i) o n ≡ line_at cs (coord_place_of k i + o) n
    unfolding line_at
    line_at_lem o n h = list_to_same _ _ n (λ j g. point_at_lem (o + j * 3) (omega arith) ∙ ap (point_from cs) (sym (add_assoc (coord_place_of k i) o (j * 3))))

    length_line : (o n : ℕ) → length (line_at (coords_of cs k i) o n) ≡ n
    unfolding line_at
    length_line o n = length-list_to _ n

    -- a polyline of a record is one, if its count and its coordinates are right
    pub line_is : (o n p : ℕ) → o + 192 ≤ coord_width_of k → p ≡ coord_place_of k i + o → polyline.fits (line_at (coords_of cs k i) o n) ≡ good_line cs p n
    unfolding polyline good_line
    line_is o n p h e =
        list_is 64 point (line_at (coords_of cs k i) o n) (omega arith) ∙ rw (length_line o n, e)
        (split (leb n 64)
        (λ t. let f : n ≤ 64 = leb-true n 64 t in
        rw (t, line_at_lem o n (omega arith)) (points_are (coord_place_of k i + o) n (omega (arith, long, coords_end k i hk hi))))
        (λ t. rw t))
