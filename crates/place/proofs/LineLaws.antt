-- Lines by value, a side of a lane, and its centreline.
use Prim.Native.Nat.{ℕ, suc, ◌+◌, ◌*◌, ◌/◌, ◌≤◌, ◌<◌, max}
use mathlib.Core.Path.{◌≡◌, refl, sym, ap, ap₂, ◌∙◌}
use mathlib.Core.Bool.{Bool, true, false, not, cond}
use mathlib.Core.List.{List, [], ◌∷◌}
use native.Mathlib.Nat.{zero-add}
use native.Mathlib.Omega.{arith}
use lib.Ieee.{Float, nan}
use lib.ListN.{length, get_or, take, length-take}
use lib.Seq.{get_or-take}
use borrow.Author.Tests.{not-true, not-false}
use Rattle.rows.specs.Lists.{list_to}
use Rattle.rows.specs.Rows.{pasted}
use Rattle.rows.proofs.RowLaws.{get_or_in}
use Rattle.rows.proofs.Indexed.{length-list_to, list_to_same}
use Rattle.geometry.specs.declared.Point2.{Point2}
use Rattle.geometry.specs.declared.NearestPoint.{NearestPoint}
use Rattle.geometry.specs.Polyline.{Polyline, point_in, polyline_of, reversed, middle, centerline, nearest_point}
use Rattle.polyline.proofs.Lines.{length-points}
use Rattle.centerline.specs.declared.Line.{Line}
use Rattle.centerline.specs.Line.{points_of, line_option}
use Rattle.centerline.proofs.Made.{reversed_is}
use Rattle.store.specs.Layout.{SizedWords, limit_of, width_of, coord_width_of, count_of, row_of, coords_of, all_coords}
use Rattle.map.specs.Access.{Found}
use Rattle.std.specs.Prelude.{Some, None, Option}
use Rattle.map.specs.declared.LaneRow.{LaneRow}
use Rattle.map.specs.Record.{Lane, LineString, Map}
use Rattle.map.specs.Lookup.{lane_of, boundary_of, oriented}
use Rattle.map.specs.Tables.{line_at, lane_in, line_string_in, map_of}
use Rattle.map.specs.Access.{lookup, LaneRead, centerline_of_row, lane_of_row}
use Rattle.map.proofs.ReadLaws.{found_index, found_record, none_record, lane_number, line_number}
use Rattle.place.specs.declared.MaybeLine.{MaybeLine}
use Rattle.place.specs.Place.{between, centerline_of, lane_centerline}
use Rattle.place.specs.Readable.{Readable}
use Rattle.place.specs.Values.{maybe_line, Roomy, LineRead, side_of, between_sides, nearest_in}

-- ---- points as coordinates

same_point : (a b : List Float) (n j : ℕ) → j < n → ((i : ℕ) → i < n * 3 → get_or a i nan ≡ get_or b i nan) → point_in a j ≡ point_in b j
unfolding point_in
same_point a b n j h e = rw (e (j * 3) (omega arith), e (j * 3 + 1) (omega arith), e (j * 3 + 2) (omega arith))

-- the first n * 3 coordinates of a list
module _ (cs : List Float) (n : ℕ) where
  pub part_long : n * 3 ≤ length cs → n * 3 ≡ length (take (n * 3) cs)
  part_long h = simp length-take (omega arith)

  part_points : n * 3 ≤ length cs → polyline_of (take (n * 3) cs) ≡ list_to (point_in cs) n
  unfolding polyline_of
  part_points h =
      let e : length (take (n * 3) cs) / 3 ≡ n = omega (arith, part_long h) in
      rw e (list_to_same _ _ n (λ j l. same_point (take (n * 3) cs) cs n j l (λ i k. get_or-take (n * 3) cs i nan k)))

-- the points of a line, as a part of its coordinates
pub line_part_lem : (l : Line) → Roomy l → polyline_of (take (l.count * 3) l.coords) ≡ points_of l
unfolding points_of
line_part_lem l h = part_points l.coords l.count (omega arith)

module _ (cs d : List Float) (n : ℕ) (e : n ≡ length cs / 3) (h : n ≤ 64) (l : length d ≡ 192) where
  pub copy_is : (r : List Float) → r ≡ pasted d 0 (take (n * 3) cs) (length (take (n * 3) cs)) → list_to (point_in r) n ≡ polyline_of cs
  unfolding polyline_of
  copy_is r q =
      let k = part_long cs n (omega arith) in
      rw (q, ← e) (list_to_same _ _ n (λ j m. same_point _ cs n j m (λ i w.
      ap (λ (p : ℕ). get_or (pasted d 0 (take (n * 3) cs) (length (take (n * 3) cs))) p nan) (sym (zero-add i))
      ∙ get_or_in d 0 (take (n * 3) cs) (length (take (n * 3) cs)) i nan (omega arith) (omega arith) (omega arith) ∙ get_or-take (n * 3) cs i nan w)))

-- ---- a record that a look-up found

module _ (ws : List ℕ) (k x i : ℕ) (r : Found) (e : r ≡ lookup ws k x) (f : r ≡ Some i) where
  found_at : lookup ws k x ≡ Some i
  found_at = sym e ∙ f

  pub found_below : k < 6 → i < count_of ws k
  found_below h = (found_index (λ (l : LineString). l.num) line_string_in line_number ws [] k h x i found_at).1

  pub found_within : SizedWords ws → k < 6 → i < limit_of k
  found_within ok h = let a = found_below h in let b = ok.counts k h in omega arith

-- ---- how many points a line has

length_line_points : (l : Line) → length (points_of l) ≡ l.count
unfolding points_of
length_line_points l = length-list_to _ l.count

pub count_few : (l : Line) (xs : Polyline) → points_of l ≡ xs → length xs ≤ 64 → l.count ≤ 64
unfolding points_of
count_few l xs e h = let k = ap length e in omega (arith, length-list_to (point_in l.coords) l.count)

length-reversed : (xs : Polyline) → length (reversed xs) ≡ length xs
length-reversed xs = ap length (sym (reversed_is xs (length xs) refl)) ∙ length-list_to _ (length xs)

length_line : (c : List Float) (o n : ℕ) → length (line_at c o n) ≡ n
unfolding line_at
length_line c o n = length-list_to _ n

-- the points of a part that was read
pub part_few : (s c : List Float) (o n : ℕ) → polyline_of s ≡ line_at c o n → n ≤ 64 → length s / 3 ≤ 64
part_few s c o n e h = omega (arith, length-points s, ap length e, length_line c o n)

-- ---- a side

boundary_wide : (1 < width_of 1) × (coord_width_of 1 ≡ 192)
unfolding width_of coord_width_of
boundary_wide = (omega arith, refl)

oriented_found : (m : Map) (x : ℕ) (t : Bool) (b : LineString) → boundary_of m x ≡ Some b → oriented m (side_of x t) ≡ Some (cond t (reversed b.geometry) b.geometry)
unfolding oriented
oriented_found m x t b e = ap (λ (o : Option LineString). elim o [ None ↦ None | Some d ↦ Some (cond t (reversed d.geometry) d.geometry) ]) e

pub nearest_none : (ws : List ℕ) (cs : List Float) (x : ℕ) (t : Bool) (p : Point2) (r : Found) → r ≡ lookup ws 1 x → r ≡ None → None ≡ nearest_in (oriented (map_of ws cs) (side_of x t)) p
unfolding oriented boundary_of map_of
nearest_none ws cs x t p r e f =
    let n = none_record (λ (l : LineString). l.num) line_string_in line_number ws cs 1 (omega arith) x (sym e ∙ f) in
    sym (ap (λ (o : Option LineString). nearest_in (elim o [ None ↦ None | Some d ↦ Some (cond t (reversed d.geometry) d.geometry) ]) p) n)

pub oriented_none : (ws : List ℕ) (cs : List Float) (x : ℕ) (t : Bool) (r : Found) (a : MaybeLine) → r ≡ lookup ws 1 x → r ≡ None → LineRead None a
    → LineRead (oriented (map_of ws cs) (side_of x t)) a
unfolding oriented boundary_of map_of
oriented_none ws cs x t r a e f h =
    let n = none_record (λ (l : LineString). l.num) line_string_in line_number ws cs 1 (omega arith) x (sym e ∙ f) in
    record {
      answer = h.answer ∙ sym (ap (λ (o : Option LineString). elim o [ None ↦ None | Some d ↦ Some (cond t (reversed d.geometry) d.geometry) ]) n);
      room = h.room;
    }

-- the points of boundary x, which stand in s
pub record Along (ws : List ℕ) (cs : List Float) (x : ℕ) (s : List Float) : Type 0 where
  pub is : oriented (map_of ws cs) (side_of x false) ≡ Some (polyline_of s)
  pub few : length (polyline_of s) ≤ 64

module _ (ws : List ℕ) (cs : List Float) (ok : Readable ws cs) (x i : ℕ) (r : Found) (e : r ≡ lookup ws 1 x) (f : r ≡ Some i) where
  pub boundary_word : SizedWords ws × (i < limit_of 1) × (1 < width_of 1)
  boundary_word = (ok.words.sized, found_within ws 1 x i r e f ok.words.sized (omega arith), boundary_wide.0)

  module _ (w n : ℕ) (ew : w ≡ get_or (row_of ws 1 i) 1 0) (en : n ≡ w) where
    boundary_few : n ≤ 64
    boundary_few = let k = ok.words.boundary i (found_below ws 1 x i r e f (omega arith)) in omega arith

    pub boundary_points : (length cs ≡ all_coords) × (i < limit_of 1) × (0 + n * 3 ≤ coord_width_of 1)
    boundary_points = (ok.coords, found_within ws 1 x i r e f ok.words.sized (omega arith), omega (arith, boundary_few, boundary_wide.1))

    module _ (s : List Float) (es : polyline_of s ≡ line_at (coords_of cs 1 i) 0 n) where
      pub boundary_part : length s / 3 ≤ 64
      boundary_part = part_few s (coords_of cs 1 i) 0 n es boundary_few

      geometry_is : (line_string_in (row_of ws 1 i) (coords_of cs 1 i)).geometry ≡ polyline_of s
      unfolding line_string_in
      geometry_is = rw (← ew, ← en) (sym es)

      points_few : length (polyline_of s) ≤ 64
      points_few = omega (arith, length-points s, boundary_part)

      oriented_is : (t : Bool) → oriented (map_of ws cs) (side_of x t) ≡ Some (cond t (reversed (polyline_of s)) (polyline_of s))
      unfolding boundary_of map_of
      oriented_is t =
          oriented_found (map_of ws cs) x t _ (found_record (λ (l : LineString). l.num) line_string_in line_number ws cs 1 (omega arith) x i (found_at ws 1 x i r e f))
          ∙ rw geometry_is

      pub side_reversed : (t : Bool) (l : Line) → length l.coords ≡ 192 → t ≡ true → points_of l ≡ reversed (polyline_of s) → LineRead (oriented (map_of ws cs) (side_of x t)) (record { there = true; line = l })
      side_reversed t l w q h =
          record { answer = rw (oriented_is t, q, h); room = record { few = count_few l _ h (omega (arith, length-reversed (polyline_of s), points_few)); long = w } }

      pub side_along : (t : Bool) (l : Line) → length l.coords ≡ 192 → t ≡ false → points_of l ≡ polyline_of s → LineRead (oriented (map_of ws cs) (side_of x t)) (record { there = true; line = l })
      side_along t l w q h = record { answer = rw (oriented_is t, q, h); room = record { few = count_few l _ h points_few; long = w } }

      pub nearest_reversed : (t : Bool) (l : Line) (p : Point2) (o : Option NearestPoint) → t ≡ true → points_of l ≡ reversed (polyline_of s) → o ≡ nearest_point (points_of l) p
          → Some o ≡ nearest_in (oriented (map_of ws cs) (side_of x t)) p
      nearest_reversed t l p o q h k = rw (oriented_is t, q, k, h)

      pub reversed_room : (l : Line) → length l.coords ≡ 192 → points_of l ≡ reversed (polyline_of s) → Roomy l
      reversed_room l w h = record { few = count_few l _ h (omega (arith, length-reversed (polyline_of s), points_few)); long = w }

      pub nearest_along : (t : Bool) (p : Point2) (o : Option NearestPoint) → t ≡ false → o ≡ nearest_point (polyline_of s) p → Some o ≡ nearest_in (oriented (map_of ws cs) (side_of x t)) p
      nearest_along t p o q k = rw (oriented_is t, q, k)

      pub stands_along : Along ws cs x s
      stands_along = record { is = oriented_is false; few = points_few }

-- ---- between the sides

center_few : (xs ys zs : Polyline) → centerline xs ys ≡ Some zs → length xs ≤ 64 → length ys ≤ 64 → length zs ≤ 64
unfolding centerline
center_few [] ys zs e h k = let z : ◌≡◌ {A = ℕ} 0 1 = cc in absurd (omega arith)
center_few (x ∷ xs) [] zs e h k = let z : ◌≡◌ {A = ℕ} 0 1 = cc in absurd (omega arith)
center_few (x ∷ xs) (y ∷ ys) zs e h k =
    let n : ℕ = max 2 (max (suc (length xs)) (suc (length ys))) in
    let q : list_to (middle (x ∷ xs) (y ∷ ys) n) n ≡ zs = cc in
    omega (arith, ap length q, length-list_to (middle (x ∷ xs) (y ∷ ys) n) n)

-- a line that was made of two
module _ (xs ys : Polyline) (o : Option Line) (e : line_option o ≡ centerline xs ys) where
  pub lines_apart : (r : MaybeLine) → o ≡ None → LineRead None r → LineRead (between (Some xs) (Some ys)) r
  unfolding between line_option
  lines_apart r q h = record { answer = h.answer ∙ sym (ap line_option q) ∙ e; room = h.room }

  pub between_lines : (c : Line) → o ≡ Some c → length xs ≤ 64 → length ys ≤ 64 → length c.coords ≡ 192 → LineRead (between (Some xs) (Some ys)) (record { there = true; line = c })
  unfolding between line_option
  between_lines c q h k w =
      let f : Some (points_of c) ≡ centerline xs ys = sym (ap line_option q) ∙ e in
      record { answer = f; room = record { few = count_few c (points_of c) refl (center_few xs ys (points_of c) (sym f) h k); long = w } }

module _ (a b : MaybeLine) where
  pub no_left : (r : MaybeLine) → not a.there ≡ true → LineRead None r → LineRead (between (maybe_line a) (maybe_line b)) r
  unfolding between
  no_left r t h = let f = not-true a.there t in record { answer = rw f h.answer; room = h.room }

  pub no_right : (r : MaybeLine) → not a.there ≡ false → not b.there ≡ true → LineRead None r → LineRead (between (maybe_line a) (maybe_line b)) r
  unfolding between
  no_right r s t h =
      let e = not-false a.there s in
      let f = not-true b.there t in
      record { answer = rw (e, f) h.answer; room = h.room }

  module _ (ra : Roomy a.line) (rb : Roomy b.line) where
    module _ (o : Option Line)
        (e : line_option o ≡ centerline (polyline_of (take (a.line.count * 3) a.line.coords)) (polyline_of (take (b.line.count * 3) b.line.coords)))
        (s : not a.there ≡ false) (t : not b.there ≡ false) where
      pub between_none : (r : MaybeLine) → o ≡ None → LineRead None r → LineRead (between (maybe_line a) (maybe_line b)) r
      between_none r q h =
          let f = not-false a.there s in
          let g = not-false b.there t in
          rw (f, g) (lines_apart (points_of a.line) (points_of b.line) o (e ∙ ap₂ centerline (line_part_lem a.line ra) (line_part_lem b.line rb)) r q h)

      pub between_made : (c : Line) → o ≡ Some c → length c.coords ≡ 192 → LineRead (between (maybe_line a) (maybe_line b)) (record { there = true; line = c })
      between_made c q w =
          let f = not-false a.there s in
          let g = not-false b.there t in
          rw (f, g) (between_lines (points_of a.line) (points_of b.line) o (e ∙ ap₂ centerline (line_part_lem a.line ra) (line_part_lem b.line rb)) c q
          (omega (arith, length_line_points a.line, ra.few)) (omega (arith, length_line_points b.line, rb.few)) w)

-- ---- between sides that are read where they stand

side_missing : (ws : List ℕ) (cs : List Float) (x : ℕ) (t : Bool) (r : Found) → r ≡ lookup ws 1 x → r ≡ None → oriented (map_of ws cs) (side_of x t) ≡ None
unfolding oriented boundary_of map_of
side_missing ws cs x t r e f =
    let n = none_record (λ (l : LineString). l.num) line_string_in line_number ws cs 1 (omega arith) x (sym e ∙ f) in
    ap (λ (o : Option LineString). elim o [ None ↦ None | Some d ↦ Some (cond t (reversed d.geometry) d.geometry) ]) n

module _ (ws : List ℕ) (cs : List Float) (x y : ℕ) (a : MaybeLine) (h : LineRead None a) where
  pub along_no_left : (r : Found) → r ≡ lookup ws 1 x → r ≡ None → LineRead (between (oriented (map_of ws cs) (side_of x false)) (oriented (map_of ws cs) (side_of y false))) a
  unfolding between
  along_no_left r e f = rw (side_missing ws cs x false r e f) h

  pub along_no_right : (r : Found) → r ≡ lookup ws 1 y → r ≡ None → LineRead (between (oriented (map_of ws cs) (side_of x false)) (oriented (map_of ws cs) (side_of y false))) a
  unfolding between
  along_no_right r e f = rw (side_missing ws cs y false r e f) (go (oriented (map_of ws cs) (side_of x false)))
    where
      go : (o : Option Polyline) → LineRead (between o None) a
      go None = h
      go (Some l) = h

module _ (ws : List ℕ) (cs : List Float) (x y : ℕ) (s t : List Float) (p : Along ws cs x s) (q : Along ws cs y t) (o : Option Line)
    (e : line_option o ≡ centerline (polyline_of s) (polyline_of t)) where
  pub along_none : (r : MaybeLine) → o ≡ None → LineRead None r → LineRead (between (oriented (map_of ws cs) (side_of x false)) (oriented (map_of ws cs) (side_of y false))) r
  along_none r z h = rw (p.is, q.is) (lines_apart (polyline_of s) (polyline_of t) o e r z h)

  pub along_made : (c : Line) → o ≡ Some c → length c.coords ≡ 192
      → LineRead (between (oriented (map_of ws cs) (side_of x false)) (oriented (map_of ws cs) (side_of y false))) (record { there = true; line = c })
  along_made c z w = rw (p.is, q.is) (between_lines (polyline_of s) (polyline_of t) o e c z p.few q.few w)

-- ---- a lane's centreline

lane_wide : coord_width_of 0 ≡ 192
unfolding coord_width_of
lane_wide = refl

lane_many : limit_of 0 ≡ 64
unfolding limit_of
lane_many = refl

line_same : (c : List Float) (n n' : ℕ) → Some (line_at c 0 n) ≡ Some (line_at c 0 n') → n ≡ n'
line_same c n n' e =
    let q : line_at c 0 n ≡ line_at c 0 n' = cc in
    sym (length_line c 0 n) ∙ ap length q ∙ length_line c 0 n'

stored_same : (c : List Float) (o : Found) (b : Bool) (n n' : ℕ) → centerline_of_row o c ≡ cond b (Some (line_at c 0 n')) None → o ≡ Some n → (b ≡ true) × (n ≡ n')
stored_same c o true n n' e t = (refl, line_same c n n' (rw t at e))
stored_same c o false n n' e t =
    let q : Some (line_at c 0 n) ≡ None = rw t at e in
    let z : ◌≡◌ {A = ℕ} 0 1 = cc in
    absurd (omega arith)

module _ (m : Map) (r : LaneRow) (c : List Float) where
  abbrev sides_line : Option Polyline
  sides_line = between (oriented m (side_of r.left r.left_reversed)) (oriented m (side_of r.right r.right_reversed))

  stored_is : (n : ℕ) → r.centerline ≡ Some n → centerline_of m (lane_of_row r c) ≡ Some (line_at c 0 n)
  unfolding centerline_of lane_of_row
  stored_is n t = ap {B = Option Polyline} (λ (o : Found). elim (centerline_of_row o c) [ Some l ↦ Some l | None ↦ sides_line ]) t

  made_is : r.centerline ≡ None → centerline_of m (lane_of_row r c) ≡ between (oriented m (side_of r.left r.left_reversed)) (oriented m (side_of r.right r.right_reversed))
  unfolding centerline_of lane_of_row
  made_is t = ap {B = Option Polyline} (λ (o : Found). elim (centerline_of_row o c) [ Some l ↦ Some l | None ↦ sides_line ]) t

pub no_lane : (ws : List ℕ) (cs : List Float) (x : ℕ) (r : Found) (a : MaybeLine) → r ≡ lookup ws 0 x → r ≡ None → LineRead None a → LineRead (lane_centerline (map_of ws cs) x) a
unfolding lane_centerline lane_of map_of
no_lane ws cs x r a e f h =
    let n = none_record (λ (l : Lane). l.num) lane_in lane_number ws cs 0 (omega arith) x (sym e ∙ f) in
    record { answer = h.answer ∙ sym (ap (λ (o : Option Lane). elim o [ None ↦ None | Some l ↦ centerline_of (map_of ws cs) l ]) n); room = h.room }

module _ (ws : List ℕ) (cs : List Float) (ok : Readable ws cs) (x i : ℕ) (r : Found) (e : r ≡ lookup ws 0 x) (f : r ≡ Some i) where
  pub lane_row : SizedWords ws × (i < 64)
  lane_row = (ok.words.sized, omega (arith, found_within ws 0 x i r e f ok.words.sized (omega arith), lane_many))

  module _ (row : LaneRow) (read : LaneRead (row_of ws 0 i) row) where
    center_of_row : lane_centerline (map_of ws cs) x ≡ centerline_of (map_of ws cs) (lane_of_row row (coords_of cs 0 i))
    unfolding lane_centerline lane_of map_of
    center_of_row =
        ap (λ (o : Option Lane). elim o [ None ↦ None | Some l ↦ centerline_of (map_of ws cs) l ]) (found_record (λ (l : Lane). l.num) lane_in lane_number ws cs 0 (omega arith) x i (found_at ws 0 x i r e f))
        ∙ ap (centerline_of (map_of ws cs)) (sym (read.lane (coords_of cs 0 i)))

    module _ (m : ℕ) (t : row.centerline ≡ Some m) (n : ℕ) (en : n ≡ m) where
      stored_few : n ≤ 64
      unfolding lane_of_row lane_in
      stored_few =
          let q = stored_same (coords_of cs 0 i) _ _ m _ (ap (λ (l : Lane). l.centerline) (read.lane (coords_of cs 0 i))) t in
          let k = ok.words.center i (found_below ws 0 x i r e f (omega arith)) q.0 in
          omega (arith, q.1)

      pub stored_points : (length cs ≡ all_coords) × (i < limit_of 0) × (0 + n * 3 ≤ coord_width_of 0)
      stored_points = (ok.coords, found_within ws 0 x i r e f ok.words.sized (omega arith), omega (arith, stored_few, lane_wide))

      module _ (s : List Float) (es : polyline_of s ≡ line_at (coords_of cs 0 i) 0 n) where
        pub stored_part : length s / 3 ≤ 64
        stored_part = part_few s (coords_of cs 0 i) 0 n es stored_few

        pub stored_line : (l : Line) → length l.coords ≡ 192 → points_of l ≡ polyline_of s → LineRead (lane_centerline (map_of ws cs) x) (record { there = true; line = l })
        stored_line l w h =
            record {
              answer = ap Some (h ∙ es ∙ ap (line_at (coords_of cs 0 i) 0) en) ∙ sym (center_of_row ∙ stored_is (map_of ws cs) row (coords_of cs 0 i) m t);
              room = record { few = count_few l _ h (omega (arith, length-points s, stored_part)); long = w };
            }

    pub made_line : (c : MaybeLine) → row.centerline ≡ None → LineRead (between_sides (map_of ws cs) row) c → LineRead (lane_centerline (map_of ws cs) x) c
    made_line c t h = record { answer = h.answer ∙ sym (center_of_row ∙ made_is (map_of ws cs) row (coords_of cs 0 i) t); room = h.room }
