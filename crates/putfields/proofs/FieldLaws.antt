-- The fields of a map's records, written from a row.
use Prim.Native.Nat.{ℕ, ◌+◌, ◌-◌, ◌*◌, min, ◌≤◌, ◌<◌}
use mathlib.Core.Path.{◌≡◌, refl, sym}
use mathlib.Core.Bool.{true, not, cond}
use Rattle.std.specs.Prelude.{None, Some}
use mathlib.Core.List.{List, [], ◌∷◌, append-nil}
use native.Mathlib.Omega.{arith}
use native.Mathlib.Nat.{min-eq_left, min-eq_right}
use lib.Dec.{eqb, leb}
use lib.Ieee.{Float, nan, inf, fin, is_nan, binary64, of_bits, to_bits}
use lib.ListN.{length, get_or, take, drop, length-drop, drop_of_length-le}
use lib.Seq.{sets, sets-eq, take_all}
use borrow.Author.Tests.{eq-eqb, ne_eqb, leb-true, leb-false}
use Rattle.std.proofs.Common.{get_or-drop, drop-drop}
use Rattle.rows.specs.Lists.{list_to}
use Rattle.codec.specs.Format.{Bytes, Format, no_true, ◌⊗◌, via, only, tagged, nothing}
use Rattle.codec.specs.Number.{number, split}
use Rattle.codec.specs.Double.{double, low_bytes}
use Rattle.codec.specs.Items.{below, list, flag, option}
use Rattle.codec.proofs.DoubleLaws.{double-length}
use Rattle.map.specs.MapFile.{coordinate, height, point, polyline, numbers, bulb}
use Rattle.map.specs.Tables.{point_from, line_at, bulb_at}
use Rattle.fields.specs.Fields.{Place, bulb_from}
use Rattle.putting.specs.Putting.{PutAt}
use Rattle.putfields.specs.Entries.{entries_in}
use Rattle.putting.proofs.PutLaws.{put_then, Items, items_start, items_more, list_put}

-- ---- what is left of a row

module _ {A : Type 0} (l : List A) where
  pub rest_is : (n : ℕ) → take (length l - min n (length l)) (drop (min n (length l)) l) ≡ drop n l
  rest_is n =
      split (leb n (length l))
      (λ t. let h = leb-true n (length l) t in rw (min-eq_left {n = n} {m = length l} h) (take_all (length l - n) (drop n l) (omega (arith, length-drop n l))))
      (λ t.
      let h = leb-false n (length l) t in
      rw (min-eq_right {n = length l} {m = n} (omega arith), drop_of_length-le l {i = n} (omega arith), drop_of_length-le l {i = length l} (omega arith))
      (take_all (length l - length l) [] (omega arith)))

  -- w entries further on, after i times w of them
  step : (from w i : ℕ) (rest rest' : List A) → rest ≡ drop (from + i * w) l → rest' ≡ drop w rest → rest' ≡ drop (from + (i + 1) * w) l
  step from w i rest rest' e f =
      let g : from + i * w + w ≡ from + (i + 1) * w = omega (arith, native.Mathlib.Nat.add-mul i 1 w) in
      rw (f, e, drop-drop w (from + i * w) l, g)

  start : (from w : ℕ) (rest : List A) → rest ≡ drop from l → rest ≡ drop (from + 0 * w) l
  start from w rest e = let g : from + 0 * w ≡ from = omega arith in rw (e, g)

pub ruleset going_on = (rest_is)

-- ---- flags

module _ (w : ℕ) (old : Bytes) (p r : Place) (new : Bytes) where
  pub flag_no : w ≡ 0 → PutAt (number.write 0) old p r new → PutAt (flag.write (not (eqb w 0))) old p r new
  unfolding flag via below only
  flag_no e x = rw (eq-eqb w 0 e) x

  pub flag_yes : (w ≡ 0 → ⊥) → PutAt (number.write 1) old p r new → PutAt (flag.write (not (eqb w 0))) old p r new
  unfolding flag via below only
  flag_yes e x = rw (ne_eqb w 0 e) x

pub ruleset putting_flag = (flag_no, flag_yes)

-- ---- doubles

pub nan_bytes : double.write nan ≡ 0 ∷ 0 ∷ 0 ∷ 0 ∷ 0 ∷ 0 ∷ 248 ∷ 127 ∷ []
unfolding double low_bytes to_bits
nan_bytes = refl

pub no_coordinate : of_bits binary64 9221120237041090560 ≡ nan
unfolding of_bits
no_coordinate = refl

only_nan : (x : Float) → is_nan x ≡ true → x ≡ nan
unfolding is_nan
only_nan nan h = refl
only_nan (inf s) h = absurd (no_true h)
only_nan (fin s m e) h = absurd (no_true h)

module _ (x : Float) (old : Bytes) (p r : Place) (new : Bytes) where
  pub nan_put : true ≡ is_nan x → PutAt (0 ∷ 0 ∷ 0 ∷ 0 ∷ 0 ∷ 0 ∷ 248 ∷ 127 ∷ []) old p r new → PutAt (double.write x) old p r new
  nan_put h y = rw (only_nan x (sym h), nan_bytes) y

  pub double_put : (bytes room : Bytes) → length room ≡ 8 → bytes ≡ sets room 0 (double.write x) → PutAt bytes old p r new → PutAt (double.write x) old p r new
  double_put bytes room l e y =
      let k = double-length x in
      let z : sets room 0 (double.write x) ≡ double.write x = rw (sets-eq (double.write x) room 0 (omega arith), drop_of_length-le room {i = 0 + length (double.write x)} (omega arith)) (append-nil (double.write x)) in
      rw (e, z) at y

pub ruleset putting_double = (double_put)

-- ---- points

module _ (cs : List Float) (o o1 o2 o3 : Bytes) (p p1 p2 p3 : Place) (x y z : Float) where
  pub point_put : x ≡ get_or cs 0 nan → y ≡ get_or cs 1 nan → z ≡ get_or cs 2 nan → PutAt (double.write x) o p p1 o1 → PutAt (double.write y) o1 p1 p2 o2 → PutAt (double.write z) o2 p2 p3 o3
      → PutAt (point.write (point_from cs 0)) o p p3 o3
  unfolding point coordinate point_from via ◌⊗◌ only
  point_put ex ey ez a b d = put_then _ _ o o1 o3 p p1 p3 (rw ex at a) (put_then _ _ o1 o2 o3 p1 p2 p3 (rw ey at b) (rw ez at d))

pub ruleset putting_point = (point_put)

point_same : (cs rest : List Float) (k : ℕ) → rest ≡ drop k cs → point_from rest 0 ≡ point_from cs k
unfolding point_from
point_same cs rest k e = let z : k + 0 ≡ k = omega arith in rw (e, get_or-drop k cs 0 nan, get_or-drop k cs 1 nan, get_or-drop k cs 2 nan, z)

-- ---- polylines

-- the first i of n points stand there, and the rest begins with the next one
pub record Points (cs : List Float) (c n : ℕ) (old : Bytes) (p : Place) (out : Bytes) (q : Place) (rest : List Float) (i : ℕ) : Type 0 where
  pub items : Items point.write (λ j. point_from cs (c + j * 3)) n old p out q i
  pub along : rest ≡ drop (c + i * 3) cs

module _ (cs : List Float) (c n : ℕ) (old mid : Bytes) (p q : Place) (x : PutAt (number.write n) old p q mid) where
  pub points_start : (rest : List Float) → rest ≡ drop c cs → Points cs c n mid q mid q rest 0
  points_start rest e = record { items = items_start _ _ n _ old mid p q x; along = start cs c 3 rest e }

  pub points_end : (new : Bytes) (r : Place) (rest : List Float) (k : ℕ) → Points cs c n mid q new r rest k → n ≤ k → PutAt (polyline.write (line_at cs c n)) old p r new
  unfolding polyline line_at
  points_end new r rest k i h = list_put point 64 _ n old mid new p q r k x i.items h

pub points_more : (cs : List Float) (c n : ℕ) (old out new : Bytes) (p q r : Place) (rest rest' : List Float) (i : ℕ) → Points cs c n old p out q rest i → i < n
    → PutAt (point.write (point_from rest 0)) out q r new → rest' ≡ drop 3 rest → Points cs c n old p new r rest' (i + 1)
points_more cs c n old out new p q r rest rest' i w h x e =
    record {
      items = items_more _ _ n old out new p q r i w.items h (rw (point_same cs rest (c + i * 3) w.along) at x);
      along = step cs c 3 i rest rest' w.along e;
    }

pub ruleset putting_line = (points_start, points_more, points_end)

-- ---- lists of numbers

-- the first i of n numbers stand there
pub record Numbered (ws : List ℕ) (from n : ℕ) (old : Bytes) (p : Place) (out : Bytes) (q : Place) (i : ℕ) : Type 0 where
  pub items : Items number.write (λ j. get_or ws (from + j) 0) n old p out q i

module _ (ws : List ℕ) (from n : ℕ) where
  pub numbered_start : (old mid : Bytes) (p q : Place) → PutAt (number.write n) old p q mid → Numbered ws from n mid q mid q 0
  numbered_start old mid p q x = record { items = items_start _ _ n _ old mid p q x }

  pub numbered_more : (old out new : Bytes) (p q r : Place) (i v : ℕ) (row : List ℕ) → Numbered ws from n old p out q i → i < n → row ≡ drop from ws → v ≡ get_or row i 0 → PutAt (number.write v) out q r new → Numbered ws from n old p new r (i + 1)
  numbered_more old out new p q r i v row x h e f y = record { items = items_more _ _ n old out new p q r i x.items h (rw (f, e, get_or-drop from ws i 0) at y) }

  pub numbered_end : (old mid new : Bytes) (p q r : Place) (i : ℕ) → PutAt (number.write n) old p q mid → Numbered ws from n mid q new r i → n ≤ i → PutAt (numbers.write (entries_in ws from n)) old p r new
  unfolding numbers entries_in
  numbered_end old mid new p q r i x y h = list_put number 16 _ n old mid new p q r i x y.items h

pub ruleset putting_numbers = (numbered_start, numbered_more, numbered_end)

-- ---- options

module _ {A : Type 0} (f : Format A) (a : A) (there : ℕ) (o o1 : Bytes) (p p1 : Place) where
  none_put : there ≡ 0 → PutAt (number.write 0) o p p1 o1 → PutAt ((option f).write (cond (not (eqb there 0)) (Some a) None)) o p p1 o1
  unfolding option via tagged nothing
  none_put e x = rw (eq-eqb there 0 e, append-nil (number.write 0)) x

  some_put : (o2 : Bytes) (p2 : Place) → (there ≡ 0 → ⊥) → PutAt (number.write 1) o p p1 o1 → PutAt (f.write a) o1 p1 p2 o2 → PutAt ((option f).write (cond (not (eqb there 0)) (Some a) None)) o p p2 o2
  unfolding option via tagged
  some_put o2 p2 e x y = rw (ne_eqb there 0 e) (put_then _ _ o o1 o2 p p1 p2 x y)

module _ (there n : ℕ) (o o1 : Bytes) (p p1 : Place) where
  pub no_number : there ≡ 0 → PutAt (number.write 0) o p p1 o1 → PutAt ((option number).write (cond (not (eqb there 0)) (Some n) None)) o p p1 o1
  no_number e x = none_put number n there o o1 p p1 e x

  pub a_number : (o2 : Bytes) (p2 : Place) → (there ≡ 0 → ⊥) → PutAt (number.write 1) o p p1 o1 → PutAt (number.write n) o1 p1 p2 o2 → PutAt ((option number).write (cond (not (eqb there 0)) (Some n) None)) o p p2 o2
  a_number o2 p2 e x y = some_put number n there o o1 p p1 o2 p2 e x y

  module _ (cs : List Float) (c : ℕ) where
    pub no_line : there ≡ 0 → PutAt (number.write 0) o p p1 o1 → PutAt ((option polyline).write (cond (not (eqb there 0)) (Some (line_at cs c n)) None)) o p p1 o1
    no_line e x = none_put polyline (line_at cs c n) there o o1 p p1 e x

    pub a_line : (o2 : Bytes) (p2 : Place) → (there ≡ 0 → ⊥) → PutAt (number.write 1) o p p1 o1 → PutAt (polyline.write (line_at cs c n)) o1 p1 p2 o2
        → PutAt ((option polyline).write (cond (not (eqb there 0)) (Some (line_at cs c n)) None)) o p p2 o2
    a_line o2 p2 e x y = some_put polyline (line_at cs c n) there o o1 p p1 o2 p2 e x y

module _ (there : ℕ) (cs : List Float) (c : ℕ) (o o1 : Bytes) (p p1 : Place) where
  pub no_height : there ≡ 0 → PutAt (number.write 0) o p p1 o1 → PutAt ((option height).write (cond (not (eqb there 0)) (Some (get_or cs c nan)) None)) o p p1 o1
  no_height e x = none_put height (get_or cs c nan) there o o1 p p1 e x

  pub a_height : (o2 : Bytes) (p2 : Place) (v : Float) → v ≡ get_or cs c nan → (there ≡ 0 → ⊥) → PutAt (number.write 1) o p p1 o1 → PutAt (double.write v) o1 p1 p2 o2
      → PutAt ((option height).write (cond (not (eqb there 0)) (Some (get_or cs c nan)) None)) o p p2 o2
  unfolding height only
  a_height o2 p2 v z e x y = some_put height (get_or cs c nan) there o o1 p p1 o2 p2 e x (rw z at y)

pub ruleset putting_option = (no_number, a_number, no_line, a_line, no_height, a_height)

-- ---- bulbs

module _ (ws : List ℕ) (cs : List Float) (o o1 o2 o3 : Bytes) (p p1 p2 p3 : Place) (x y : ℕ) where
  pub bulb_put : x ≡ get_or ws 0 0 → y ≡ get_or ws 1 0 → PutAt (point.write (point_from cs 0)) o p p1 o1 → PutAt (number.write x) o1 p1 p2 o2 → PutAt (number.write y) o2 p2 p3 o3
      → PutAt (bulb.write (bulb_from ws 0 cs 0)) o p p3 o3
  unfolding bulb via ◌⊗◌ below only
  bulb_put ex ey a b d = put_then _ _ o o1 o3 p p1 p3 a (put_then _ _ o1 o2 o3 p1 p2 p3 (rw ex at b) (rw ey at d))

pub ruleset putting_bulb = (bulb_put)

-- the first i of n bulbs stand there, and what is left of the words and the coordinates begins with the next one's
pub record Bulbs (ws : List ℕ) (cs : List Float) (n : ℕ) (old : Bytes) (p : Place) (out : Bytes) (q : Place) (words : List ℕ) (coords : List Float) (i : ℕ) : Type 0 where
  pub items : Items bulb.write (bulb_at ws cs) n old p out q i
  pub along : words ≡ drop (5 + i * 2) ws
  pub beside : coords ≡ drop (193 + i * 3) cs

bulb_same : (ws words : List ℕ) (cs coords : List Float) (i : ℕ) → words ≡ drop (5 + i * 2) ws → coords ≡ drop (193 + i * 3) cs → bulb_from words 0 coords 0 ≡ bulb_at ws cs i
unfolding bulb_at
bulb_same ws words cs coords i e f =
    let a : get_or words 0 0 ≡ get_or ws (5 + i * 2) 0 = let z : 5 + i * 2 + 0 ≡ 5 + i * 2 = omega arith in rw (e, get_or-drop (5 + i * 2) ws 0 0, z) in
    let b : get_or words 1 0 ≡ get_or ws (6 + i * 2) 0 = let z : 5 + i * 2 + 1 ≡ 6 + i * 2 = omega arith in rw (e, get_or-drop (5 + i * 2) ws 1 0, z) in
    rw (point_same cs coords (193 + i * 3) f, a, b)

module _ (ws : List ℕ) (cs : List Float) where
  pub bulbs_start : (n : ℕ) (old mid : Bytes) (p q : Place) (words : List ℕ) (coords : List Float) → PutAt (number.write n) old p q mid → words ≡ drop 5 ws → coords ≡ drop 193 cs → Bulbs ws cs n mid q mid q words coords 0
  bulbs_start n old mid p q words coords x e f = record { items = items_start _ _ n _ old mid p q x; along = start ws 5 2 words e; beside = start cs 193 3 coords f }

  pub bulbs_more : (n : ℕ) (old out new : Bytes) (p q r : Place) (words words' : List ℕ) (coords coords' : List Float) (i : ℕ) → Bulbs ws cs n old p out q words coords i → i < n
      → PutAt (bulb.write (bulb_from words 0 coords 0)) out q r new → words' ≡ drop 2 words → coords' ≡ drop 3 coords → Bulbs ws cs n old p new r words' coords' (i + 1)
  bulbs_more n old out new p q r words words' coords coords' i w h x e f =
      record {
        items = items_more _ _ n old out new p q r i w.items h (rw (bulb_same ws words cs coords i w.along w.beside) at x);
        along = step ws 5 2 i words words' w.along e;
        beside = step cs 193 3 i coords coords' w.beside f;
      }

  pub bulbs_end : (n : ℕ) (old mid new : Bytes) (p q r : Place) (words : List ℕ) (coords : List Float) (i : ℕ) → PutAt (number.write n) old p q mid → Bulbs ws cs n mid q new r words coords i → n ≤ i
      → PutAt ((list 4 bulb).write (list_to (bulb_at ws cs) n)) old p r new
  bulbs_end n old mid new p q r words coords i x y h = list_put bulb 4 _ n old mid new p q r i x y.items h

pub ruleset putting_bulbs = (bulbs_start, bulbs_more, bulbs_end)
