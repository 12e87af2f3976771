-- Records of any kind, tables and the map, written from the tables.
use Prim.Native.Nat.{ℕ, ◌+◌, ◌-◌, ◌≤◌, ◌<◌}
use mathlib.Core.Path.{◌≡◌}
use mathlib.Core.List.{List}
use native.Mathlib.Omega.{arith}
use lib.Ieee.{Float}
use lib.ListN.{length, get_or, take, drop, length-drop}
use lib.Seq.{length-take-le}
use Rattle.rows.specs.Rows.{cut}
use Rattle.codec.specs.Format.{Bytes, ◌⊗◌, via, only, tagged, counted}
use Rattle.codec.specs.Number.{number}
use Rattle.codec.specs.Items.{list}
use Rattle.map.specs.MapFile.{table, tables, map_file}
use Rattle.map.specs.Tables.{map_of}
use Rattle.store.specs.Layout.{limit_of, width_of, coord_width_of, all_words, all_coords, place_of, coord_place_of, next_of, count_of, row_of, coords_of, records_of, Sized}
use Rattle.store.proofs.KindLaws.{kind_below}
use Rattle.fields.specs.Fields.{Place}
use Rattle.records.specs.Records.{record_form, record_in}
use Rattle.loading.proofs.LoadLaws.{row_fits, coord_row_fits}
use Rattle.putting.specs.Putting.{PutAt}
use Rattle.putting.proofs.PutLaws.{put_then, Items, items_start, items_more, list_put}
use Rattle.mapput.specs.MapPut.{marks_form}

-- ---- a row

module _ (k i a w c v : ℕ) (ws : List ℕ) (cs : List Float) (hk : k < 6) (hi : i < limit_of k) (lw : length ws ≡ all_words) (lc : length cs ≡ all_coords)
    (ea : a ≡ place_of k i) (ew : w ≡ width_of k) where
  pub row_long : width_of k ≤ length (take (a + w - a) (drop a ws))
  row_long =
      let e : a + w - a ≡ w = omega arith in
      let f : a + w ≤ all_words = row_fits k i a w hk hi ea ew in
      rw (e, length-take-le w (drop a ws) (simp length-drop (omega arith))) (omega arith)

  pub row_put : c ≡ coord_place_of k i → v ≡ coord_width_of k → (o o1 : Bytes) (p p1 : Place)
      → PutAt ((record_form k).write (record_in k (take (a + w - a) (drop a ws)) (take (c + v - c) (drop c cs)))) o p p1 o1
      → PutAt ((record_form k).write (record_in k (row_of ws k i) (coords_of cs k i))) o p p1 o1
  unfolding row_of coords_of cut
  row_put ec ev o o1 p p1 x =
      let e : a + w - a ≡ w = omega arith in
      let f : c + v - c ≡ v = omega arith in
      rw (← ea, ← ew, ← ec, ← ev) (rw (e, f) at x)

pub ruleset putting_row = (row_long, row_put, row_fits, coord_row_fits, kind_below)

-- ---- a table

pub record Rowed (k : ℕ) (ws : List ℕ) (cs : List Float) (n : ℕ) (old : Bytes) (p : Place) (out : Bytes) (q : Place) (i : ℕ) : Type 0 where
  pub items : Items (record_form k).write (λ j. record_in k (row_of ws k j) (coords_of cs k j)) n old p out q i

module _ (k : ℕ) (ws : List ℕ) (cs : List Float) (n : ℕ) where
  pub rowed_start : (old mid : Bytes) (p q : Place) → PutAt (number.write n) old p q mid → Rowed k ws cs n mid q mid q 0
  rowed_start old mid p q x = record { items = items_start _ _ n _ old mid p q x }

  pub rowed_more : (old out new : Bytes) (p q r : Place) (i : ℕ) → Rowed k ws cs n old p out q i → i < n → PutAt ((record_form k).write (record_in k (row_of ws k i) (coords_of cs k i))) out q r new → Rowed k ws cs n old p new r (i + 1)
  rowed_more old out new p q r i x h y = record { items = items_more _ _ n old out new p q r i x.items h y }

  module _ (e : n ≡ count_of ws k) where
    pub rowed_end : (old mid new : Bytes) (p q r : Place) (i : ℕ) → PutAt (number.write n) old p q mid → Rowed k ws cs n mid q new r i → n ≤ i
        → PutAt ((list (limit_of k) (record_form k)).write (records_of (record_in k) ws cs k)) old p r new
    unfolding records_of
    rowed_end old mid new p q r i x y h = rw (← e) (list_put (record_form k) (limit_of k) _ n old mid new p q r i x y.items h)

    pub row_inside : k < 6 → Sized ws cs → (i : ℕ) → i < n → i < limit_of k
    row_inside hk s i h = omega (arith, s.words.counts k hk)

pub words_long : (ws : List ℕ) (cs : List Float) → Sized ws cs → length ws ≡ all_words
words_long ws cs s = s.words.room

pub coords_long : (ws : List ℕ) (cs : List Float) → Sized ws cs → length cs ≡ all_coords
coords_long ws cs s = s.coords

pub ruleset putting_table = (rowed_start, rowed_more, rowed_end, row_inside, words_long, coords_long, kind_below)

-- ---- the map

module _ (ws : List ℕ) (cs : List Float) (o o1 o2 o3 : Bytes) (p p1 p2 p3 : Place) where
  pub marks_put : PutAt ((list (limit_of 3) (record_form 3)).write (records_of (record_in 3) ws cs 3)) o p p1 o1 → PutAt ((list (limit_of 4) (record_form 4)).write (records_of (record_in 4) ws cs 4)) o1 p1 p2 o2
      → PutAt ((list (limit_of 5) (record_form 5)).write (records_of (record_in 5) ws cs 5)) o2 p2 p3 o3 → PutAt (marks_form ws cs) o p p3 o3
  unfolding marks_form list counted only ◌⊗◌ records_of
  marks_put x y z = put_then _ _ o o1 o3 p p1 p3 x (put_then _ _ o1 o2 o3 p1 p2 p3 y z)

  module _ (o4 o5 : Bytes) (p4 p5 : Place) where
    pub map_put : PutAt (number.write (get_or ws 0 0)) o p p1 o1 → PutAt ((list (limit_of 0) (record_form 0)).write (records_of (record_in 0) ws cs 0)) o1 p1 p2 o2
        → PutAt ((list (limit_of 1) (record_form 1)).write (records_of (record_in 1) ws cs 1)) o2 p2 p3 o3 → PutAt ((list (limit_of 2) (record_form 2)).write (records_of (record_in 2) ws cs 2)) o3 p3 p4 o4
        → PutAt (marks_form ws cs) o4 p4 p5 o5 → PutAt (map_file.write (map_of ws cs)) o p p5 o5
    unfolding map_file tables table only via tagged ◌⊗◌ map_of next_of marks_form list counted records_of
    map_put x y z w v = put_then _ _ o o1 o5 p p1 p5 x (put_then _ _ o1 o2 o5 p1 p2 p5 y (put_then _ _ o2 o3 o5 p2 p3 p5 z (put_then _ _ o3 o4 o5 p3 p4 p5 w v)))

pub next_inside : (ws : List ℕ) (cs : List Float) → Sized ws cs → 0 < length ws
next_inside ws cs s = omega (arith, s.words.room)

pub ruleset putting_marks = (marks_put)

pub ruleset putting_map = (map_put, next_inside)
