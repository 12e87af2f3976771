use native.Mathlib.Omega.{arith}
use Rattle.store.proofs.KindLaws.{kind_below}
use Rattle.loading.proofs.LoadLaws as F
use Rattle.mapput.proofs.TableLaws as L
use borrow.Author.Rules.{rules}
use Rattle.mapput.proofs.put_row.Goals as goal

pub overflow_add-e : goal.overflow_add-e
overflow_add-e c = let h = F.row_fits _ _ _ _ (kind_below c.args.k) c.requires.0 c.place-a.ensures c.width.ensures in
    omega arith

pub overflow_add-f : goal.overflow_add-f
overflow_add-f c = let h = F.coord_row_fits _ _ _ _ (kind_below c.args.k) c.requires.0 c.coord_place-c.ensures c.coord_width.ensures in
    omega arith

pub offset_bounds-words-a : goal.offset_bounds-words-a
offset_bounds-words-a c = let h = F.row_fits _ _ _ _ (kind_below c.args.k) c.requires.0 c.place-a.ensures c.width.ensures in
    omega arith

pub slice_bounds-put_record-count : goal.slice_bounds-put_record-count
slice_bounds-put_record-count c = search (rules, L.putting_row)

pub slice_bounds-put_record-start : goal.slice_bounds-put_record-start
slice_bounds-put_record-start c = search (rules, L.putting_row)

pub slice_bounds-put_record-end : goal.slice_bounds-put_record-end
slice_bounds-put_record-end c = let h = F.row_fits _ _ _ _ (kind_below c.args.k) c.requires.0 c.place-a.ensures c.width.ensures in
    omega (arith, c.requires.1)

pub offset_bounds-coords-c : goal.offset_bounds-coords-c
offset_bounds-coords-c c = let h = F.coord_row_fits _ _ _ _ (kind_below c.args.k) c.requires.0 c.coord_place-c.ensures c.coord_width.ensures in
    omega arith

pub slice_bounds-put_record-count-2 : goal.slice_bounds-put_record-count-2
slice_bounds-put_record-count-2 c = search (rules, L.putting_row)

pub slice_bounds-put_record-start-2 : goal.slice_bounds-put_record-start-2
slice_bounds-put_record-start-2 c = search (rules, L.putting_row)

pub slice_bounds-put_record-end-2 : goal.slice_bounds-put_record-end-2
slice_bounds-put_record-end-2 c = let h = F.coord_row_fits _ _ _ _ (kind_below c.args.k) c.requires.0 c.coord_place-c.ensures c.coord_width.ensures in
    omega (arith, c.requires.2)

pub put_record-requires : goal.put_record-requires
put_record-requires c = search (rules, L.putting_row)

pub shape_of-out : goal.shape_of-out
shape_of-out c = search (rules, L.putting_row)

pub returns : goal.returns
returns c = search (rules, L.putting_row)
