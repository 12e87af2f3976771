use native.Mathlib.Omega.{arith}
use Rattle.store.specs.Kinds.{kind_number}
use Rattle.store.proofs.KindLaws.{kind_below}
use Rattle.store.proofs.StoreLaws.{coords_end}
use Prim.Native.Nat.{ℕ, ◌+◌}
use mathlib.Core.Path.{ap}
use Rattle.map.proofs.ReadLaws.{points_part}
use Rattle.map.proofs.lookup.points.Goals as goal

pub overflow_add-at : goal.overflow_add-at
overflow_add-at c = omega (arith, c.coord_place.ensures, coords_end (kind_number c.args.k) c.args.i (kind_below c.args.k) c.requires.1, c.requires.2)

pub overflow_mul-e : goal.overflow_mul-e
overflow_mul-e c = omega (arith, c.coord_place.ensures, coords_end (kind_number c.args.k) c.args.i (kind_below c.args.k) c.requires.1, c.requires.2)

pub overflow_add-e : goal.overflow_add-e
overflow_add-e c = omega (arith, c.coord_place.ensures, coords_end (kind_number c.args.k) c.args.i (kind_below c.args.k) c.requires.1, c.requires.2)

pub offset_bounds-coords-at : goal.offset_bounds-coords-at
offset_bounds-coords-at c = omega (arith, c.coord_place.ensures, coords_end (kind_number c.args.k) c.args.i (kind_below c.args.k) c.requires.1, c.requires.2, c.requires.0)

pub slice_bounds-result-end : goal.slice_bounds-result-end
slice_bounds-result-end c = omega (arith, c.coord_place.ensures, coords_end (kind_number c.args.k) c.args.i (kind_below c.args.k) c.requires.1, c.requires.2, c.requires.0)

pub returns : goal.returns
returns c = points_part c.args.coords.now c.requires.0 (kind_number c.args.k) c.args.i c.args.o c.args.n _ (kind_below c.args.k) c.requires.1 c.requires.2
    (ap (λ (p : ℕ). p + c.args.o) c.coord_place.ensures)
