use native.Mathlib.Omega.{arith}
use Rattle.store.specs.Kinds.{kind_number}
use Rattle.store.proofs.KindLaws.{kind_below}
use Rattle.store.specs.Layout.{drop_coords}
use Rattle.store.proofs.StoreLaws.{coords_end, drop_coords_fits}
use Rattle.store.proofs.drop_coords.Goals as goal

pub overflow_add-at : goal.overflow_add-at
overflow_add-at c = omega (arith, c.coord_place-at.ensures, c.coord_width-w.ensures, coords_end (kind_number c.args.k) c.args.j (kind_below c.args.k) (omega (arith, c.requires.1, c.requires.2)))

pub overflow_mul-n : goal.overflow_mul-n
overflow_mul-n c = rw c.coord_width-w.ensures
    (omega (arith, c.requires.0, drop_coords_fits c.args.coords.now c.requires.0 (kind_number c.args.k) (kind_below c.args.k) c.args.n c.args.j c.requires.2 c.requires.1))

pub shift-requires : goal.shift-requires
shift-requires c = rw (c.coord_place-at.ensures, c.coord_width-w.ensures)
    (omega arith, drop_coords_fits c.args.coords.now c.requires.0 (kind_number c.args.k) (kind_below c.args.k) c.args.n c.args.j c.requires.2 c.requires.1)

pub returns : goal.returns
unfolding drop_coords
returns c = rw (c.shift.ensures, c.coord_place-at.ensures, c.coord_width-w.ensures)
