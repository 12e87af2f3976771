use native.Mathlib.Omega.{arith}
use Rattle.store.specs.Kinds.{kind_number}
use Rattle.store.proofs.KindLaws.{kind_below}
use Rattle.store.specs.Layout.{put_coords}
use Rattle.store.proofs.StoreLaws.{coords_end}
use Rattle.store.proofs.put_coords.Goals as goal

pub overflow_add-coord_place : goal.overflow_add-coord_place
overflow_add-coord_place c = omega (arith, c.coord_place.ensures, c.requires.2, coords_end (kind_number c.args.k) c.args.i (kind_below c.args.k) c.requires.1)

pub put-requires : goal.put-requires
put-requires c = omega (arith, c.coord_place.ensures, c.requires.2, c.requires.0, coords_end (kind_number c.args.k) c.args.i (kind_below c.args.k) c.requires.1)

pub returns : goal.returns
unfolding put_coords
returns c = rw (c.put.ensures, c.coord_place.ensures)
