-- `row_tests::coords_ok` meets its contract. Assumes nothing.
use mathlib.Core.Path.{◌≡◌}
use mathlib.Core.Bool.{◌&&◌}
use lib.ListN.{drop}
use Rattle.rows.specs.Lists.{every}
use Rattle.row_tests.specs.Flat.{good_coord}
use Rattle.row_tests.proofs.coords_ok.Given as goal

abbrev pub invariant-loop-x : goal.invariant-loop-x
invariant-loop-x l = every good_coord l.part ≡ (l.good && every good_coord (drop l.x-index l.part))
