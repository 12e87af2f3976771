-- `row_tests::coord_ok` meets its contract. Assumes nothing.
use Rattle.row_tests.specs.Flat.{good_coord}
use Rattle.row_tests.proofs.coord_ok.Goals as goal

pub returns-then-x : goal.returns-then-x
unfolding good_coord
returns-then-x c = rw c.if-x.true

pub returns : goal.returns
unfolding good_coord
returns c = rw c.if-x.false
