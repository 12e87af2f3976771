-- `validity::crosswalk_points` meets its contract. Assumes nothing.
use Rattle.row_tests.specs.Flat.{crosswalk_points}
use native.Mathlib.Omega.{arith}
use Rattle.validity.proofs.crosswalk_points.Goals as goal

pub overflow_add-result-3 : goal.overflow_add-result-3
unfolding crosswalk_points
overflow_add-result-3 c = omega (arith, c.requires.1)

pub overflow_add-result-4 : goal.overflow_add-result-4
unfolding crosswalk_points
overflow_add-result-4 c = omega (arith, c.requires.1, c.points_if-outline.ensures)

pub returns : goal.returns
unfolding crosswalk_points
returns c = rw c.points_if-outline.ensures
