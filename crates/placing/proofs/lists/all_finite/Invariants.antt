-- `placing::lists::all_finite` meets its contract. Assumes nothing.
use lib.Ieee.{nan}
use Rattle.geometry.specs.Double.{is_finite}
use Rattle.placing.proofs.WalkLaws.{Every}
use Rattle.placing.proofs.lists.all_finite.Given as goal

abbrev pub invariant-loop-x : goal.invariant-loop-x
invariant-loop-x l = Every is_finite nan l.cs l.x-index
