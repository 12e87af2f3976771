-- `placing::lists::all_on_map` meets its contract. Assumes nothing.
use lib.Ieee.{nan}
use Rattle.geometry.specs.Double.{on_map}
use Rattle.placing.proofs.WalkLaws.{Every}
use Rattle.placing.proofs.lists.all_on_map.Given as goal

abbrev pub invariant-loop-x : goal.invariant-loop-x
invariant-loop-x l = Every on_map nan l.cs l.x-index
