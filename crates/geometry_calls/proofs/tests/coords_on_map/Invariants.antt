-- `geometry_calls::tests::coords_on_map` meets its contract: those before are on the map. Assumes nothing.
use Rattle.geometry_calls.proofs.Laws.{OnMapTo}
use Rattle.geometry_calls.proofs.tests.coords_on_map.Given as goal

abbrev pub invariant-loop-c : goal.invariant-loop-c
invariant-loop-c l = OnMapTo l.cs l.c-index
