-- `row_tests::bulbs_ok` meets its contract. Assumes nothing.
use Prim.Native.Nat.{◌-◌}
use mathlib.Core.Path.{◌≡◌}
use Rattle.rows.specs.Lists.{every}
use Rattle.rows.proofs.Indexed.{tab}
use Rattle.row_tests.specs.Flat.{good_bulb, good_bulbs}
use Rattle.row_tests.proofs.bulbs_ok.Given as goal

abbrev pub invariant-loop-j : goal.invariant-loop-j
invariant-loop-j l = good_bulbs l.words l.coords l.at l.o ≡ every (λ b. b) (tab (good_bulb l.words l.coords l.at l.o) l.j (l.n - l.j))
