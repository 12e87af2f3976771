-- `validity::counts_ok` meets its contract. Assumes nothing.
use Prim.Native.Nat.{◌-◌}
use mathlib.Core.Path.{◌≡◌}
use Rattle.rows.specs.Lists.{every}
use Rattle.rows.proofs.Indexed.{tab}
use Rattle.row_tests.specs.Flat.{good_counts}
use Rattle.validity.proofs.Within.{fits_in}
use Rattle.validity.proofs.counts_ok.Given as goal

abbrev pub invariant-loop-k : goal.invariant-loop-k
invariant-loop-k l = good_counts l.words ≡ every (λ b. b) (tab (fits_in l.words) l.k-index (6 - l.k-index))
