-- `set_tests::warnings_ok` meets its contract. Assumes nothing.
use Rattle.changes.specs.Layout.{from_of, warnings_at}
use Rattle.changes.specs.ChangeFile.{warnings}
use Rattle.set_tests.proofs.SetLaws as L
use Rattle.set_tests.proofs.warnings_ok.Given as goal

abbrev pub invariant-loop-i : goal.invariant-loop-i
invariant-loop-i l = L.Passing (warnings.fits (warnings_at l.t (from_of 3) l.n)) l.t l.n l.i
