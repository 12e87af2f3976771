-- `set_tests::warnings_ok` meets its contract. Assumes nothing.
use mathlib.Core.Bool.{not}
use mathlib.Core.Path.{refl, ap}
use Rattle.changes.specs.Listed.{ref_of}
use Rattle.set_tests.proofs.SetLaws as L
use Rattle.set_tests.proofs.warnings_ok.Goals as goal

pub returns-then-not-warning_ok : goal.returns-then-not-warning_ok
returns-then-not-warning_ok c = L.passing_stop _ _ _ _ c.loop-i.invariant c.loop-i-test.true _ (ref_of c.entry_at.result) refl c.entry_at.ensures _ c.warning_ok.ensures (ap not c.if-not-warning_ok.true)

pub loop-i-preserved : goal.loop-i-preserved
loop-i-preserved c = L.passing_more _ _ _ _ c.loop-i.invariant c.loop-i-test.true _ (ref_of c.entry_at.result) refl c.entry_at.ensures _ c.warning_ok.ensures (ap not c.if-not-warning_ok.false)
