-- `lighting::rules::existing_stop_line` meets its contract. Assumes nothing.
use mathlib.Core.Path.{◌≡◌}
use Rattle.store.specs.Layout.{count_of}
use Rattle.lighting.proofs.RuleLaws.{Lineless}
use Rattle.lighting.proofs.rules.existing_stop_line.Given as goal

abbrev pub invariant-loop-i : goal.invariant-loop-i
invariant-loop-i l = (l.n ≡ count_of l.words 5) × Lineless l.words l.lane l.n l.i
