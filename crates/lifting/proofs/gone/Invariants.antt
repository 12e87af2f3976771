-- `lifting::gone` meets its contract. Assumes nothing.
use mathlib.Core.Path.{◌≡◌}
use Rattle.store.specs.Layout.{count_of}
use Rattle.lifting.proofs.GoneLaws.{Freeing}
use Rattle.lifting.proofs.gone.Given as goal

abbrev pub invariant-loop-i : goal.invariant-loop-i
invariant-loop-i l = (l.n ≡ count_of l.words 5) × Freeing l.words l.line l.lanes l.n l.i l.rules l.points
