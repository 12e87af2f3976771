-- `lifting::note::note_lifts` meets its contract. Assumes nothing.
use mathlib.Core.Path.{◌≡◌}
use Rattle.store.specs.Layout.{count_of}
use Rattle.lifting.proofs.NoteLaws.{Noting}
use Rattle.lifting.proofs.note.note_lifts.Given as goal

abbrev pub invariant-loop-i : goal.invariant-loop-i
invariant-loop-i l = (l.n ≡ count_of l.words 5) × Noting l.words l.line l.lanes l.initial.draft l.n l.i l.draft
