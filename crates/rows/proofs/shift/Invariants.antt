-- `rows::shift` meets its contract: after j turns, the first j elements are moved. Assumes nothing.
use mathlib.Core.Path.{◌≡◌}
use lib.ListN.{length, drop}
use Rattle.rows.specs.Rows.{pasted}
use Rattle.rows.proofs.shift.Given as goal

abbrev pub invariant-loop-j : goal.invariant-loop-j
invariant-loop-j g l = (length l.t ≡ length l.initial.t) × (l.t ≡ pasted l.initial.t l.to (drop l.from l.initial.t) l.j)
