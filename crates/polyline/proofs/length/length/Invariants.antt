-- `polyline::length::length` meets its contract. The loop's sum is the length up to point i. Assumes nothing.
use Rattle.geometry.specs.Polyline.{polyline_of, length_to}
use mathlib.Core.Path.{◌≡◌}
use Rattle.polyline.proofs.length.length.Given as goal

abbrev pub invariant-loop-i : goal.invariant-loop-i
invariant-loop-i l = l.acc ≡ length_to (polyline_of l.cs) l.i
