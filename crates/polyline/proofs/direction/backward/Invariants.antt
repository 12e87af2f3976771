-- `polyline::direction::backward` meets its contract. The invariant: no segment from i to start has a direction. Assumes nothing.
use Rattle.geometry.specs.Polyline.{polyline_of, segment_direction}
use Rattle.rows.specs.Lists.{first_below}
use mathlib.Core.Path.{◌≡◌}
use Prim.Native.Nat.{◌≤◌}
use Rattle.polyline.proofs.direction.backward.Given as goal

abbrev pub invariant-loop-i : goal.invariant-loop-i
invariant-loop-i l = (l.i ≤ l.start) × (first_below (segment_direction (polyline_of l.cs)) l.start ≡ first_below (segment_direction (polyline_of l.cs)) l.i)
