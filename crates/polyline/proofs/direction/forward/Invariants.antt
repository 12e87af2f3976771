-- `polyline::direction::forward` meets its contract. The invariant: no segment from start to i has a direction. Assumes nothing.
use Rattle.geometry.specs.Polyline.{polyline_of, segment_direction}
use Rattle.rows.specs.Lists.{first_from}
use lib.ListN.{length}
use mathlib.Core.Path.{◌≡◌}
use Prim.Native.Nat.{◌-◌, ◌/◌, ◌≤◌}
use Rattle.polyline.proofs.direction.forward.Given as goal

abbrev pub invariant-loop-i : goal.invariant-loop-i
invariant-loop-i l = (l.i ≤ length l.cs / 3 - 1) × (first_from (segment_direction (polyline_of l.cs)) (length l.cs / 3 - 1 - l.start) l.start ≡ first_from (segment_direction (polyline_of l.cs)) (length l.cs / 3 - 1 - l.i) l.i)
