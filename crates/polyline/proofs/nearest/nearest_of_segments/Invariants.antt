-- `polyline::nearest::nearest_of_segments` meets its contract. The invariant: the best of the first i segments is the one kept. Assumes nothing.
use Rattle.polyline.proofs.Lines.{Best}
use Rattle.geometry.specs.Polyline.{polyline_of}
use lib.ListN.{length}
use Prim.Native.Nat.{◌-◌, ◌/◌, ◌≤◌}
use Rattle.polyline.proofs.nearest.nearest_of_segments.Given as goal

abbrev pub invariant-loop-i : goal.invariant-loop-i
invariant-loop-i l = (l.i ≤ length l.cs / 3 - 1) × Best (polyline_of l.cs) l.p l.best l.at l.start l.acc l.i
