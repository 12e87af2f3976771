-- `polyline::locate::reaching` meets its contract. The invariant: no segment before i reaches the station. Assumes nothing.
use Rattle.polyline.proofs.Lines.{Reaching}
use Rattle.geometry.specs.Polyline.{polyline_of}
use lib.ListN.{length}
use Prim.Native.Nat.{◌-◌, ◌/◌}
use Rattle.polyline.proofs.locate.reaching.Given as goal

abbrev pub invariant-loop-i : goal.invariant-loop-i
invariant-loop-i l = Reaching (polyline_of l.cs) l.s (length l.cs / 3 - 1) l.acc l.i
