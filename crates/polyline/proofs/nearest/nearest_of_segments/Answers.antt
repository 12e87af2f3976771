-- `polyline::nearest::nearest_of_segments` meets its contract. The invariant: the best of the first i segments is the one kept. Assumes nothing.
use Rattle.polyline.proofs.Lines.{length-points, best_start, best_taken, best_kept, nearest_many}
use Rattle.geometry.specs.Polyline.{polyline_of}
use lib.ListN.{length}
use Rattle.std.specs.Prelude.{Some}
use mathlib.Core.Path.{◌≡◌, sym, ap, ◌∙◌}
use Prim.Native.Nat.{◌-◌}
use native.Mathlib.Omega.{arith}
use Rattle.polyline.proofs.nearest.nearest_of_segments.Goals as goal
use Rattle.polyline.proofs.nearest.nearest_of_segments.Goals.{else-d-best, then-d-best}

pub loop-i-init : goal.loop-i-init
loop-i-init c = (omega arith, best_start _ _ _ _ c.segment_distance-best.ensures c.segment_length-acc.ensures)

pub loop-i-preserved : goal.loop-i-preserved
loop-i-preserved c = (
  omega arith,
  elim c.if-d-best.branch [ then-d-best w ↦ rw (w.best-is, w.at-is, w.start-is) (best_taken _ _ _ _ _ _ _ c.loop-i.invariant.1 _ _ c.segment_distance-d.ensures c.segment_length-seg.ensures w.if-d-best.true) | else-d-best w ↦ rw (w.best-is, w.at-is, w.start-is) (best_kept _ _ _ _ _ _ _ c.loop-i.invariant.1 _ _ c.segment_distance-d.ensures c.segment_length-seg.ensures w.if-d-best.false) ],
)

pub nearest_on-requires : goal.nearest_on-requires
nearest_on-requires c = (omega arith, c.loop-i.invariant.1.begins)

pub returns : goal.returns
returns c = let e : c.loop-i.i ≡ length (polyline_of c.args.cs.now) - 1 = omega (arith, length-points c.args.cs.now) in
    ap Some c.nearest_on.ensures ∙ sym c.loop-i.invariant.1.winner ∙ rw e (nearest_many (polyline_of c.args.cs.now) c.args.p (omega (arith, length-points c.args.cs.now)))
