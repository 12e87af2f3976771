-- `polyline::locate::reaching` meets its contract. The invariant: no segment before i reaches the station. Assumes nothing.
use Rattle.polyline.proofs.Lines.{reaching_start, reaching_here, reaching_past, reaching_end}
use Rattle.geometry.specs.Polyline.{location}
use Rattle.geometry.specs.Double.{f1}
use lib.ListN.{length}
use native.Mathlib.Omega.{arith}
use mathlib.Core.Path.{◌≡◌, sym, ◌∙◌}
use Prim.Native.Nat.{◌-◌, ◌/◌}
use Rattle.polyline.proofs.locate.reaching.Goals as goal

pub loop-i-init : goal.loop-i-init
loop-i-init c = reaching_start _ _ _

pub returns-then-reaches : goal.returns-then-reaches
returns-then-reaches c = reaching_here _ _ _ _ _ c.loop-i.invariant _ _ _ c.loop-i-test.true c.segment_length-seg.ensures (sym c.reaches.ensures ∙ c.if-reaches.true) c.clamp.ensures

pub loop-i-preserved : goal.loop-i-preserved
loop-i-preserved c = reaching_past _ _ _ _ _ c.loop-i.invariant _ c.loop-i-test.true c.segment_length-seg.ensures (sym c.reaches.ensures ∙ c.if-reaches.false)

pub returns : goal.returns
returns c = let n = length c.args.cs.now / 3 in
    let e : n - 1 - 1 ≡ n - 2 = omega arith in
    rw e (reaching_end _ _ _ _ _ c.loop-i.invariant (location (n - 2) f1) c.loop-i-test.false)
