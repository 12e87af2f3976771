-- `centerline::measure::Survey::reaching_from` meets its contract: no segment before i reaches the station. Assumes nothing.
use Rattle.centerline.proofs.Places.{passed_next, located_here, located_end}
use Rattle.polyline.proofs.Lines.{length-points, reach_past}
use lib.ListN.{length}
use mathlib.Core.Path.{◌≡◌, sym, ◌∙◌}
use Prim.Native.Nat.{◌-◌, ◌/◌}
use native.Mathlib.Omega.{arith}
use Rattle.centerline.proofs.measure.Survey.reaching_from.Goals as goal

pub loop-i-init : goal.loop-i-init
loop-i-init c = c.requires.2

pub returns-then-reaches : goal.returns-then-reaches
returns-then-reaches c = let m = c.args.self.now.measured in
    let e = length-points c.args.self.now.cs.now in
    located_here _ _ _ _ e c.requires.0 c.requires.3 c.loop-i.invariant _ _ _ c.loop-i-test.true (m.station c.loop-i.i (omega arith)) (m.segment c.loop-i.i (omega arith))
    (sym c.reaches.ensures ∙ c.if-reaches.true) c.clamp.ensures

pub loop-i-preserved : goal.loop-i-preserved
loop-i-preserved c = let m = c.args.self.now.measured in
    let e = length-points c.args.self.now.cs.now in
    passed_next _ _ _ c.loop-i.invariant (reach_past _ _ _ _ _ (m.station c.loop-i.i (omega arith)) (m.segment c.loop-i.i (omega arith)) (sym c.reaches.ensures ∙ c.if-reaches.false))

pub returns : goal.returns
returns c = let n = length c.args.self.now.cs.now / 3 in
    let e : n - 1 - 1 ≡ n - 2 = omega arith in
    rw e (located_end _ _ _ _ (length-points c.args.self.now.cs.now) c.requires.0 c.requires.3 c.loop-i.invariant c.loop-i-test.false (omega arith))
