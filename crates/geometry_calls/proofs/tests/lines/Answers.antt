-- `geometry_calls::tests::lines` meets its contract. Assumes nothing.
use Rattle.geometry_calls.specs.Tests.{check_count}
use Rattle.polyline.proofs.Lines.{length-points}
use Rattle.geometry.specs.Calls.{coords_on_map}
use Prim.Native.Nat.{max}
use mathlib.Core.Bool.{◌&&◌}
use mathlib.Core.Path.{◌≡◌, sym, ap₂, ◌∙◌}
use Rattle.geometry_calls.proofs.tests.lines.Goals as goal
use Rattle.geometry_calls.proofs.tests.lines.Goals.{then-coords_on_map, else-coords_on_map}

pub returns : goal.returns
returns c = let ok : c.if-coords_on_map.count ≡ (coords_on_map c.args.a.now && coords_on_map c.args.b.now) = elim c.if-coords_on_map.branch [ then-coords_on_map w ↦ rw (w.count-is, ← c.coords_on_map.ensures, w.if-coords_on_map.true) w.coords_on_map-then-coords_on_map.ensures | else-coords_on_map w ↦ rw (w.count-is, ← c.coords_on_map.ensures, w.if-coords_on_map.false) ] in
    c.count.ensures ∙ ap₂ check_count ok (c.max-larger.ensures ∙ ap₂ max (sym (length-points c.args.a.now)) (sym (length-points c.args.b.now)))
