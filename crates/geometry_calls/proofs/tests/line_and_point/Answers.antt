-- `geometry_calls::tests::line_and_point` meets its contract. Assumes nothing.
use Rattle.geometry_calls.specs.Tests.{check_count}
use Rattle.polyline.proofs.Lines.{length-points}
use Rattle.geometry.specs.Calls.{coords_on_map}
use Rattle.geometry.specs.Point.{point2_on_map}
use mathlib.Core.Bool.{◌&&◌}
use mathlib.Core.Path.{◌≡◌, sym, ap₂, ◌∙◌}
use Rattle.geometry_calls.proofs.tests.line_and_point.Goals as goal
use Rattle.geometry_calls.proofs.tests.line_and_point.Goals.{then-coords_on_map, else-coords_on_map}

pub returns : goal.returns
returns c = let ok : c.if-coords_on_map.count ≡ (coords_on_map c.args.cs.now && point2_on_map c.args.p) = elim c.if-coords_on_map.branch [ then-coords_on_map w ↦ rw (w.count-is, ← c.coords_on_map.ensures, w.if-coords_on_map.true) w.on_map.ensures | else-coords_on_map w ↦ rw (w.count-is, ← c.coords_on_map.ensures, w.if-coords_on_map.false) ] in
    c.count.ensures ∙ ap₂ check_count ok (sym (length-points c.args.cs.now))
