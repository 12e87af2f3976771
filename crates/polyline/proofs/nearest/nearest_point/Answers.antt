-- `polyline::nearest::nearest_point` meets its contract, by how many points there are. Assumes nothing.
use Rattle.polyline.proofs.Lines.{length-points, nearest_none, nearest_one}
use Rattle.geometry.specs.Point.{distance2}
use Rattle.geometry.specs.declared.Point2.{Point2}
use mathlib.Core.Path.{ap, ◌∙◌}
use Rattle.polyline.proofs.nearest.nearest_point.Goals as goal

pub returns-then-n-eq0 : goal.returns-then-n-eq0
returns-then-n-eq0 c = nearest_none _ _ (length-points c.args.cs.now ∙ c.if-n-eq0.true)

pub returns-then-n-eq1 : goal.returns-then-n-eq1
returns-then-n-eq1 c = nearest_one _ _ _ _ (length-points c.args.cs.now ∙ c.if-n-eq1.true) c.point-q.ensures (c.distance.ensures ∙ ap (λ (w : Point2). distance2 w c.args.p) c.flat.ensures)
