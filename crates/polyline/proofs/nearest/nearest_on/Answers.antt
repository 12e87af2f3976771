-- `polyline::nearest::nearest_on` meets its contract. Assumes nothing.
use Rattle.polyline.proofs.Lines.{Foot, foot_made, nearest_on_lem}
use Rattle.geometry.specs.Polyline.{polyline_of}
use Rattle.polyline.proofs.nearest.nearest_on.Goals as goal

pub returns : goal.returns
returns c = let foot : Foot (polyline_of c.args.cs.now) c.args.p c.args.i c.project_on_segment-t.result c.lerp-q.result c.distance-d.result = foot_made _ _ _ _ _ _ _ _ _ _ _ c.point-a.ensures c.point-b.ensures c.flat.ensures c.flat-2.ensures c.project_on_segment-t.ensures c.lerp-q.ensures
    c.flat-3.ensures c.distance-d.ensures in
    nearest_on_lem _ _ _ _ _ _ (foot) _ _ _ _ _ c.requires.1 c.segment_length-seg.ensures c.segment_direction.ensures c.flat-4.ensures c.lateral_of.ensures
