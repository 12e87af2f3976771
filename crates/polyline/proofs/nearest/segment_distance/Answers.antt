-- `polyline::nearest::segment_distance` meets its contract. Assumes nothing.
use Rattle.polyline.proofs.Lines.{Foot, foot_made, foot_away}
use Rattle.geometry.specs.Polyline.{polyline_of}
use Rattle.polyline.proofs.nearest.segment_distance.Goals as goal

pub returns : goal.returns
returns c = let foot : Foot (polyline_of c.args.cs.now) c.args.p c.args.i c.project_on_segment-t.result c.lerp-q.result c.distance.result = foot_made _ _ _ _ _ _ _ _ _ _ _ c.point-a.ensures c.point-b.ensures c.flat.ensures c.flat-2.ensures c.project_on_segment-t.ensures c.lerp-q.ensures
    c.flat-3.ensures c.distance.ensures in
    foot_away _ _ _ _ _ _ (foot)
