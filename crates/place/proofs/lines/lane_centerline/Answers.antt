-- `place::lines::lane_centerline` meets its contract. Assumes nothing.
use mathlib.Core.Path.{◌≡◌}
use lib.ListN.{length}
use Rattle.place.proofs.LineLaws.{stored_points, stored_line}
use borrow.Author.Rules.{rules}
use Rattle.place.proofs.lines.lane_centerline.Goals as goal

pub points-requires : goal.points-requires
points-requires c = stored_points _ _ c.requires _ _ _ c.find.ensures c.in-Some.is _ c.lane-row.ensures _ c.in-Some-centerline.is _ c.index-n.ensures

pub returns-in-Some-centerline : goal.returns-in-Some-centerline
returns-in-Some-centerline c = let long-copied : length c.copied.result.coords ≡ 192 = search rules in
    stored_line _ _ c.requires _ _ _ c.find.ensures c.in-Some.is _ c.lane-row.ensures _ c.in-Some-centerline.is _ c.index-n.ensures _ c.points.ensures _ (long-copied) c.copied.ensures
