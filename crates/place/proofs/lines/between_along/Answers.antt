-- `place::lines::between_along` meets its contract. Assumes nothing.
use mathlib.Core.Path.{◌≡◌}
use lib.ListN.{length}
use Rattle.place.proofs.LineLaws.{boundary_points, stands_along, along_made}
use borrow.Author.Rules.{rules}
use Rattle.place.proofs.lines.between_along.Goals as goal

pub points-a-requires : goal.points-a-requires
points-a-requires c = boundary_points _ _ c.requires _ _ _ c.find.ensures c.in-Some.is _ _ c.word.ensures c.index-n.ensures

pub points-b-requires : goal.points-b-requires
points-b-requires c = boundary_points _ _ c.requires _ _ _ c.find-2.ensures c.in-Some-find.is _ _ c.word-2.ensures c.index-m.ensures

pub returns-in-Some-centerline : goal.returns-in-Some-centerline
returns-in-Some-centerline c = let long : length c.in-Some-centerline.line.coords ≡ 192 = search rules in
    along_made _ _ _ _ _ _ (stands_along _ _ c.requires _ _ _ c.find.ensures c.in-Some.is _ _ c.word.ensures c.index-n.ensures _ c.points-a.ensures)
    (stands_along _ _ c.requires _ _ _ c.find-2.ensures c.in-Some-find.is _ _ c.word-2.ensures c.index-m.ensures _ c.points-b.ensures) _ c.centerline.ensures _ c.in-Some-centerline.is (long)
