-- `place::section::nearest_side` meets its contract. Assumes nothing.
use Rattle.place.proofs.LineLaws.{boundary_points}
use Rattle.place.proofs.section.nearest_side.Goals as goal

pub points-cs-requires : goal.points-cs-requires
points-cs-requires c = boundary_points _ _ c.requires _ _ _ c.find.ensures c.in-Some.is _ _ c.word.ensures c.index-n.ensures
