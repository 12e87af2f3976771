-- `place::lines::oriented` meets its contract. Assumes nothing.
use mathlib.Core.Path.{◌≡◌}
use lib.ListN.{length}
use Rattle.place.proofs.LineLaws.{boundary_points, side_reversed, side_along}
use borrow.Author.Rules.{rules}
use Rattle.place.proofs.lines.oriented.Goals as goal

pub points-cs-requires : goal.points-cs-requires
points-cs-requires c = boundary_points _ _ c.requires _ _ _ c.find.ensures c.in-Some.is _ _ c.word.ensures c.index-n.ensures

pub returns-then-reversed : goal.returns-then-reversed
returns-then-reversed c = let long-reversed : length c.reversed.result.coords ≡ 192 = search rules in
    side_reversed _ _ c.requires _ _ _ c.find.ensures c.in-Some.is _ _ c.word.ensures c.index-n.ensures _ c.points-cs.ensures _ _ (long-reversed) c.if-reversed.true c.reversed.ensures

pub returns : goal.returns
returns c = let long-copied : length c.copied.result.coords ≡ 192 = search rules in
    side_along _ _ c.requires _ _ _ c.find.ensures c.in-Some.is _ _ c.word.ensures c.index-n.ensures _ c.points-cs.ensures _ _ (long-copied) c.if-reversed.false c.copied.ensures
