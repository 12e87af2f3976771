-- `lighting::plan::stored_line` meets its contract: what the check does not find by the lemmas that the function names. Assumes nothing.
use mathlib.Core.Path.{◌≡◌}
use lib.ListN.{length}
use Rattle.lighting.proofs.PlanLaws.{no_stored, stored_points, stored_line}
use borrow.Author.Rules.{rules}
use Rattle.lighting.proofs.plan.stored_line.Goals as goal

pub returns-in_default : goal.returns-in_default
returns-in_default c = no_stored _ c.args.coords.now _ _ c.find.ensures _ c.in_default.is c.refused_line.ensures

pub points-requires : goal.points-requires
points-requires c = stored_points _ _ _ _ c.find.ensures c.requires _ c.in-Some.is _ _ c.word.ensures c.index-n.ensures

pub returns : goal.returns
returns c = let long-copied : length c.copied.result.coords ≡ 192 = search rules in
    stored_line _ _ _ _ c.find.ensures c.requires _ c.in-Some.is _ _ c.word.ensures c.index-n.ensures _ c.points.ensures _ c.copied.ensures (long-copied)
