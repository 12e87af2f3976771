-- `lighting::plan::end_line` meets its contract: what the check does not find by the lemmas that the function names. Assumes nothing.
use mathlib.Core.Path.{◌≡◌}
use lib.ListN.{length}
use Rattle.lighting.proofs.PlanLaws.{end_refused, end_placed}
use borrow.Author.Rules.{rules}
use Rattle.lighting.proofs.plan.end_line.Goals as goal

pub returns-in-Err : goal.returns-in-Err
returns-in-Err c = end_refused _ c.args.lanes.now c.args.center c.requires.1 c.if-not-center.false _ c.length.ensures _ c.cross_section.ensures _ _ c.in-Err.is c.refused_line-in-Err.ensures

pub returns-in-Ok : goal.returns-in-Ok
returns-in-Ok c = let long-across : length c.across.result.coords ≡ 192 = search rules in
    end_placed _ c.args.lanes.now c.args.center c.requires.1 c.if-not-center.false _ c.length.ensures _ c.cross_section.ensures _ _ _
    c.in-Ok.is c.across.ensures (long-across)
