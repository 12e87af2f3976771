-- `lighting::plan::anchor_for` meets its contract: what the check does not find by the lemmas that the function names. Assumes nothing.
use Rattle.lighting.proofs.PlanLaws.{anchor_used, anchor_end, anchor_drawn}
use Rattle.lighting.proofs.plan.anchor_for.Goals as goal

pub returns-in-Use : goal.returns-in-Use
returns-in-Use c = anchor_used _ c.args.lanes.now _ c.args.points.now _ _ c.in-Use.is c.stored_line.ensures

pub returns-in-NoLine : goal.returns-in-NoLine
returns-in-NoLine c = anchor_end _ _ _ c.args.points.now _ c.in-NoLine.is c.end_line.ensures

pub returns-in-Draw : goal.returns-in-Draw
returns-in-Draw c = anchor_drawn _ c.args.lanes.now _ c.args.points.now c.place_with.result _ c.in-Draw.is c.place_with.ensures.0 c.place_with.ensures.1
