-- `lighting::plan::choose` meets its contract: what the check does not find by the lemmas that the function names. Assumes nothing.
use Rattle.lighting.proofs.PlanLaws.{choose_lanes, choose_shape, choose_group, choose_choice}
use Rattle.lighting.proofs.plan.choose.Goals as goal

pub returns-in-Err : goal.returns-in-Err
returns-in-Err c = choose_lanes _ _ c.args.q c.args.housing.now _ c.check_lane_list-listed.ensures _ _ c.in-Err.is c.refused_choice.ensures

pub returns-in-Err-shape : goal.returns-in-Err-shape
returns-in-Err-shape c = choose_shape _ _ c.args.q c.args.housing.now _ c.check_lane_list-listed.ensures c.in_default.is _ c.bad_height.ensures c.if-bad_height.false _ c.check_housing-shape.ensures _ _ c.in-Err-shape.is c.refused_choice-in-Err-shape.ensures

pub returns-in-Err-joined : goal.returns-in-Err-joined
returns-in-Err-joined c = choose_group _ _ c.args.q c.args.housing.now _ c.check_lane_list-listed.ensures c.in_default.is _ c.bad_height.ensures c.if-bad_height.false _ c.check_housing-shape.ensures c.in_default-shape.is _ c.group_line-g.ensures _ _ c.in-Err-joined.is c.refused_choice-in-Err-joined.ensures

pub returns-in-Err-chosen : goal.returns-in-Err-chosen
returns-in-Err-chosen c = choose_choice _ _ c.args.q c.args.housing.now _ c.check_lane_list-listed.ensures c.in_default.is _ c.bad_height.ensures c.if-bad_height.false _ c.check_housing-shape.ensures c.in_default-shape.is c.group_line-g.result c.group_line-g.ensures c.in_default-joined.is _ c.check_choice-chosen.ensures _ _ c.in-Err-chosen.is c.refused_choice-in-Err-chosen.ensures
