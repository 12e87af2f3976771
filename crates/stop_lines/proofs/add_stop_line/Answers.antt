-- `stop_lines::add_stop_line` meets its contract. Assumes nothing.
use native.Mathlib.Omega.{arith}
use Rattle.place.proofs.LineLaws.{part_long}
use Rattle.stop_lines.specs.Stop.{new_stop_line}
use Rattle.stop_lines.proofs.PlanLaws as P
use Rattle.stop_lines.proofs.CarryLaws as K
use Rattle.stop_lines.proofs.add_stop_line.Goals as goal

pub returns-in-Err : goal.returns-in-Err
returns-in-Err c = K.lent_turned_down _ _ _ _ _ (new_stop_line c.args.lanes.now c.args.how c.args.given.now c.args.rule) _ c.check_lent-lent.ensures _ c.in-Err.is _ _ c.refused.ensures

pub line_plan-placed-requires : goal.line_plan-placed-requires
line_plan-placed-requires c = (K.known _ _ _ _ _ (K.is_fine _ _ _ _ _ (new_stop_line c.args.lanes.now c.args.how c.args.given.now c.args.rule) _ c.check_lent-lent.ensures c.in_default.is)).tables

pub returns-in-Err-checked : goal.returns-in-Err-checked
returns-in-Err-checked c = K.plan_turned_down _ _ _ _ _ (new_stop_line c.args.lanes.now c.args.how c.args.given.now c.args.rule) _ c.check_lent-lent.ensures c.in_default.is _ c.line_plan-placed.ensures _ c.in-Err-checked.is _ _ c.refused-in-Err-checked.ensures

pub overflow_mul-e : goal.overflow_mul-e
overflow_mul-e c = omega (arith, c.line_plan-placed.ensures.room.few)

pub slice_bounds-points-end : goal.slice_bounds-points-end
slice_bounds-points-end c = omega (arith, c.line_plan-placed.ensures.room.few, c.line_plan-placed.ensures.room.long)

pub slice_bounds-carry_out-end : goal.slice_bounds-carry_out-end
slice_bounds-carry_out-end c = part_long _ _ (P.part_inside _ c.line_plan-placed.ensures.room)

pub carry_out-requires : goal.carry_out-requires
carry_out-requires c = (K.is_fine _ _ _ _ _ (new_stop_line c.args.lanes.now c.args.how c.args.given.now c.args.rule) _ c.check_lent-lent.ensures c.in_default.is, K.is_within _ _ _ _ _ (new_stop_line c.args.lanes.now c.args.how c.args.given.now c.args.rule) _ c.check_lent-lent.ensures c.in_default.is _ c.line_plan-placed.ensures c.in_default-checked.is, c.line_plan-placed.ensures.lanes c.in_default-checked.is, P.part_short _ c.line_plan-placed.ensures.room)

pub returns : goal.returns
returns c = K.is_left _ _ _ _ _ (new_stop_line c.args.lanes.now c.args.how c.args.given.now c.args.rule) _ c.check_lent-lent.ensures c.in_default.is _ c.line_plan-placed.ensures c.in_default-checked.is _ _ c.carry_out.ensures
