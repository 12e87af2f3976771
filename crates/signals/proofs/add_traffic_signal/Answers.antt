-- `signals::add_traffic_signal` meets its contract. Assumes nothing.
use Rattle.edit.specs.Request.{new_traffic_signal}
use Rattle.signals.proofs.CarryLaws as K
use Rattle.signals.proofs.add_traffic_signal.Goals as goal

pub returns-in-Err : goal.returns-in-Err
returns-in-Err c = K.lent_turned_down _ _ _ _ _ c.args.q c.args.lamps.now (new_traffic_signal c.args.lanes.now c.args.q c.args.points.now c.args.housing.now c.args.lamps.now) _ c.check_lent-lent.ensures _ c.in-Err.is _ _ c.refused.ensures

pub signal_plan-p-requires : goal.signal_plan-p-requires
signal_plan-p-requires c = (K.known _ _ _ _ _ (K.is_fine _ _ _ _ _ c.args.q c.args.lamps.now (new_traffic_signal c.args.lanes.now c.args.q c.args.points.now c.args.housing.now c.args.lamps.now) _ c.check_lent-lent.ensures c.in_default.is)).tables

pub returns-in-Err-checked : goal.returns-in-Err-checked
returns-in-Err-checked c = K.plan_turned_down _ _ _ _ _ c.args.q c.args.lamps.now (new_traffic_signal c.args.lanes.now c.args.q c.args.points.now c.args.housing.now c.args.lamps.now) _ c.check_lent-lent.ensures c.in_default.is _ c.signal_plan-p.ensures _ c.in-Err-checked.is
    _ _ c.refused-in-Err-checked.ensures

pub carry_out-requires : goal.carry_out-requires
carry_out-requires c = (K.is_fine _ _ _ _ _ c.args.q c.args.lamps.now (new_traffic_signal c.args.lanes.now c.args.q c.args.points.now c.args.housing.now c.args.lamps.now) _ c.check_lent-lent.ensures c.in_default.is, c.signal_plan-p.ensures.ready c.in_default-checked.is)

pub returns : goal.returns
returns c = K.is_left _ _ _ _ _ c.args.q c.args.lamps.now (new_traffic_signal c.args.lanes.now c.args.q c.args.points.now c.args.housing.now c.args.lamps.now) _ c.check_lent-lent.ensures c.in_default.is _ c.signal_plan-p.ensures c.in_default-checked.is _ _ c.carry_out.ensures
