-- `light_room::signal_plan` meets its contract: what the check does not find by the lemmas that the function names. Assumes nothing.
use native.Mathlib.Omega.{arith}
use Rattle.lifting.proofs.GoneLaws.{shapes_few}
use Rattle.validity.proofs.Whole.{map_few}
use Rattle.map.proofs.SoundLaws.{sound}
use Rattle.place.proofs.Sound.{readable}
use Rattle.light_room.proofs.TestLaws.{points_few}
use Rattle.light_room.proofs.PlanLaws.{plan_lost, plan_full}
use Rattle.light_room.proofs.signal_plan.Goals as goal

pub returns-in-Err : goal.returns-in-Err
returns-in-Err c = plan_lost _ _ c.requires c.args.q c.args.lanes.now c.args.points.now c.args.given.now c.args.lamps.now c.light_plan-p.result c.light_plan-p.ensures
    c.light_of-light.result c.bulbs_of-bulbs.result c.joined_for-joined.result _ c.in-Err.is

pub fitted-requires : goal.fitted-requires
fitted-requires c = (
  (readable _ _ c.requires).words,
  shapes_few _ _ (sound _ _ c.requires),
  map_few _ (λ j. omega (arith, c.shared_slice_known-1.given j)) _ (λ j. c.shared_slice_known-2-1.given j) c.requires,
  points_few _ _ c.requires,
  c.light_plan-p.ensures.read.line,
  c.light_plan-p.ensures.read.housing,
)

pub returns-in-Err-fitted : goal.returns-in-Err-fitted
returns-in-Err-fitted c = plan_full _ _ c.requires c.args.q c.args.lanes.now c.args.points.now c.args.given.now c.args.lamps.now c.light_plan-p.result c.light_plan-p.ensures
    c.light_of-light.result c.bulbs_of-bulbs.result c.joined_for-joined.result c.in_default.is c.light_of-light.ensures c.bulbs_of-bulbs.ensures
    c.joined_for-joined.ensures _ c.lamps_on-on.ensures _ c.fitted.ensures _ c.in-Err-fitted.is _ c.refused_plan.ensures
