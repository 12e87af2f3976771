-- `stop_lines::plan::line_plan` meets its contract. Assumes nothing.
use native.Mathlib.Omega.{arith}
use Rattle.map.proofs.SoundLaws.{sound}
use Rattle.validity.proofs.Whole.{map_few}
use Rattle.place.proofs.Sound.{readable}
use Rattle.placing.proofs.CheckLaws.{lanes_there}
use Rattle.stop_lines.specs.Stop.{new_stop_line}
use Rattle.stop_lines.proofs.PlanLaws as P
use Rattle.stop_lines.proofs.plan.line_plan.Goals as goal

pub check_lane_list-listed-requires : goal.check_lane_list-listed-requires
check_lane_list-listed-requires c = (sound _ _ c.requires).sized.words

pub returns-in-Err : goal.returns-in-Err
returns-in-Err c = P.lanes_refused _ _ (new_stop_line c.args.lanes.now c.args.how c.args.given.now c.args.rule) _ c.check_lane_list-listed.ensures _ c.in-Err.is _ c.refused_line.ensures

pub place_stop_line-placed-requires : goal.place_stop_line-placed-requires
place_stop_line-placed-requires c = (readable _ _ c.requires, lanes_there _ _ (rw c.in_default.is at c.check_lane_list-listed.ensures))

pub returns-in-Err-checked : goal.returns-in-Err-checked
returns-in-Err-checked c = P.place_refused _ _ (new_stop_line c.args.lanes.now c.args.how c.args.given.now c.args.rule) _ c.check_lane_list-listed.ensures c.in_default.is c.place_stop_line-placed.result c.place_stop_line-placed.ensures.0 _ c.in-Err-checked.is _ c.refused_line-in-Err-checked.ensures

pub fitted-end-requires : goal.fitted-end-requires
fitted-end-requires c = ((sound _ _ c.requires).sized.words, map_few _ (λ j. omega (arith, c.shared_slice_known-1.given j)) _ (λ j. c.shared_slice_known-2-1.given j) c.requires, c.place_stop_line-placed.ensures.1)

pub returns-in-Err-end : goal.returns-in-Err-end
returns-in-Err-end c = P.end_refused _ _ (new_stop_line c.args.lanes.now c.args.how c.args.given.now c.args.rule) _ c.check_lane_list-listed.ensures c.in_default.is c.place_stop_line-placed.result c.place_stop_line-placed.ensures.0 c.requires c.place_stop_line-placed.ensures.1 c.in_default-checked.is _ c.fitted-end.ensures _ c.in-Err-end.is _ c.refused_line-in-Err-end.ensures

pub returns : goal.returns
returns c = P.all-planned _ _ (new_stop_line c.args.lanes.now c.args.how c.args.given.now c.args.rule) _ c.check_lane_list-listed.ensures c.in_default.is c.place_stop_line-placed.result c.place_stop_line-placed.ensures.0 c.requires c.place_stop_line-placed.ensures.1 c.in_default-checked.is _ c.fitted-end.ensures c.in_default-end.is
