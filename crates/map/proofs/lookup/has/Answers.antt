use Rattle.map.proofs.ReadLaws.{has_lane, has_boundary, has_line_lem, has_signal, has_crosswalk, has_rule_lem, has_none}
use Rattle.map.proofs.lookup.has.Goals as goal

pub returns-in-1 : goal.returns-in-1
returns-in-1 c = has_lane _ _ _ _ c.in-1.is c.holds.ensures

pub returns-in-2 : goal.returns-in-2
returns-in-2 c = has_boundary _ _ _ _ c.in-2.is c.holds-in-2.ensures

pub returns-in-5 : goal.returns-in-5
returns-in-5 c = has_line_lem _ _ _ _ c.in-5.is c.holds-in-5.ensures

pub returns-in-6 : goal.returns-in-6
returns-in-6 c = has_signal _ _ _ _ c.in-6.is c.holds-in-6.ensures

pub returns-in-7 : goal.returns-in-7
returns-in-7 c = has_crosswalk _ _ _ _ c.in-7.is c.holds-in-7.ensures

pub returns-in-8 : goal.returns-in-8
returns-in-8 c = has_rule_lem _ _ _ _ c.in-8.is c.holds-in-8.ensures

pub returns-in_default : goal.returns-in_default
returns-in_default c = has_none _ _ _ c.in_default.in_default-own.rest.0.0.0.0.0.1 c.in_default.in_default-own.rest.0.0.0.0.1 c.in_default.in_default-own.rest.0.0.0.1 c.in_default.in_default-own.rest.0.0.1 c.in_default.in_default-own.rest.0.1 c.in_default.in_default-own.rest.1
