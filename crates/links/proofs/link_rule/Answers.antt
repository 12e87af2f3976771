-- `links::link_rule` meets its contract. Assumes nothing.
use Rattle.links.proofs.CarryLaws as K
use Rattle.links.proofs.link_rule.Goals as goal

pub find-f-requires : goal.find-f-requires
find-f-requires c = (K.known _ _ _ _ _ c.requires).sound.sized.words

pub returns-in_default : goal.returns-in_default
returns-in_default c = K.rule_missing _ _ _ _ _ c.requires _ c.args.lanes.now c.args.crosswalks.now c.args.lines.now _ c.find-f.ensures c.in_default.is _ _ c.refused.ensures

pub rule_plan-plan-requires : goal.rule_plan-plan-requires
rule_plan-plan-requires c = K.ready _ _ _ _ _ c.requires _ _ (K.at _ _ _ _ _ c.requires c.args.rule c.args.lanes.now c.args.crosswalks.now c.args.lines.now _ c.find-f.ensures _ c.in-Some.is)

pub returns-in-Err : goal.returns-in-Err
returns-in-Err c = K.plan_refused_rule _ _ _ _ _ c.requires _ c.args.lanes.now c.args.crosswalks.now c.args.lines.now _ c.find-f.ensures _ c.in-Some.is _ c.rule_plan-plan.ensures _ c.in-Err.is _ _ c.refused-in-Err.ensures

pub carry_out-requires : goal.carry_out-requires
carry_out-requires c = (c.requires, K.at _ _ _ _ _ c.requires c.args.rule c.args.lanes.now c.args.crosswalks.now c.args.lines.now _ c.find-f.ensures _ c.in-Some.is, K.fits _ _ _ _ _ c.requires _ c.args.lanes.now c.args.crosswalks.now c.args.lines.now _ c.find-f.ensures _ c.in-Some.is _ c.rule_plan-plan.ensures c.in_default-plan.is)

pub returns : goal.returns
returns c = K.rule_ends _ _ _ _ _ c.requires _ c.args.lanes.now c.args.crosswalks.now c.args.lines.now _ c.find-f.ensures _ c.in-Some.is _ c.rule_plan-plan.ensures c.in_default-plan.is _ _ c.carry_out.ensures
