-- `links::set_regulatory_links` meets its contract. Assumes nothing.
use Rattle.links.proofs.CarryLaws as K
use Rattle.links.specs.Linked.{rule_links}
use Rattle.links.proofs.set_regulatory_links.Goals as goal

pub returns-in-Err : goal.returns-in-Err
returns-in-Err c = K.lent_turned_down _ _ _ _ _ (rule_links c.args.rule c.args.lanes.now c.args.crosswalks.now c.args.stop_lines.now) _ c.check_lent-lent.ensures _ c.in-Err.is _ _ c.refused.ensures

pub check_links-known-requires : goal.check_links-known-requires
check_links-known-requires c = (K.known _ _ _ _ _ (K.is_fine _ _ _ _ _ (rule_links c.args.rule c.args.lanes.now c.args.crosswalks.now c.args.stop_lines.now) _ c.check_lent-lent.ensures c.in_default.is)).sound.sized.words

pub returns-in-Err-known : goal.returns-in-Err-known
returns-in-Err-known c = K.links_turned_down _ _ _ _ _ (rule_links c.args.rule c.args.lanes.now c.args.crosswalks.now c.args.stop_lines.now) _ c.check_lent-lent.ensures c.in_default.is _ c.check_links-known.ensures _ c.in-Err-known.is _ _ c.refused-in-Err-known.ensures

pub sorted_of-a-requires : goal.sorted_of-a-requires
sorted_of-a-requires c = (K.each_sorts _ _ _ _ _ (rule_links c.args.rule c.args.lanes.now c.args.crosswalks.now c.args.stop_lines.now) _ c.check_lent-lent.ensures c.in_default.is _ c.check_links-known.ensures c.in_default-known.is).0

pub sorted_of-b-requires : goal.sorted_of-b-requires
sorted_of-b-requires c = (K.each_sorts _ _ _ _ _ (rule_links c.args.rule c.args.lanes.now c.args.crosswalks.now c.args.stop_lines.now) _ c.check_lent-lent.ensures c.in_default.is _ c.check_links-known.ensures c.in_default-known.is).1

pub sorted_of-c-requires : goal.sorted_of-c-requires
sorted_of-c-requires c = (K.each_sorts _ _ _ _ _ (rule_links c.args.rule c.args.lanes.now c.args.crosswalks.now c.args.stop_lines.now) _ c.check_lent-lent.ensures c.in_default.is _ c.check_links-known.ensures c.in_default-known.is).2

pub returns : goal.returns
returns c = K.call_left _ _ _ _ _ (rule_links c.args.rule c.args.lanes.now c.args.crosswalks.now c.args.stop_lines.now) _ c.check_lent-lent.ensures c.in_default.is _ c.check_links-known.ensures c.in_default-known.is _ _ _ c.sorted_of-a.ensures.list c.sorted_of-b.ensures.list c.sorted_of-c.ensures.list _ _ c.link_rule.ensures
