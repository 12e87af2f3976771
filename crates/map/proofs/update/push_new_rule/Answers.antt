use Rattle.map.proofs.UpdateLaws.{told_kind, told_body}
use Rattle.map.proofs.update.push_new_rule.Goals as goal

pub push_rule-requires : goal.push_rule-requires
push_rule-requires c = let k = told_kind c.rule_words-told.result c.args.signals.now c.args.rule c.rule_words-told.ensures in
    (c.requires.0, c.requires.1, c.requires.2, k.0, k.1, c.requires.3, c.requires.4)

pub returns : goal.returns
returns c = rw (← told_body c.rule_words-told.result c.args.signals.now c.args.rule c.rule_words-told.ensures) c.push_rule.ensures
