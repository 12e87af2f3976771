-- `stop_lines::storing::store` meets its contract. Assumes nothing.
use Rattle.stop_lines.proofs.StoringLaws as S
use Rattle.stop_lines.proofs.storing.store.Goals as goal

pub push_line-requires : goal.push_line-requires
push_line-requires c = (c.requires.0, c.requires.1, S.line_left c.args.rule _ c.requires.3, c.requires.4)

pub add_rule-requires : goal.add_rule-requires
add_rule-requires c = (S.line_sized _ _ _ _ _ c.push_line.ensures c.args.rule, S.rules_kept _ _ _ _ _ c.push_line.ensures _ _ c.requires.2, S.next_moved _ _ _ _ _ c.push_line.ensures _ c.requires.3)

pub returns : goal.returns
returns c = S.both_stored _ _ _ _ _ c.push_line.ensures _ _ _ _ c.add_rule.ensures
