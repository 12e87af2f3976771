use Rattle.map.proofs.ReadLaws.{head_read}
use Rattle.map.proofs.lookup.rule_head.Goals as goal

pub returns : goal.returns
returns c = head_read _ _
