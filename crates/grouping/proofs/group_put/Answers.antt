-- `grouping::group_put` meets its contract. Assumes nothing.
use native.Mathlib.Omega.{arith}
use Rattle.map.proofs.UpdateLaws.{rule_limit}
use Rattle.grouping.proofs.group_put.Goals as goal

pub rule_head-requires : goal.rule_head-requires
rule_head-requires c = (c.requires.0.sized, omega (arith, c.requires.1, c.requires.0.sized.counts 5 (omega arith), rule_limit))
