-- `grouping::put_signal` meets its contract. Assumes nothing.
use native.Mathlib.Omega.{arith}
use Rattle.map.proofs.UpdateLaws.{rule_limit}
use Rattle.grouping.proofs.put_signal.Goals as goal

pub rule_entries-before-requires : goal.rule_entries-before-requires
rule_entries-before-requires c = (c.requires.0, omega (arith, c.requires.1, c.requires.0.counts 5 (omega arith), rule_limit), omega (arith, c.requires.2), omega arith)
