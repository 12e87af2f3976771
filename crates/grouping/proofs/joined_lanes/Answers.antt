-- `grouping::joined_lanes` meets its contract. Assumes nothing.
use native.Mathlib.Omega.{arith}
use Rattle.map.proofs.UpdateLaws.{rule_limit}
use Rattle.grouping.proofs.JoinLaws.{join_start, join_more}
use Rattle.grouping.proofs.joined_lanes.Goals as goal

pub rule_entries-start-requires : goal.rule_entries-start-requires
rule_entries-start-requires c = (c.requires.0.sized, omega (arith, c.requires.1, c.requires.0.sized.counts 5 (omega arith), rule_limit), c.requires.0.lanes _ c.requires.1, omega arith)

pub rule_list-listed-requires : goal.rule_list-listed-requires
rule_list-listed-requires c = (c.requires.0.sized, omega (arith, c.requires.1, c.requires.0.sized.counts 5 (omega arith), rule_limit), omega (arith, c.requires.0.lanes _ c.requires.1))

pub loop-n-init : goal.loop-n-init
loop-n-init c = (c.rule_list-listed.ensures, join_start _ c.args.lanes.now _ c.rule_entries-start.ensures (c.requires.0.lanes _ c.requires.1))

pub loop-n-preserved : goal.loop-n-preserved
loop-n-preserved c = (c.loop-n.invariant.0, join_more _ _ _ _ _ c.loop-n.invariant.1 c.loop-n-test.true _ c.loop-n.invariant.0 _ c.member.ensures c.if-member.false c.if-count-ge16.false)
