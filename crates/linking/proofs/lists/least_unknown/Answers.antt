-- `linking::lists::least_unknown` meets its contract. Assumes nothing.
use Rattle.linking.proofs.ListLaws.{least_start, least_next}
use Rattle.linking.proofs.lists.least_unknown.Goals as goal

pub loop-i-init : goal.loop-i-init
loop-i-init c = least_start _ _ _

pub loop-i-preserved : goal.loop-i-preserved
loop-i-preserved c = least_next _ _ _ _ _ c.loop-i.invariant c.loop-i-test.true _ c.less_if-best.ensures
