-- `linking::kinds::kinds_of` meets its contract. Assumes nothing.
use Rattle.linking.proofs.KindLaws.{reading_start, reading_next}
use Rattle.linking.proofs.kinds.kinds_of.Goals as goal

pub loop-i-init : goal.loop-i-init
loop-i-init c = reading_start _ _

pub loop-i-preserved : goal.loop-i-preserved
loop-i-preserved c = reading_next _ _ _ _ c.loop-i.invariant c.loop-i-test.true _ c.with_signal-kinds.ensures
