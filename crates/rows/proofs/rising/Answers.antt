-- `rows::rising` meets its contract: the rows that are left decide the answer. Assumes nothing.
use Rattle.rows.proofs.RowLaws.{rising_low, rising_high, rising_next, rising_end, row_next}
use Rattle.rows.proofs.rising.Goals as goal
use Rattle.rows.proofs.rising.Goals.{then-x-low-via-then-x-low, then-x-low-via-else-x-low+then-next-x}

pub returns-then-x-low : goal.returns-then-x-low
returns-then-x-low c = elim c.then-x-low.branch [
  | then-x-low-via-then-x-low w ↦ rising_low _ _ _ _ _ _ _ _ c.loop-i.invariant c.loop-i-test.true w.if-x-low.true
  | then-x-low-via-else-x-low+then-next-x w ↦ rising_high _ _ _ _ _ _ _ _ c.loop-i.invariant c.loop-i-test.true w.if-x-low.false w.if-next-x.true
]

pub loop-i-preserved : goal.loop-i-preserved
loop-i-preserved c = rw (← row_next c.args.base c.args.w c.loop-i.i) (rising_next _ _ _ _ _ _ _ _ c.loop-i.invariant c.loop-i-test.true c.if-x-low.false c.if-next-x.false)

pub returns : goal.returns
returns c = rising_end _ _ _ _ _ _ _ _ c.loop-i.invariant c.loop-i-test.false
