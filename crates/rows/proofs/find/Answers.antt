-- `rows::find` meets its contract: the rows that are left decide the answer. Assumes nothing.
use mathlib.Core.Path.{◌≡◌, ◌∙◌}
use native.Mathlib.Omega.{arith}
use Rattle.rows.proofs.RowLaws.{index_here, index_next, index_none, row_next}
use Rattle.rows.proofs.find.Goals as goal

pub returns-then-t-base : goal.returns-then-t-base
returns-then-t-base c = index_here _ _ _ _ _ _ _ c.loop-i.invariant c.loop-i-test.true c.if-t-base.true

pub loop-i-preserved : goal.loop-i-preserved
loop-i-preserved c = rw (← row_next c.args.base c.args.w c.loop-i.i) (index_next _ _ _ _ _ _ _ c.loop-i.invariant c.loop-i-test.true c.if-t-base.false)

pub returns : goal.returns
returns c = let e : c.args.n ≡ c.loop-i.i = omega arith in
    e ∙ index_none _ _ _ _ _ _ _ c.loop-i.invariant c.loop-i-test.false
