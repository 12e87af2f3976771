-- `row_tests::bulbs_ok` meets its contract. Assumes nothing.
use Rattle.row_tests.specs.Flat.{good_bulb, good_bulbs}
use mathlib.Core.Path.{sym, ◌∙◌}
use native.Mathlib.Nat.{sub-zero}
use Rattle.rows.proofs.RowLaws.{every_next, every_stop, every_end}
use Rattle.rows.proofs.Indexed.{tab_step, tab_none, list_to_tab}
use borrow.Author.Tests.{lt-leb, le-leb}
use native.Mathlib.Omega.{arith}
use Rattle.row_tests.proofs.bulbs_ok.Goals as goal

pub returns-then-n-gt4 : goal.returns-then-n-gt4
unfolding good_bulbs
returns-then-n-gt4 c = rw (← c.index-n.ensures, lt-leb _ _ c.if-n-gt4.true)

pub loop-j-init : goal.loop-j-init
unfolding good_bulbs
loop-j-init c = rw (← c.index-n.ensures, le-leb _ _ c.if-n-gt4.false, list_to_tab (good_bulb _ _ _ _) _, sub-zero)

pub returns-then-not-bulb_ok : goal.returns-then-not-bulb_ok
returns-then-not-bulb_ok c = every_stop (λ b. b) _ _ _ _ c.loop-j.invariant (tab_step (good_bulb _ _ _ _) _ _ c.loop-j-test.true) (sym c.bulb_ok.ensures ∙ c.if-not-bulb_ok.true)

pub loop-j-preserved : goal.loop-j-preserved
loop-j-preserved c = every_next (λ b. b) _ _ _ _ c.loop-j.invariant (tab_step (good_bulb _ _ _ _) _ _ c.loop-j-test.true) (sym c.bulb_ok.ensures ∙ c.if-not-bulb_ok.false)

pub returns : goal.returns
returns c = every_end (λ b. b) _ _ c.loop-j.invariant (tab_none (good_bulb _ _ _ _) _ _ c.loop-j-test.false)
