-- `validity::rows_ok` meets its contract. Assumes nothing.
use mathlib.Core.Path.{sym, ◌∙◌}
use native.Mathlib.Nat.{sub-zero}
use native.Mathlib.Omega.{arith}
use Rattle.rows.proofs.RowLaws.{every_next, every_stop, every_end}
use Rattle.rows.proofs.Indexed.{tab_step, tab_none, list_to_tab}
use Rattle.store.specs.Kinds.{kind_number}
use Rattle.row_tests.specs.Flat.{good_row, good_rows}
use Rattle.validity.proofs.rows_ok.Goals as goal

pub loop-i-init : goal.loop-i-init
unfolding good_rows
loop-i-init c = rw (← c.count-n.ensures, list_to_tab (good_row (kind_number c.args.k) _ _) _, sub-zero)

pub row_ok-requires : goal.row_ok-requires
row_ok-requires c = (c.requires, omega (arith, c.count-n.ensures))

pub returns-then-not-row_ok : goal.returns-then-not-row_ok
returns-then-not-row_ok c = every_stop (λ b. b) _ _ _ _ c.loop-i.invariant (tab_step (good_row (kind_number c.args.k) _ _) _ _ c.loop-i-test.true) (sym c.row_ok.ensures ∙ c.if-not-row_ok.true)

pub loop-i-preserved : goal.loop-i-preserved
loop-i-preserved c = every_next (λ b. b) _ _ _ _ c.loop-i.invariant (tab_step (good_row (kind_number c.args.k) _ _) _ _ c.loop-i-test.true) (sym c.row_ok.ensures ∙ c.if-not-row_ok.false)

pub returns : goal.returns
returns c = every_end (λ b. b) _ _ c.loop-i.invariant (tab_none (good_row (kind_number c.args.k) _ _) _ _ c.loop-i-test.false)
