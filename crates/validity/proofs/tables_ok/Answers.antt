-- `validity::tables_ok` meets its contract. Assumes nothing.
use mathlib.Core.Path.{◌≡◌, sym, ap, ◌∙◌}
use Rattle.rows.proofs.RowLaws.{every_next, every_stop, every_end}
use Rattle.rows.proofs.Indexed.{tab_step, tab_none, list_to_tab}
use Rattle.row_tests.specs.Flat.{good_table, good_tables}
use Rattle.validity.proofs.Within.{kinds_at}
use Rattle.validity.proofs.tables_ok.Goals as goal

pub loop-k-init : goal.loop-k-init
unfolding good_tables
loop-k-init c = rw (list_to_tab (good_table _ _) 6)

pub returns-then-not-table_ok : goal.returns-then-not-table_ok
returns-then-not-table_ok c = let e : c.table_ok.result ≡ good_table c.args.words.now c.args.coords.now c.loop-k.k-index = c.table_ok.ensures ∙ ap (good_table c.args.words.now c.args.coords.now) (kinds_at c.loop-k.k-index _ c.loop-k-test.true) in
    every_stop (λ b. b) _ _ _ _ c.loop-k.invariant (tab_step (good_table _ _) 6 _ c.loop-k-test.true) (sym e ∙ c.if-not-table_ok.true)

pub loop-k-preserved : goal.loop-k-preserved
loop-k-preserved c = let e : c.table_ok.result ≡ good_table c.args.words.now c.args.coords.now c.loop-k.k-index = c.table_ok.ensures ∙ ap (good_table c.args.words.now c.args.coords.now) (kinds_at c.loop-k.k-index _ c.loop-k-test.true) in
    every_next (λ b. b) _ _ _ _ c.loop-k.invariant (tab_step (good_table _ _) 6 _ c.loop-k-test.true) (sym e ∙ c.if-not-table_ok.false)

pub returns : goal.returns
returns c = every_end (λ b. b) _ _ c.loop-k.invariant (tab_none (good_table _ _) 6 _ c.loop-k-test.false)
