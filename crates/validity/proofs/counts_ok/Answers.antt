-- `validity::counts_ok` meets its contract. Assumes nothing.
use Prim.Native.Nat.{ℕ, ◌+◌}
use mathlib.Core.Path.{◌≡◌, ap, ◌∙◌}
use lib.ListN.{get_or}
use Rattle.rows.proofs.RowLaws.{every_next, every_stop, every_end}
use Rattle.rows.proofs.Indexed.{tab_step, tab_none}
use Rattle.store.specs.Layout.{limit_of}
use Rattle.validity.proofs.Within.{fits_in, fits_over, fits_under, counts_left, kinds_at}
use Rattle.validity.proofs.counts_ok.Goals as goal

pub loop-k-init : goal.loop-k-init
loop-k-init c = counts_left _

pub returns-then-limit-words : goal.returns-then-limit-words
returns-then-limit-words c = let at : c.count_at.result ≡ 1 + c.loop-k.k-index = c.count_at.ensures ∙ ap (λ (n : ℕ). 1 + n) (kinds_at c.loop-k.k-index _ c.loop-k-test.true) in
    let most : c.limit.result ≡ limit_of c.loop-k.k-index = c.limit.ensures ∙ ap limit_of (kinds_at c.loop-k.k-index _ c.loop-k-test.true) in
    every_stop (λ b. b) _ _ _ _ c.loop-k.invariant (tab_step (fits_in _) 6 _ c.loop-k-test.true)
    (fits_over c.args.words.now c.loop-k.k-index (get_or c.args.words.now c.count_at.result 0) c.limit.result (rw at) most c.if-limit-words.true)

pub loop-k-preserved : goal.loop-k-preserved
loop-k-preserved c = let at : c.count_at.result ≡ 1 + c.loop-k.k-index = c.count_at.ensures ∙ ap (λ (n : ℕ). 1 + n) (kinds_at c.loop-k.k-index _ c.loop-k-test.true) in
    let most : c.limit.result ≡ limit_of c.loop-k.k-index = c.limit.ensures ∙ ap limit_of (kinds_at c.loop-k.k-index _ c.loop-k-test.true) in
    every_next (λ b. b) _ _ _ _ c.loop-k.invariant (tab_step (fits_in _) 6 _ c.loop-k-test.true)
    (fits_under c.args.words.now c.loop-k.k-index (get_or c.args.words.now c.count_at.result 0) c.limit.result (rw at) most c.if-limit-words.false)

pub returns : goal.returns
returns c = every_end (λ b. b) _ _ c.loop-k.invariant (tab_none (fits_in _) 6 _ c.loop-k-test.false)
