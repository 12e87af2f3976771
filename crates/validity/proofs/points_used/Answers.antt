-- `validity::points_used` meets its contract. Assumes nothing.
use mathlib.Core.Path.{◌≡◌, ◌∙◌, ap}
use native.Mathlib.Omega.{arith}
use Rattle.row_tests.specs.Flat.{table_points}
use Rattle.validity.proofs.Sums.{sum_none, sum_next, table_few, all_is}
use Rattle.validity.proofs.Within.{kinds_at}
use Rattle.validity.proofs.points_used.Goals as goal

pub loop-k-init : goal.loop-k-init
loop-k-init c = (omega arith, sum_none (table_points _))

pub overflow_add-sum : goal.overflow_add-sum
overflow_add-sum c = let e : c.table_points-sum.result ≡ table_points c.args.words.now c.loop-k.k-index = c.table_points-sum.ensures ∙ ap (table_points c.args.words.now) (kinds_at c.loop-k.k-index _ c.loop-k-test.true) in
    omega (arith, table_few c.args.words.now c.requires.0 c.requires.1 c.loop-k.k-index c.loop-k-test.true)

pub loop-k-preserved : goal.loop-k-preserved
loop-k-preserved c = let e : c.table_points-sum.result ≡ table_points c.args.words.now c.loop-k.k-index = c.table_points-sum.ensures ∙ ap (table_points c.args.words.now) (kinds_at c.loop-k.k-index _ c.loop-k-test.true) in (
  omega (arith, table_few c.args.words.now c.requires.0 c.requires.1 c.loop-k.k-index c.loop-k-test.true),
  rw (c.loop-k.invariant.1, e) (sum_next (table_points _) _),
)

pub returns : goal.returns
returns c = let e : c.loop-k.k-index ≡ 6 = omega arith in
    all_is _ _ (rw e at c.loop-k.invariant.1)
