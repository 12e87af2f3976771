-- `validity::table_points` meets its contract. Assumes nothing.
use mathlib.Core.Path.{◌≡◌}
use native.Mathlib.Omega.{arith}
use Rattle.store.specs.Kinds.{kind_number}
use Rattle.store.proofs.KindLaws.{kind_below}
use Rattle.store.proofs.StoreLaws.{limit_small}
use Rattle.row_tests.specs.Flat.{row_points}
use Rattle.validity.proofs.Sums.{sum_none, sum_next, table_is}
use Rattle.validity.proofs.table_points.Goals as goal

pub loop-i-init : goal.loop-i-init
loop-i-init c = (omega arith, sum_none (row_points (kind_number c.args.k) _))

pub row_points-sum-requires : goal.row_points-sum-requires
row_points-sum-requires c = (c.requires.0, omega (arith, c.count-n.ensures), c.requires.1.few (kind_number c.args.k) _ (kind_below c.args.k) (omega (arith, c.count-n.ensures)))

pub overflow_add-sum : goal.overflow_add-sum
overflow_add-sum c = omega (arith, c.row_points-sum.ensures, c.requires.1.few (kind_number c.args.k) c.loop-i.i (kind_below c.args.k) (omega (arith, c.count-n.ensures)), c.requires.0.counts (kind_number c.args.k) (kind_below c.args.k), limit_small (kind_number c.args.k), c.count-n.ensures)

pub loop-i-preserved : goal.loop-i-preserved
loop-i-preserved c = (
  omega (arith, c.row_points-sum.ensures, c.requires.1.few (kind_number c.args.k) c.loop-i.i (kind_below c.args.k) (omega (arith, c.count-n.ensures))),
  rw (c.loop-i.invariant.1, c.row_points-sum.ensures) (sum_next (row_points (kind_number c.args.k) _) _),
)

pub returns : goal.returns
returns c = let e : c.loop-i.i ≡ c.count-n.result = omega arith in
    table_is _ _ _ _ c.count-n.ensures (rw e at c.loop-i.invariant.1)
