use native.Mathlib.Omega.{arith}
use Rattle.store.proofs.KindLaws.{kind_below}
use Rattle.checking.proofs.CheckLaws as L
use Rattle.checking.proofs.check_table.Goals as goal

pub loop-init : goal.loop-init
loop-init c = L.passing_starts _ _ _ _ _ _ _ _ _ c.read_word-q.ensures c.limit-most.ensures (kind_below c.args.k) c.requires.0 c.requires.1

pub returns-in_err-after : goal.returns-in_err-after
returns-in_err-after c = rw c.from_residual.ensures (L.passing_cut _ _ _ _ _ _ _ _ _ c.read_word-q.ensures c.limit-most.ensures (kind_below c.args.k) _ _ _ _ _ _ c.loop.invariant c.loop-test.true _ _ _ c.read_record.ensures c.in_err-after.was)

pub returns-then-x-low : goal.returns-then-x-low
returns-then-x-low c = L.passing_off _ _ _ _ _ _ _ _ _ c.read_word-q.ensures c.limit-most.ensures (kind_below c.args.k) _ _ _ _ _ _ c.loop.invariant c.loop-test.true _ _ _ c.read_record.ensures c.then-x-low.either

pub points-requires : goal.points-requires
points-requires c = (omega (arith, c.loop.invariant.row_room, c.read_record.ensures.words), L.passing_few _ _ _ _ _ _ _ _ _ c.read_word-q.ensures c.limit-most.ensures (kind_below c.args.k) _ _ _ _ _ _ c.loop.invariant c.loop-test.true _ _ _ c.read_record.ensures _ c.in_ok-after.was)

pub overflow_add-sum : goal.overflow_add-sum
overflow_add-sum c = record { fits = L.passing_room _ _ _ _ _ _ _ _ _ c.read_word-q.ensures c.limit-most.ensures (kind_below c.args.k) _ _ _ _ _ _ c.loop.invariant c.loop-test.true _ _ _ c.read_record.ensures _ c.in_ok-after.was _ c.points.ensures }

pub loop-preserved : goal.loop-preserved
loop-preserved c = L.passing_on _ _ _ _ _ _ _ _ _ c.read_word-q.ensures c.limit-most.ensures (kind_below c.args.k) _ _ _ _ _ _ c.loop.invariant c.loop-test.true _ _ _ c.read_record.ensures _ c.in_ok-after.was _ c.points.ensures (omega arith) (omega arith)

pub returns-in_err-q : goal.returns-in_err-q
returns-in_err-q c = rw c.from_residual-in_err-q.ensures (L.passing_lost _ _ _ _ _ _ _ _ _ c.read_word-q.ensures c.limit-most.ensures (kind_below c.args.k) _ _ _ _ _ _ c.loop.invariant (omega arith) c.in_err-q.was)

pub returns : goal.returns
returns c = L.passing_ends _ _ _ _ _ _ _ _ _ c.read_word-q.ensures c.limit-most.ensures (kind_below c.args.k) _ _ _ _ _ _ c.loop.invariant (omega arith) _ c.in_ok-q.was
