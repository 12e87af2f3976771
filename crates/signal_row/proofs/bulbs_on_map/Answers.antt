-- `signal_row::bulbs_on_map` meets its contract. Assumes nothing.
use mathlib.Core.Bool.{not}
use mathlib.Core.Path.{ap}
use native.Mathlib.Omega.{arith}
use Rattle.signal_row.proofs.StoredLaws.{stand_start, stand_end, stand_stop, stand_next, longs}
use Rattle.signal_row.proofs.bulbs_on_map.Goals as goal

pub loop-i-init : goal.loop-i-init
loop-i-init c = stand_start _ _

pub returns-then-n-i : goal.returns-then-n-i
returns-then-n-i c = stand_end c.args.b _ c.loop-i.invariant c.if-n-i.true

pub returns-then-not-on_map : goal.returns-then-not-on_map
returns-then-not-on_map c = stand_stop c.args.b _ c.loop-i.invariant (search longs depth 12) c.if-n-i.false (omega arith) _ _ c.on_map.ensures (ap not c.if-not-on_map.true)

pub loop-i-preserved : goal.loop-i-preserved
loop-i-preserved c = stand_next c.args.b _ c.loop-i.invariant (search longs depth 12) c.if-n-i.false (omega arith) _ _ c.on_map.ensures (ap not c.if-not-on_map.false)

pub returns : goal.returns
returns c = stand_end c.args.b _ c.loop-i.invariant (omega arith)
