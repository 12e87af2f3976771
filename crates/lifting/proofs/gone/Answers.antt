-- `lifting::gone` meets its contract. Assumes nothing.
use native.Mathlib.Omega.{arith}
use Rattle.lifting.proofs.GoneLaws.{freeing_start, freeing_next, freeing_end, rules_few}
use Rattle.lifting.proofs.gone.Goals as goal

pub loop-i-init : goal.loop-i-init
loop-i-init c = (c.count-n.ensures, freeing_start _ _ _ _)

pub gone_at-f-requires : goal.gone_at-f-requires
gone_at-f-requires c = (c.requires.0, c.requires.1, omega (arith, c.loop-i.invariant.0))

pub overflow_add-rules : goal.overflow_add-rules
overflow_add-rules c = omega (arith, c.loop-i.invariant.1.rules_few, c.gone_at-f.ensures.one, c.loop-i.invariant.0, rules_few _ c.requires.0)

pub overflow_add-points : goal.overflow_add-points
overflow_add-points c = omega (arith, c.loop-i.invariant.1.points_few, c.gone_at-f.ensures.few, c.loop-i.invariant.0, rules_few _ c.requires.0)

pub loop-i-preserved : goal.loop-i-preserved
loop-i-preserved c = (c.loop-i.invariant.0, freeing_next _ _ _ _ _ _ _ c.loop-i.invariant.1 (omega arith) _ c.gone_at-f.ensures)

pub returns : goal.returns
returns c = freeing_end _ _ _ _ _ _ _ c.loop-i.invariant.1 (omega arith) c.loop-i.invariant.0
