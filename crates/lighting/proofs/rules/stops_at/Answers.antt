-- `lighting::rules::stops_at` meets its contract: what the check does not find by the lemmas that the function names. Assumes nothing.
use Rattle.lighting.proofs.RuleLaws.{with_line_lem, without_line, head_light, head_sign}
use native.Mathlib.Omega.{arith}
use Rattle.lighting.proofs.rules.stops_at.Goals as goal

pub returns-then-h : goal.returns-then-h
returns-then-h c = with_line_lem _ _ _ (head_light c.args.h c.if-h-eq3.false c.if-h-eq1.true) c.if-h.true

pub returns-else-h : goal.returns-else-h
returns-else-h c = without_line _ _ _ (head_light c.args.h c.if-h-eq3.false c.if-h-eq1.true) c.if-h.false

pub returns-then-h-2 : goal.returns-then-h-2
returns-then-h-2 c = with_line_lem _ _ _ (head_sign c.args.h c.if-h-eq3.false c.if-h-eq1.false (omega arith)) c.if-h-2.true

pub returns-else-h-2 : goal.returns-else-h-2
returns-else-h-2 c = without_line _ _ _ (head_sign c.args.h c.if-h-eq3.false c.if-h-eq1.false (omega arith)) c.if-h-2.false
