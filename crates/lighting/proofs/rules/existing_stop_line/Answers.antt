-- `lighting::rules::existing_stop_line` meets its contract: what the check does not find by the lemmas that the function names. Assumes nothing.
use native.Mathlib.Omega.{arith}
use Rattle.lighting.proofs.RuleLaws.{lineless_start, lineless_end, lineless_found, lineless_next}
use Rattle.lighting.proofs.rules.existing_stop_line.Goals as goal

pub loop-i-init : goal.loop-i-init
loop-i-init c = (c.count-n.ensures, lineless_start _ _ _ c.count-n.ensures)

pub returns-in-Some : goal.returns-in-Some
returns-in-Some c = lineless_found _ _ _ _ c.loop-i.invariant.1 (omega arith) _ c.line_on-u.ensures _ c.in-Some.is

pub loop-i-preserved : goal.loop-i-preserved
loop-i-preserved c = (c.loop-i.invariant.0, lineless_next _ _ _ _ c.loop-i.invariant.1 (omega arith) _ c.line_on-u.ensures c.in_default.is)

pub returns : goal.returns
returns c = lineless_end _ _ _ _ c.loop-i.invariant.1 (omega arith)
