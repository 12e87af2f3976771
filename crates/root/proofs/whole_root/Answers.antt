-- `root::whole_root` meets its contract, by `proofs/Turns.antt`. Assumes nothing.
use native.Mathlib.Omega.{arith}
use Rattle.root.proofs.Turns.{start, asked, again, root_found}
use Rattle.root.proofs.whole_root.Goals as goal

pub loop-turns-init : goal.loop-turns-init
loop-turns-init c = start c.args.m c.requires.0 c.requires.1

pub turn-t-requires : goal.turn-t-requires
turn-t-requires c = asked c.loop-turns.invariant (omega arith)

pub loop-turns-preserved : goal.loop-turns-preserved
loop-turns-preserved c = again c.loop-turns.invariant (omega arith) c.turn-t.ensures (omega arith)

pub returns : goal.returns
returns c = root_found c.args.m c.loop-turns.invariant (omega arith)
