-- `root::whole_root` meets its contract, by `proofs/Turns.antt`. So many turns are to come. Assumes nothing.
use Rattle.root.proofs.Turns.{Looped}
use Rattle.root.proofs.whole_root.Given as goal

abbrev pub invariant-loop-turns : goal.invariant-loop-turns
invariant-loop-turns l = Looped l.w l.t.root l.t.rest l.t.left l.t.count l.turns
