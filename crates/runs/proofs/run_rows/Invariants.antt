-- `runs::run_rows` meets its contract: what is left to do at each row is what was left at the beginning. Assumes nothing.
use Rattle.call_list.proofs.Steps.{lent}
use Rattle.runs.proofs.RowLaws.{Looping}
use Rattle.runs.proofs.run_rows.Given as goal

abbrev pub invariant-loop-i : goal.invariant-loop-i
invariant-loop-i l = Looping l.calls l.lists l.reals l.n (lent l.initial.words l.initial.coords l.initial.fold l.initial.kept l.initial.set) l.initial.answers l.i (lent l.words l.coords l.fold l.kept l.set) l.answers
