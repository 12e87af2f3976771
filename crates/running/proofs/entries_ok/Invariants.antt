-- `running::entries_ok` meets its contract. Assumes nothing.
use Rattle.running.proofs.TestLaws as L
use Rattle.running.proofs.entries_ok.Given as goal

abbrev pub invariant-loop-i : goal.invariant-loop-i
invariant-loop-i l = L.Passing l.words l.there l.t.words.now l.t.end l.t.count l.i
