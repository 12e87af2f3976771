use Rattle.running.proofs.TestLaws as L
use Rattle.running.proofs.entries_ok.Goals as goal

pub loop-i-init : goal.loop-i-init
loop-i-init c = L.passing_start _ _ _ _ _ c.requires.1.0 c.requires.1.1
