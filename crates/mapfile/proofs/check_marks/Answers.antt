use Rattle.mapfile.proofs.MapLaws as L
use Rattle.mapfile.proofs.check_marks.Goals as goal

pub returns : goal.returns
returns c = L.marks_got _ _ _ _ _ c.in_ok-signals.ensures _ _ c.in_ok-crosswalks.ensures _ _ c.in_ok-rules.ensures
