use Rattle.mapfile.proofs.MapLaws as L
use Rattle.mapfile.proofs.check_lines.Goals as goal

pub returns : goal.returns
returns c = L.lines_got _ _ _ _ _ c.in_ok-boundaries.ensures _ _ c.in_ok-stop_lines.ensures _ _ c.in_ok-marks.ensures
