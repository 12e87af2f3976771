-- `polyline::locate::point_at` meets its contract. Assumes nothing.
use Rattle.polyline.proofs.Lines.{length-points, locate_none, at_none, at_some}
use mathlib.Core.Path.{sym, ap, ◌∙◌}
use Rattle.polyline.proofs.locate.point_at.Goals as goal

pub returns-then-cs-eq0 : goal.returns-then-cs-eq0
returns-then-cs-eq0 c = at_none _ _ (locate_none _ _ (length-points c.args.cs.now ∙ c.if-cs-eq0.true))

pub returns : goal.returns
returns c = at_some _ _ _ _ (sym c.in_ok-l.was ∙ c.locate.ensures) c.point_of.ensures

pub returns-in_err-l : goal.returns-in_err-l
returns-in_err-l c = rw c.from_residual.ensures (at_none _ _ (sym c.in_err-l.was ∙ c.locate.ensures))
