-- `polyline::locate::locate` meets its contract, by how many points there are. Assumes nothing.
use Rattle.polyline.proofs.Lines.{length-points, locate_none, locate_one, locate_start, locate_past}
use native.Mathlib.Omega.{arith}
use mathlib.Core.Path.{◌∙◌}
use Rattle.polyline.proofs.locate.locate.Goals as goal

pub returns-then-n-eq0 : goal.returns-then-n-eq0
returns-then-n-eq0 c = locate_none _ _ (length-points c.args.cs.now ∙ c.if-n-eq0.true)

pub returns-then-n-eq1 : goal.returns-then-n-eq1
returns-then-n-eq1 c = locate_one _ _ (length-points c.args.cs.now ∙ c.if-n-eq1.true)

pub returns-then-s : goal.returns-then-s
returns-then-s c = locate_start _ _ (omega (arith, length-points c.args.cs.now, c.if-n-eq1.false, c.if-n-eq0.false)) c.if-s.true

pub returns : goal.returns
returns c = locate_past _ _ (omega (arith, length-points c.args.cs.now, c.if-n-eq1.false, c.if-n-eq0.false)) _ _ (length-points c.args.cs.now) c.if-s.false c.reaching.ensures
