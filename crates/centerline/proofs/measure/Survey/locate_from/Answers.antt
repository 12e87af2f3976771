-- `centerline::measure::Survey::locate_from` meets its contract. Assumes nothing.
use Rattle.centerline.proofs.Places.{located_start}
use Rattle.polyline.proofs.Lines.{length-points, locate_one, locate_start}
use mathlib.Core.Path.{◌∙◌}
use native.Mathlib.Omega.{arith}
use Rattle.centerline.proofs.measure.Survey.locate_from.Goals as goal

pub returns-then-self-eq1 : goal.returns-then-self-eq1
returns-then-self-eq1 c = let e = length-points c.args.self.now.cs.now in
    located_start _ _ (omega arith) (locate_one _ _ (e ∙ c.if-self-eq1.true))

pub returns-then-s : goal.returns-then-s
returns-then-s c = let e = length-points c.args.self.now.cs.now in
    located_start _ _ (omega arith) (locate_start _ _ (omega (arith, c.requires.0, c.if-self-eq1.false)) c.if-s.true)

pub reaching_from-requires : goal.reaching_from-requires
reaching_from-requires c = (omega (arith, c.requires.0, c.if-self-eq1.false), c.requires.0, c.requires.1, c.if-s.false)
