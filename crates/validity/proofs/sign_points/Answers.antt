-- `validity::sign_points` meets its contract. Assumes nothing.
use borrow.Author.Tests.{eq-eqb, ne_eqb}
use Rattle.validity.proofs.sign_points.Goals as goal

pub returns-then-kind-eq2 : goal.returns-then-kind-eq2
returns-then-kind-eq2 c = rw (eq-eqb _ _ c.if-kind-eq2.true) c.points_if.ensures

pub returns : goal.returns
returns c = rw (ne_eqb _ _ c.if-kind-eq2.false)
