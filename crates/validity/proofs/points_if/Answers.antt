-- `validity::points_if` meets its contract. Assumes nothing.
use borrow.Author.Tests.{eq-eqb, ne_eqb}
use Rattle.validity.proofs.points_if.Goals as goal

pub returns-then-flag-eq0 : goal.returns-then-flag-eq0
returns-then-flag-eq0 c = rw (eq-eqb _ _ c.if-flag-eq0.true)

pub returns : goal.returns
returns c = rw (ne_eqb _ _ c.if-flag-eq0.false)
