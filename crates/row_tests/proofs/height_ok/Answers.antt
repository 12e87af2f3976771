-- `row_tests::height_ok` meets its contract. Assumes nothing.
use Rattle.row_tests.specs.Flat.{good_height}
use borrow.Author.Tests.{eq-eqb, ne_eqb}
use Rattle.row_tests.proofs.height_ok.Goals as goal

pub returns-then-words-at-eq0 : goal.returns-then-words-at-eq0
unfolding good_height
returns-then-words-at-eq0 c = rw (eq-eqb _ _ c.if-words-at-eq0.true)

pub returns : goal.returns
unfolding good_height
returns c = rw (ne_eqb _ _ c.if-words-at-eq0.false) c.is_finite.ensures
