-- `row_tests::bulb_ok` meets its contract. Assumes nothing.
use Rattle.row_tests.specs.Flat.{good_bulb}
use borrow.Author.Tests.{le-ltb, lt-ltb}
use Rattle.row_tests.proofs.bulb_ok.Goals as goal

pub returns-then-words-at-ge4 : goal.returns-then-words-at-ge4
unfolding good_bulb
returns-then-words-at-ge4 c = rw (le-ltb _ _ c.if-words-at-ge4.true)

pub returns-then-words-at-ge9 : goal.returns-then-words-at-ge9
unfolding good_bulb
returns-then-words-at-ge9 c = rw (lt-ltb _ _ c.if-words-at-ge4.false, le-ltb _ _ c.if-words-at-ge9.true)

pub returns : goal.returns
unfolding good_bulb
returns c = rw (lt-ltb _ _ c.if-words-at-ge4.false, lt-ltb _ _ c.if-words-at-ge9.false) c.coords_ok.ensures
