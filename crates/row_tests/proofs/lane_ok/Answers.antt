-- `row_tests::lane_ok` meets its contract. Assumes nothing.
use Rattle.row_tests.specs.Flat.{good_lane}
use borrow.Author.Tests.{le-ltb, lt-ltb, eq-eqb, ne_eqb}
use Rattle.row_tests.proofs.lane_ok.Goals as goal

pub returns-then-words-at-ge8 : goal.returns-then-words-at-ge8
unfolding good_lane
returns-then-words-at-ge8 c = rw (le-ltb _ _ c.if-words-at-ge8.true)

pub returns-then-words-at-eq0 : goal.returns-then-words-at-eq0
unfolding good_lane
returns-then-words-at-eq0 c = rw (lt-ltb _ _ c.if-words-at-ge8.false, eq-eqb _ _ c.if-words-at-eq0.true)

pub returns : goal.returns
unfolding good_lane
returns c = rw (lt-ltb _ _ c.if-words-at-ge8.false, ne_eqb _ _ c.if-words-at-eq0.false) c.line_ok.ensures
