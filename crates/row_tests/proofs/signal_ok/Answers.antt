-- `row_tests::signal_ok` meets its contract. Assumes nothing.
use Rattle.row_tests.specs.Flat.{good_signal}
use borrow.Author.Tests.{le-ltb, lt-ltb}
use Rattle.row_tests.proofs.signal_ok.Goals as goal

pub returns-then-words-at-ge2 : goal.returns-then-words-at-ge2
unfolding good_signal
returns-then-words-at-ge2 c = rw (le-ltb _ _ c.if-words-at-ge2.true)

pub returns-then-not-line_ok : goal.returns-then-not-line_ok
unfolding good_signal
returns-then-not-line_ok c = rw (lt-ltb _ _ c.if-words-at-ge2.false, ← c.line_ok.ensures, c.if-not-line_ok.true)

pub returns-then-not-height_ok : goal.returns-then-not-height_ok
unfolding good_signal
returns-then-not-height_ok c = rw (lt-ltb _ _ c.if-words-at-ge2.false, ← c.line_ok.ensures, c.if-not-line_ok.false, ← c.height_ok.ensures, c.if-not-height_ok.true)

pub returns : goal.returns
unfolding good_signal
returns c = rw (lt-ltb _ _ c.if-words-at-ge2.false, ← c.line_ok.ensures, c.if-not-line_ok.false, ← c.height_ok.ensures, c.if-not-height_ok.false) c.bulbs_ok.ensures
