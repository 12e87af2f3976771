-- `row_tests::crosswalk_ok` meets its contract. Assumes nothing.
use Rattle.row_tests.specs.Flat.{good_crosswalk}
use borrow.Author.Tests.{eq-eqb, ne_eqb}
use Rattle.row_tests.proofs.crosswalk_ok.Goals as goal

pub returns-then-not-line_ok : goal.returns-then-not-line_ok
unfolding good_crosswalk
returns-then-not-line_ok c = rw (← c.line_ok.ensures, c.if-not-line_ok.true)

pub returns-then-not-line_ok-2 : goal.returns-then-not-line_ok-2
unfolding good_crosswalk
returns-then-not-line_ok-2 c = rw (← c.line_ok.ensures, c.if-not-line_ok.false, ← c.line_ok-2.ensures, c.if-not-line_ok-2.true)

pub returns-then-words-at-eq0 : goal.returns-then-words-at-eq0
unfolding good_crosswalk
returns-then-words-at-eq0 c = rw (← c.line_ok.ensures, c.if-not-line_ok.false, ← c.line_ok-2.ensures, c.if-not-line_ok-2.false, eq-eqb _ _ c.if-words-at-eq0.true)

pub returns : goal.returns
unfolding good_crosswalk
returns c = rw (← c.line_ok.ensures, c.if-not-line_ok.false, ← c.line_ok-2.ensures, c.if-not-line_ok-2.false, ne_eqb _ _ c.if-words-at-eq0.false) c.line_ok-3.ensures
