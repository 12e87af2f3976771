-- `row_tests::rule_ok` meets its contract. Assumes nothing.
use Rattle.row_tests.specs.Flat.{good_rule}
use borrow.Author.Tests.{lt-leb, le-leb}
use Rattle.row_tests.proofs.rule_ok.Goals as goal

pub returns-then-words-at-gt16 : goal.returns-then-words-at-gt16
unfolding good_rule
returns-then-words-at-gt16 c = rw (lt-leb _ _ c.if-words-at-gt16.true)

pub returns-then-words-at-gt16-2 : goal.returns-then-words-at-gt16-2
unfolding good_rule
returns-then-words-at-gt16-2 c = rw (le-leb _ _ c.if-words-at-gt16.false, lt-leb _ _ c.if-words-at-gt16-2.true)

pub returns : goal.returns
unfolding good_rule
returns c = rw (le-leb _ _ c.if-words-at-gt16.false, le-leb _ _ c.if-words-at-gt16-2.false) c.body_ok.ensures
