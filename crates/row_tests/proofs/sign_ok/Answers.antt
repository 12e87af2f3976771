-- `row_tests::sign_ok` meets its contract. Assumes nothing.
use borrow.Author.Tests.{lt-leb, le-leb, eq-eqb, ne_eqb}
use Rattle.row_tests.proofs.sign_ok.Goals as goal

pub returns-then-words-at-lt1 : goal.returns-then-words-at-lt1
returns-then-words-at-lt1 c = rw (lt-leb _ _ c.if-words-at-lt1.true)

pub returns-then-words-at-eq0 : goal.returns-then-words-at-eq0
returns-then-words-at-eq0 c = rw (le-leb _ _ c.if-words-at-lt1.false, eq-eqb _ _ c.if-words-at-eq0.true)

pub returns : goal.returns
returns c = rw (le-leb _ _ c.if-words-at-lt1.false, ne_eqb _ _ c.if-words-at-eq0.false) c.line_ok.ensures
