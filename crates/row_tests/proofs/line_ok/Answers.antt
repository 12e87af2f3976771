-- `row_tests::line_ok` meets its contract. Assumes nothing.
use Rattle.row_tests.specs.Flat.{good_line}
use mathlib.Core.Path.{◌∙◌}
use borrow.Author.Tests.{lt-leb, le-leb}
use Rattle.row_tests.proofs.line_ok.Goals as goal

pub returns-then-n-gt64 : goal.returns-then-n-gt64
unfolding good_line
returns-then-n-gt64 c = rw (lt-leb _ _ c.if-n-gt64.true)

pub returns : goal.returns
unfolding good_line
returns c = c.coords_ok.ensures ∙ rw (le-leb _ _ c.if-n-gt64.false, c.index.ensures)
