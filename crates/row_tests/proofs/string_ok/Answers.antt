-- `row_tests::string_ok` meets its contract. Assumes nothing.
use Rattle.row_tests.specs.Flat.{good_string}
use Rattle.row_tests.proofs.string_ok.Goals as goal

pub returns : goal.returns
unfolding good_string
returns c = c.line_ok.ensures
