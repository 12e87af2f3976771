use borrow.Author.Rules.{rules}
use Rattle.fields.proofs.Options as L
use Rattle.fields.proofs.read_option_line.Goals as goal

pub returns-then-words-o-eq0 : goal.returns-then-words-o-eq0
returns-then-words-o-eq0 c = search (rules, L.reading_option)
