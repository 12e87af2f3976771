use borrow.Author.Rules.{rules}
use Rattle.fields.proofs.Points as L
use Rattle.fields.proofs.read_height.Goals as goal

pub returns-then-is_finite : goal.returns-then-is_finite
returns-then-is_finite c = search (rules, L.reading_height)
