-- `place::lines::between` meets its contract. Assumes nothing.
use Rattle.place.proofs.LineLaws.{between_made}
use borrow.Author.Rules.{rules}
use Rattle.place.proofs.lines.between.Goals as goal

pub returns-in-Some : goal.returns-in-Some
returns-in-Some c = search (rules, between_made)
