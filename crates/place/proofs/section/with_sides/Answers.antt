-- `place::section::with_sides` meets its contract. Assumes nothing.
use Rattle.place.proofs.SectionLaws.{siding_missing, siding_past, siding_taken}
use borrow.Author.Rules.{rules}
use Rattle.place.proofs.section.with_sides.Goals as goal

pub returns-then-not-b : goal.returns-then-not-b
returns-then-not-b c = search (rules, siding_missing)

pub loop-k-preserved-in_default : goal.loop-k-preserved-in_default
loop-k-preserved-in_default c = search (rules, siding_past)

pub loop-k-preserved : goal.loop-k-preserved
loop-k-preserved c = search (rules, siding_taken)
