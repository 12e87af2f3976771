-- `place::section::with_sides` meets its contract. Assumes nothing.
use Rattle.map.specs.Tables.{map_of}
use Rattle.place.specs.Values.{ends_of}
use Rattle.place.proofs.SectionLaws.{Siding}
use Rattle.place.proofs.section.with_sides.Given as goal

abbrev pub invariant-loop-k : goal.invariant-loop-k
invariant-loop-k l = Siding (map_of l.words l.coords) l.p l.normal l.lane l.row (ends_of l.initial.ends) (ends_of l.ends) l.k
