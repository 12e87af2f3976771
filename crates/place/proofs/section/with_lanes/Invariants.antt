-- `place::section::with_lanes` meets its contract. Assumes nothing.
use Rattle.map.specs.Tables.{map_of}
use Rattle.place.specs.Values.{ends_of}
use Rattle.place.proofs.SectionLaws.{Laning}
use Rattle.place.proofs.section.with_lanes.Given as goal

abbrev pub invariant-loop-lane : goal.invariant-loop-lane
invariant-loop-lane l = Laning (map_of l.words l.coords) l.p l.normal l.lanes (ends_of l.ends) l.lane-index
