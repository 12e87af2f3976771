use Rattle.map.specs.Access.{index_in, lookup}
use Rattle.map.proofs.lookup.find.Goals as goal

pub returns : goal.returns
unfolding index_in lookup
returns c = rw (c.then_some.ensures, c.find-i.ensures, c.count.ensures)
