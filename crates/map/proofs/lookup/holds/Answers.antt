use Rattle.map.specs.Access.{index_in}
use Rattle.map.proofs.lookup.holds.Goals as goal

pub returns : goal.returns
unfolding index_in
returns c = rw (c.find.ensures, c.count.ensures)
