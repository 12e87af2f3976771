use Rattle.store.specs.Layout.{count_of}
use Rattle.store.proofs.count.Goals as goal

pub returns : goal.returns
unfolding count_of
returns c = rw (c.index.ensures, c.count_at.ensures)
