use Rattle.map.proofs.ReadLaws.{lane_read}
use Rattle.map.proofs.lookup.lane.Goals as goal

pub returns : goal.returns
returns c = rw c.then_some.ensures (lane_read _ _)
