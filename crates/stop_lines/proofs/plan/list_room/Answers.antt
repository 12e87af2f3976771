-- `stop_lines::plan::list_room` meets its contract. Assumes nothing.
use Rattle.stop_lines.proofs.RoomLaws as R
use Rattle.stop_lines.proofs.plan.list_room.Goals as goal

pub returns-then-count-lt128 : goal.returns-then-count-lt128
returns-then-count-lt128 c = R.list_free _ _ _ c.count.ensures c.if-count-lt128.true

pub returns : goal.returns
returns c = R.list_full _ _ _ c.count.ensures c.if-count-lt128.false
