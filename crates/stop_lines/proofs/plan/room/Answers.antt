-- `stop_lines::plan::room` meets its contract. Assumes nothing.
use mathlib.Core.Bool.{not}
use mathlib.Core.Path.{ap}
use Rattle.stop_lines.proofs.RoomLaws as R
use Rattle.stop_lines.proofs.plan.room.Goals as goal

pub returns-then-not-rule_room : goal.returns-then-not-rule_room
returns-then-not-rule_room c = R.rules_full _ _ _ _ _ _ _ c.count.ensures c.if-count-lt64.true _ c.rule_room.ensures (ap not c.if-not-rule_room.true)

pub returns-then-used-gt1024 : goal.returns-then-used-gt1024
returns-then-used-gt1024 c = R.points_full _ _ _ _ _ _ _ c.count.ensures c.if-count-lt64.true _ c.rule_room.ensures (ap not c.if-not-rule_room.false) _ _ c.points_used.ensures c.index-used.ensures c.if-used-gt1024.true

pub returns-then-count-lt64 : goal.returns-then-count-lt64
returns-then-count-lt64 c = R.points_free _ _ _ _ _ _ _ c.count.ensures c.if-count-lt64.true _ c.rule_room.ensures (ap not c.if-not-rule_room.false) _ _ c.points_used.ensures c.index-used.ensures c.if-used-gt1024.false

pub returns : goal.returns
returns c = R.lines_full _ _ _ _ _ _ _ c.count.ensures c.if-count-lt64.false
