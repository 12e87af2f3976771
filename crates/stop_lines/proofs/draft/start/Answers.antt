-- `stop_lines::draft::start` meets its contract. Assumes nothing.
use native.Mathlib.Omega.{arith}
use Rattle.stop_lines.proofs.DraftLaws as D
use Rattle.stop_lines.proofs.draft.start.Goals as goal

pub push-requires : goal.push-requires
push-requires c = (c.clear.ensures.room, D.cleared_few _ c.clear.ensures)

pub warn-requires : goal.warn-requires
warn-requires c = (c.push.ensures.room, D.entry_unwarned _ _ _ c.clear.ensures c.push.ensures)

pub returns-then-clamped : goal.returns-then-clamped
returns-then-clamped c = D.started_warned _ _ _ _ c.clear.ensures c.push.ensures _ c.if-clamped.true _ c.warn.ensures

pub returns-else-clamped : goal.returns-else-clamped
returns-else-clamped c = D.started _ _ _ c.args.lane c.clear.ensures c.push.ensures _ c.if-clamped.false
