-- `stop_lines::plan::fitted` meets its contract. Assumes nothing.
use mathlib.Core.Bool.{not}
use mathlib.Core.Path.{ap}
use native.Mathlib.Omega.{arith}
use Rattle.place.proofs.LineLaws.{part_long}
use Rattle.stop_lines.proofs.PlanLaws as P
use Rattle.stop_lines.proofs.plan.fitted.Goals as goal

pub overflow_mul-e : goal.overflow_mul-e
overflow_mul-e c = omega (arith, c.requires.2.few)

pub slice_bounds-points-end : goal.slice_bounds-points-end
slice_bounds-points-end c = omega (arith, c.requires.2.few, c.requires.2.long)

pub slice_bounds-stored_ok-end : goal.slice_bounds-stored_ok-end
slice_bounds-stored_ok-end c = part_long _ _ (P.part_inside c.args.placed.line c.requires.2)

pub stored_ok-requires : goal.stored_ok-requires
stored_ok-requires c = P.part_thirds c.args.placed.line c.requires.2

pub returns-then-not-stored_ok : goal.returns-then-not-stored_ok
returns-then-not-stored_ok c = P.end_off c.args.placed.line c.requires.2 _ _ _ _ _ _ c.stored_ok.ensures (ap not c.if-not-stored_ok.true)

pub returns-then-not-room : goal.returns-then-not-room
returns-then-not-room c = P.end_full c.args.placed.line c.requires.2 _ _ _ _ _ _ c.stored_ok.ensures (ap not c.if-not-stored_ok.false) _ c.room.ensures (ap not c.if-not-room.true)

pub returns : goal.returns
returns c = P.end_fine c.args.placed.line c.requires.2 _ _ _ _ _ _ c.stored_ok.ensures (ap not c.if-not-stored_ok.false) _ c.room.ensures (ap not c.if-not-room.false)
