-- `stop_lines::carry_out` meets its contract. Assumes nothing.
use native.Mathlib.Omega.{arith}
use Rattle.stop_lines.proofs.CarryLaws as K
use Rattle.stop_lines.proofs.carry_out.Goals as goal

pub fresh-number-requires : goal.fresh-number-requires
fresh-number-requires c = (K.known _ _ _ _ _ c.requires.0).sound.sized.words

pub check_fold-settled-requires : goal.check_fold-settled-requires
check_fold-settled-requires c = (K.known _ _ _ _ _ c.requires.0).fold

pub returns-in-Err : goal.returns-in-Err
returns-in-Err c = K.out_refused _ _ _ _ _ c.requires.0 c.args.rule c.args.lanes.now c.args.points.now c.args.clamped c.args.ends _ c.fresh-number.ensures _ c.is_late-late.ensures _ c.check_fold-settled.ensures _ c.in-Err.is _ _ c.refused.ensures

pub draft_set-requires : goal.draft_set-requires
draft_set-requires c = (K.known _ _ _ _ _ c.requires.0).set

pub take_in-requires : goal.take_in-requires
take_in-requires c = ((K.known _ _ _ _ _ c.requires.0).fold, c.draft_set.ensures.room, K.taken _ _ _ _ _ c.requires.0 c.args.rule c.args.lanes.now c.args.points.now c.args.clamped c.args.ends _ c.fresh-number.ensures _ c.is_late-late.ensures _ c.check_fold-settled.ensures c.in_default.is _ c.draft_set.ensures)

pub store-requires : goal.store-requires
store-requires c = let room = K.room_left _ _ _ _ _ c.requires.0 c.args.rule c.args.lanes.now c.args.points.now c.args.clamped c.args.ends c.requires.1 c.requires.3 in
    ((K.known _ _ _ _ _ c.requires.0).sound.sized, room.line, room.rule, K.numbers_left _ _ _ _ _ c.requires.0 c.args.rule c.args.lanes.now c.args.points.now c.args.clamped c.args.ends _ c.fresh-number.ensures _ c.is_late-late.ensures _ c.check_fold-settled.ensures c.in_default.is, c.requires.3)

pub tally_of-requires : goal.tally_of-requires
tally_of-requires c = omega (arith, (K.known _ _ _ _ _ c.requires.0).fold_size)

pub returns : goal.returns
returns c = K.out_done _ _ _ _ _ c.requires.0 c.args.rule c.args.lanes.now c.args.points.now c.args.clamped c.args.ends _ c.fresh-number.ensures _ c.is_late-late.ensures _ c.check_fold-settled.ensures c.in_default.is _ c.draft_set.ensures _ _ c.take_in.ensures
    _ _ _ c.store.ensures c.tally_of.ensures
