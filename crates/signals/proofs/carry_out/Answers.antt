-- `signals::carry_out` meets its contract. Assumes nothing.
use native.Mathlib.Omega.{arith}
use Rattle.signals.proofs.CarryLaws as K
use Rattle.signals.proofs.carry_out.Goals as goal

pub check_fold-settled-requires : goal.check_fold-settled-requires
check_fold-settled-requires c = let asks = K.set_asks _ _ _ _ _ c.requires.0 c.args.q c.args.lanes.now c.args.points.now c.args.given.now c.args.lamps.now c.args.p c.requires.1 in
    (asks.0, asks.1, (K.known _ _ _ _ _ c.requires.0).fold)

pub returns-in-Err : goal.returns-in-Err
returns-in-Err c = K.out_refused _ _ _ _ _ c.requires.0 c.args.q c.args.lanes.now c.args.points.now c.args.given.now c.args.lamps.now c.args.p c.requires.1 _ c.check_fold-settled.ensures _ c.in-Err.is _ _ c.refused.ensures

pub draft_set-requires : goal.draft_set-requires
draft_set-requires c = let asks = K.set_asks _ _ _ _ _ c.requires.0 c.args.q c.args.lanes.now c.args.points.now c.args.given.now c.args.lamps.now c.args.p c.requires.1 in
    (asks.0, asks.1, (K.known _ _ _ _ _ c.requires.0).set)

pub take_in-requires : goal.take_in-requires
take_in-requires c = (
  (K.known _ _ _ _ _ c.requires.0).fold,
  c.draft_set.ensures.room,
  K.taken _ _ _ _ _ c.requires.0 c.args.q c.args.lanes.now c.args.points.now c.args.given.now c.args.lamps.now c.args.p c.requires.1 _ c.check_fold-settled.ensures c.in_default.is _ c.draft_set.ensures,
)

pub store-requires : goal.store-requires
store-requires c = K.store_needs _ _ _ _ _ c.requires.0 c.args.q c.args.lanes.now c.args.points.now c.args.given.now c.args.lamps.now c.args.p c.requires.1 _ c.check_fold-settled.ensures c.in_default.is

pub tally_of-requires : goal.tally_of-requires
tally_of-requires c = omega (arith, (K.known _ _ _ _ _ c.requires.0).fold_size)

pub returns : goal.returns
returns c = K.out_done _ _ _ _ _ c.requires.0 c.args.q c.args.lanes.now c.args.points.now c.args.given.now c.args.lamps.now c.args.p c.requires.1 _ c.check_fold-settled.ensures c.in_default.is _ c.draft_set.ensures _ _ c.take_in.ensures
    _ _ _ c.store.ensures c.tally_of.ensures
