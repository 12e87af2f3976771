-- `signals::store` meets its contract. Assumes nothing.
use Rattle.signals.proofs.SignalLaws.{store_asks, stored_as}
use Rattle.signals.proofs.store.Goals as goal

pub store_light-requires : goal.store_light-requires
store_light-requires c = store_asks _ _ _ c.args.q c.args.p c.requires _ c.signal_row-row.ensures

pub returns : goal.returns
returns c = stored_as _ _ _ c.args.q c.args.p c.requires _ c.signal_row-row.ensures _ _ c.store_light.ensures
