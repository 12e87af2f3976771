-- `signal_row::given_bulb` meets its contract. Assumes nothing.
use Rattle.signal_row.proofs.RowLaws.{bulb_given}
use Rattle.signal_row.proofs.given_bulb.Goals as goal

pub returns : goal.returns
returns c = bulb_given _ _ _ _ _ _ c.lamp_coord.ensures c.lamp_coord-2.ensures c.lamp_coord-3.ensures
