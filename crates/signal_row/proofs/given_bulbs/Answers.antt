-- `signal_row::given_bulbs` meets its contract. Assumes nothing.
use mathlib.Core.Path.{◌≡◌}
use lib.ListN.{length}
use Rattle.signal_row.proofs.RowLaws.{lamps_read}
use Rattle.signal_row.proofs.StoredLaws.{longs}
use Rattle.signal_row.proofs.given_bulbs.Goals as goal

pub returns : goal.returns
returns c = let long : length c.args.looks ≡ 4 = search longs depth 12 in
    lamps_read _ _ (long) _ _ _ _ _ _ c.lamp_count.ensures c.given_bulb-b0.ensures
    c.given_bulb-b1.ensures c.given_bulb-b2.ensures c.given_bulb-b3.ensures
