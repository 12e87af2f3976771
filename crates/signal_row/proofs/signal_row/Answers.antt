-- `signal_row::signal_row` meets its contract. Assumes nothing.
use mathlib.Core.Path.{◌≡◌, refl}
use lib.ListN.{length}
use Rattle.signal_row.proofs.StoredLaws.{row_made, longs}
use Rattle.signal_row.proofs.signal_row.Goals as goal

pub returns : goal.returns
returns c = let long : length c.args.bulbs.bulbs ≡ 4 = search longs depth 12 in
    rw c.row_more.ensures (row_made c.args.bulbs.bulbs (long) _ _ _ _ _ c.bulb_numbers-a.ensures c.bulb_numbers-b.ensures c.bulb_numbers-c.ensures c.bulb_numbers-d.ensures _ _ _ _ _ c.args.q c.args.bulbs refl refl c.requires c.number-k.ensures c.height_of.ensures)
