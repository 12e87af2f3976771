-- `rows::put` meets its contract. Assumes nothing.
use Rattle.rows.proofs.RowLaws.{pasted_whole}
use Rattle.rows.proofs.put.Goals as goal

pub returns : goal.returns
returns g c = rw c.copy_from_slice.ensures.after (pasted_whole c.args.t.now c.args.row.now c.args.at)
