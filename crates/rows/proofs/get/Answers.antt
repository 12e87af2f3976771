-- `rows::get` meets its contract. Assumes nothing.
use mathlib.Core.Path.{◌∙◌}
use native.Mathlib.Omega.{arith}
use Rattle.rows.proofs.RowLaws.{got}
use Rattle.rows.proofs.get.Goals as goal

pub returns : goal.returns
returns c = c.put.ensures ∙ got c.args.out.now c.args.t.now c.args.at (omega arith)
