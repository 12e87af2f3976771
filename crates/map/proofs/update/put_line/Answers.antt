-- `map::update::put_line` meets its contract. Assumes nothing.
use native.Mathlib.Omega.{arith}
use Rattle.map.proofs.UpdateLaws.{rule_wide, line_put}
use Rattle.map.proofs.update.put_line.Goals as goal

pub put_part-requires : goal.put_part-requires
put_part-requires c = (c.requires.0, c.requires.1, omega (arith, rule_wide))

pub returns : goal.returns
returns c = rw c.put_part.ensures (line_put c.args.words.now c.requires.0 c.args.i c.requires.1 c.args.flag c.args.line)
