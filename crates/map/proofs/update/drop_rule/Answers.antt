use native.Mathlib.Omega.{arith}
use Rattle.map.proofs.UpdateLaws.{rule_dropped}
use Rattle.map.proofs.update.drop_rule.Goals as goal

pub drop_coords-requires : goal.drop_coords-requires
drop_coords-requires c = (c.requires.0.coords, omega (arith, c.count-n.ensures), omega (arith, c.count-n.ensures, c.requires.0.words.counts 5 (omega arith)))

pub returns : goal.returns
returns c = rw (c.drop_row.ensures, c.drop_coords.ensures)
    (rule_dropped c.args.words.now c.args.coords.now c.requires.0 c.args.j c.count-n.result c.requires.1 c.count-n.ensures)
