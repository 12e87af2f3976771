-- `map::update::put_list` meets its contract. Assumes nothing.
use Rattle.map.proofs.UpdateLaws.{count_ready}
use native.Mathlib.Omega.{arith}
use Rattle.map.proofs.UpdateLaws.{rule_wide, list_put}
use Rattle.map.proofs.update.put_list.Goals as goal

pub put_part-requires : goal.put_part-requires
put_part-requires c = (c.requires.0, c.requires.1, omega (arith, rule_wide))

pub put_part-requires-2 : goal.put_part-requires-2
put_part-requires-2 c = let r = count_ready c.args.words.now c.requires.0 c.args.i c.requires.1 c.args.o _ (omega (arith, c.requires.2)) _ c.put_part.ensures in
    (r.0, r.1, omega (arith, rule_wide, c.requires.2))

pub returns : goal.returns
returns c = list_put c.args.words.now c.requires.0 c.args.i c.requires.1 c.args.o c.args.list.now _ _ c.requires.2 c.put_part.ensures c.put_part-2.ensures
