use mathlib.Core.Path.{refl}
use Rattle.map.proofs.ReadLaws.{list_value}
use Rattle.map.proofs.lookup.rule_entries.Goals as goal

pub returns : goal.returns
returns c = list_value c.args.words.now c.requires.0 c.args.i c.requires.1 c.args.o c.index-count.result _ _ refl c.index-count.ensures c.requires.2 c.requires.3 c.get.ensures
