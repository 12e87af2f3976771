use mathlib.Core.Path.{refl}
use native.Mathlib.Omega.{arith}
use Rattle.map.proofs.ReadLaws.{list_part, list_room_lem}
use Rattle.map.proofs.lookup.rule_list.Goals as goal

pub overflow_add-e : goal.overflow_add-e
overflow_add-e c = omega (arith, list_room_lem c.args.words.now c.requires.0 c.args.i c.requires.1 c.args.o c.index-n.result c.index-n.ensures (omega (arith, c.requires.2)) c.requires.2)

pub slice_bounds-result-end : goal.slice_bounds-result-end
slice_bounds-result-end c = omega (arith, c.requires.0.room, list_room_lem c.args.words.now c.requires.0 c.args.i c.requires.1 c.args.o c.index-n.result c.index-n.ensures (omega (arith, c.requires.2)) c.requires.2)

pub returns : goal.returns
returns c = list_part c.args.words.now c.requires.0 c.args.i c.requires.1 c.args.o c.index-n.result _ refl c.index-n.ensures (omega (arith, c.requires.2)) c.requires.2
