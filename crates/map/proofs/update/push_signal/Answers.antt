use mathlib.Core.Path.{sym, ◌∙◌}
use native.Mathlib.Omega.{arith}
use Rattle.map.proofs.UpdateLaws.{push_sized, signal_wide, signal_limit, signal_room, housing_long, signal_pushed}
use Rattle.map.proofs.update.push_signal.Goals as goal

pub put_coords-requires : goal.put_coords-requires
put_coords-requires c = (c.requires.0.coords, omega (arith, signal_limit, c.count-n.ensures), omega (arith, signal_room, c.requires.7))

pub put_coords-requires-2 : goal.put_coords-requires-2
put_coords-requires-2 c = (
  housing_long c.args.coords.now c.requires.0.coords c.count-n.result (omega (arith, c.count-n.ensures, c.requires.1)) c.args.points.now c.requires.7 _ c.put_coords.ensures,
  omega (arith, signal_limit, c.count-n.ensures, c.requires.1),
  omega (arith, signal_room, c.requires.8),
)

pub push_row-requires : goal.push_row-requires
push_row-requires c = (c.requires.0.words, omega (arith, signal_limit, c.requires.1), c.requires.3 ∙ sym signal_wide)

pub set_next-requires : goal.set_next-requires
set_next-requires c = push_sized c.args.words.now c.requires.0.words 3 (omega arith) c.args.row.now (c.requires.3 ∙ sym signal_wide) (omega (arith, signal_limit, c.requires.1)) _ c.push_row.ensures

pub returns : goal.returns
returns c = rw (c.set_next.ensures, c.push_row.ensures, c.put_coords-2.ensures, c.put_coords.ensures)
    (signal_pushed c.args.words.now c.args.coords.now c.requires.0 c.args.row.now c.args.points.now c.args.more.now
    c.requires.1 c.requires.3 c.requires.4 c.requires.5 c.requires.6 c.requires.7 c.requires.8 c.count-n.result c.count-n.ensures)
