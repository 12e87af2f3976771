use mathlib.Core.Path.{sym}
use Rattle.map.proofs.UpdateLaws.{push_sized, line_wide, line_pushed}
use native.Mathlib.Omega.{arith}
use Rattle.map.proofs.UpdateLaws.{line_limit, line_room}
use Rattle.map.proofs.update.push_line.Goals as goal

pub put_coords-requires : goal.put_coords-requires
put_coords-requires c = (c.requires.0.coords, omega (arith, line_limit, c.count-n.ensures), omega (arith, line_room))

pub push_row-requires : goal.push_row-requires
push_row-requires c = (c.requires.0.words, omega (arith, line_limit, c.requires.1), sym line_wide)

pub set_next-requires : goal.set_next-requires
set_next-requires c = push_sized c.args.words.now c.requires.0.words 2 (omega arith) _ (sym line_wide) (omega (arith, line_limit, c.requires.1)) _ c.push_row.ensures

pub returns : goal.returns
returns c = rw (c.set_next.ensures, c.push_row.ensures, c.put_coords.ensures)
    (line_pushed c.args.words.now c.args.coords.now c.requires.0 c.args.points.now c.fresh-number.result c.count-n.result c.requires.1 c.requires.3 c.count-n.ensures c.fresh-number.ensures)
