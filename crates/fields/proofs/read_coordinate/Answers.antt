use Rattle.std.proofs.Common.{rules}
use Rattle.fields.proofs.Points as L
use Rattle.fields.proofs.read_coordinate.Goals as goal

pub returns-then-x-2 : goal.returns-then-x-2
returns-then-x-2 c = search (rules, L.reading_cell)
