-- `tables_filled::print_points` meets its contract. Assumes nothing.
use Rattle.tables_filled.proofs.Guards as G
use Rattle.std.proofs.Common.{sym, ◌∙◌, arith}
use Rattle.validity.proofs.Whole.{map_few}
use Rattle.tables_filled.proofs.print_points.Goals as goal

pub points_used-requires : goal.points_used-requires
points_used-requires g c = (G.sized_words _ _ _ c.is_map.ensures c.if-not-is_map.false, map_few _ (λ j. omega (arith, c.type_inv.words j)) _ (λ j. c.type_inv.coords j) (sym c.is_map.ensures ∙ c.if-not-is_map.false))
