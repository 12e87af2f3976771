-- Which entry comes first, as the code answers it.
use Prim.Native.Nat.{Ordering}
use Rattle.std.specs.Prelude.{List, [], ◌∷◌}
use Rattle.std.specs.declared.cmp.Ordering.TheVariants.{Less, Equal, Greater}
use Rattle.std.specs.declared.cmp.Ordering.{Ordering as Order}
use Rattle.rows.specs.Lists.{by_order}
use Rattle.map.specs.Entity.{EntityRef, compare_refs}

abbrev pub order_of : Ordering → Order
order_of o = by_order o Less Equal Greater

-- of the first entries of two lists; no entry comes after every entry
unfoldable pub firsts_of : List EntityRef → List EntityRef → Order
firsts_of [] ys = Greater
firsts_of (x ∷ xs) [] = Less
firsts_of (x ∷ xs) (y ∷ ys) = order_of (compare_refs x y)
