-- The lists of entries are three, and the codes four.
use Prim.Native.Nat.{◌<◌}
use native.Mathlib.Omega.{arith}
use Rattle.changes.specs.declared.SetList.{SetList}
use Rattle.changes.specs.declared.SetList.TheVariants.{Created, Modified, Deleted}
use Rattle.changes.specs.Kinds.{list_number}

pub list_below : (l : SetList) → list_number l < 3
list_below Created = omega arith
list_below Modified = omega arith
list_below Deleted = omega arith
