-- `grouping::joined_lanes` meets its contract. Assumes nothing.
use mathlib.Core.Path.{◌≡◌}
use Rattle.store.specs.Layout.{row_of}
use Rattle.map.specs.Tables.{list_at}
use Rattle.grouping.proofs.JoinLaws.{Joining}
use Rattle.grouping.proofs.joined_lanes.Given as goal

abbrev pub invariant-loop-n : goal.invariant-loop-n
invariant-loop-n l = (l.listed ≡ list_at (row_of l.words 5 l.i) 7) × Joining (list_at (row_of l.words 5 l.i) 7) l.lanes l.count l.entries l.n-index
