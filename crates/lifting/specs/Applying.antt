-- What taking the lifts from the tables leaves.
use Rattle.std.specs.Prelude.{ℕ, suc, ◌+◌, ◌-◌, ◌≡◌, List, ◌++◌, Float, length, take, drop}
use Rattle.store.specs.Layout.{count_of, row_of, coords_of, Kept}
use Rattle.map.specs.Record.{Rule}
use Rattle.map.specs.Rows.{with_rules}
use Rattle.map.specs.Tables.{rule_in, map_of}
use Rattle.place.specs.Readable.{Readable}
use Rattle.edit.specs.Light.{lift, lifted}
use Rattle.lifting.specs.Lifting.{lifted_rules}

-- what rule i becomes: itself, with fewer lanes, or nothing
abbrev pub part_of : List ℕ → List Float → ℕ → ℕ → List ℕ → List Rule
part_of ws cs i s lanes = lifted (rule_in (row_of ws 5 i) (coords_of cs 5 i)) (lift s lanes (rule_in (row_of ws 5 i) (coords_of cs 5 i)))

pub record LiftedAt (ws : List ℕ) (cs : List Float) (i s : ℕ) (lanes : List ℕ) (r : ℕ) (ws' : List ℕ) (cs' : List Float) : Type 0 where
  pub map : map_of ws' cs' ≡ with_rules (map_of ws cs) (take i (map_of ws cs).rules ++ (part_of ws cs i s lanes ++ drop (suc i) (map_of ws cs).rules))
  pub next : r ≡ i + length (part_of ws cs i s lanes)
  pub left : count_of ws' 5 ≡ r + (count_of ws 5 - suc i)
  pub kept : Kept ws cs 5 ws' cs'
  pub readable : Readable ws' cs'

pub record LiftsApplied (ws : List ℕ) (cs : List Float) (s : ℕ) (lanes : List ℕ) (ws' : List ℕ) (cs' : List Float) : Type 0 where
  pub map : map_of ws' cs' ≡ with_rules (map_of ws cs) (lifted_rules s lanes (map_of ws cs).rules)
  pub count : count_of ws' 5 ≡ length (lifted_rules s lanes (map_of ws cs).rules)
  pub kept : Kept ws cs 5 ws' cs'
  pub readable : Readable ws' cs'
