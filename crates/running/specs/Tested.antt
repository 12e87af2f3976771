-- What the tests of a running fold answer, whatever the map's coordinates.
use Rattle.std.specs.Prelude.{ℕ, ◌≡◌, Bool, not, ◌&&◌, cond, List, eqb, ltb, Float, length}
use Rattle.rows.specs.Lists.{every}
use Rattle.map.specs.Record.{Map}
use Rattle.map.specs.Entity.{EntityRef, has}
use Rattle.map.specs.Tables.{map_of}
use Rattle.changes.specs.declared.Tally.{Tally}
use Rattle.changes.specs.ChangeFile.{lists_ok}
use Rattle.changes.specs.Running.{State, fold_ok}
use Rattle.changes.specs.Layout.{set_words, change_set_of}

-- an entry whose number is below the next, and that the map has, or has not
unfoldable pub stands : Map → Bool → EntityRef → Bool
stands m there a = ltb a.num m.next && cond there (has m a) (not (has m a))

pub record EntryTested (ws : List ℕ) (there : Bool) (a : EntityRef) (r : Bool) : Type 0 where
  pub answer : (cs : List Float) → r ≡ stands (map_of ws cs) there a

pub record ListTested (ws : List ℕ) (there : Bool) (xs : List EntityRef) (r : Bool) : Type 0 where
  pub answer : (cs : List Float) → r ≡ every (stands (map_of ws cs) there) xs

-- the state that the tables and the tally stand for
abbrev pub state_of : List ℕ → List Float → List ℕ → Tally → State
state_of ws cs f t = record { map = map_of ws cs; fold = change_set_of f; tally = t }

-- the lists are those of a set, and the fold is one of the map
pub record FoldTested (ws f : List ℕ) (t : Tally) (r : Bool) : Type 0 where
  pub answer : (cs : List Float) → r ≡ (eqb (length f) set_words && lists_ok (change_set_of f) && fold_ok (state_of ws cs f t))
