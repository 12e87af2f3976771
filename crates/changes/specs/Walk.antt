-- Lists of entries in flat words, as the code walks and writes them.
use Rattle.std.specs.Prelude.{ℕ, ◌+◌, ◌-◌, ◌*◌, ◌≤◌, ◌≡◌, true, List, [], ◌∷◌, length, set}
use Rattle.map.specs.Entity.{EntityRef}
use Rattle.changes.specs.ChangeFile.{rising_refs}
use Rattle.changes.specs.Layout.{refs_at}

-- the n entries that end at word e
unfoldable pub refs_to : List ℕ → ℕ → ℕ → List EntityRef
refs_to w e n = refs_at w (e - n * 2) n

-- there are n entries that end at e, and they rise
pub record Walks (w : List ℕ) (e n : ℕ) : Type 0 where
  pub starts : n * 2 ≤ e
  pub ends : e ≤ length w
  pub rises : rising_refs (refs_to w e n) ≡ true

-- an entry written over
unfoldable pub put_ref : List ℕ → ℕ → EntityRef → List ℕ
put_ref w p a = set (set w p a.kind) (p + 1) a.num

-- what writing entries from word p on leaves
unfoldable pub written : List ℕ → ℕ → List EntityRef → List ℕ
written w p [] = w
written w p (a ∷ r) = written (put_ref w p a) (p + 2) r

-- entries written from word p on: how many, and nothing else is touched
pub record Put (w : List ℕ) (p : ℕ) (xs : List EntityRef) (r : ℕ) (w' : List ℕ) : Type 0 where
  pub count : r ≡ length xs
  pub memory : w' ≡ written w p xs
