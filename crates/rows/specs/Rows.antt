-- Rows of fixed width in a flat list, and what the ways of writing leave.
-- Each definition is shut: proofs go by the laws of proofs/RowLaws.antt, and `_` finds the arguments.
use Rattle.std.specs.Prelude.{ℕ, zero, suc, ◌+◌, cond, List, [], ◌∷◌, ◌++◌, eqb, take, drop, get_or}

module _ {ℓ} {A : Type ℓ} where
  -- the k elements from index at
  unfoldable pub cut : List A → ℕ → ℕ → List A
  cut l at k = take k (drop at l)

  -- d with the n elements from index at replaced by the first n of s
  unfoldable pub pasted : List A → ℕ → List A → ℕ → List A
  pasted d at s n = take at d ++ take n s ++ drop (at + n) d

  -- d with the n elements from index from copied to index to
  unfoldable pub moved : List A → ℕ → ℕ → ℕ → List A
  moved d to from n = pasted d to (drop from d) n

  -- the list without its entry at j
  unfoldable pub without : ℕ → List A → List A
  without j l = take j l ++ drop (suc j) l

-- the first element of each of n rows of w elements, from index at: the records' numbers
unfoldable pub numbers_at : List ℕ → ℕ → ℕ → ℕ → List ℕ
numbers_at l w zero at = []
numbers_at l w (suc n) at = get_or l at 0 ∷ numbers_at l w n (at + w)

-- where x first stands, and the length where it stands nowhere
unfoldable pub index_of : ℕ → List ℕ → ℕ
index_of x [] = 0
index_of x (y ∷ l) = let rest = suc (index_of x l) in cond (eqb y x) 0 rest
