-- Lists: what a loop builds up, looks for and tests. One set of definitions for all kinds of records.
use Prim.Native.Nat.{ℕ, zero, suc, ◌+◌, compare, Ordering}
use Rattle.std.specs.Prelude.{Bool, true, false, ◌&&◌, ◌||◌, cond, List, [], ◌∷◌, ◌++◌, eqb, Option, None, Some}

-- What a test picks is a function of the test, and what a recursion goes on with is bound by a `let`: the `let` waits, and the test stands where `rw` finds it.
abbrev pub by_order : {A : Type 0} → Ordering → A → A → A → A
by_order Ordering.lt a b c = a
by_order Ordering.eq a b c = b
by_order Ordering.gt a b c = c

abbrev pub or_else : {A : Type 0} → Option A → Option A → Option A
or_else None b = b
or_else (Some a) b = Some a

unfoldable pub or_default : {A : Type 0} → Option A → A → A
or_default None b = b
or_default (Some a) b = a

module _ {A : Type 0} where
  -- ---- by index

  -- f 0, f 1 .. f (n - 1)
  unfoldable pub list_to : (ℕ → A) → ℕ → List A
  list_to f zero = []
  list_to f (suc i) = list_to f i ++ (f i ∷ [])

  -- the first answer among f i, f (i + 1) .. f (i + k - 1)
  unfoldable pub first_from : (ℕ → Option A) → ℕ → ℕ → Option A
  first_from f zero i = None
  first_from f (suc k) i = let rest = first_from f k (suc i) in or_else (f i) rest

  -- the first answer among f (i - 1) .. f 0
  unfoldable pub first_below : (ℕ → Option A) → ℕ → Option A
  first_below f zero = None
  first_below f (suc i) = let rest = first_below f i in or_else (f i) rest

  -- ---- from the front

  unfoldable pub every : (A → Bool) → List A → Bool
  every p [] = true
  every p (x ∷ xs) = p x && every p xs

  unfoldable pub keep : (A → Bool) → List A → List A
  keep p [] = []
  keep p (x ∷ xs) = let rest = keep p xs in cond (p x) (x ∷ rest) rest

  unfoldable pub first_of : {B : Type 0} → (A → Option B) → List A → Option B
  first_of f [] = None
  first_of f (x ∷ xs) = let rest = first_of f xs in or_else (f x) rest

  unfoldable pub total : (A → ℕ) → List A → ℕ
  total f [] = 0
  total f (x ∷ xs) = f x + total f xs

  unfoldable pub joined : {B : Type 0} → (A → List B) → List A → List B
  joined f [] = []
  joined f (x ∷ xs) = f x ++ joined f xs

  unfoldable pub no_entries : List A → Bool
  no_entries [] = true
  no_entries (x ∷ xs) = false

-- ---- lists of numbers

unfoldable pub member : ℕ → List ℕ → Bool
member n [] = false
member n (x ∷ xs) = eqb x n || member n xs

-- some number stands in the list twice
unfoldable pub twice : List ℕ → Bool
twice [] = false
twice (x ∷ xs) = member x xs || twice xs

unfoldable pub same_list : List ℕ → List ℕ → Bool
same_list [] [] = true
same_list [] (y ∷ ys) = false
same_list (x ∷ xs) [] = false
same_list (x ∷ xs) (y ∷ ys) = eqb x y && same_list xs ys

-- in rising order, each once
unfoldable pub insert_number : ℕ → List ℕ → List ℕ
insert_number n [] = n ∷ []
insert_number n (x ∷ xs) = let rest = x ∷ insert_number n xs in by_order (compare n x) (n ∷ x ∷ xs) (x ∷ xs) rest

unfoldable pub sorted : List ℕ → List ℕ
sorted [] = []
sorted (x ∷ xs) = insert_number x (sorted xs)

-- every name above, opened at once: for a theorem that computes
unfoldable pub open_lists : Unit {0}
unfolding or_default list_to first_from first_below every keep first_of total joined no_entries member twice same_list insert_number sorted
open_lists = tt
