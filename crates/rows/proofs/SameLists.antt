-- `same_list` is equality.
use mathlib.Core.Path.{◌≡◌, refl, sym, ap₂}
use mathlib.Core.Bool.{Bool, true, false}
use mathlib.Core.List.{List, [], ◌∷◌}
use Prim.Native.Nat.{ℕ}
use borrow.Author.Tests.{eqb-true, eq-eqb}
use Rattle.rows.specs.Lists.{same_list}
use Rattle.rows.proofs.Bools.{parts, and_i, clash}

pub same_list_lem : (xs ys : List ℕ) → same_list xs ys ≡ true → xs ≡ ys
unfolding same_list
same_list_lem [] [] t = refl
same_list_lem [] (y ∷ ys) t = clash refl (sym t)
same_list_lem (x ∷ xs) [] t = clash refl (sym t)
same_list_lem (x ∷ xs) (y ∷ ys) t = ap₂ {C = List ℕ} (λ a r. a ∷ r) (eqb-true x y (search parts)) (same_list_lem xs ys (search parts))

pub list_same : (xs : List ℕ) → same_list xs xs ≡ true
unfolding same_list
list_same [] = refl
list_same (x ∷ xs) = and_i _ _ (eq-eqb x x refl) (list_same xs)

pub list_differs : (xs ys : List ℕ) → (xs ≡ ys → ⊥) → same_list xs ys ≡ false
list_differs xs ys f = go (same_list xs ys) refl
  where
    go : (b : Bool) → same_list xs ys ≡ b → b ≡ false
    go true e = absurd (f (same_list_lem xs ys e))
    go false e = refl

pub eq_same : (xs ys : List ℕ) → xs ≡ ys → same_list xs ys ≡ true
eq_same xs ys e = rw e (list_same ys)
