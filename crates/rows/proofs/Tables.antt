-- Tables of records by number: facts for all kinds together.
use mathlib.Core.Path.{◌≡◌, refl, ap, subst}
use mathlib.Core.Bool.{Bool, true, false, ◌&&◌, ◌||◌, cond}
use Rattle.std.specs.Prelude.{Option, None, Some}
use mathlib.Core.List.{List, [], ◌∷◌, ◌++◌}
use Prim.Native.Nat.{ℕ, suc, ◌<◌, ◌≤◌}
use lib.Dec.{eqb, ltb, leb}
use native.Mathlib.Omega.{arith}
use borrow.Author.Tests.{eqb-true, leb-true, le-leb, ltb-true, lt-ltb}
use Rattle.rows.specs.Lists.{every, or_else}
use Rattle.rows.specs.Table.{find, holds, rising}
use Rattle.rows.proofs.Bools.{parts, and_i}

abbrev pub is_some : {A : Type 0} → Option A → Bool
is_some None = false
is_some (Some a) = true

abbrev pub from_some : {A B : Type 0} → Option A → (A → Option B) → Option B
from_some None f = None
from_some (Some a) f = f a

abbrev pub found_new : {A : Type 0} → (A → ℕ) → Option A → ℕ → Option A
found_new num None n = None
found_new num (Some x) n = cond (eqb (num x) n) (Some x) None

pub or_none : {A : Type 0} (o : Option A) → or_else o None ≡ o
or_none None = refl
or_none (Some x) = refl

abbrev pub one : {A : Type 0} → Option A → List A
one None = []
one (Some a) = a ∷ []

module _ {A : Type 0} where
  pub every_append : (p : A → Bool) (xs ys : List A) → every p xs ≡ true → every p ys ≡ true → every p (xs ++ ys) ≡ true
  unfolding every
  every_append p [] ys s t = t
  every_append p (x ∷ xs) ys s t = and_i (p x) _ (search parts) (every_append p xs ys (search parts) t)

  pub every_if : (p q : A → Bool) (xs : List A) → ((x : A) → p x ≡ true → q x ≡ true) → every p xs ≡ true → every q xs ≡ true
  unfolding every
  every_if p q [] f t = refl
  every_if p q (x ∷ xs) f t = and_i _ _ (f x (search parts)) (every_if p q xs f (search parts))

  -- each record as f has it, or gone
  unfoldable pub changed : (A → Option A) → List A → List A
  changed f [] = []
  changed f (x ∷ xs) = one (f x) ++ changed f xs

  pub every_changed : (f : A → Option A) (p : A → Bool) (xs : List A) → ((x y : A) → p x ≡ true → f x ≡ Some y → p y ≡ true) → every p xs ≡ true → every p (changed f xs) ≡ true
  unfolding every changed
  every_changed f p [] k t = refl
  every_changed f p (x ∷ xs) k t = go (f x) refl (every_changed f p xs k (search parts))
    where
      go : (o : Option A) → f x ≡ o → every p (changed f xs) ≡ true → every p (one o ++ changed f xs) ≡ true
      go None e h = h
      go (Some y) e h = and_i (p y) _ (k x y (search parts) e) h

  module _ (num : A → ℕ) where
    pub holds_found : (n : ℕ) (t : List A) → holds num n t ≡ is_some (find num n t)
    unfolding holds find
    holds_found n [] = refl
    holds_found n (x ∷ xs) = go (eqb (num x) n) (holds_found n xs)
      where
        go : (b : Bool) → holds num n xs ≡ is_some (find num n xs) → (b || holds num n xs) ≡ is_some (cond b (Some x) (find num n xs))
        go true h = refl
        go false h = h

    pub found_is : (n : ℕ) (t : List A) (p : A → Bool) (x : A) → every p t ≡ true → find num n t ≡ Some x → (p x ≡ true) × (num x ≡ n)
    unfolding find every
    found_is n [] p x h e = let z : ◌≡◌ {A = ℕ} 0 1 = cc in absurd (omega arith)
    found_is n (y ∷ t) p x h e = go (eqb (num y) n) refl e (found_is n t p x (search parts))
      where
        go : (b : Bool) → eqb (num y) n ≡ b → cond b (Some y) (find num n t) ≡ Some x → (find num n t ≡ Some x → (p x ≡ true) × (num x ≡ n)) → (p x ≡ true) × (num x ≡ n)
        go true q e k = let r : y ≡ x = cc in (subst (λ (z : A). p z ≡ true) r (search parts), subst (λ (z : A). num z ≡ n) r (eqb-true (num y) n q))
        go false q e k = k e

    -- ---- order

    pub rising_wider : (l l' h h' : ℕ) (t : List A) → l' ≤ l → h ≤ h' → rising num l h t ≡ true → rising num l' h' t ≡ true
    unfolding rising
    rising_wider l l' h h' [] p q t = refl
    rising_wider l l' h h' (x ∷ xs) p q t = go (leb-true l (num x) (search parts)) (ltb-true (num x) h (search parts)) (rising_wider (suc (num x)) (suc (num x)) h h' xs (omega arith) q (search parts))
      where
        go : l ≤ num x → num x < h → rising num (suc (num x)) h' xs ≡ true → (leb l' (num x) && ltb (num x) h' && rising num (suc (num x)) h' xs) ≡ true
        go u v w = and_i _ _ (and_i _ _ (le-leb l' (num x) (omega arith)) (lt-ltb (num x) h' (omega arith))) w

    pub rising_below : (l h : ℕ) (t : List A) → rising num l h t ≡ true → every (λ x. ltb (num x) h) t ≡ true
    unfolding rising every
    rising_below l h [] t = refl
    rising_below l h (x ∷ xs) t = and_i (ltb (num x) h) _ (search parts) (rising_below (suc (num x)) h xs (search parts))

    pub rising_above : (l h : ℕ) (t : List A) → rising num l h t ≡ true → every (λ x. leb l (num x)) t ≡ true
    unfolding rising every
    rising_above l h [] t = refl
    rising_above l h (x ∷ xs) t = go (leb-true l (num x) (search parts)) (rising_above (suc (num x)) h xs (search parts))
      where
        go : l ≤ num x → every (λ y. leb (suc (num x)) (num y)) xs ≡ true → (leb l (num x) && every (λ y. leb l (num y)) xs) ≡ true
        go u v = and_i _ _ (le-leb l (num x) u) (every_if (λ y. leb (suc (num x)) (num y)) (λ y. leb l (num y)) xs (λ y e. low y (leb-true (suc (num x)) (num y) e)) v)
          where
            low : (y : A) → suc (num x) ≤ num y → leb l (num y) ≡ true
            low y h = le-leb l (num y) (omega arith)

    pub rising-append : (l h h' : ℕ) (t : List A) (x : A) → rising num l h t ≡ true → l ≤ num x → h ≤ num x → num x < h' → rising num l h' (t ++ (x ∷ [])) ≡ true
    unfolding rising
    rising-append l h h' [] x r p q s = and_i _ _ (and_i _ _ (le-leb l (num x) p) (lt-ltb (num x) h' s)) refl
    rising-append l h h' (y ∷ t) x r p q s = go (ltb-true (num y) h (search parts))
        (λ u. rising-append (suc (num y)) h h' t x (search parts) u q s)
      where
        go : num y < h → (suc (num y) ≤ num x → rising num (suc (num y)) h' (t ++ (x ∷ [])) ≡ true) → (leb l (num y) && ltb (num y) h' && rising num (suc (num y)) h' (t ++ (x ∷ []))) ≡ true
        go u k = and_i _ _ (and_i (leb l (num y)) _ (search parts) (lt-ltb (num y) h' (omega arith))) (k (omega arith))

    -- f leaves the numbers as they are
    module _ (f : A → Option A) (same : (x y : A) → f x ≡ Some y → num y ≡ num x) where
      pub rising_changed : (l h : ℕ) (t : List A) → rising num l h t ≡ true → rising num l h (changed f t) ≡ true
      unfolding rising changed
      rising_changed l h [] r = refl
      rising_changed l h (x ∷ t) r = go (f x) refl (rising_changed (suc (num x)) h t (search parts)) (leb-true l (num x) (search parts))
        where
          go : (o : Option A) → f x ≡ o → rising num (suc (num x)) h (changed f t) ≡ true → l ≤ num x → rising num l h (one o ++ changed f t) ≡ true
          go None e k u = rising_wider (suc (num x)) l h h (changed f t) (omega arith) (omega arith) k
          go (Some y) e k u = rw (same x y e) (and_i (leb l (num x) && ltb (num x) h) _ (search parts) k)

      pub find_changed : (l h n : ℕ) (t : List A) → rising num l h t ≡ true → find num n (changed f t) ≡ from_some (find num n t) f
      unfolding find changed rising
      find_changed l h n [] r = refl
      find_changed l h n (x ∷ t) r = go (f x) (eqb (num x) n) refl refl (find_changed (suc (num x)) h n t (search parts))
        where
          past : rising num (suc (num x)) h t ≡ true → num x ≡ n → find num n t ≡ None
          past k e = off (find num n t) refl
            where
              off : (o : Option A) → find num n t ≡ o → o ≡ None
              off None q = refl
              off (Some y) q = absurd (bad (found_is n t (λ z. leb (suc (num x)) (num z)) y (rising_above (suc (num x)) h t k) q))
                where
                  bad : (leb (suc (num x)) (num y) ≡ true) × (num y ≡ n) → ⊥
                  bad w = let u = leb-true (suc (num x)) (num y) w.0 in let v = w.1 in omega arith

          go : (o : Option A) (b : Bool) → f x ≡ o → eqb (num x) n ≡ b → find num n (changed f t) ≡ from_some (find num n t) f
              → find num n (one o ++ changed f t) ≡ from_some (cond b (Some x) (find num n t)) f
          go None true e q k = rw (k, past (search parts) (eqb-true (num x) n q), e)
          go None false e q k = k
          go (Some y) true e q k = rw (same x y e, q, e)
          go (Some y) false e q k = rw (same x y e, q) k

    pub find-append : (n : ℕ) (t : List A) (x : A) → find num n (t ++ (x ∷ [])) ≡ or_else (find num n t) (cond (eqb (num x) n) (Some x) None)
    unfolding find
    find-append n [] x = refl
    find-append n (y ∷ t) x = go (eqb (num y) n) (find-append n t x)
      where
        go : (b : Bool) → find num n (t ++ (x ∷ [])) ≡ or_else (find num n t) (cond (eqb (num x) n) (Some x) None)
            → cond b (Some y) (find num n (t ++ (x ∷ []))) ≡ or_else (cond b (Some y) (find num n t)) (cond (eqb (num x) n) (Some x) None)
        go true h = refl
        go false h = h

    -- a number that is not below the bound is not found
    pub find_above : (l h n : ℕ) (t : List A) → rising num l h t ≡ true → h ≤ n → find num n t ≡ None
    find_above l h n t r k = off (find num n t) refl
      where
        off : (o : Option A) → find num n t ≡ o → o ≡ None
        off None q = refl
        off (Some y) q = absurd (bad (found_is n t (λ z. ltb (num z) h) y (rising_below l h t r) q))
          where
            bad : (ltb (num y) h ≡ true) × (num y ≡ n) → ⊥
            bad w = let u = ltb-true (num y) h w.0 in let v = w.1 in omega arith

pub changed_some : {A : Type 0} (t : List A) → changed Some t ≡ t
unfolding changed
changed_some [] = refl
changed_some (x ∷ t) = ap {B = List _} (λ r. x ∷ r) (changed_some t)
