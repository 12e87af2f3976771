-- The order of doubles goes through: x ≤ y and y ≤ z give x ≤ z.
use Prim.Native.Nat.{ℕ, ◌+◌, ◌*◌, ◌≤◌, ◌<◌}
use mathlib.Core.Path.{◌≡◌, refl, sym, ◌∙◌, subst}
use mathlib.Core.Bool.{Bool, true, false, ◌&&◌, ◌||◌}
use native.Mathlib.Omega.{arith}
use native.Mathlib.Nat.{zero-mul, mul-le-mul_left}
use lib.Dec.{T, ltb, eqb}
use lib.IntN.{ℤ}
use lib.Ieee.{Float, nan, inf, fin, lt, eq, le, below, level, up, down}
use lib.Ieee.Fits.{down_pos}
use lib.Ieee.Positive.{through}
use borrow.Author.Tests.{ltb-true, ltb-false, eqb-true, eq-eqb}
use Rattle.geometry.proofs.Doubles.{split}

-- ±a ≤ ±b
abbrev Order : Bool → ℕ → Bool → ℕ → Type 0
Order false a false b = a ≤ b
Order false a true b = (a ≡ 0) × (b ≡ 0)
Order true a false b = Unit
Order true a true b = b ≤ a

equal_is : (a b : ℕ) (t : Bool) → (eqb a b && t) ≡ true → a ≡ b
equal_is a b t h = split (eqb a b) (λ e. eqb-true a b e) (λ e. absurd (subst T (sym (rw e at h)) tt))

order : (s : Bool) (a : ℕ) (t : Bool) (b : ℕ) → (below s a t b || level s a t b) ≡ true → Order s a t b
order false a false b h =
    split (ltb a b) (λ e. omega (arith, ltb-true a b e)) (λ e. let k : a ≡ b = equal_is a b _ (rw e at h) in omega arith)
order false a true b h =
    let k : a ≡ b = equal_is a b (eqb a 0) h in
    let z : a ≡ 0 = split (eqb a 0) (λ e. eqb-true a 0 e) (λ e. absurd (subst T (sym ((rw (eq-eqb a b k, e) at h))) tt)) in
    (z, sym k ∙ z)
order true a false b h = tt
order true a true b h =
    split (ltb b a) (λ e. omega (arith, ltb-true b a e)) (λ e. let k : a ≡ b = equal_is a b _ (rw e at h) in omega arith)

ordered : (s : Bool) (a : ℕ) (t : Bool) (b : ℕ) → Order s a t b → (below s a t b || level s a t b) ≡ true
ordered false a false b h = split (ltb a b) (λ e. rw e) (λ e. rw (e, eq-eqb a b (omega (arith, ltb-false a b e))))
ordered false a true b h = rw (h.0, h.1)
ordered true a false b h =
    split (ltb 0 (a + b)) (λ e. rw e) (λ e. let z : a ≡ 0 = omega (arith, ltb-false 0 (a + b) e) in let w : b ≡ 0 = omega (arith, ltb-false 0 (a + b) e) in rw (e, z, w))
ordered true a true b h = split (ltb b a) (λ e. rw e) (λ e. rw (e, eq-eqb a b (omega (arith, ltb-false b a e))))

-- a product that is nothing, with a factor that is something
nothing : (a q : ℕ) → 0 < q → a * q ≤ 0 → a ≡ 0
nothing a q h e = omega (arith, mul-le-mul_left a h)

by_zero : (a r : ℕ) → a ≡ 0 → a * r ≡ 0
by_zero a r e = rw e (zero-mul r)

-- m / p, n / q and k / r, with signs
module _ (m n k p q r : ℕ) (hp : 0 < p) (hq : 0 < q) (hr : 0 < r) where
  fractions : (s t u : Bool) → Order s (m * q) t (n * p) → Order t (n * r) u (k * q) → Order s (m * r) u (k * p)
  fractions false false false a b = through m n k p q r hq a b
  fractions false false true a b =
      let n0 = by_zero n p (nothing n r hr (omega (arith, b.0))) in
      (by_zero m r (nothing m q hq (omega (arith, a, n0))), by_zero k p (nothing k q hq (omega (arith, b.1))))
  fractions false true false a b = let z = by_zero m r (nothing m q hq (omega (arith, a.0))) in omega (arith, z)
  fractions false true true a b =
      let n0 = by_zero n r (nothing n p hp (omega (arith, a.1))) in
      (by_zero m r (nothing m q hq (omega (arith, a.0))), by_zero k p (nothing k q hq (omega (arith, b, n0))))
  fractions true false false a b = tt
  fractions true false true a b = let z = by_zero k p (nothing k q hq (omega (arith, b.1))) in omega (arith, z)
  fractions true true false a b = tt
  fractions true true true a b = through k n m r q p hq b a

-- ---- the ends of the order

not_nan : (x : Float) → le x nan ≡ true → ⊥
unfolding le lt eq
not_nan nan h = subst T (sym h) tt
not_nan (inf s) h = subst T (sym h) tt
not_nan (fin s m e) h = subst T (sym h) tt

least : (x : Float) → le x (inf true) ≡ true → x ≡ inf true
unfolding le lt eq
least nan h = absurd (subst T (sym h) tt)
least (inf true) h = refl
least (inf false) h = absurd (subst T (sym h) tt)
least (fin s m e) h = absurd (subst T (sym h) tt)

most : (x y : Float) → le x y ≡ true → le x (inf false) ≡ true
unfolding le lt eq
most nan y h = absurd (subst T (sym h) tt)
most (inf true) y h = refl
most (inf false) y h = refl
most (fin s m e) y h = refl

-- to a number, by a number
finite : (x : Float) (t : Bool) (n : ℕ) (d : ℤ) (u : Bool) (l : ℕ) (g : ℤ) → le x (fin t n d) ≡ true → le (fin t n d) (fin u l g) ≡ true → le x (fin u l g) ≡ true
unfolding le lt eq
finite nan t n d u l g h k = absurd (subst T (sym h) tt)
finite (inf true) t n d u l g h k = refl
finite (inf false) t n d u l g h k = absurd (subst T (sym h) tt)
finite (fin s m e) t n d u l g h k =
    ordered s _ u _
    (fractions (m * up e) (n * up d) (l * up g) (down e) (down d) (down g) (down_pos e) (down_pos d) (down_pos g) s t u (order s _ t _ h) (order t _ u _ k))

to_number : (x y : Float) (u : Bool) (l : ℕ) (g : ℤ) → le x y ≡ true → le y (fin u l g) ≡ true → le x (fin u l g) ≡ true
unfolding le lt eq
to_number x nan u l g h k = absurd (not_nan x h)
to_number x (inf true) u l g h k = rw (least x h)
to_number x (inf false) u l g h k = absurd (subst T (sym k) tt)
to_number x (fin t n d) u l g h k = finite x t n d u l g h k

pub le_trans : (x y z : Float) → le x y ≡ true → le y z ≡ true → le x z ≡ true
le_trans x y nan h k = absurd (not_nan y k)
le_trans x y (inf true) h k = rw (least y k) at h
le_trans x y (inf false) h k = most x y h
le_trans x y (fin u l g) h k = to_number x y u l g h k
