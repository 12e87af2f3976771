-- The order of doubles: below what is no greater. A NaN is neither below nor above anything, so nothing is asked of the values.
use Prim.Native.Nat.{ℕ, zero, suc, ◌+◌, ◌*◌, ◌≤◌, ◌<◌}
use mathlib.Core.Path.{◌≡◌, refl}
use mathlib.Core.Bool.{Bool, true, false, ◌&&◌, ◌||◌}
use native.Mathlib.Nat.{mul-le-mul_right, mul-pos}
use native.Mathlib.Omega.{arith}
use lib.Dec.{ltb, eqb}
use lib.IntN.{ℤ, pos, negsuc}
use lib.Pow.{pow_pos}
use lib.Ieee.{Float, nan, inf, fin, up, down, below, level, lt, le, eq}
use borrow.Author.Tests.{ltb-true, ltb-false, eqb-true, lt-ltb, le-ltb}
use Rattle.rows.proofs.Bools.{clash, parts}

-- ---- fractions

some_left : (a b : ℕ) → 0 < a * b → 0 < a
some_left zero b h = absurd (let z : ⊥ = omega arith in z)
some_left (suc a) b h = omega arith

-- a / x < b / y ≤ c / z
cross : (a b c x y z : ℕ) → 0 < x → 0 < y → 0 < z → a * y < b * x → b * z ≤ c * y → a * z < c * x
cross a b c x y z hx hy hz p q = go (ltb (a * z) (c * x)) refl
  where
    go : (t : Bool) → ltb (a * z) (c * x) ≡ t → a * z < c * x
    go true e = ltb-true (a * z) (c * x) e
    go false e =
        absurd (let one = mul-le-mul_right z p in let two = mul-le-mul_right x q in let three = mul-le-mul_right y (ltb-false (a * z) (c * x) e) in let w : ⊥ = omega arith in w)

-- a / x ≤ b / y < c / z
cross_le : (a b c x y z : ℕ) → 0 < x → 0 < y → 0 < z → a * y ≤ b * x → b * z < c * y → a * z < c * x
cross_le a b c x y z hx hy hz p q = go (ltb (a * z) (c * x)) refl
  where
    go : (t : Bool) → ltb (a * z) (c * x) ≡ t → a * z < c * x
    go true e = ltb-true (a * z) (c * x) e
    go false e =
        absurd (let one = mul-le-mul_right z p in let two = mul-le-mul_right x q in let three = mul-le-mul_right y (ltb-false (a * z) (c * x) e) in let w : ⊥ = omega arith in w)

-- ---- signs

or_parts : (a b : Bool) {A : Type 0} → (a || b) ≡ true → (a ≡ true → A) → (b ≡ true → A) → A
or_parts true b h f g = f refl
or_parts false b h f g = g h

-- ±0 and a number below it
level_is : (a b : ℕ) (s t : Bool) → level s a t b ≡ true → a ≡ b
level_is a b s t h = eqb-true a b (search parts)

level_zero : (a b : ℕ) → (eqb a b && (false || eqb a 0)) ≡ true → (a ≡ 0) × (b ≡ 0)
level_zero a b h = let e = eqb-true a b (search parts) in let z = eqb-true a 0 (search parts) in (z, omega arith)

none_left : (b z : ℕ) → 0 < z → b * z ≡ 0 → b ≡ 0
none_left zero z h e = refl
none_left (suc b) z h e = absurd (let w : ⊥ = omega arith in w)

module _ (a b c x y z : ℕ) (hx : 0 < x) (hy : 0 < y) (hz : 0 < z) where
  below_le : (s t u : Bool) → below s (a * y) t (b * x) ≡ true → (below t (b * z) u (c * y) || level t (b * z) u (c * y)) ≡ true → below s (a * z) u (c * x) ≡ true
  below_le false false false p q =
      lt-ltb (a * z) (c * x) (cross a b c x y z hx hy hz (ltb-true (a * y) (b * x) p)
      (or_parts (ltb (b * z) (c * y)) _ q (λ h. let k = ltb-true (b * z) (c * y) h in omega arith) (λ h. let k = level_is (b * z) (c * y) false false h in omega arith)))
  below_le false false true p q =
      let k = level_zero (b * z) (c * y) q in
      let n = none_left b z hz k.0 in
      let l = ltb-true (a * y) (b * x) p in
      absurd (let w : ⊥ = omega (arith, rw n at l) in w)
  below_le false true u p q = clash p refl
  below_le true false false p q = lt-ltb 0 (a * z + c * x) (go a (ltb-true 0 (a * y + b * x) p))
    where
      more : 0 < b → b * z ≤ c * y → 0 < c
      more h k = let l = mul-pos h hz in some_left c y (omega arith)

      least : b * z ≤ c * y
      least = or_parts (ltb (b * z) (c * y)) _ q (λ h. let k = ltb-true (b * z) (c * y) h in omega arith) (λ h. let k = level_is (b * z) (c * y) false false h in omega arith)

      go : (n : ℕ) → 0 < n * y + b * x → 0 < n * z + c * x
      go zero h = let l : 0 < b = some_left b x (omega arith) in let k = mul-pos (more l least) hx in omega arith
      go (suc n) h = omega arith
  below_le true false true p q =
      let k = level_zero (b * z) (c * y) q in
      let n = none_left b z hz k.0 in
      let o = none_left c y hy k.1 in
      let l = ltb-true 0 (a * y + b * x) p in
      let j : 0 < a = some_left a y (omega (arith, rw n at l)) in
      let i = mul-pos j hz in
      lt-ltb (c * x) (a * z) (rw o (omega arith))
  below_le true true false p q = let l = ltb-true (b * x) (a * y) p in let j : 0 < a = some_left a y (omega arith) in let i = mul-pos j hz in lt-ltb 0 (a * z + c * x) (omega arith)
  below_le true true true p q =
      lt-ltb (c * x) (a * z) (cross_le c b a z y x hz hy hx
      (or_parts (ltb (c * y) (b * z)) _ q (λ h. let k = ltb-true (c * y) (b * z) h in omega arith) (λ h. let k = level_is (b * z) (c * y) true true h in omega arith))
      (ltb-true (b * x) (a * y) p))

  le_below : (s t u : Bool) → (below s (a * y) t (b * x) || level s (a * y) t (b * x)) ≡ true → below t (b * z) u (c * y) ≡ true → below s (a * z) u (c * x) ≡ true
  le_below false false false p q =
      lt-ltb (a * z) (c * x) (cross_le a b c x y z hx hy hz
      (or_parts (ltb (a * y) (b * x)) _ p (λ h. let k = ltb-true (a * y) (b * x) h in omega arith) (λ h. let k = level_is (a * y) (b * x) false false h in omega arith))
      (ltb-true (b * z) (c * y) q))
  le_below false false true p q = clash q refl
  le_below false true false p q =
      let k = level_zero (a * y) (b * x) p in
      let n = none_left a y hy k.0 in
      let o = none_left b x hx k.1 in
      let l = ltb-true 0 (b * z + c * y) q in
      let j : 0 < c = some_left c y (omega (arith, rw o at l)) in
      let i = mul-pos j hx in
      lt-ltb (a * z) (c * x) (rw n (omega arith))
  le_below false true true p q =
      let k = level_zero (a * y) (b * x) p in
      let o = none_left b x hx k.1 in
      let l = ltb-true (c * y) (b * z) q in
      absurd (let w : ⊥ = omega (arith, rw o at l) in w)
  le_below true false false p q =
      let l = ltb-true (b * z) (c * y) q in
      let j : 0 < c = some_left c y (omega arith) in
      let i = mul-pos j hx in
      lt-ltb 0 (a * z + c * x) (omega arith)
  le_below true false true p q = clash q refl
  le_below true true false p q = lt-ltb 0 (a * z + c * x) (go c (ltb-true 0 (b * z + c * y) q))
    where
      least : b * x ≤ a * y
      least = or_parts (ltb (b * x) (a * y)) _ p (λ h. let k = ltb-true (b * x) (a * y) h in omega arith) (λ h. let k = level_is (a * y) (b * x) true true h in omega arith)

      more : 0 < b → 0 < a
      more h = let l = mul-pos h hx in some_left a y (omega (arith, least))

      go : (n : ℕ) → 0 < b * z + n * y → 0 < a * z + n * x
      go zero h = let l : 0 < b = some_left b z (omega arith) in let k = mul-pos (more l) hz in omega arith
      go (suc n) h = omega arith
  le_below true true true p q =
      lt-ltb (c * x) (a * z) (cross c b a z y x hz hy hx (ltb-true (c * y) (b * z) q)
      (or_parts (ltb (b * x) (a * y)) _ p (λ h. let k = ltb-true (b * x) (a * y) h in omega arith) (λ h. let k = level_is (a * y) (b * x) true true h in omega arith)))

-- ---- doubles

down_some : (e : ℤ) → 0 < down e
down_some (pos k) = omega arith
down_some (negsuc k) = pow_pos (suc k)

pub lt_le : (b e j : Float) → lt b e ≡ true → le e j ≡ true → lt b j ≡ true
unfolding lt le eq
lt_le nan e j p q = clash p refl
lt_le (inf s) nan j p q = clash p refl
lt_le (inf true) (inf t) nan p q = clash q refl
lt_le (inf true) (inf true) (inf u) p q = clash p refl
lt_le (inf true) (inf false) (inf true) p q = clash q refl
lt_le (inf true) (inf false) (inf false) p q = refl
lt_le (inf true) (inf t) (fin u k c) p q = refl
lt_le (inf true) (fin t n d) nan p q = clash q refl
lt_le (inf true) (fin t n d) (inf true) p q = clash q refl
lt_le (inf true) (fin t n d) (inf false) p q = refl
lt_le (inf true) (fin t n d) (fin u k c) p q = refl
lt_le (inf false) (inf t) j p q = clash p refl
lt_le (inf false) (fin t n d) j p q = clash p refl
lt_le (fin s m e) nan j p q = clash p refl
lt_le (fin s m e) (inf true) j p q = clash p refl
lt_le (fin s m e) (inf false) nan p q = clash q refl
lt_le (fin s m e) (inf false) (inf true) p q = clash q refl
lt_le (fin s m e) (inf false) (inf false) p q = refl
lt_le (fin s m e) (inf false) (fin u k c) p q = clash q refl
lt_le (fin s m e) (fin t n d) nan p q = clash q refl
lt_le (fin s m e) (fin t n d) (inf true) p q = clash q refl
lt_le (fin s m e) (fin t n d) (inf false) p q = refl
lt_le (fin s m e) (fin t n d) (fin u k c) p q = below_le (m * up e) (n * up d) (k * up c) (down e) (down d) (down c) (down_some e) (down_some d) (down_some c) s t u p q

pub le_lt : (j e b : Float) → le j e ≡ true → lt e b ≡ true → lt j b ≡ true
unfolding lt le eq
le_lt nan e b p q = clash p refl
le_lt (inf s) nan b p q = clash p refl
le_lt (inf s) (inf t) nan p q = clash q refl
le_lt (inf s) (inf t) (inf true) p q = go t q
  where
    go : (t : Bool) → (t && false) ≡ true → (s && false) ≡ true
    go true e = clash e refl
    go false e = clash e refl
le_lt (inf true) (inf t) (inf false) p q = refl
le_lt (inf false) (inf true) (inf false) p q = clash p refl
le_lt (inf false) (inf false) (inf false) p q = clash q refl
le_lt (inf true) (inf t) (fin u k c) p q = refl
le_lt (inf false) (inf true) (fin u k c) p q = clash p refl
le_lt (inf false) (inf false) (fin u k c) p q = clash q refl
le_lt (inf true) (fin t n d) nan p q = clash q refl
le_lt (inf true) (fin t n d) (inf true) p q = clash q refl
le_lt (inf true) (fin t n d) (inf false) p q = refl
le_lt (inf true) (fin t n d) (fin u k c) p q = refl
le_lt (inf false) (fin t n d) b p q = clash p refl
le_lt (fin s m e) nan b p q = clash p refl
le_lt (fin s m e) (inf true) b p q = clash p refl
le_lt (fin s m e) (inf false) nan p q = clash q refl
le_lt (fin s m e) (inf false) (inf u) p q = clash q refl
le_lt (fin s m e) (inf false) (fin u k c) p q = clash q refl
le_lt (fin s m e) (fin t n d) nan p q = clash q refl
le_lt (fin s m e) (fin t n d) (inf true) p q = clash q refl
le_lt (fin s m e) (fin t n d) (inf false) p q = refl
le_lt (fin s m e) (fin t n d) (fin u k c) p q = le_below (m * up e) (n * up d) (k * up c) (down e) (down d) (down c) (down_some e) (down_some d) (down_some c) s t u p q

pub lt_none : (x : Float) → lt x x ≡ false
unfolding lt
lt_none nan = refl
lt_none (inf true) = refl
lt_none (inf false) = refl
lt_none (fin true m e) = le-ltb (m * up e * down e) (m * up e * down e) (omega arith)
lt_none (fin false m e) = le-ltb (m * up e * down e) (m * up e * down e) (omega arith)

pub not_lt : (x y : Float) → le x y ≡ false → lt x y ≡ false
unfolding le lt eq
not_lt x y h = go (lt x y) refl
  where
    go : (t : Bool) → lt x y ≡ t → lt x y ≡ false
    go false e = e
    go true e = clash (rw e) h
