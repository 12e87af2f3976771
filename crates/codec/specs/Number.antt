-- A whole number in groups of seven bits: low group first, the top bit set on every byte but the last, the shortest form only, up to 2 ^ 64 - 1.
use Rattle.std.specs.Prelude.{ℕ, zero, suc, ◌+◌, ◌*◌, ◌/◌, ◌%◌, ◌^◌, ◌≤◌, ◌<◌, ◌≡◌, refl, Bool, true, false, ◌||◌, cond, [], ◌∷◌, ◌++◌, ltb}
use Rattle.std.proofs.Common.{sym, ap, ◌∙◌, arith, mul_assoc, mul_right_comm, add-mul, pow-suc, lt-ltb, le-ltb, ltb-true, ltb-false}
use Rattle.std.proofs.Math.Nat.{div-add-mod}
use Rattle.codec.specs.Format.{Bytes, Read, fault, got, Format, no_got, same_value, same_rest, passed}

-- n in at most k groups of seven bits
unfoldable pub groups : ℕ → ℕ → Bytes
groups zero n = []
groups (suc k) n = let more = (128 + n % 128) ∷ groups k (n / 128) in cond (ltb n 128) (n ∷ []) more

-- the last group b, of weight w, on top of acc: no zero group but the first, and a number below 2 ^ 64
unfoldable pub last_group : ℕ → ℕ → ℕ → Bytes → Read ℕ
last_group w acc b s = cond (ltb w 2 || ltb 0 b) (cond (ltb (acc + b * w) (2 ^ 64)) (got (acc + b * w) s) fault) fault

-- at most k more groups, the first of weight w, on top of acc
unfoldable pub groups_from : ℕ → ℕ → ℕ → Bytes → Read ℕ
groups_from zero w acc s = fault
groups_from (suc k) w acc [] = fault
groups_from (suc k) w acc (b ∷ s) =
    let more = groups_from k (w * 128) (acc + b % 128 * w) s in
    cond (ltb b 128) (last_group w acc b s) (cond (ltb b 256) more fault)

-- ---- the laws

pub split : {C : Type 0} (b : Bool) → (b ≡ true → C) → (b ≡ false → C) → C
split true t f = t refl
split false t f = f refl

-- a number is its low group and 128 times the rest
parts : (acc n w : ℕ) → acc + n % 128 * w + n / 128 * (w * 128) ≡ acc + n * w
parts acc n w =
    let e : n * w ≡ 128 * (n / 128 * w) + n % 128 * w = ap (λ m. m * w) (sym (div-add-mod n 128)) ∙ add-mul (128 * (n / 128)) (n % 128) w ∙ ap (λ m. m + n % 128 * w) (mul_assoc 128 (n / 128) w) in
    omega (arith, sym (mul_assoc (n / 128) w 128))

rest_pos : (n : ℕ) → 128 ≤ n → 0 < n / 128
rest_pos n h = omega arith

rest_lt : (n k : ℕ) → n < 128 ^ suc k → n / 128 < 128 ^ k
rest_lt n k h = omega (arith, rw (pow-suc) at h)

more_groups : (n k : ℕ) → 128 ≤ n → n < 128 ^ suc k → 0 < k
more_groups n zero g h = omega arith
more_groups n (suc k) g h = omega arith

or_right : (p q : Bool) → q ≡ true → p || q ≡ true
or_right true q h = refl
or_right false q h = h

pub groups_there : (k w acc n : ℕ) (s : Bytes) → 0 < k → n < 128 ^ k → ltb w 2 || ltb 0 n ≡ true → acc + n * w < 2 ^ 64
    → groups_from k w acc (groups k n ++ s) ≡ got (acc + n * w) s
unfolding groups groups_from last_group
groups_there zero w acc n s p h z b = absurd (let q : ⊥ = omega arith in q)
groups_there (suc k) w acc n s p h z b =
    split (ltb n 128)
    (λ t. rw (t, t, z, lt-ltb (acc + n * w) (2 ^ 64) b))
    (λ t.
    let big : 128 ≤ n = ltb-false n 128 t in
    let m : (128 + n % 128) % 128 ≡ n % 128 = omega arith in
    let i : acc + n % 128 * w + n / 128 * (w * 128) < 2 ^ 64 = rw (parts acc n w) b in
    rw (
      t,
      le-ltb (128 + n % 128) 128 (omega arith),
      lt-ltb (128 + n % 128) 256 (omega arith),
      m,
      groups_there k (w * 128) (acc + n % 128 * w) (n / 128) s (more_groups n k big h) (rest_lt n k h) (or_right (ltb (w * 128) 2) _ (lt-ltb 0 (n / 128) (rest_pos n big))) i,
      parts acc n w,
    ))

-- what was read as v, on top of acc, is a number n of weight w, in its groups
pub record Grouped (k w acc v : ℕ) (s t : Bytes) : Type 0 where
  pub n : ℕ
  pub value : v ≡ acc + n * w
  pub first : ltb w 2 || ltb 0 n ≡ true
  pub below : v < 2 ^ 64
  pub form : s ≡ groups k n ++ t

grouped_more : (k w acc v b : ℕ) (s t : Bytes) → 0 < w → 128 ≤ b → b < 256 → Grouped k (w * 128) (acc + b % 128 * w) v s t → Grouped (suc k) w acc v (b ∷ s) t
unfolding groups
grouped_more k w acc v b s t p l u g =
    let m : ℕ = g.n * 128 + b % 128 in
    let z : 0 < g.n = ltb-true 0 g.n (rw (le-ltb (w * 128) 2 (omega arith)) at g.first) in
    record {
      n = m;
      value = omega (arith, g.value, add-mul (g.n * 128) (b % 128) w, mul_right_comm g.n 128 w, mul_assoc g.n w 128);
      first = or_right (ltb w 2) (ltb 0 m) (lt-ltb 0 m (omega arith));
      below = g.below;
      form =
          let x : 128 + m % 128 ≡ b = omega arith in
          let y : m / 128 ≡ g.n = omega arith in
          rw (le-ltb m 128 (omega arith), x, y) (ap (λ r. b ∷ r) g.form);
    }

pub groups_back : (k w acc v : ℕ) (s t : Bytes) → 0 < w → groups_from k w acc s ≡ got v t → Grouped k w acc v s t
unfolding groups groups_from last_group
groups_back zero w acc v s t p h = absurd (no_got h)
groups_back (suc k) w acc v [] t p h = absurd (no_got h)
groups_back (suc k) w acc v (b ∷ s) t p h =
    split (ltb b 128)
    (λ e.
    let q = passed (ltb w 2 || ltb 0 b) (rw e at h) in
    let r = passed (ltb (acc + b * w) (2 ^ 64)) q.1 in
    record { n = b; value = sym (same_value r.1); first = q.0; below = rw (← same_value r.1) (ltb-true _ _ r.0); form = rw (e, same_rest r.1) })
    (λ e.
    let q = passed (ltb b 256) (rw e at h) in
    grouped_more k w acc v b s t p (ltb-false b 128 e) (ltb-true b 256 q.0) (groups_back k (w * 128) (acc + b % 128 * w) v s t (omega arith) q.1))

-- ---- the format

unfoldable pub number : Format ℕ
number =
    record {
      write = groups 10;
      read = groups_from 10 1 0;
      fits = λ n. ltb n (2 ^ 64);
      there = λ n s h.
          let e : 0 + n * 1 ≡ n = omega arith in
          let l : n < 2 ^ 64 = ltb-true n (2 ^ 64) h in
          rw (groups_there 10 1 0 n s (omega arith) (omega arith) refl (rw e l), e);
      back = λ s n t h.
          let g = groups_back 10 1 0 n s t (omega arith) h in
          let e : g.n ≡ n = omega (arith, g.value) in
          (lt-ltb n (2 ^ 64) g.below, rw (← e) g.form);
    }

unfoldable pub open_number : Unit {0}
unfolding groups last_group groups_from number
open_number = tt
