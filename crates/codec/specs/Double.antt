-- A double in 8 bytes, low byte first. A NaN has many patterns, and so no written form.
use Rattle.std.specs.Prelude.{ℕ, zero, suc, ◌+◌, ◌*◌, ◌/◌, ◌%◌, ◌^◌, ◌<◌, ◌≡◌, Bool, true, not, ◌&&◌, cond, [], ◌∷◌, ◌++◌, T, ltb, Float}
use Rattle.std.proofs.Common.{ap, arith, pow-suc, lt-ltb, ltb-true}
use Rattle.std.specs.Float.{binary64}
use Rattle.std.specs.Float.Ieee.{to_bits, of_bits, is_nan, fits}
use Rattle.std.specs.Float.Ieee.Bits.{of_bits-to_bits, to_bits-of_bits, to_bits-lt, of_bits-fits, is_true}
use Rattle.codec.specs.Format.{Bytes, Read, fault, got, and_then, Format, after, no_got, both, and, same_value, same_rest, passed}

-- the k low bytes of n
unfoldable pub low_bytes : ℕ → ℕ → Bytes
low_bytes zero n = []
low_bytes (suc k) n = n % 256 ∷ low_bytes k (n / 256)

unfoldable pub read_low : ℕ → Bytes → Read ℕ
read_low zero s = got 0 s
read_low (suc k) [] = fault
read_low (suc k) (b ∷ s) = cond (ltb b 256) (and_then (read_low k s) (λ n t. got (b + 256 * n) t)) fault

pub low_there : (k n : ℕ) (s : Bytes) → n < 256 ^ k → read_low k (low_bytes k n ++ s) ≡ got n s
unfolding low_bytes read_low
low_there zero n s h = let e : 0 ≡ n = omega arith in rw e
low_there (suc k) n s h =
    let l : n / 256 < 256 ^ k = omega (arith, rw pow-suc at h) in
    let e : n % 256 + 256 * (n / 256) ≡ n = omega arith in
    rw (lt-ltb (n % 256) 256 (omega arith), low_there k (n / 256) s l, e)

pub low_back : (k n : ℕ) (s t : Bytes) → read_low k s ≡ got n t → (n < 256 ^ k) × (s ≡ low_bytes k n ++ t)
unfolding low_bytes read_low
low_back zero n s t h = (omega (arith, same_value h), same_rest h)
low_back (suc k) n [] t h = absurd (no_got h)
low_back (suc k) n (b ∷ s) t h =
    let q = passed (ltb b 256) h in
    let c : b < 256 = ltb-true b 256 q.0 in
    after (read_low k s) q.1 λ m u e d.
    let ih = low_back k m s u e in
    let v : b + 256 * m ≡ n = same_value d in
    let l : m < 256 ^ k = ih.0 in
    let x : n % 256 ≡ b = omega arith in
    let y : n / 256 ≡ m = omega arith in
    (rw pow-suc (omega arith), rw (x, y, ← same_rest d) (ap (λ r. b ∷ r) ih.1))

pub holds : (b : Bool) → b ≡ true → T b
holds b h = rw h tt

unfoldable pub double : Format Float
double =
    record {
      write = λ x. low_bytes 8 (to_bits binary64 x);
      read = λ s. and_then (read_low 8 s) (λ n t. let x = of_bits binary64 n in cond (not (is_nan x)) (got x t) fault);
      fits = λ x. fits binary64 x && not (is_nan x);
      there = λ x s h.
          let h1 = both (fits binary64 x) (not (is_nan x)) h in
          let g = holds (fits binary64 x) h1.0 in
          rw (low_there 8 (to_bits binary64 x) s (to_bits-lt binary64 x g), of_bits-to_bits binary64 x g, h1.1);
      back = λ s x t h.
          after (read_low 8 s) h λ n u e k.
          let k1 = passed (not (is_nan (of_bits binary64 n))) k in
          let l = low_back 8 n s u e in
          rw (← same_value k1.1, ← same_rest k1.1, to_bits-of_bits binary64 n l.0 (holds _ k1.0))
          (and _ _ (is_true (fits binary64 (of_bits binary64 n)) (of_bits-fits binary64 n)) k1.0, l.1);
    }

unfoldable pub open_bytes : Unit {0}
unfolding to_bits of_bits fits is_nan low_bytes read_low double
open_bytes = tt
