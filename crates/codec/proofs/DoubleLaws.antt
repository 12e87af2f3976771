-- Doubles in a slice: what the loops over eight bytes keep, and what they come to.
use Prim.Native.Nat.{ℕ, zero, suc, ◌+◌, ◌-◌, ◌*◌, ◌/◌, ◌%◌, ◌^◌, ◌≤◌, ◌<◌}
use mathlib.Core.Path.{◌≡◌, refl, sym, ap, ◌∙◌}
use mathlib.Core.Bool.{true, not}
use mathlib.Core.List.{[], ◌∷◌}
use native.Mathlib.Omega.{arith}
use native.Mathlib.Nat.{pow-suc, pow-le-pow_right}
use lib.Dec.{T, ltb}
use lib.ListN.{length, get_or, drop, set, length-set, length-drop}
use lib.Seq.{drop-cons, sets}
use lib.Ieee.{Float, binary64, of_bits, to_bits, is_nan, nan_bits, fits}
use lib.Ieee.Bits.{nan_bits_is, nan_bits_above}
use borrow.Author.Tests.{lt-ltb, le-ltb}
use Rattle.codec.specs.Format.{Bytes, fault, got, both}
use Rattle.codec.specs.Number.{split}
use Rattle.codec.specs.Double.{low_bytes, read_low, double, holds}
use Rattle.codec.specs.Answers.{DoubleRead}
use Rattle.std.specs.Prelude.{Some, None}
use Rattle.std.proofs.lemmas.Option.{some_pair_parts}

-- ---- eight bytes

-- the bytes from place k on, of the eight, give n
pub record Low (s : Bytes) (at n k : ℕ) : Type 0 where
  pub few : k ≤ 8
  pub small : n < 256 ^ (8 - k)
  pub goes : read_low (8 - k) (drop (at + k) s) ≡ got n (drop (at + 8) s)

pub low_starts : (s : Bytes) (at : ℕ) → Low s at 0 8
unfolding read_low
low_starts s at = record { few = omega arith; small = omega arith; goes = refl }

module _ (s : Bytes) (at n k : ℕ) (r : Low s at n k) where
  low_limit : 0 < k → n < 2 ^ 56
  low_limit f = omega (arith, r.small, pow-le-pow_right {n = 256} (omega arith) {i = 8 - k} {j = 7} (omega arith))

  pub low_room : 0 < k → n * 256 < 2 ^ 64
  low_room f = omega (arith, low_limit f)

  pub low_sum : 0 < k → (b : ℕ) → b < 256 → n * 256 + b < 2 ^ 64
  low_sum f b u = omega (arith, low_limit f)

  pub low_more : 0 < k → at + 8 ≤ length s → get_or s (at + (k - 1)) 0 < 256 → Low s at (n * 256 + get_or s (at + (k - 1)) 0) (k - 1)
  unfolding read_low
  low_more f h u =
      let b : ℕ = get_or s (at + (k - 1)) 0 in
      let p : 8 - (k - 1) ≡ suc (8 - k) = omega (arith, r.few) in
      let q : suc (at + (k - 1)) ≡ at + k = omega arith in
      let v : b + 256 * n ≡ n * 256 + b = omega arith in
      record {
        few = omega (arith, r.few);
        small = rw (p, pow-suc) (omega (arith, r.small));
        goes = rw (p, drop-cons s (at + (k - 1)) 0 (omega (arith, r.few)), lt-ltb b 256 u, q, r.goes, v);
      }

pub low_ends : (s : Bytes) (at n : ℕ) → Low s at n 0 → read_low 8 (drop at s) ≡ got n (drop (at + 8) s)
low_ends s at n r = let z : at + 0 ≡ at = omega arith in rw z at r.goes

pub low_short : (k : ℕ) (s : Bytes) → length s < k → read_low k s ≡ fault
unfolding read_low
low_short zero s h = absurd (let z : ⊥ = omega arith in z)
low_short (suc k) [] h = refl
low_short (suc k) (b ∷ s) h = split (ltb b 256) (λ t. rw (t, low_short k s (omega arith))) (λ t. rw t)

pub ruleset reading_low = (low_starts, low_room, low_sum, low_more, low_ends)

-- the bytes of rest from place k on make it those of n
pub record PutLow (old : Bytes) (at n : ℕ) (out : Bytes) (rest k : ℕ) : Type 0 where
  pub few : k ≤ 8
  pub room : at + 8 ≤ length old
  pub long : length out ≡ length old
  pub made : sets out (at + k) (low_bytes (8 - k) rest) ≡ sets old at (low_bytes 8 n)

pub put_starts : (old : Bytes) (at n : ℕ) → at + 8 ≤ length old → PutLow old at n old n 0
put_starts old at n h = record { few = omega arith; room = h; long = refl; made = let e : at + 0 ≡ at = omega arith in rw e }

module _ (old : Bytes) (at n : ℕ) (out : Bytes) (rest k : ℕ) (r : PutLow old at n out rest k) where
  pub put_more : k < 8 → PutLow old at n (set out (at + k) (rest % 256)) (rest / 256) (k + 1)
  unfolding low_bytes
  put_more f =
      let p : 8 - k ≡ suc (8 - (k + 1)) = omega arith in
      let q : suc (at + k) ≡ at + (k + 1) = omega arith in
      record { few = omega arith; room = r.room; long = length-set out (at + k) (rest % 256) ∙ r.long; made = rw (← q) (rw p at r.made) }

  pub put_ends : 8 ≤ k → out ≡ sets old at (low_bytes 8 n)
  unfolding low_bytes
  put_ends f = let z : 8 - k ≡ 0 = omega arith in rw z at r.made

pub ruleset putting_low = (put_starts, put_more, put_ends)

-- ---- the value of the eight bytes

pub nan_test : (n : ℕ) → is_nan (of_bits binary64 n) ≡ ltb 0x7FF0_0000_0000_0000 (n % 2 ^ 63)
nan_test n = sym (nan_bits_is binary64 n) ∙ nan_bits_above binary64 n

pub no_nan : (n : ℕ) → n % 2 ^ 63 ≤ 0x7FF0_0000_0000_0000 → T (not (nan_bits binary64 n))
no_nan n h = rw (nan_bits_above binary64 n, le-ltb 0x7FF0_0000_0000_0000 (n % 2 ^ 63) h) tt

module _ (s : Bytes) (at : ℕ) where
  double_none : length s < at + 8 → fault ≡ double.read (drop at s)
  unfolding double
  double_none h = let l : length (drop at s) < 8 = simp length-drop (omega arith) in rw (low_short 8 (drop at s) l)

  pub double_short : length s < 8 → fault ≡ double.read (drop at s)
  double_short h = double_none (omega arith)

  pub double_cut : length s - 8 < at → fault ≡ double.read (drop at s)
  double_cut h = double_none (omega arith)

  module _ (n : ℕ) (t : Bytes) (e : read_low 8 (drop at s) ≡ got n t) where
    pub double_nan : 0x7FF0_0000_0000_0000 < n % 2 ^ 63 → fault ≡ double.read (drop at s)
    unfolding double
    double_nan h = rw (e, nan_test n, lt-ltb 0x7FF0_0000_0000_0000 (n % 2 ^ 63) h)

    pub double_got : n % 2 ^ 63 ≤ 0x7FF0_0000_0000_0000 → got (of_bits binary64 n) t ≡ double.read (drop at s)
    unfolding double
    double_got h = rw (e, nan_test n, le-ltb 0x7FF0_0000_0000_0000 (n % 2 ^ 63) h)

  pub double_fault : fault ≡ double.read (drop at s) → DoubleRead s at None
  double_fault e = record { read = e; place = λ x n f. absurd (let z : ◌≡◌ {A = ℕ} 0 1 = cc in let q : ⊥ = omega arith in q) }

  pub double_there : (x : Float) → got x (drop (at + 8) s) ≡ double.read (drop at s) → DoubleRead s at (Some (x, at + 8))
  double_there x e = record { read = e; place = λ y n f. sym (some_pair_parts x y (at + 8) n f).1 }

pub ruleset reading_double = (double_fault, double_there, double_short, double_cut, double_nan, double_got, no_nan)

-- ---- for callers

low_length : (k n : ℕ) → length (low_bytes k n) ≡ k
unfolding low_bytes
low_length zero n = refl
low_length (suc k) n = ap suc (low_length k (n / 256))

pub double-length : (x : Float) → length (double.write x) ≡ 8
unfolding double
double-length x = low_length 8 (to_bits binary64 x)

-- a double that has a written form is no NaN
pub double_real : (x : Float) → double.fits x ≡ true → T (not (is_nan x))
unfolding double
double_real x h = holds (not (is_nan x)) (both (fits binary64 x) (not (is_nan x)) h).1
