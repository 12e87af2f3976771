-- Doubles: what the code's tests on one number say.
use Prim.Native.Nat.{ℕ, zero, suc, ◌+◌, ◌%◌, ◌/◌, ◌^◌}
use mathlib.Core.Path.{◌≡◌, refl, sym, ap, ◌∙◌, subst}
use mathlib.Core.Bool.{Bool, true, false, not}
use native.Mathlib.Omega.{arith}
use lib.Dec.{T, leb, eqb}
use lib.Ieee.{Float, nan, inf, fin, binary64, lt, ne, eq, fits, is_nan, nan_bits, of_bits, of_fields, odd, to_bits}
use lib.Ieee.Bits.{of_bits-to_bits, nan_bits_is, nan_bits_above}
use lib.Ieee.Compare.{differs_from_itself}
use borrow.Author.Tests.{lt-leb}
use Rattle.geometry.specs.Double.{is_finite, absolute}

-- by the value of a test
pub split : {A : Type 0} (b : Bool) → (b ≡ true → A) → (b ≡ false → A) → A
split true f g = f refl
split false f g = g refl

-- ---- finite

-- the code's infinities
abbrev above_all : Float
above_all = of_bits binary64 0x7FF0_0000_0000_0000

abbrev below_all : Float
below_all = of_bits binary64 0xFFF0_0000_0000_0000

infinity : above_all ≡ inf false
unfolding of_bits
infinity = refl

minus_infinity : below_all ≡ inf true
unfolding of_bits
minus_infinity = refl

above : (x : Float) → fits binary64 x ≡ true → lt (inf true) x ≡ true → lt x (inf false) ≡ is_finite x
unfolding lt is_finite
above nan h a = refl
above (inf true) h a = sym a
above (inf false) h a = refl
above (fin s m e) h a = sym h

not_above : (x : Float) → lt (inf true) x ≡ false → lt (inf true) x ≡ is_finite x
unfolding lt is_finite
not_above nan a = refl
not_above (inf true) a = refl
not_above (inf false) a = a
not_above (fin s m e) a = absurd (subst T a tt)

module _ (x : Float) where
  pub finite_below : fits binary64 x ≡ true → lt below_all x ≡ true → lt x above_all ≡ is_finite x
  finite_below h a = rw infinity (above x h (rw minus_infinity at a))

  pub infinite_above : lt below_all x ≡ false → lt below_all x ≡ is_finite x
  infinite_above a = rw minus_infinity (not_above x (rw minus_infinity at a))

-- ---- the size

odd_size : (d : ℕ) (s : Bool) (q k l : ℕ) → odd d false q k l ≡ absolute (odd d s q k l)
unfolding odd absolute
odd_size d s zero k l = refl
odd_size d s (suc q) k l = refl

fields_size : (s : Bool) (x t : ℕ) → of_fields binary64 false x t ≡ absolute (of_fields binary64 s x t)
unfolding of_fields absolute
fields_size s zero t = odd_size 53 s t 0 1074
fields_size s (suc x) t =
    split (eqb (suc x) 2047)
    (λ e. rw e (split (eqb t 0) (λ z. rw z) (λ z. rw z)))
    (λ e. rw e (odd_size 53 s (2 ^ 52 + t) x 1074))

-- the sign is the top bit
size_is : (n : ℕ) → of_bits binary64 (n % 2 ^ 63) ≡ absolute (of_bits binary64 n)
unfolding of_bits
size_is n =
    let a : n % 2 ^ 63 % 2 ^ 63 ≡ n % 2 ^ 63 = omega arith in
    let b : n % 2 ^ 63 % 2 ^ 52 ≡ n % 2 ^ 52 = omega arith in
    rw (lt-leb (2 ^ 63) (n % 2 ^ 63) (omega arith), a, b) (fields_size (leb (2 ^ 63) n) (n % 2 ^ 63 / 2 ^ 52) (n % 2 ^ 52))

nan_size : (n : ℕ) → nan_bits binary64 (n % 2 ^ 63) ≡ nan_bits binary64 n
nan_size n =
    let a : n % 2 ^ 63 % 2 ^ 63 ≡ n % 2 ^ 63 = omega arith in
    nan_bits_above binary64 (n % 2 ^ 63) ∙ rw a (sym (nan_bits_above binary64 n))

not_itself : (x : Float) → ne x x ≡ false → is_nan x ≡ false
unfolding ne eq is_nan
not_itself nan h = h
not_itself (inf s) h = refl
not_itself (fin s m e) h = refl

module _ (x : Float) where
  pub nan_size_is : ne x x ≡ true → x ≡ absolute x
  unfolding absolute
  nan_size_is h = let e : x ≡ nan = differs_from_itself x (subst T (sym h) tt) in rw e

  pub no_nan : ne x x ≡ false → T (not (is_nan x))
  no_nan h = rw (not_itself x h) tt

  module _ (held : fits binary64 x ≡ true) where
    pub no_nan_size : ne x x ≡ false → T (not (nan_bits binary64 (to_bits binary64 x % 2 ^ 63)))
    no_nan_size h = rw (nan_size, nan_bits_is, of_bits-to_bits binary64 x (subst T (sym held) tt)) (no_nan h)

    pub size_of : of_bits binary64 (to_bits binary64 x % 2 ^ 63) ≡ absolute x
    size_of = size_is (to_bits binary64 x) ∙ ap absolute (of_bits-to_bits binary64 x (subst T (sym held) tt))
