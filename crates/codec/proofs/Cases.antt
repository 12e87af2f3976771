-- Numbers of every length, and what is no number: a longer form, an end too soon, 2 ^ 64, a byte that is none.
use Prim.Native.Nat.{ℕ}
use mathlib.Core.Path.{◌≡◌, refl}
use mathlib.Core.Bool.{false}
use mathlib.Core.List.{[], ◌∷◌, map}
use native.Mathlib.Omega.{arith}
use lib.IntN.{pos}
use lib.Ieee.{fin, binary64, of_bits, to_bits}
use Rattle.codec.specs.Format.{Bytes, fault, got}
use Rattle.codec.specs.Number.{number}
use Rattle.codec.specs.Double.{double}
use Rattle.codec.specs.Items.{list, flag, open_items}
use Rattle.codec.specs.Answers.{read_of, NumberRead, DoubleRead}
use Rattle.std.specs.Prelude.{Some}

abbrev largest : Bytes
largest = 0xff ∷ 0xff ∷ 0xff ∷ 0xff ∷ 0xff ∷ 0xff ∷ 0xff ∷ 0xff ∷ 0xff ∷ 1 ∷ []

written : map number.write (0 ∷ 127 ∷ 128 ∷ 300 ∷ 18446744073709551615 ∷ []) ≡ (0 ∷ []) ∷ (0x7f ∷ []) ∷ (0x80 ∷ 1 ∷ []) ∷ (0xac ∷ 2 ∷ []) ∷ largest ∷ []
unfolding open_items
written = refl

read : map number.read ((0 ∷ []) ∷ (0x7f ∷ 9 ∷ []) ∷ (0x80 ∷ 1 ∷ []) ∷ largest ∷ []) ≡ got 0 [] ∷ got 127 (9 ∷ []) ∷ got 128 [] ∷ got 18446744073709551615 [] ∷ []
unfolding open_items
read = refl

faults : map number.read
    ([] ∷ (0x80 ∷ []) ∷ (0x80 ∷ 0 ∷ []) ∷ (0x81 ∷ 0x80 ∷ 0 ∷ []) ∷ (0xff ∷ 0xff ∷ 0xff ∷ 0xff ∷ 0xff ∷ 0xff ∷ 0xff ∷ 0xff ∷ 0xff ∷ 2 ∷ []) ∷ (0xff ∷ 0xff ∷ 0xff ∷ 0xff ∷ 0xff ∷ 0xff ∷ 0xff ∷ 0xff ∷ 0xff ∷ 0x81 ∷ 0 ∷ []) ∷ (256 ∷ []) ∷ [])
    ≡ fault ∷ fault ∷ fault ∷ fault ∷ fault ∷ fault ∷ fault ∷ []
unfolding open_items
faults = refl

-- A place past the end leaves what the right one leaves, and is refused all the same.
same_left : read_of (5 ∷ []) (Some (5, 1000)) ≡ number.read (5 ∷ [])
unfolding open_items
same_left = refl

far_number : NumberRead (5 ∷ []) 0 (Some (5, 1000)) → ⊥
unfolding open_items
far_number h = let e : ◌≡◌ {A = ℕ} 1000 1 = h.place 5 1000 refl in omega arith

far_double : (s : Bytes) → DoubleRead s 0 (Some (fin false 1 (pos 0), 1000)) → ⊥
far_double s h = let e : ◌≡◌ {A = ℕ} 1000 8 = h.place (fin false 1 (pos 0)) 1000 refl in omega arith

-- a count of 2 ^ 63 with nothing behind it is a fault at once; a flag is 0 or 1
long_list : (list 18446744073709551615 number).read (0x80 ∷ 0x80 ∷ 0x80 ∷ 0x80 ∷ 0x80 ∷ 0x80 ∷ 0x80 ∷ 0x80 ∷ 0x80 ∷ 1 ∷ 5 ∷ []) ≡ fault
unfolding open_items
long_list = refl

no_flag : flag.read (2 ∷ []) ≡ fault
unfolding open_items
no_flag = refl

-- -0 and 1 low byte first; a NaN has no written form
doubles : map (λ s. double.read s) ((0 ∷ 0 ∷ 0 ∷ 0 ∷ 0 ∷ 0 ∷ 0 ∷ 0x80 ∷ []) ∷ (0 ∷ 0 ∷ 0 ∷ 0 ∷ 0 ∷ 0 ∷ 0xf0 ∷ 0x3f ∷ []) ∷ (0 ∷ 0 ∷ 0 ∷ 0 ∷ 0 ∷ 0 ∷ 0xf8 ∷ 0x7f ∷ []) ∷ (0 ∷ 0 ∷ 0 ∷ 0 ∷ 0 ∷ 0 ∷ 0xf0 ∷ []) ∷ [])
    ≡ got (of_bits binary64 0x8000_0000_0000_0000) [] ∷ got (of_bits binary64 0x3FF0_0000_0000_0000) [] ∷ fault ∷ fault ∷ []
unfolding open_items
doubles = refl

-- A float that no double is has the bits of another: so `fits` asks for a double.
other_float : of_bits binary64 (to_bits binary64 (fin false 2 (pos 0))) ≡ fin false 1 (pos 1)
unfolding open_items
other_float = refl
