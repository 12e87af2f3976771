-- Doubles: each arithmetic step rounded once.
use Rattle.std.specs.Prelude.{ℕ, ◌^◌, ◌≡◌, refl, Bool, false, ◌&&◌, cond, [], ◌∷◌, map, pos, Float}
use Rattle.std.specs.Float.{nan, inf, fin, binary64}
use Rattle.std.specs.Float.Ieee.{round, add, sub, mul, div, neg, lt, le, fits, of_int, of_bits, to_bits}
use Rattle.root.specs.Root.{square_root}

infixl 65 ◌⊕◌ ◌⊖◌
infixl 70 ◌⊗◌ ◌⊘◌
abbrev pub ◌⊕◌ : Float → Float → Float
x ⊕ y = add binary64 x y

abbrev pub ◌⊖◌ : Float → Float → Float
x ⊖ y = sub binary64 x y

abbrev pub ◌⊗◌ : Float → Float → Float
x ⊗ y = mul binary64 x y

abbrev pub ◌⊘◌ : Float → Float → Float
x ⊘ y = div binary64 x y

-- the number n / d, rounded once
abbrev pub decimal : ℕ → ℕ → Float
decimal n d = round binary64 false n d

-- a whole number, rounded once
abbrev pub whole : ℕ → Float
whole n = of_int binary64 (pos n)

-- The code's literals stand in the model by their bits, so they stand here so too; `literals` says which numbers they are.
abbrev pub f0 : Float
f0 = of_bits binary64 0

abbrev pub f1 : Float
f1 = of_bits binary64 0x3FF0_0000_0000_0000

abbrev pub half : Float
half = of_bits binary64 0x3FE0_0000_0000_0000

-- the Rust's EPSILON
abbrev pub epsilon : Float
epsilon = of_bits binary64 0x3E11_2E0B_E826_D695

-- how far apart the ends of a cross-section must be
abbrev pub milli : Float
milli = of_bits binary64 0x3F50_624D_D2F1_A9FC

-- the largest size of a coordinate, 2 ^ 26
abbrev pub farthest : Float
farthest = of_bits binary64 0x4190_0000_0000_0000

pub literals : map (to_bits binary64) (f0 ∷ f1 ∷ half ∷ epsilon ∷ milli ∷ farthest ∷ [])
    ≡ map (to_bits binary64) (whole 0 ∷ whole 1 ∷ decimal 1 2 ∷ decimal 1 1000000000 ∷ decimal 1 1000 ∷ whole (2 ^ 26) ∷ [])
unfolding of_bits to_bits of_int round
literals = refl

-- A finite double: no NaN and no infinity. `Float` has numbers that no double holds, and those are not finite here, so that no law needs to ask
-- for doubles; the code meets doubles only.
unfoldable pub is_finite : Float → Bool
is_finite nan = false
is_finite (inf s) = false
is_finite (fin s m e) = fits binary64 (fin s m e)

unfoldable pub absolute : Float → Float
absolute nan = nan
absolute (inf s) = inf false
absolute (fin s m e) = fin false m e

-- Rust's clamp: a NaN and a zero's sign stay
unfoldable pub clamp : Float → Float → Float → Float
clamp x low high = let y = cond (lt x low) low x in cond (lt high y) high y

-- finite, and at most 2 ^ 26 in size
unfoldable pub on_map : Float → Bool
on_map x = is_finite x && le (absolute x) farthest

-- every name above, opened at once: for a theorem that computes
unfoldable pub open_double : Unit {0}
unfolding square_root round add sub mul div neg lt le fits of_int of_bits to_bits is_finite absolute clamp on_map
open_double = tt
