-- What the tests of one row say, over plain numbers. Assumes nothing.
use Prim.Native.Nat.{ℕ, zero, suc}
use mathlib.Core.Path.{◌≡◌, refl}
use mathlib.Core.Bool.{false}
use mathlib.Core.List.{List}
use lib.Ieee.{Float}
use Rattle.row_tests.specs.Flat.{good_body}

-- there is no rule of another kind
pub no_body : (k : ℕ) (ws : List ℕ) (cs : List Float) (at o : ℕ) → (k ≡ 1 → ⊥) → (k ≡ 2 → ⊥) → (k ≡ 3 → ⊥) → (k ≡ 4 → ⊥) → (k ≡ 5 → ⊥) → (k ≡ 6 → ⊥) → false ≡ good_body k ws cs at o
no_body zero ws cs at o a b c d e f = refl
no_body (suc zero) ws cs at o a b c d e f = absurd (a refl)
no_body (suc (suc zero)) ws cs at o a b c d e f = absurd (b refl)
no_body (suc (suc (suc zero))) ws cs at o a b c d e f = absurd (c refl)
no_body (suc (suc (suc (suc zero)))) ws cs at o a b c d e f = absurd (d refl)
no_body (suc (suc (suc (suc (suc zero))))) ws cs at o a b c d e f = absurd (e refl)
no_body (suc (suc (suc (suc (suc (suc zero)))))) ws cs at o a b c d e f = absurd (f refl)
no_body (suc (suc (suc (suc (suc (suc (suc k))))))) ws cs at o a b c d e f = refl
