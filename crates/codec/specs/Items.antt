-- Numbers in a range, flags, lists and options.
use Rattle.std.specs.Prelude.{ℕ, zero, suc, ◌≡◌, refl, Bool, true, false, cond, List, ltb, leb, eqb, Option, None, Some}
use Rattle.std.proofs.Common.{arith, ltb-true}
use Rattle.codec.specs.Format.{Format, via, only, tagged, nothing, never, counted, both, open_format}
use Rattle.codec.specs.Number.{number, open_number}
use Rattle.codec.specs.Double.{open_bytes}

unfoldable pub below : ℕ → Format ℕ
below n = only (λ k. ltb k n) number

unfoldable pub from : ℕ → Format ℕ
from n = only (λ k. leb n k) number

-- at most n items
unfoldable pub list : {A : Type 0} → ℕ → Format A → Format (List A)
list n f = counted f (only (λ k. leb k n) number)

pub flag_number : (n : ℕ) → (below 2).fits n ≡ true → cond (eqb n 1) 1 0 ≡ n
unfolding below only
flag_number zero h = refl
flag_number (suc zero) h = refl
flag_number (suc (suc n)) h = let l = ltb-true (suc (suc n)) 2 (both (number.fits (suc (suc n))) _ h).1 in omega arith

pub flag_back : (b : Bool) → eqb (cond b 1 0) 1 ≡ b
flag_back true = refl
flag_back false = refl

unfoldable pub flag : Format Bool
flag = via (below 2) (λ n. eqb n 1) (λ b. cond b 1 0) flag_number (λ b _. flag_back b)

abbrev pub Maybe : Type 0 → ℕ → Type 0
Maybe A zero = Unit {0}
Maybe A (suc zero) = A
Maybe A (suc (suc k)) = ⊥

module _ {A : Type 0} where
  abbrev pub maybe : Format A → (k : ℕ) → Format (Maybe A k)
  maybe f zero = nothing
  maybe f (suc zero) = f
  maybe f (suc (suc k)) = never

  abbrev pub to_option : (k : ℕ) → Maybe A k → Option A
  to_option zero x = None
  to_option (suc zero) a = Some a
  to_option (suc (suc k)) x = absurd x

  abbrev pub of_option : Option A → (k : ℕ) × Maybe A k
  of_option None = (0, tt)
  of_option (Some a) = (1, a)

  pub option_there : (f : Format A) (p : (k : ℕ) × Maybe A k) → (tagged number (maybe f)).fits p ≡ true → of_option (to_option p.0 p.1) ≡ p
  option_there f p h = go p.0 p.1
    where
      go : (k : ℕ) (x : Maybe A k) → of_option (to_option k x) ≡ (k, x)
      go zero x = refl
      go (suc zero) x = refl
      go (suc (suc k)) x = absurd x

  pub option_back : (o : Option A) → to_option (of_option o).0 (of_option o).1 ≡ o
  option_back None = refl
  option_back (Some a) = refl

  -- 0, or 1 and the value
  unfoldable pub option : Format A → Format (Option A)
  option f = via (tagged number (maybe f)) (λ p. to_option p.0 p.1) of_option (option_there f) (λ o _. option_back o)

unfoldable pub open_items : Unit {0}
unfolding open_format open_number open_bytes below from list flag option
open_items = tt
