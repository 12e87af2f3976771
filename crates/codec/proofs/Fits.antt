-- Which lists and options fit: as many as the format has room for, and each of them.
use mathlib.Core.Path.{◌≡◌, refl, sym, ap, ◌∙◌}
use mathlib.Core.Bool.{true}
use Rattle.std.specs.Prelude.{None, Some}
use mathlib.Core.List.{List, ◌++◌}
use Prim.Native.Nat.{ℕ, ◌^◌, ◌<◌}
use lib.Dec.{leb}
use lib.ListN.{length}
use native.Mathlib.Omega.{arith}
use borrow.Author.Tests.{leb-true, lt-ltb, ltb-true}
use Rattle.rows.specs.Lists.{every}
use Rattle.rows.proofs.Bools.{parts, and_i}
use Rattle.codec.specs.Format.{Bytes, Format, same_value, same_rest, only, via, tagged, nothing, counted}
use Rattle.codec.specs.Number.{number}
use Rattle.codec.specs.Items.{list, option}

pub number_below : (n : ℕ) → number.fits n ≡ true → n < 2 ^ 64
unfolding number
number_below n h = ltb-true n (2 ^ 64) h

pub number_fits : (n : ℕ) → n < 2 ^ 64 → number.fits n ≡ true
unfolding number
number_fits n h = lt-ltb n (2 ^ 64) h

module _ {A : Type 0} (n : ℕ) (f : Format A) (xs : List A) where
  pub list_each : (list n f).fits xs ≡ true → every f.fits xs ≡ true
  unfolding list counted
  list_each h = search parts

  pub list_few : (list n f).fits xs ≡ true → leb (length xs) n ≡ true
  unfolding list counted only
  list_few h = search parts

  pub list_fits : n < 2 ^ 64 → leb (length xs) n ≡ true → every f.fits xs ≡ true → (list n f).fits xs ≡ true
  unfolding list counted only
  list_fits k l e = and_i _ _ (and_i (number.fits (length xs)) _ (number_fits (length xs) (let u = leb-true (length xs) n l in omega arith)) l) e

module _ {A : Type 0} (f : Format A) where
  pub option_fits : (a : A) → f.fits a ≡ true → (option f).fits (Some a) ≡ true
  unfolding option via tagged number
  option_fits a h = h

  pub fits_option : (a : A) → (option f).fits (Some a) ≡ true → f.fits a ≡ true
  unfolding option via tagged number
  fits_option a h = h

  pub none_fits : (option f).fits None ≡ true
  unfolding option via tagged number nothing
  none_fits = refl

-- a written form tells where it ends
pub form_splits : {A : Type 0} (f : Format A) (a b : A) (s t : Bytes) → f.fits a ≡ true → f.fits b ≡ true → f.write a ++ s ≡ f.write b ++ t → (a ≡ b) × (s ≡ t)
form_splits f a b s t p q e =
    let r = sym (f.there a s p) ∙ ap f.read e ∙ f.there b t q in
    (same_value r, same_rest r)
