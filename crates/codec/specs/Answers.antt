-- The code's answers as a format's: what is left is the slice from the next place on.
use Rattle.std.specs.Prelude.{ℕ, ◌+◌, ◌≡◌, length, drop, Float, Option, Some, None}
use Rattle.std.proofs.lemmas.List.Edits.{sets}
use Rattle.codec.specs.Format.{Bytes, Read, fault, got}
use Rattle.codec.specs.Number.{number}
use Rattle.codec.specs.Double.{double}

abbrev pub read_of : {A : Type 0} → Bytes → Option (A × ℕ) → Read A
read_of s (Some r) = got r.0 (drop r.1 s)
read_of s None = fault

-- What is read from `at` on, and the place after it exactly: where a value ends the bytes, what is left does not tell it.
pub record NumberRead (s : Bytes) (at : ℕ) (r : Option (ℕ × ℕ)) : Type 0 where
  pub read : read_of s r ≡ number.read (drop at s)
  pub place : (v n : ℕ) → r ≡ Some (v, n) → n ≡ at + length (number.write v)

pub record DoubleRead (s : Bytes) (at : ℕ) (r : Option (Float × ℕ)) : Type 0 where
  pub read : read_of s r ≡ double.read (drop at s)
  pub place : (x : Float) (n : ℕ) → r ≡ Some (x, n) → n ≡ at + 8

-- the form stands from `at` on, up to `r`, and nothing else has changed
pub record Wrote (form old : Bytes) (at r : ℕ) (new : Bytes) : Type 0 where
  pub next : r ≡ at + length form
  pub made : new ≡ sets old at form
