-- What reading one number leaves of a reader.
use Rattle.std.specs.Prelude.{ℕ, ◌+◌, ◌≡◌, [], length, drop, Option, Some, None}
use Rattle.codec.specs.Format.{Bytes, Read, fault, got}
use Rattle.codec.specs.Number.{number}
use Rattle.reader.specs.declared.Reader.{Reader}

-- the bytes that are not used; a place past the end leaves none
abbrev pub unused : Reader → Bytes
unused r = drop r.at r.bytes.now

abbrev pub place_after : Option (ℕ × ℕ) → ℕ → ℕ
place_after (Some (v, n)) at = n
place_after None at = at

-- what the answer stands for, with the bytes that are left
abbrev pub taken : Option (ℕ × ℕ) → Bytes → Read ℕ
taken (Some (v, n)) s = got v s
taken None s = fault

-- the bytes that the answer used: a number's written form, and nothing of a fault
abbrev pub used : Option (ℕ × ℕ) → Bytes
used (Some (v, n)) = number.write v
used None = []

-- the answer and what is left are what the format reads; the bytes are the same, and the place is further by what was used
pub record NumberTaken (old : Reader) (r : Option (ℕ × ℕ)) (new : Reader) : Type 0 where
  pub is : taken r (unused new) ≡ number.read (unused old)
  pub moved : new ≡ record { bytes = old.bytes; at = place_after r old.at }
  pub place : new.at ≡ old.at + length (used r)
