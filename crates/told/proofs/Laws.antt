-- What is told of an answer is told of any answer that is equal to it. Assumes nothing.
use Prim.Native.Nat.{ℕ}
use mathlib.Core.Path.{◌≡◌}
use Rattle.std.specs.Prelude.{Option}
use Rattle.refusal.specs.Answer.{Answer}
use Rattle.told.specs.Told.{Told, always, perhaps}

module _ {M A : Type 0} (read : M → A) (r : ℕ) (old new : M) where
  pub always_of : (a b : Answer A) → Told (always a) read r old new → a ≡ b → Told (always b) read r old new
  always_of a b t e = rw e at t

  pub perhaps_of : (a b : Answer (Option A)) → Told (perhaps a) read r old new → a ≡ b → Told (perhaps b) read r old new
  perhaps_of a b t e = rw e at t

pub ruleset telling = (always_of, perhaps_of)
