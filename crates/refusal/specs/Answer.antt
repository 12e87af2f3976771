-- What a call answers: a refusal, by its number and its details, or a result. An order of checks is a `do` block, one line a check.
use Rattle.std.specs.Prelude.{ℕ, Bool, true, false, List, Result, Ok, Err, Option, None, Some}
use Rattle.refusal.specs.declared.Refusal.{Refusal}
use Rattle.refusal.specs.Refusal.{refusal_number, refusal_details}

pub data Answer (A : Type 0) : Type 0 where
  refused : ℕ → List ℕ → Answer A
  done : A → Answer A

-- the answer that a refusal of the code stands for
abbrev pub refused_as : {A : Type 0} → Refusal → Answer A
refused_as r = refused (refusal_number r) (refusal_details r)

-- the answer that a result of the code stands for, by what its value stands for
abbrev pub answered_as : {A B : Type 0} → (A → B) → Result A Refusal → Answer B
answered_as f (Err r) = refused_as r
answered_as f (Ok a) = done (f a)

-- the same where the value stands for itself
abbrev pub answered : {A : Type 0} → Result A Refusal → Answer A
answered (Err r) = refused_as r
answered (Ok a) = done a

module _ {A B : Type 0} where
  infixl 10 ◌>>=◌ ◌>>◌
  -- the first refusal, or what comes after
  abbrev pub ◌>>=◌ : Answer A → (A → Answer B) → Answer B
  refused n ds >>= f = refused n ds
  done a >>= f = f a

  abbrev pub ◌>>◌ : Answer A → Answer B → Answer B
  refused n ds >> b = refused n ds
  done a >> b = b

-- refused where the test holds
abbrev pub refuse_when : Bool → ℕ → List ℕ → Answer (Unit {0})
refuse_when true n ds = refused n ds
refuse_when false n ds = done tt

-- what is there, or a refusal
abbrev pub present : {A : Type 0} → Option A → ℕ → List ℕ → Answer A
present None n ds = refused n ds
present (Some a) n ds = done a
