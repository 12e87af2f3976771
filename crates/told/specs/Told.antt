-- What a function for other languages tells of an answer: its result is a code, and the answer is written into memory that was lent.
use Rattle.std.specs.Prelude.{ℕ, ◌≡◌, Option, None, Some}
use Rattle.refusal.specs.Answer.{Answer, refused, done}

-- an answer is written; or nothing is, and the number says why
pub data Outcome (A : Type 0) : Type 0 where
  written : A → Outcome A
  untouched : ℕ → Outcome A

-- there is no answer: a number that no refusal has
abbrev pub no_answer : ℕ
no_answer = 254

-- of a call that answers unless it is refused
abbrev pub always : {A : Type 0} → Answer A → Outcome A
always (refused n ds) = untouched n
always (done a) = written a

-- of a call that may have no answer
abbrev pub perhaps : {A : Type 0} → Answer (Option A) → Outcome A
perhaps (refused n ds) = untouched n
perhaps (done None) = untouched no_answer
perhaps (done (Some a)) = written a

abbrev pub code_of : {A : Type 0} → Outcome A → ℕ
code_of (written a) = 0
code_of (untouched n) = n

-- the memory reads as the answer, or is as it was
abbrev pub Left : {M A : Type 0} → (M → A) → M → M → Outcome A → Type 0
Left read old new (written a) = read new ≡ a
Left read old new (untouched n) = new ≡ old

pub record Told {M A : Type 0} (o : Outcome A) (read : M → A) (r : ℕ) (old new : M) : Type 0 where
  pub code : r ≡ code_of o
  pub left : Left read old new o
