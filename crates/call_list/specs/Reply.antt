-- What a call answers, in words: 0 done, 1 to 14 the refusal, 255 no such call; the number answered; the two details of a refusal; then whether the ends of a line
-- are named, and lane and side of its left end and of its right end. A word that has nothing to say is 0.
use Rattle.std.specs.Prelude.{ℕ, ◌≡◌, List, [], ◌∷◌, get_or, None, Result, Option}
use Rattle.refusal.specs.Answer.{Answer, refused, done, ◌>>◌}
use Rattle.place.specs.EndNames.{ends_words}
use Rattle.place.specs.Values.{maybe_ends}
use Rattle.placing.specs.Answers.{checked}
use Rattle.edit.specs.Edit.{Outcome}
use Rattle.edit.specs.Lent.{Lent, answered}
use Rattle.call_list.specs.declared.Reply.{Reply}
use Rattle.refusal.specs.declared.Refusal.{Refusal}
use Rattle.place.specs.declared.SectionNames.{SectionNames}

abbrev pub reply_of : Answer Outcome → List ℕ
reply_of (refused n ds) = n ∷ 0 ∷ get_or ds 0 0 ∷ get_or ds 1 0 ∷ ends_words None
reply_of (done o) = 0 ∷ o.id ∷ 0 ∷ 0 ∷ ends_words o.ends

abbrev pub reply_length : ℕ
reply_length = 9

-- the answer to what is no call: a number that no refusal has
abbrev pub no_such_call : ℕ
no_such_call = 255

abbrev pub reply_words : Reply → List ℕ
reply_words r = r.what ∷ r.number ∷ r.detail ∷ r.second ∷ ends_words (maybe_ends r.ends)

-- the words of the code's answer, whatever memory it leaves
pub record Replied (c : Result (ℕ × Option SectionNames) Refusal) (r : Reply) : Type 0 where
  pub words : (l : Lent) → reply_words r ≡ reply_of (answered c l)

-- what is no call, after what every call tests first
pub record NoCallReplied (c : Result (Unit {0}) Refusal) (r : Reply) : Type 0 where
  pub words : reply_words r ≡ reply_of (checked c >> refused no_such_call [])
