-- What an exported call leaves: its answer and the tally as words.
use Rattle.std.specs.Prelude.{ℕ, ◌≡◌, false, List, eqb, get_or, Option}
use Rattle.edit.specs.Lent.{Lent, lent_call}
use Rattle.run.specs.Run.{Edit}
use Rattle.call_list.specs.Reply.{reply_of}
use Rattle.call_list.specs.Step.{held_of, held_after, call_of}

-- the words of the answer, the first of which is the result; what the memory stands for after the call, and the memory itself as it was but where the call is done
pub record StepWritten (e : Option Edit) (old : Lent) (r : ℕ) (answer : List ℕ) (new : Lent) : Type 0 where
  pub reply : answer ≡ reply_of (lent_call (call_of e) old)
  pub result : r ≡ get_or answer 0 0
  pub held : held_of new ≡ held_after (held_of old) (lent_call (call_of e) old)
  pub kept : eqb r 0 ≡ false → new ≡ old
