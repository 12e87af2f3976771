-- One call of a list carried out on lent memory.
use Rattle.std.specs.Prelude.{◌≡◌, false, [], eqb, length, Option, None, Some}
use Rattle.refusal.specs.Answer.{Answer, refused, done}
use Rattle.store.specs.Layout.{all_words, all_coords}
use Rattle.changes.specs.ChangeSet.{ChangeSet}
use Rattle.changes.specs.Layout.{set_words, change_set_of}
use Rattle.changes.specs.Running.{State}
use Rattle.edit.specs.Edit.{Outcome, call}
use Rattle.edit.specs.Lent.{Lent, state_of, lent_call}
use Rattle.run.specs.Run.{Edit, run_one}
use Rattle.call_list.specs.declared.Reply.{Reply}
use Rattle.call_list.specs.Reply.{reply_of, no_such_call, reply_words}

-- slices of the tables' lengths
pub record Fitting (l : Lent) : Type 0 where
  pub words : length l.words ≡ all_words
  pub coords : length l.coords ≡ all_coords
  pub fold : length l.fold ≡ set_words
  pub set : length l.set ≡ set_words

-- what lent memory stands for: the state, and the change set of the last accepted call
pub record Held : Type 0 where
  pub state : State
  pub set : ChangeSet

abbrev pub held_of : Lent → Held
held_of l = record { state = state_of l; set = change_set_of l.set }

-- a refused call leaves all as it was
abbrev pub held_after : Held → Answer Outcome → Held
held_after h (refused n ds) = h
held_after h (done o) = record { state = o.state; set = o.changes }

-- what a row asks for, as a call: one that is no call tests 12 and 13 as every call does, and then has an answer of its own
unfoldable pub call_of : Option Edit → State → Answer Outcome
call_of None = call (λ m. refused no_such_call [])
call_of (Some e) = run_one e

-- the whole outcome: the answer, what the memory stands for after it, and the memory itself as it was but where the call is done
pub record StepLeft (e : Option Edit) (old : Lent) (r : Reply) (new : Lent) : Type 0 where
  pub reply : reply_words r ≡ reply_of (lent_call (call_of e) old)
  pub held : held_of new ≡ held_after (held_of old) (lent_call (call_of e) old)
  pub kept : eqb r.what 0 ≡ false → new ≡ old
