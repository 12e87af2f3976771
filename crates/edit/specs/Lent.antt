-- A call on lent memory: what it is lent, what it answers, and what it leaves.
use Rattle.std.specs.Prelude.{ℕ, ◌≡◌, Bool, true, false, not, ◌&&◌, List, [], eqb, Float, length, Err, Ok, Option, Result}
use Rattle.refusal.specs.Answer.{Answer, done, refused_as, ◌>>◌, refuse_when}
use Rattle.map.specs.Tables.{map_of, is_map_tables}
use Rattle.changes.specs.declared.Tally.{Tally}
use Rattle.changes.specs.Layout.{set_words, change_set_of}
use Rattle.changes.specs.Running.{State}
use Rattle.place.specs.Values.{maybe_ends}
use Rattle.edit.specs.Edit.{Outcome}
use Rattle.refusal.specs.declared.Refusal.{Refusal}
use Rattle.place.specs.declared.SectionNames.{SectionNames}

-- the map's tables, the running fold with its tally, and room for the change set that is answered
pub record Lent : Type 0 where
  pub words : List ℕ
  pub coords : List Float
  pub fold : List ℕ
  pub tally : Tally
  pub set : List ℕ

abbrev pub state_of : Lent → State
state_of l = record { map = map_of l.words l.coords; fold = change_set_of l.fold; tally = l.tally }

-- slices of another length are no tables of a map (12), and no table of a fold or of a change set (13); then the call
unfoldable pub lent_call : (State → Answer Outcome) → Lent → Answer Outcome
lent_call call l = do
  refuse_when (not (is_map_tables l.words l.coords)) 12 []
  refuse_when (not (eqb (length l.fold) set_words && eqb (length l.set) set_words)) 13 []
  call (state_of l)

-- what the answer of the code stands for, with the memory as it is left
abbrev pub answered : Result (ℕ × Option SectionNames) Refusal → Lent → Answer Outcome
answered (Ok (n, es)) l = done (record { state = state_of l; id = n; changes = change_set_of l.set; ends = maybe_ends es })
answered (Err r) l = refused_as r

abbrev pub is_refused : Result (ℕ × Option SectionNames) Refusal → Bool
is_refused (Ok (n, es)) = false
is_refused (Err r) = true

-- the whole outcome of a call: its answer and what it leaves; a refusal leaves everything as it was
pub record CallLeft (call : State → Answer Outcome) (old : Lent) (r : Result (ℕ × Option SectionNames) Refusal) (new : Lent) : Type 0 where
  pub answer : answered r new ≡ lent_call call old
  pub kept : is_refused r ≡ true → new ≡ old
