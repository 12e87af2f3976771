-- What opening a map file leaves in the lent tables, and the tally that it answers.
use Rattle.std.specs.Prelude.{ℕ, ◌≡◌, not, List, [], eqb, Float, length, Result, Ok, Err}
use Rattle.refusal.specs.Answer.{Answer, done, refused_as, ◌>>=◌, ◌>>◌, refuse_when}
use Rattle.refusal.specs.declared.Refusal.{Refusal}
use Rattle.changes.specs.declared.Tally.{Tally}
use Rattle.codec.specs.Format.{Bytes}
use Rattle.map.specs.Record.{Map}
use Rattle.map.specs.Tables.{map_of}
use Rattle.changes.specs.ChangeSet.{ChangeSet}
use Rattle.changes.specs.Layout.{set_words, change_set_of}
use Rattle.changes.specs.Running.{State, opening}
use Rattle.files.specs.ReadInto.{read_into}

-- the code's answer, with the map and the fold that the tables stand for
abbrev pub opened : Result Tally Refusal → Map → ChangeSet → Answer State
opened (Ok t) m f = done (record { map = m; fold = f; tally = t })
opened (Err x) m f = refused_as x

-- openMap, where the slices have the lengths of their tables: 12, then 13 for the fold's
abbrev pub open_into : Bytes → ℕ → ℕ → ℕ → Answer State
open_into s w c f = do
  m ← read_into s w c
  refuse_when (not (eqb f set_words)) 13 []
  done (opening m)

abbrev pub UntouchedAll : Result Tally Refusal → List ℕ → List Float → List ℕ → List ℕ → List Float → List ℕ → Type 0
UntouchedAll (Ok t) ws cs fs ws' cs' fs' = Unit {0}
UntouchedAll (Err x) ws cs fs ws' cs' fs' = (ws' ≡ ws) × (cs' ≡ cs) × (fs' ≡ fs)

pub record MapOpened (s : Bytes) (ws : List ℕ) (cs : List Float) (fs : List ℕ) (r : Result Tally Refusal) (ws' : List ℕ) (cs' : List Float) (fs' : List ℕ) : Type 0 where
  pub is : opened r (map_of ws' cs') (change_set_of fs') ≡ open_into s (length ws) (length cs) (length fs)
  pub untouched : UntouchedAll r ws cs fs ws' cs' fs'
