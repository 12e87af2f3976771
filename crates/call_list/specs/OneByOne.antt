-- Calls made one by one by a caller who has only their contracts: each on the memory that the last one left. What every run promises, for these too.
use Rattle.std.specs.Prelude.{◌≡◌, true, List, [], ◌∷◌, length, Option, Result, ℕ}
use Rattle.map.specs.Record.{Map}
use Rattle.map.specs.MapFile.{is_map}
use Rattle.changes.specs.Running.{opening}
use Rattle.edit.specs.Lent.{Lent, state_of, CallLeft}
use Rattle.run.specs.Run.{Edit, run_one}
use Rattle.run.specs.Law.{RunLaw}
use Rattle.call_list.specs.Step.{Fitting}
use Rattle.refusal.specs.declared.Refusal.{Refusal}
use Rattle.place.specs.declared.SectionNames.{SectionNames}

-- slices keep their lengths
pub record SameLengths (old new : Lent) : Type 0 where
  pub words : length new.words ≡ length old.words
  pub coords : length new.coords ≡ length old.coords
  pub fold : length new.fold ≡ length old.fold
  pub set : length new.set ≡ length old.set

-- one call, as its contract has it: accepted or refused, on the memory old, which it leaves as new
pub record CallMade (e : Edit) (old new : Lent) : Type 0 where
  pub answer : Result (ℕ × Option SectionNames) Refusal
  pub left : CallLeft (run_one e) old answer new
  pub lengths : SameLengths old new

-- the calls es, from the memory old to the memory new
pub data CallsMade : List Edit → Lent → Lent → Type 0 where
  no_call : {l : Lent} → CallsMade [] l l
  and_then : {e : Edit} {es : List Edit} {old between new : Lent} → CallMade e old between → CallsMade es between new → CallsMade (e ∷ es) old new

-- what is promised: on slices of the tables' lengths that stand for the opening of a map, the law of every run holds of the calls and of what they leave
pub record OneByOneLaw : Type 0 where
  pub law : (m : Map) (es : List Edit) (old new : Lent) → is_map m ≡ true → Fitting old → state_of old ≡ opening m → CallsMade es old new → RunLaw m es (state_of new)
