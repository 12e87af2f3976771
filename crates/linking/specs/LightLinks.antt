-- The checks of a light's links, by how many lanes, crosswalks and lines it is to have.
use Rattle.std.specs.Prelude.{ℕ, ◌≡◌, Bool, not, ◌&&◌, List, [], ◌∷◌, eqb, ltb, Float, Result}
use Rattle.refusal.specs.Answer.{Answer, ◌>>=◌, ◌>>◌, refuse_when}
use Rattle.rows.specs.Lists.{no_entries}
use Rattle.map.specs.Record.{Map}
use Rattle.map.specs.Tables.{map_of}
use Rattle.edit.specs.Links.{kinds_of}
use Rattle.placing.specs.Answers.{checked}
use Rattle.refusal.specs.declared.Refusal.{Refusal}

unfoldable pub kind_checks : Bool → Bool → ℕ → ℕ → ℕ → Answer (Unit {0})
kind_checks vehicle pedestrian lanes crosswalks lines = do
  refuse_when (pedestrian && vehicle) 8 (2 ∷ [])
  refuse_when (pedestrian && not (eqb lanes 0 && eqb lines 0)) 8 (3 ∷ [])
  refuse_when (vehicle && not (eqb crosswalks 0)) 8 (4 ∷ [])
  refuse_when (ltb 1 lines) 8 (5 ∷ [])

unfoldable pub light_checks : Map → List ℕ → ℕ → ℕ → ℕ → Answer (Unit {0})
light_checks m signals lanes crosswalks lines = do
  refuse_when (no_entries signals) 8 (1 ∷ [])
  k ← kinds_of m signals
  kind_checks k.vehicle k.pedestrian lanes crosswalks lines

pub record LightChecked (ws signals : List ℕ) (lanes crosswalks lines : ℕ) (r : Result (Unit {0}) Refusal) : Type 0 where
  pub answer : (cs : List Float) → checked r ≡ light_checks (map_of ws cs) signals lanes crosswalks lines
