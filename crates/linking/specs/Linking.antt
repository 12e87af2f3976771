-- The checks of `set_regulatory_links`, in the parts that one function of the code answers.
use Rattle.std.specs.Prelude.{ℕ, ◌≡◌, Bool, cond, List, [], ◌∷◌, ltb, Float, Option, None, Some, Result}
use Rattle.refusal.specs.Answer.{Answer, ◌>>◌, refuse_when}
use Rattle.rows.specs.Lists.{first_of, twice, sorted}
use Rattle.store.specs.Layout.{count_of}
use Rattle.map.specs.Record.{Map}
use Rattle.map.specs.Lookup.{unknown_in}
use Rattle.map.specs.Tables.{map_of}
use Rattle.map.specs.Access.{index_in}
use Rattle.place.specs.Place.{refuse_found}
use Rattle.placing.specs.Answers.{checked}
use Rattle.refusal.specs.declared.Refusal.{Refusal}

-- ---- the least number that a table lacks

abbrev pub lesser : ℕ → Option ℕ → Option ℕ
lesser n None = Some n
lesser n (Some m) = cond (ltb n m) (Some n) (Some m)

-- whether kind k has a record of the number
abbrev pub known_in : List ℕ → ℕ → ℕ → Bool
known_in ws k n = ltb (index_in ws k n) (count_of ws k)

unfoldable pub less_if : List ℕ → ℕ → ℕ → Option ℕ → Option ℕ
less_if ws k n best = cond (known_in ws k n) best (lesser n best)

-- the first of the sorted list that is not known
unfoldable pub unknown_least : List ℕ → ℕ → List ℕ → Option ℕ
unknown_least ws k ns = first_of (λ n. cond (known_in ws k n) None (Some n)) (sorted ns)

-- ---- the checks of the lists

unfoldable pub twice_checks : List ℕ → List ℕ → List ℕ → Answer (Unit {0})
twice_checks lanes crosswalks lines = do
  refuse_when (twice lanes) 3 (1 ∷ [])
  refuse_when (twice crosswalks) 3 (2 ∷ [])
  refuse_when (twice lines) 3 (3 ∷ [])

unfoldable pub list_checks : Map → List ℕ → List ℕ → List ℕ → Answer (Unit {0})
list_checks m lanes crosswalks lines = do
  twice_checks lanes crosswalks lines
  refuse_found (unknown_in (λ l. l.num) m.lanes (sorted lanes)) 1
  refuse_found (unknown_in (λ c. c.num) m.crosswalks (sorted crosswalks)) 7
  refuse_found (unknown_in (λ l. l.num) m.stop_lines (sorted lines)) 5

pub record ListsChecked (ws lanes crosswalks lines : List ℕ) (r : Result (Unit {0}) Refusal) : Type 0 where
  pub answer : (cs : List Float) → checked r ≡ list_checks (map_of ws cs) lanes crosswalks lines
