-- Closed cases: what a fold keeps, and what is no set.
use mathlib.Core.Path.{◌≡◌, refl}
use mathlib.Core.Bool.{true, false}
use Rattle.std.specs.Prelude.{None, Some}
use mathlib.Core.List.{List, [], ◌∷◌, map}
use Prim.Native.Nat.{ℕ}
use Rattle.rows.specs.Lists.{list_to}
use Rattle.refusal.specs.Answer.{Answer, refused, done}
use Rattle.map.specs.Entity.{EntityRef, entity}
use Rattle.changes.specs.ChangeSet.{ChangeSet, warning, no_changes, normalize, fold_of}
use Rattle.changes.specs.ChangeFile.{change_file, is_set}
use Rattle.changes.specs.Running.{fold_call, open_running}

abbrev set : List EntityRef → List EntityRef → List EntityRef → ChangeSet
set c m d = record { created = c; modified = m; deleted = d; warnings = [] }

abbrev rule : ℕ → EntityRef
rule n = entity 8 n

-- sorted, each once; created and deleted: gone; modified never also created or deleted; the warnings stay
normal : change_file.write (normalize (record {
  created = rule 7 ∷ entity 5 9 ∷ rule 4 ∷ rule 7 ∷ [];
  modified = rule 7 ∷ rule 3 ∷ rule 2 ∷ rule 4 ∷ rule 3 ∷ [];
  deleted = rule 2 ∷ rule 4 ∷ [];
  warnings = warning 3 None ∷ [];
}))
    ≡ 2 ∷ 5 ∷ 9 ∷ 8 ∷ 7 ∷ 1 ∷ 8 ∷ 3 ∷ 1 ∷ 8 ∷ 2 ∷ 1 ∷ 3 ∷ 0 ∷ []
unfolding open_running
normal = refl

-- rule 5 came and went: the fold does not name it; warnings are dropped
came_and_went : change_file.write (fold_of no_changes (set (rule 5 ∷ []) [] [] ∷ record { created = []; modified = []; deleted = rule 5 ∷ []; warnings = warning 4 (Some (rule 5)) ∷ [] } ∷ []))
    ≡ 0 ∷ 0 ∷ 0 ∷ 0 ∷ []
unfolding open_running
came_and_went = refl

-- one set at a time: what came, went and is then called modified is modified; joined at once it would be nothing
one_at_a_time : change_file.write (fold_of no_changes (set (rule 5 ∷ []) [] [] ∷ set [] [] (rule 5 ∷ []) ∷ set [] (rule 5 ∷ []) [] ∷ [])) ≡ 0 ∷ 1 ∷ 8 ∷ 5 ∷ 0 ∷ 0 ∷ []
unfolding open_running
one_at_a_time = refl

-- what is no set: out of order, an entry twice, an entry in two lists, kind 0, kind 9, a number past 2 ^ 64 - 1, warning code 5, 513 entries, 161 warnings
no_sets : map is_set
    (set (rule 2 ∷ rule 1 ∷ []) [] [] ∷ set (rule 1 ∷ rule 1 ∷ []) [] [] ∷ set (rule 1 ∷ []) [] (rule 1 ∷ []) ∷ set (entity 0 1 ∷ []) [] [] ∷ set (entity 9 1 ∷ []) [] []
    ∷ set (rule 18446744073709551616 ∷ []) [] [] ∷ record { created = []; modified = []; deleted = []; warnings = warning 5 None ∷ [] } ∷ set (list_to rule 513) [] []
    ∷ record { created = []; modified = []; deleted = []; warnings = list_to (λ i. warning 1 None) 161 } ∷ [])
    ≡ false ∷ false ∷ false ∷ false ∷ false ∷ false ∷ false ∷ false ∷ false ∷ []
unfolding open_running
no_sets = refl

-- 512 entries a list and 160 warnings, roads and junctions among them, are a set
a_set : is_set (record { created = list_to (λ i. entity 3 i) 512; modified = entity 4 0 ∷ []; deleted = rule 0 ∷ []; warnings = list_to (λ i. warning 1 (Some (rule i))) 160 }) ≡ true
unfolding open_running
a_set = refl

abbrev number_of : Answer ChangeSet → ℕ
number_of (refused n ds) = n
number_of (done c) = 0

-- the fold call: 13 for lists of no set, before 10 for a list that would be longer than 512
fold_calls_lem : number_of (fold_call (set (list_to rule 512) [] []) (set (rule 512 ∷ []) [] [])) ∷ number_of (fold_call (set (list_to rule 512) [] []) (set (rule 2 ∷ rule 1 ∷ []) [] []))
    ∷ number_of (fold_call (set (list_to rule 511) [] []) (set (rule 511 ∷ []) [] [])) ∷ []
    ≡ 10 ∷ 13 ∷ 0 ∷ []
unfolding open_running
fold_calls_lem = refl
