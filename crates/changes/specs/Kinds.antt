-- The numbers of the lists and of the warnings' codes.
use Rattle.std.specs.Prelude.{ℕ}
use Rattle.changes.specs.declared.SetList.{SetList}
use Rattle.changes.specs.declared.SetList.TheVariants.{Created, Modified, Deleted}
use Rattle.changes.specs.declared.WarningCode.{WarningCode}
use Rattle.changes.specs.declared.WarningCode.TheVariants.{PlacementClamped, OrphanRule, GeometrySynthesized, RuleReplaced}

-- of the lists of entries, as in `from_of`
abbrev pub list_number : SetList → ℕ
list_number Created = 0
list_number Modified = 1
list_number Deleted = 2

abbrev pub code_number : WarningCode → ℕ
code_number PlacementClamped = 1
code_number OrphanRule = 2
code_number GeometrySynthesized = 3
code_number RuleReplaced = 4
