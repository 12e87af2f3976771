-- The change set that a list of words stands for, laid out as docs/TABLES.md says. Counts are taken as they stand, so a list whose count is past its room
-- stands for a list of that length, and that is no set.
use Rattle.std.specs.Prelude.{ℕ, zero, suc, ◌+◌, ◌*◌, Bool, ◌&&◌, cond, List, [], ◌∷◌, eqb, length, get_or, Option, None, Some}
use Rattle.refusal.specs.Answer.{Answer, refused}
use Rattle.map.specs.Entity.{EntityRef, entity}
use Rattle.changes.specs.ChangeSet.{Warning, warning, ChangeSet}
use Rattle.changes.specs.ChangeFile.{is_set, lists_ok}
use Rattle.changes.specs.Running.{fold_call}

-- a table, in words
abbrev pub set_words : ℕ
set_words = 3556

-- the room of a list of entries, in words
abbrev pub list_words : ℕ
list_words = 1024

-- where list l begins: 0 created, 1 modified, 2 deleted, 3 warnings
abbrev pub from_of : ℕ → ℕ
from_of l = 4 + l * list_words

-- how many entries it has
unfoldable pub count_in : List ℕ → ℕ → ℕ
count_in w l = get_or w l 0

-- ---- entries: kind and number

unfoldable pub ref_at : List ℕ → ℕ → EntityRef
ref_at w p = entity (get_or w p 0) (get_or w (p + 1) 0)

-- n entries, from word p on
unfoldable pub refs_at : List ℕ → ℕ → ℕ → List EntityRef
refs_at w p zero = []
refs_at w p (suc n) = ref_at w p ∷ refs_at w (p + 2) n

-- ---- warnings: code, kind and number; kind 0 stands alone

abbrev pub about_of : ℕ → ℕ → Option EntityRef
about_of zero n = None
about_of (suc k) n = Some (entity (suc k) n)

unfoldable pub warning_at : List ℕ → ℕ → Warning
warning_at w p = warning (get_or w p 0) (about_of (get_or w (p + 1) 0) (get_or w (p + 2) 0))

unfoldable pub warnings_at : List ℕ → ℕ → ℕ → List Warning
warnings_at w p zero = []
warnings_at w p (suc n) = warning_at w p ∷ warnings_at w (p + 3) n

-- ---- the set

unfoldable pub list_in : List ℕ → ℕ → List EntityRef
list_in w l = refs_at w (from_of l) (count_in w l)

unfoldable pub change_set_of : List ℕ → ChangeSet
change_set_of w = record { created = list_in w 0; modified = list_in w 1; deleted = list_in w 2; warnings = warnings_at w (from_of 3) (count_in w 3) }

-- a table whose three lists are those of a set file
unfoldable pub lists_ok_in : List ℕ → Bool
lists_ok_in w = eqb (length w) set_words && lists_ok (change_set_of w)

-- a table of a change set
unfoldable pub is_set_in : List ℕ → Bool
is_set_in w = eqb (length w) set_words && is_set (change_set_of w)

-- the fold call on two tables
unfoldable pub fold_tables : List ℕ → List ℕ → Answer ChangeSet
fold_tables f c = cond (lists_ok_in f && lists_ok_in c) (fold_call (change_set_of f) (change_set_of c)) (refused 13 [])
