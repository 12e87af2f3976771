-- A tally as three words.
use Rattle.std.specs.Prelude.{ℕ, List, [], ◌∷◌, get_or}
use Rattle.changes.specs.declared.Tally.{Tally}

abbrev pub tally_in : List ℕ → Tally
tally_in t = record { created = get_or t 0 0; modified = get_or t 1 0; deleted = get_or t 2 0 }

abbrev pub tally_words : Tally → List ℕ
tally_words t = t.created ∷ t.modified ∷ t.deleted ∷ []
