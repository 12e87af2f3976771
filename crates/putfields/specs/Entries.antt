-- Lists of words in a row.
use Rattle.std.specs.Prelude.{ℕ, ◌+◌, List, get_or}
use Rattle.rows.specs.Lists.{list_to}

-- the n words from `from` on; past the end a word is 0
unfoldable pub entries_in : List ℕ → ℕ → ℕ → List ℕ
entries_in ws from n = list_to (λ i. get_or ws (from + i) 0) n
