-- The three lists of coordinates that a light's row names.
use Rattle.std.specs.Prelude.{ℕ, ◌≡◌, true, List, Float, length, get_or}
use Rattle.boundary.specs.Numbers.{flag}
use Rattle.call_list.specs.Rows.{row_words, part_within, part, light_pointed}

-- those that are read lie within the pool
pub record LightParts (row : List ℕ) (reals : List Float) : Type 0 where
  pub words : length row ≡ row_words
  pub line : part_within (light_pointed row) reals (get_or row 22 0) (get_or row 23 0) ≡ true
  pub housing : part_within (flag (get_or row 6 0)) reals (get_or row 24 0) (get_or row 25 0) ≡ true
  pub lamps : part_within (flag (get_or row 9 0)) reals (get_or row 26 0) (get_or row 27 0) ≡ true

abbrev pub line_part : List ℕ → List Float → List Float
line_part row reals = part (light_pointed row) reals (get_or row 22 0) (get_or row 23 0)

abbrev pub housing_part : List ℕ → List Float → List Float
housing_part row reals = part (flag (get_or row 6 0)) reals (get_or row 24 0) (get_or row 25 0)

abbrev pub lamps_part : List ℕ → List Float → List Float
lamps_part row reals = part (flag (get_or row 9 0)) reals (get_or row 26 0) (get_or row 27 0)
