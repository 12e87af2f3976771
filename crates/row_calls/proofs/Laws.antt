-- A light's row, as the code takes it apart. Assumes nothing.
use Prim.Native.Nat.{ℕ}
use mathlib.Core.Path.{◌≡◌, ap, ◌∙◌}
use mathlib.Core.Bool.{Bool, true, false, not}
use mathlib.Core.List.{List}
use lib.Ieee.{Float}
use lib.ListN.{length, get_or}
use native.Mathlib.Omega.{arith}
use Rattle.rows.specs.Rows.{cut}
use Rattle.rows.proofs.RowLaws.{length_cut}
use Rattle.edit.specs.Lent.{Lent}
use Rattle.call_list.specs.declared.Reply.{Reply}
use Rattle.call_list.specs.Step.{StepLeft}
use Rattle.call_list.specs.Rows.{row_words, part_within, part, light_pointed, light_by, signal_within}
use Rattle.call_list.proofs.Decode.{signal_points_lem, signal_housing, signal_lamps}
use Rattle.row_calls.specs.Light.{LightParts, line_part, housing_part, lamps_part}

pub numbers_of_lem : (row ns : List ℕ) → length row ≡ row_words → ns ≡ cut row 3 17 → length ns ≡ 17
numbers_of_lem row ns h e = ap length e ∙ length_cut row 3 17 (omega arith)

pub parts_of : (row lists : List ℕ) (reals : List Float) (b : Bool) → b ≡ signal_within row lists reals → not b ≡ false → length row ≡ row_words → LightParts row reals
parts_of row lists reals b q h e = record {
  words = e;
  line = signal_points_lem row lists reals b q h;
  housing = signal_housing row lists reals b q h;
  lamps = signal_lamps row lists reals b q h;
}

-- the line's coordinates, for the choice and the placement that the code read
pub line_within_lem : (row : List ℕ) (reals : List Float) (m : Bool) → m ≡ light_pointed row → LightParts row reals → part_within m reals (get_or row 22 0) (get_or row 23 0) ≡ true
line_within_lem row reals m e p = rw e p.line

pub light_step : (row : List ℕ) (reals : List Float) (m : Bool) → m ≡ light_pointed row → (lanes ns : List ℕ) (x y : Float) (points housing lamps : List Float)
    → points ≡ part m reals (get_or row 22 0) (get_or row 23 0) → housing ≡ housing_part row reals → lamps ≡ lamps_part row reals
    → (old : Lent) (r : Reply) (new : Lent) → StepLeft (light_by lanes ns x y points housing lamps) old r new
    → StepLeft (light_by lanes ns x y (line_part row reals) (housing_part row reals) (lamps_part row reals)) old r new
light_step row reals m em lanes ns x y points housing lamps e₁ e₂ e₃ old r new s = rw (← em, ← e₁, ← e₂, ← e₃) s
