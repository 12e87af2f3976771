-- Rows: which call each is, by the tests that the code makes. Assumes nothing.
use Prim.Native.Nat.{ℕ, ◌+◌, ◌-◌, ◌≤◌}
use mathlib.Core.Path.{◌≡◌, sym, ◌∙◌}
use mathlib.Core.Bool.{Bool, true, false, not, ◌&&◌}
use Rattle.std.specs.Prelude.{None, Some}
use mathlib.Core.List.{List}
use lib.Ieee.{Float, nan}
use lib.ListN.{length, get_or, take, drop}
use borrow.Author.Tests.{ne_eqb, leb-true, not-true, not-false}
use native.Mathlib.Omega.{arith}
use Rattle.rows.specs.Rows.{cut}
use Rattle.rows.proofs.Bools.{parts}
use Rattle.geometry.specs.Double.{f0}
use Rattle.edit.specs.Lent.{Lent}
use Rattle.boundary.specs.Numbers.{flag}
use Rattle.boundary.proofs.Tests.{passed}
use Rattle.call_list.specs.declared.Reply.{Reply}
use Rattle.call_list.specs.Step.{StepLeft}
use Rattle.call_list.specs.Rows.{within, part_within, part, measure, measured, pointed, line_by, light_by, links_by, line_within, line_row, light_measured, light_pointed, signal_within, signal_row, links_within, links_row, call_at}

-- a part of a slice, as the code takes it
pub part_cut : {A : Type 0} (l : List A) (a n : ℕ) → take (a + n - a) (drop a l) ≡ cut l a n
unfolding cut
part_cut l a n = let e : a + n - a ≡ n = omega arith in rw e

-- a part of a pool that is read, and one that is not
module _ {A : Type 0} (pool : List A) (read : Bool) (at n : ℕ) where
  pub part_read : (l : List A) → read ≡ true → l ≡ cut pool at n → l ≡ part read pool at n
  unfolding part
  part_read l h e = rw h e

  pub part_unread : read ≡ false → take 0 pool ≡ part read pool at n
  unfolding part
  part_unread h = rw h

  pub part_room : part_within read pool at n ≡ true → read ≡ true → at + n ≤ length pool
  part_room p h = leb-true _ _ (rw h at p)

module _ (pool : List Float) (read : Bool) (at : ℕ) where
  pub measure_read : read ≡ true → get_or pool at nan ≡ measure read pool at
  unfolding measure
  measure_read h = rw h

  pub measure_unread : read ≡ false → f0 ≡ measure read pool at
  unfolding measure
  measure_unread h = rw h

-- a light's parts, where the code's tests of all but the last have passed
pub light_parts : (row lists : List ℕ) (reals : List Float) (a m b c d : Bool)
    → a ≡ (within lists (get_or row 1 0) (get_or row 2 0) && part_within (light_measured row) reals (get_or row 20 0) 1 && part_within (flag (get_or row 7 0)) reals (get_or row 21 0) 1) → not a ≡ false
    → m ≡ light_pointed row → b ≡ part_within m reals (get_or row 22 0) (get_or row 23 0) → not b ≡ false
    → c ≡ part_within (flag (get_or row 6 0)) reals (get_or row 24 0) (get_or row 25 0) → not c ≡ false
    → d ≡ part_within (flag (get_or row 9 0)) reals (get_or row 26 0) (get_or row 27 0) → d ≡ signal_within row lists reals
unfolding signal_within
light_parts row lists reals a m b c d p p' e q q' r r' s = rw (passed a _ p p', ← e, passed b _ q q', passed c _ r r') s

-- ---- b is what the code found of the row's parts; s is what the call by numbers leaves

module _ (row lists : List ℕ) (reals : List Float) (b : Bool) where
  module _ (q : b ≡ line_within row lists reals) where
    pub line_none : not b ≡ true → (old : Lent) (r : Reply) (new : Lent) → StepLeft None old r new → StepLeft (line_row row lists reals) old r new
    unfolding line_row
    line_none h old r new s = rw (← q, not-true b h) s

    module _ (h : not b ≡ false) where
      line_inside : line_within row lists reals ≡ true
      line_inside = sym q ∙ not-false b h

      pub line_lanes : get_or row 1 0 + get_or row 2 0 ≤ length lists
      unfolding line_within
      line_lanes = let i = line_inside in leb-true _ _ (search parts)

      pub line_measure : part_within (measured (get_or row 3 0)) reals (get_or row 5 0) 1 ≡ true
      unfolding line_within
      line_measure = let i = line_inside in search parts

      pub line_given : part_within (pointed (get_or row 3 0)) reals (get_or row 6 0) (get_or row 7 0) ≡ true
      unfolding line_within
      line_given = let i = line_inside in search parts

      pub line_step : (lanes : List ℕ) (x : Float) (given : List Float) → lanes ≡ cut lists (get_or row 1 0) (get_or row 2 0)
          → x ≡ measure (measured (get_or row 3 0)) reals (get_or row 5 0) → given ≡ part (pointed (get_or row 3 0)) reals (get_or row 6 0) (get_or row 7 0)
          → (old : Lent) (r : Reply) (new : Lent) → StepLeft (line_by lanes (get_or row 3 0) x given (get_or row 4 0)) old r new → StepLeft (line_row row lists reals) old r new
      unfolding line_row
      line_step lanes x given e₁ e₂ e₃ old r new s = rw (line_inside, ← e₁, ← e₂, ← e₃) s

  module _ (q : b ≡ signal_within row lists reals) where
    pub signal_none : not b ≡ true → (old : Lent) (r : Reply) (new : Lent) → StepLeft None old r new → StepLeft (signal_row row lists reals) old r new
    unfolding signal_row
    signal_none h old r new s = rw (← q, not-true b h) s

    module _ (h : not b ≡ false) where
      signal_inside : signal_within row lists reals ≡ true
      signal_inside = sym q ∙ not-false b h

      pub signal_lanes : get_or row 1 0 + get_or row 2 0 ≤ length lists
      unfolding signal_within
      signal_lanes = let i = signal_inside in leb-true _ _ (search parts)

      pub signal_measure : (m : Bool) → m ≡ light_measured row → part_within m reals (get_or row 20 0) 1 ≡ true
      unfolding signal_within
      signal_measure m e = let i = signal_inside in rw e (search parts)

      pub signal_height : part_within (flag (get_or row 7 0)) reals (get_or row 21 0) 1 ≡ true
      unfolding signal_within
      signal_height = let i = signal_inside in search parts

      pub signal_points_lem : part_within (light_pointed row) reals (get_or row 22 0) (get_or row 23 0) ≡ true
      unfolding signal_within
      signal_points_lem = let i = signal_inside in search parts

      pub signal_housing : part_within (flag (get_or row 6 0)) reals (get_or row 24 0) (get_or row 25 0) ≡ true
      unfolding signal_within
      signal_housing = let i = signal_inside in search parts

      pub signal_lamps : part_within (flag (get_or row 9 0)) reals (get_or row 26 0) (get_or row 27 0) ≡ true
      unfolding signal_within
      signal_lamps = let i = signal_inside in search parts

      pub signal_step : (m : Bool) → m ≡ light_measured row → (lanes ns : List ℕ) (x y : Float) → lanes ≡ cut lists (get_or row 1 0) (get_or row 2 0) → ns ≡ cut row 3 17
          → x ≡ measure m reals (get_or row 20 0) → y ≡ measure (flag (get_or row 7 0)) reals (get_or row 21 0) → (old : Lent) (r : Reply) (new : Lent)
          → StepLeft (light_by lanes ns x y (part (light_pointed row) reals (get_or row 22 0) (get_or row 23 0)) (part (flag (get_or row 6 0)) reals (get_or row 24 0) (get_or row 25 0)) (part (flag (get_or row 9 0)) reals (get_or row 26 0) (get_or row 27 0))) old r new
          → StepLeft (signal_row row lists reals) old r new
      unfolding signal_row
      signal_step m em lanes ns x y e₁ e₂ e₃ e₄ old r new s = rw (signal_inside, ← em, ← e₁, ← e₂, ← e₃, ← e₄) s

module _ (row lists : List ℕ) (b : Bool) (q : b ≡ links_within row lists) where
  pub links_none : not b ≡ true → (old : Lent) (r : Reply) (new : Lent) → StepLeft None old r new → StepLeft (links_row row lists) old r new
  unfolding links_row
  links_none h old r new s = rw (← q, not-true b h) s

  module _ (h : not b ≡ false) where
    links_inside : links_within row lists ≡ true
    links_inside = sym q ∙ not-false b h

    pub links_lanes : get_or row 1 0 + get_or row 2 0 ≤ length lists
    unfolding links_within
    links_lanes = let i = links_inside in leb-true _ _ (search parts)

    pub links_crosswalks : get_or row 4 0 + get_or row 5 0 ≤ length lists
    unfolding links_within
    links_crosswalks = let i = links_inside in leb-true _ _ (search parts)

    pub links_lines : get_or row 6 0 + get_or row 7 0 ≤ length lists
    unfolding links_within
    links_lines = let i = links_inside in leb-true _ _ (search parts)

    pub links_step : (lanes crosswalks stop_lines : List ℕ)
        → lanes ≡ cut lists (get_or row 1 0) (get_or row 2 0) → crosswalks ≡ cut lists (get_or row 4 0) (get_or row 5 0) → stop_lines ≡ cut lists (get_or row 6 0) (get_or row 7 0)
        → (old : Lent) (r : Reply) (new : Lent) → StepLeft (Some (links_by (get_or row 3 0) lanes crosswalks stop_lines)) old r new → StepLeft (links_row row lists) old r new
    unfolding links_row
    links_step lanes crosswalks stop_lines e₁ e₂ e₃ old r new s = rw (links_inside, ← e₁, ← e₂, ← e₃) s

-- ---- which call it is

module _ (row lists : List ℕ) (reals : List Float) (old : Lent) (r : Reply) (new : Lent) where
  pub is_line_lem : get_or row 0 0 ≡ 1 → StepLeft (line_row row lists reals) old r new → StepLeft (call_at row lists reals) old r new
  unfolding call_at
  is_line_lem q s = rw q s

  pub is_signal : get_or row 0 0 ≡ 2 → StepLeft (signal_row row lists reals) old r new → StepLeft (call_at row lists reals) old r new
  unfolding call_at
  is_signal q s = rw q s

  pub is_links : get_or row 0 0 ≡ 3 → StepLeft (links_row row lists) old r new → StepLeft (call_at row lists reals) old r new
  unfolding call_at
  is_links q s = rw q s

  pub is_none : (get_or row 0 0 ≡ 1 → ⊥) → (get_or row 0 0 ≡ 2 → ⊥) → (get_or row 0 0 ≡ 3 → ⊥) → StepLeft None old r new → StepLeft (call_at row lists reals) old r new
  unfolding call_at
  is_none a b c s = rw (ne_eqb _ 1 a, ne_eqb _ 2 b, ne_eqb _ 3 c) s
