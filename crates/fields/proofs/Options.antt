-- Options: a flag, and what follows where it says yes.
use Prim.Native.Nat.{ℕ, ◌+◌, ◌≤◌, ◌<◌}
use mathlib.Core.Path.{◌≡◌, sym, ◌∙◌}
use mathlib.Core.Logic.{inl}
use mathlib.Core.Bool.{true, false}
use mathlib.Core.List.{List}
use native.Mathlib.Omega.{arith}
use lib.Ieee.{Float}
use lib.ListN.{get_or}
use borrow.Author.Tests.{eq-eqb, ne_eqb}
use Rattle.codec.specs.Format.{Bytes, no_true}
use Rattle.codec.specs.Number.{number}
use Rattle.map.specs.MapFile.{height, polyline}
use Rattle.map.specs.Tables.{flag_at}
use Rattle.fields.specs.Fields.{Place, Changed, largest, Word, Cells, cell_at, Line, OptionLine, OptionNumber, OptionHeight}
use Rattle.fields.proofs.Places.{unchanged, changed_both, range_any, option_none, option_some}

module _ (s : Bytes) (p : Place) (ws : List ℕ) (o : ℕ) (q : Place) (ws1 : List ℕ) (w : Word 0 1 s p ws o q ws1) where
  module _ (z : get_or ws1 o 0 ≡ 0) where
    no_flag : flag_at ws1 o ≡ false
    unfolding flag_at
    no_flag = rw (eq-eqb (get_or ws1 o 0) 0 z)

    wider : (b : ℕ) → o + 1 ≤ b → Changed ws o b ws1
    wider b h = changed_both ws ws1 ws1 o b o (o + 1) o o w.words (unchanged ws1 o o) (omega arith) (omega arith) (omega arith) (omega arith)

    pub no_line : (cs : List Float) (c : ℕ) → OptionLine s p ws o cs c q ws1 cs
    no_line cs c =
        record { words = wider (o + 2) (omega arith); coords = unchanged cs c (c + 192); few = λ h. absurd (no_true (sym no_flag ∙ h)); is = rw no_flag (option_none polyline s p q (get_or ws1 o 0) z w.is) }

    pub no_number : OptionNumber s p ws o q ws1
    no_number = record { words = wider (o + 2) (omega arith); is = rw no_flag (option_none number s p q (get_or ws1 o 0) z w.is) }

    pub no_height : (cs : List Float) (c : ℕ) → OptionHeight s p ws o cs c q ws1 cs
    no_height cs c = record { words = w.words; coords = unchanged cs c (c + 1); is = rw no_flag (option_none height s p q (get_or ws1 o 0) z w.is) }

  module _ (z : get_or ws1 o 0 ≡ 0 → ⊥) where
    a_flag : flag_at ws1 o ≡ true
    unfolding flag_at
    a_flag = rw (ne_eqb (get_or ws1 o 0) 0 z)

    flag_kept : (ws2 : List ℕ) (a b : ℕ) → Changed ws1 a b ws2 → o < a → flag_at ws2 o ≡ true
    unfolding flag_at
    flag_kept ws2 a b k h = rw (k.kept 0 o (inl h)) a_flag

    pub some_line : (cs : List Float) (c : ℕ) (r : Place) (ws2 : List ℕ) (cs2 : List Float) → Line s q ws1 (o + 1) cs c r ws2 cs2 → OptionLine s p ws o cs c r ws2 cs2
    some_line cs c r ws2 cs2 x =
        record {
          words = changed_both ws ws1 ws2 o (o + 2) o (o + 1) (o + 1) (o + 1 + 1) w.words x.words (omega arith) (omega arith) (omega arith) (omega arith);
          coords = x.coords;
          few = λ h. x.few;
          is = rw (flag_kept ws2 (o + 1) (o + 1 + 1) x.words (omega arith)) (option_some polyline s p q r (get_or ws1 o 0) _ z w.is x.is);
        }

    pub some_number : (r : Place) (ws2 : List ℕ) → Word 0 largest s q ws1 (o + 1) r ws2 → OptionNumber s p ws o r ws2
    some_number r ws2 x =
        record {
          words = changed_both ws ws1 ws2 o (o + 2) o (o + 1) (o + 1) (o + 1 + 1) w.words x.words (omega arith) (omega arith) (omega arith) (omega arith);
          is = rw (flag_kept ws2 (o + 1) (o + 1 + 1) x.words (omega arith)) (option_some number s p q r (get_or ws1 o 0) _ z w.is (x.is ∙ range_any s q));
        }

    pub some_height : (cs : List Float) (c : ℕ) (r : Place) (cs2 : List Float) → Cells height 1 cell_at s q cs c r cs2 → OptionHeight s p ws o cs c r ws1 cs2
    some_height cs c r cs2 x = record { words = w.words; coords = x.coords; is = rw a_flag (option_some height s p q r (get_or ws1 o 0) _ z w.is x.is) }

pub ruleset reading_option = (no_line, no_number, no_height, some_line, some_number, some_height)
