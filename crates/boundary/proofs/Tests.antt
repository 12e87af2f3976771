-- Tests that the code makes one after another, and the conjunction that they decide. Assumes nothing.
use mathlib.Core.Path.{◌≡◌, sym, ◌∙◌}
use mathlib.Core.Bool.{Bool, true, false, not, ◌&&◌}
use borrow.Author.Tests.{not-true, not-false}
use Rattle.rows.proofs.Bools.{and_i, and_no}

pub fails_l : (a b : Bool) → false ≡ a → false ≡ (a && b)
fails_l a b h = rw (← h)

pub fails_r : (a b : Bool) → false ≡ b → false ≡ (a && b)
fails_r a b h = rw (← h) (sym (and_no a))

pub failed : (r a : Bool) → r ≡ a → not r ≡ true → false ≡ a
failed r a e h = sym (sym e ∙ not-true r h)

pub passed : (r a : Bool) → r ≡ a → not r ≡ false → a ≡ true
passed r a e h = sym e ∙ not-false r h

pub last_test : (a b r : Bool) → a ≡ true → r ≡ b → r ≡ (a && b)
last_test a b r h e = rw h e

pub ruleset tests = (fails_l, fails_r, failed, passed, last_test, and_i)
