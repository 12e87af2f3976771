-- 12 and 13: each answer of `check_lent`. Assumes nothing.
use Prim.Native.Nat.{ℕ}
use mathlib.Core.Path.{◌≡◌, refl, sym, ◌∙◌}
use mathlib.Core.Bool.{Bool, true, false, not, ◌&&◌}
use mathlib.Core.List.{List, []}
use borrow.Author.Tests.{not-true, not-false, eq-eqb, ne_eqb}
use lib.Dec.{eqb}
use lib.Ieee.{Float}
use lib.ListN.{length}
use Rattle.refusal.specs.Answer.{done, refused_as, refuse_when}
use Rattle.refusal.specs.declared.Refusal.TheVariants.{BadMap, BadSet}
use Rattle.store.specs.Layout.{SizedWords}
use Rattle.map.specs.Tables.{is_map_tables}
use Rattle.map.proofs.SoundLaws.{sound}
use Rattle.changes.specs.declared.Tally.{Tally}
use Rattle.changes.specs.ChangeFile.{lists_ok}
use Rattle.changes.specs.Layout.{set_words, change_set_of}
use Rattle.changes.specs.Running.{fold_ok}
use Rattle.running.specs.Tested.{FoldTested}
use Rattle.edit.specs.Lent.{Lent, state_of}
use Rattle.finishing.specs.Finish.{lent_checks}

-- the set's length, tested between the fold's length and the rest
moved : (f s l o : Bool) → (f && s && (l && o)) ≡ (s && (f && l && o))
moved true true l o = refl
moved true false l o = refl
moved false true l o = refl
moved false false l o = refl

module _ (ws : List ℕ) (cs : List Float) (f : List ℕ) (t : Tally) (s : List ℕ) (p : Bool) (e : p ≡ is_map_tables ws cs) where
  abbrev lent : Lent
  lent = record { words = ws; coords = cs; fold = f; tally = t; set = s }

  pub no_map_lem : not p ≡ true → refused_as BadMap ≡ lent_checks lent
  unfolding lent_checks
  no_map_lem n = rw (← e, not-true p n)

  module _ (n : not p ≡ false) where
    pub words_sized : SizedWords ws
    words_sized = (sound ws cs (sym e ∙ not-false p n)).sized.words

    pub no_set_lem : (length s ≡ set_words → ⊥) → refused_as BadSet ≡ lent_checks lent
    unfolding lent_checks
    no_set_lem q = rw (← e, not-false p n, moved (eqb (length f) set_words) (eqb (length s) set_words) (lists_ok (change_set_of f)) (fold_ok (state_of lent)), ne_eqb (length s) set_words q)

    module _ (q : length s ≡ set_words) (b : Bool) (h : FoldTested ws f t b) where
      tested : lent_checks lent ≡ refuse_when (not b) 13 []
      unfolding lent_checks
      tested = rw (← e, not-false p n, moved (eqb (length f) set_words) (eqb (length s) set_words) (lists_ok (change_set_of f)) (fold_ok (state_of lent)), eq-eqb (length s) set_words q, h.answer cs)

      pub no_fold : not b ≡ true → refused_as BadSet ≡ lent_checks lent
      no_fold k = sym (tested ∙ rw (not-true b k))

      pub all_fine : not b ≡ false → done tt ≡ lent_checks lent
      all_fine k = sym (tested ∙ rw (not-false b k))
