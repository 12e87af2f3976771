-- Lifts noted in a change set: one rule's entry and warning, and over the rules that were passed.
use Prim.Native.Nat.{ℕ, zero, suc, ◌+◌, ◌≤◌, ◌<◌}
use mathlib.Core.Path.{◌≡◌, refl, sym, ◌∙◌}
use mathlib.Core.List.{List, [], ◌++◌, append-nil, append_assoc}
use native.Mathlib.Omega.{arith}
use lib.Ieee.{Float}
use lib.ListN.{get_or}
use Rattle.rows.specs.Lists.{list_to, joined}
use Rattle.store.specs.Layout.{SizedWords, limit_of, width_of, count_of, row_of, coords_of}
use Rattle.map.specs.Record.{Rule}
use Rattle.map.specs.Entity.{EntityRef, entity}
use Rattle.map.specs.Tables.{rule_in}
use Rattle.map.proofs.ReadLaws.{rule_number_lem}
use Rattle.map.proofs.UpdateLaws.{rule_wide}
use Rattle.changes.specs.ChangeSet.{ChangeSet, Warning}
use Rattle.changes.specs.Layout.{count_in, change_set_of}
use Rattle.sets.specs.Tables.{Roomy}
use Rattle.building.specs.Build.{EntryAdded, WarningAdded}
use Rattle.place.specs.Readable.{ReadableWords}
use Rattle.edit.specs.Light.{lift, eased_ref, gone_ref, lift_warning}
use Rattle.lifting.specs.declared.Lift.TheVariants.{Kept, Eased, Gone}
use Rattle.lifting.specs.declared.Lifting.{Lifting}
use Rattle.lifting.specs.Lifting.{entries_of, LiftRead}
use Rattle.lifting.specs.Noting.{with_notes, OneFits, LiftNoted, AllFit, LiftsNoted}
use Rattle.lifting.proofs.GoneLaws.{first_rules, all_rules, joined_next}

-- ---- one rule

no_notes : (c : ChangeSet) → c ≡ with_notes c [] [] []
no_notes c = rw (append-nil c.modified, append-nil c.deleted, append-nil c.warnings)

pub noted_none : (d : List ℕ) (n : ℕ) → OneFits d → LiftNoted d Kept n d
unfolding eased_ref gone_ref lift_warning
noted_none d n ok = record { room = ok.room; set = λ r ks e. no_notes (change_set_of d); created = refl; counts = λ l h. omega arith }

module _ (d : List ℕ) (n : ℕ) (one two : List ℕ) (w : WarningAdded one 4 8 n two) where
  up_to : (l : ℕ) → l < 3 → (m : ℕ) → m < 4 → EntryAdded d l (entity 8 n) one → count_in two m ≤ count_in d m + 1
  up_to l hl zero hm a = go l hl a
    where
      go : (l : ℕ) → l < 3 → EntryAdded d l (entity 8 n) one → count_in two 0 ≤ count_in d 0 + 1
      go zero h a = omega (arith, a.count, w.others 0 (omega arith))
      go (suc l) h a = omega (arith, a.others 0 (omega arith) (λ e. omega arith), w.others 0 (omega arith))
  up_to l hl (suc zero) hm a = go l hl a
    where
      go : (l : ℕ) → l < 3 → EntryAdded d l (entity 8 n) one → count_in two 1 ≤ count_in d 1 + 1
      go zero h a = omega (arith, a.others 1 (omega arith) (λ e. omega arith), w.others 1 (omega arith))
      go (suc zero) h a = omega (arith, a.count, w.others 1 (omega arith))
      go (suc (suc l)) h a = omega (arith, a.others 1 (omega arith) (λ e. omega arith), w.others 1 (omega arith))
  up_to l hl (suc (suc zero)) hm a = go l hl a
    where
      go : (l : ℕ) → l < 3 → EntryAdded d l (entity 8 n) one → count_in two 2 ≤ count_in d 2 + 1
      go zero h a = omega (arith, a.others 2 (omega arith) (λ e. omega arith), w.others 2 (omega arith))
      go (suc zero) h a = omega (arith, a.others 2 (omega arith) (λ e. omega arith), w.others 2 (omega arith))
      go (suc (suc zero)) h a = omega (arith, a.count, w.others 2 (omega arith))
      go (suc (suc (suc l))) h a = absurd (let z : ⊥ = omega arith in z)
  up_to l hl (suc (suc (suc m))) hm a =
      let e : suc (suc (suc m)) ≡ 3 = omega arith in
      rw e (omega (arith, a.others 3 (omega arith) (λ q. omega arith), w.count))

  pub noted_eased : EntryAdded d 1 (entity 8 n) one → LiftNoted d Eased n two
  unfolding eased_ref gone_ref lift_warning
  noted_eased a =
      record {
        room = w.room;
        set = λ r ks e. w.set ∙ rw (a.set, e, append-nil (change_set_of d).deleted);
        created = w.others 0 (omega arith) ∙ a.others 0 (omega arith) (λ e. omega arith);
        counts = λ l h. up_to 1 (omega arith) l h a;
      }

  pub noted_gone : EntryAdded d 2 (entity 8 n) one → LiftNoted d Gone n two
  unfolding eased_ref gone_ref lift_warning
  noted_gone a =
      record {
        room = w.room;
        set = λ r ks e. w.set ∙ rw (a.set, e, append-nil (change_set_of d).modified);
        created = w.others 0 (omega arith) ∙ a.others 0 (omega arith) (λ e. omega arith);
        counts = λ l h. up_to 2 (omega arith) l h a;
      }

pub warn_asks : (d : List ℕ) → OneFits d → (l n : ℕ) → l < 3 → (one : List ℕ) → EntryAdded d l (entity 8 n) one → Roomy one × (count_in one 3 < 160)
warn_asks d ok l n h one a = (a.room, omega (arith, a.others 3 (omega arith) (λ e. omega arith), ok.warnings))

-- ---- the rules that were passed

pub record Noting (ws : List ℕ) (s : ℕ) (lanes d : List ℕ) (n i : ℕ) (d' : List ℕ) : Type 0 where
  pub within : i ≤ n
  pub room : Roomy d'
  pub set : (cs : List Float) → change_set_of d'
      ≡ with_notes (change_set_of d)
      (joined (λ r. eased_ref r (lift s lanes r)) (first_rules ws cs i))
      (joined (λ r. gone_ref r (lift s lanes r)) (first_rules ws cs i))
      (joined (λ r. lift_warning r (lift s lanes r)) (first_rules ws cs i))
  pub created : count_in d' 0 ≡ count_in d 0
  pub counts : (l : ℕ) → l < 4 → count_in d' l ≤ count_in d l + i

pub noting_start : (ws : List ℕ) (s : ℕ) (lanes d : List ℕ) (n : ℕ) → AllFit d → Noting ws s lanes d n 0 d
unfolding list_to joined
noting_start ws s lanes d n ok = record { within = omega arith; room = ok.room; set = λ cs. no_notes (change_set_of d); created = refl; counts = λ l h. omega arith }

pub word_asks : (ws : List ℕ) → ReadableWords ws → (i : ℕ) → i < count_of ws 5 → SizedWords ws × (i < limit_of 5) × (0 < width_of 5)
word_asks ws ok i hi = (ok.sized, omega (arith, ok.sized.counts 5 (omega arith)), omega (arith, rule_wide))

notes_joined : (c : ChangeSet) (a b : List EntityRef) (w : List Warning) (a' b' : List EntityRef) (w' : List Warning) → with_notes (with_notes c a b w) a' b' w' ≡ with_notes c (a ++ a') (b ++ b') (w ++ w')
notes_joined c a b w a' b' w' = rw (append_assoc c.modified a a', append_assoc c.deleted b b', append_assoc c.warnings w w')

module _ (ws : List ℕ) (s : ℕ) (lanes d : List ℕ) (n i : ℕ) (d' : List ℕ) (inv : Noting ws s lanes d n i d') (few : n ≤ 128) where
  pub one_fits : AllFit d → i < n → OneFits d'
  one_fits ok h =
      record {
        room = inv.room;
        modified = omega (arith, inv.counts 1 (omega arith), ok.modified);
        deleted = omega (arith, inv.counts 2 (omega arith), ok.deleted);
        warnings = omega (arith, inv.counts 3 (omega arith), ok.warnings);
      }

  pub noting_next : i < n → (l : Lifting) → LiftRead ws i s lanes l → (x : ℕ) → x ≡ get_or (row_of ws 5 i) 0 0 → (d'' : List ℕ) → LiftNoted d' l.lift x d'' → Noting ws s lanes d n (i + 1) d''
  noting_next h l e x ex d'' q =
      record {
        within = omega arith;
        room = q.room;
        set = λ cs.
            let r : Rule = rule_in (row_of ws 5 i) (coords_of cs 5 i) in
            rw (joined_next (λ r. eased_ref r (lift s lanes r)) ws cs i, joined_next (λ r. gone_ref r (lift s lanes r)) ws cs i, joined_next (λ r. lift_warning r (lift s lanes r)) ws cs i)
            (q.set r (entries_of l.left) (rule_number_lem (row_of ws 5 i) (coords_of cs 5 i) ∙ sym ex) ∙ rw (e.answer (coords_of cs 5 i), inv.set cs) (notes_joined (change_set_of d) _ _ _ _ _ _));
        created = q.created ∙ inv.created;
        counts = λ m hm. omega (arith, q.counts m hm, inv.counts m hm);
      }

  pub noting_end : n ≤ i → n ≡ count_of ws 5 → LiftsNoted ws s lanes d d'
  noting_end h e =
      let w = inv.within in
      let q : i ≡ count_of ws 5 = omega arith in
      record { room = inv.room; set = λ cs. rw (all_rules ws cs i q) (inv.set cs); created = inv.created; counts = λ l hl. omega (arith, inv.counts l hl) }
