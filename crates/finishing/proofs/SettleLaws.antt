-- A set normalized and folded: what settling it answers, and what taking it in leaves. Assumes nothing.
use Prim.Native.Nat.{ℕ, zero, suc, ◌+◌, ◌≤◌, ◌<◌}
use mathlib.Core.Path.{◌≡◌, refl, sym, ap, ◌∙◌}
use mathlib.Core.Bool.{Bool, true, false, not, ◌&&◌}
use mathlib.Core.List.{List, [], ◌++◌, append-nil}
use native.Mathlib.Omega.{arith}
use Rattle.std.specs.Prelude.{Ok, Err}
use lib.Dec.{leb}
use lib.ListN.{length, get_or, drop, length-append}
use lib.Seq.{take-length, drop-length}
use borrow.Author.Tests.{le-leb, leb-true, lt-leb}
use Rattle.rows.specs.Rows.{pasted}
use Rattle.rows.proofs.Bools.{and_no}
use Rattle.refusal.specs.Answer.{done, refused_as, refuse_when, ◌>>◌}
use Rattle.refusal.specs.declared.Refusal.{Refusal}
use Rattle.refusal.specs.declared.Refusal.TheVariants as e
use Rattle.map.specs.Entity.{EntityRef}
use Rattle.changes.specs.ChangeFile.{rising_refs}
use Rattle.changes.specs.ChangeSet.{ChangeSet, sort_refs, without, normalize, fold_step}
use Rattle.changes.specs.Layout.{set_words, count_in, list_in, change_set_of, lists_ok_in}
use Rattle.changes.specs.Running.{fold_fits}
use Rattle.changes.proofs.Refs.{sort_rising, length_sort, length_without}
use Rattle.sets.specs.Tables.{Fits}
use Rattle.sets.specs.Fold.{Folded, folded_as, fold_fitted, FoldsTo}
use Rattle.sets.proofs.ListLaws.{without_rises}
use Rattle.sets.proofs.SettleLaws.{length_in}
use Rattle.sets.proofs.TableLaws.{fits_ok}
use Rattle.normal.specs.Normal.{Normalized}
use Rattle.normal.proofs.SortLaws.{normal_already}
use Rattle.finishing.specs.Finish.{settled, RoomyAll, Few, is_few, FoldRoom, Tried, SettlesTable, TakenIn}

-- ---- a normalized list rises and is no longer than it was

normal_created : (c : ChangeSet) → (length (normalize c).created ≤ length c.created) × (rising_refs (normalize c).created ≡ true)
unfolding normalize
normal_created c =
    (let a = length_without (sort_refs c.created) c.deleted in let b = length_sort c.created in omega arith, without_rises (sort_refs c.created) c.deleted (sort_rising c.created))

normal_modified : (c : ChangeSet) → (length (normalize c).modified ≤ length c.modified) × (rising_refs (normalize c).modified ≡ true)
unfolding normalize
normal_modified c = (
  let a = length_without (without (sort_refs c.modified) c.created) c.deleted in
      let b = length_without (sort_refs c.modified) c.created in
      let d = length_sort c.modified in
      omega arith,
  without_rises (without (sort_refs c.modified) c.created) c.deleted (without_rises (sort_refs c.modified) c.created (sort_rising c.modified)),
)

normal_deleted : (c : ChangeSet) → (length (normalize c).deleted ≤ length c.deleted) × (rising_refs (normalize c).deleted ≡ true)
unfolding normalize
normal_deleted c =
    (let a = length_without (sort_refs c.deleted) c.created in let b = length_sort c.deleted in omega arith, without_rises (sort_refs c.deleted) c.created (sort_rising c.deleted))

-- ---- the normalized table

module _ (d d' : List ℕ) (ok : RoomyAll d) (n : Normalized d d') where
  one : (l : ℕ) (xs ys : List EntityRef) → list_in d' l ≡ xs → (length xs ≤ length ys) × (rising_refs xs ≡ true) → ys ≡ list_in d l → count_in d l ≤ 512 → (count_in d' l ≤ 512) × (rising_refs (list_in d' l) ≡ true)
  one l xs ys e h q f = (
    let a = length_in d' l in
        let b = length_in d l in
        let u = ap length e in
        let v = ap length q in
        let w = h.0 in
        omega arith,
    rw e h.1,
  )

  each : (l : ℕ) → l < 3 → (count_in d' l ≤ 512) × (rising_refs (list_in d' l) ≡ true)
  unfolding change_set_of
  each zero h = one 0 _ _ (ap (λ (c : ChangeSet). c.created) n.set) (normal_created (change_set_of d)) refl (ok.lists.few 0 h)
  each (suc zero) h = one 1 _ _ (ap (λ (c : ChangeSet). c.modified) n.set) (normal_modified (change_set_of d)) refl (ok.lists.few 1 h)
  each (suc (suc zero)) h = one 2 _ _ (ap (λ (c : ChangeSet). c.deleted) n.set) (normal_deleted (change_set_of d)) refl (ok.lists.few 2 h)
  each (suc (suc (suc l))) h = absurd (let z : ⊥ = omega arith in z)

  pub normal_fits : Fits d'
  normal_fits = record { room = record { size = n.size; few = λ l h. (each l h).0 }; rises = λ l h. (each l h).1 }

-- ---- each answer

pub settle_asks : (f d d' : List ℕ) → lists_ok_in f ≡ true → RoomyAll d → Normalized d d' → Fits f × Fits d'
settle_asks f d d' okf ok n = (fits_ok f okf, normal_fits d d' ok n)

few_fits : (f c : ChangeSet) → length f.created ≤ 256 → length f.modified ≤ 256 → length f.deleted ≤ 256 → Few c → fold_fits (fold_step f (normalize c)) ≡ true
unfolding fold_fits fold_step
few_fits f c a b d few = rw (
  le-leb (length (normalize g).created) 512 (omega (arith, (normal_created g).0, length-append f.created (normalize c).created, (normal_created c).0, few.created)),
  le-leb (length (normalize g).modified) 512 (omega (arith, (normal_modified g).0, length-append f.modified (normalize c).modified, (normal_modified c).0, few.modified)),
  le-leb (length (normalize g).deleted) 512 (omega (arith, (normal_deleted g).0, length-append f.deleted (normalize c).deleted, (normal_deleted c).0, few.deleted)),
)
  where
    g : ChangeSet
    g = record { created = f.created ++ (normalize c).created; modified = f.modified ++ (normalize c).modified; deleted = f.deleted ++ (normalize c).deleted; warnings = [] }

pub fold_long : (f : List ℕ) → lists_ok_in f ≡ true → length f ≡ set_words
fold_long f h = (fits_ok f h).room.size

-- ---- whether the fold has room

-- few entries, by the table's counts
few_counts : (f : List ℕ) → is_few (change_set_of f) ≡ (leb (get_or f 0 0) 256 && leb (get_or f 1 0) 256 && leb (get_or f 2 0) 256)
unfolding is_few change_set_of count_in
few_counts f = rw (length_in f 0, length_in f 1, length_in f 2)

no_room : (f : List ℕ) (late : Bool) → (not late && is_few (change_set_of f)) ≡ false → FoldRoom f late false
no_room f late e = record { exact = sym e; fine = λ q. let z : ◌≡◌ {A = ℕ} 0 1 = cc in absurd (omega arith) }

pub late_room : (f : List ℕ) (late : Bool) → late ≡ true → FoldRoom f late false
late_room f late t = no_room f late (rw t)

pub created_room : (f : List ℕ) (late : Bool) → 256 < get_or f 0 0 → FoldRoom f late false
created_room f late h = no_room f late (rw (few_counts f, lt-leb (get_or f 0 0) 256 h) (and_no (not late)))

pub modified_room : (f : List ℕ) (late : Bool) → 256 < get_or f 1 0 → FoldRoom f late false
modified_room f late h = no_room f late (rw (few_counts f, lt-leb (get_or f 1 0) 256 h, and_no (leb (get_or f 0 0) 256)) (and_no (not late)))

pub has_room : (f : List ℕ) (late : Bool) → late ≡ false → get_or f 0 0 ≤ 256 → get_or f 1 0 ≤ 256 → FoldRoom f late (leb (get_or f 2 0) 256)
unfolding settled change_set_of count_in
has_room f late t a b = record {
  exact = rw (t, few_counts f, le-leb (get_or f 0 0) 256 a, le-leb (get_or f 1 0) 256 b);
  fine = λ q c few. rw (
    t,
    few_fits (change_set_of f) c (omega (arith, length_in f 0)) (omega (arith, length_in f 1)) (omega (arith, length_in f 2, leb-true (get_or f 2 0) 256 q)) few,
  );
}

pub copied : (d f d' : List ℕ) → length d ≡ length f → d' ≡ pasted d 0 f (length f) → d' ≡ f
unfolding pasted
copied d f d' e q = q ∙ ap (λ (x : List ℕ). x ++ drop (0 + length f) d) (take-length f) ∙ ap (λ (x : List ℕ). f ++ x) rest ∙ append-nil f
  where
    rest : drop (0 + length f) d ≡ []
    rest = ap (λ (n : ℕ). drop n d) (let z : 0 + length f ≡ length d = omega arith in z) ∙ drop-length d

module _ (f d : List ℕ) (late : Bool) (g : List ℕ) (eg : g ≡ f) (q : Folded) (g' d' : List ℕ) (h : Tried g d q g' d') where
  abbrev fits : Bool
  fits = fold_fits (fold_step (change_set_of f) (normalize (change_set_of d)))

  answer_is : folded_as q (change_set_of g') ≡ (refuse_when (not fits) 10 [] >> done (fold_step (change_set_of f) (normalize (change_set_of d))))
  unfolding fold_fitted
  answer_is = h.fold.answer ∙ rw (eg, h.set.set)

  pub settles_refused : (x : Refusal) → q ≡ Err x → SettlesTable f d late (Err x) d'
  unfolding settled
  settles_refused x e = record { tried = record { answer = go fits (fold_step (change_set_of f) (normalize (change_set_of d))) (sym (ap (λ (y : Folded). folded_as y (change_set_of g')) e) ∙ answer_is) }; set = h.set }
    where
      go : (b : Bool) (w : ChangeSet) → refused_as x ≡ (refuse_when (not b) 10 [] >> done w) → refused_as x ≡ (refuse_when (not b) 10 [] >> refuse_when late 11 [])
      go true w z = absurd (let y : ◌≡◌ {A = ℕ} 0 1 = cc in omega arith)
      go false w z = cc

  does_fit : {v : Unit {0}} → q ≡ Ok v → fits ≡ true
  does_fit e = go fits (fold_step (change_set_of f) (normalize (change_set_of d))) (sym (ap (λ (y : Folded). folded_as y (change_set_of g')) e) ∙ answer_is)
    where
      go : (b : Bool) (w : ChangeSet) → done (change_set_of g') ≡ (refuse_when (not b) 10 [] >> done w) → b ≡ true
      go true w z = refl
      go false w z = absurd (let y : ◌≡◌ {A = ℕ} 0 1 = cc in omega arith)

  pub settles_late : {v : Unit {0}} → q ≡ Ok v → late ≡ true → SettlesTable f d late (Err e.NumbersSpent) d'
  unfolding settled
  settles_late e t = record { tried = record { answer = rw (does_fit e, t) }; set = h.set }

  pub settles_fine : {v : Unit {0}} → q ≡ Ok v → late ≡ false → SettlesTable f d late (Ok tt) d'
  unfolding settled
  settles_fine e t = record { tried = record { answer = rw (does_fit e, t) }; set = h.set }

pub already : (d : List ℕ) (p : Bool) → p ≡ lists_ok_in d → p ≡ true → Normalized d d
already d p e t = normal_already d p e (rw t)

pub few_asks : (f d : List ℕ) → lists_ok_in f ≡ true → (p : Bool) → p ≡ lists_ok_in d → p ≡ true → Fits f × Fits d
few_asks f d okf p e t = (fits_ok f okf, fits_ok d (sym e ∙ t))

pub taken_in : (f d d' : List ℕ) → Normalized d d' → fold_fits (fold_step (change_set_of f) (normalize (change_set_of d))) ≡ true → (q : Folded) (f' : List ℕ) → FoldsTo f d' q f' → TakenIn f d f' d'
unfolding fold_fitted
taken_in f d d' n fits q f' h = record { set = n.set; fold = go q (h.answer ∙ rw (n.set, fits)) }
  where
    go : (y : Folded) → folded_as y (change_set_of f') ≡ done (fold_step (change_set_of f) (normalize (change_set_of d))) → change_set_of f' ≡ fold_step (change_set_of f) (normalize (change_set_of d))
    go (Ok v) z = cc
    go (Err x) z = absurd (let y : ◌≡◌ {A = ℕ} 0 1 = cc in omega arith)

pub ruleset settling = (late_room, created_room, modified_room, has_room)
