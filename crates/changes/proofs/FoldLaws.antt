-- Laws of the fold over the definitions: an empty set alters nothing, the lists of a fold are apart, and how long they are.
use mathlib.Core.Path.{◌≡◌, refl, sym, ap, ◌∙◌}
use mathlib.Core.Bool.{Bool, true, false, not, cond}
use mathlib.Core.List.{List, [], ◌∷◌, ◌++◌, append-nil}
use Prim.Native.Nat.{◌+◌, ◌≤◌}
use native.Mathlib.Omega.{arith}
use lib.ListN.{length, length-append}
use Rattle.rows.specs.Lists.{every, keep}
use Rattle.rows.proofs.Bools.{parts, and_i, and_l, and_r, clash}
use Rattle.map.specs.Entity.{EntityRef, listed}
use Rattle.changes.specs.ChangeSet.{ChangeSet, no_changes, sort_refs, without, normalize, fold_step}
use Rattle.changes.specs.ChangeFile.{rising_refs, apart, lists_apart, lists_ok}
use Rattle.changes.proofs.Refs.{listed_keep, listed_sort, every_listed, listed_every, sort_rising, rising_same, length_sort, length_without}
use Rattle.changes.proofs.EntryLaws.{entries_rise}

pub sort_sorted : (xs : List EntityRef) → rising_refs xs ≡ true → sort_refs xs ≡ xs
sort_sorted xs h = rising_same (sort_refs xs) xs (sort_rising xs) h (listed_sort xs)

keep_all : (p : EntityRef → Bool) (xs : List EntityRef) → every p xs ≡ true → keep p xs ≡ xs
unfolding every keep
keep_all p [] h = refl
keep_all p (x ∷ xs) h = go (p x) (keep_all p xs (search parts)) (search parts)
  where
    go : (b : Bool) → keep p xs ≡ xs → b ≡ true → cond b (x ∷ keep p xs) (keep p xs) ≡ x ∷ xs
    go true e q = ap (λ (l : List EntityRef). x ∷ l) e
    go false e q = clash q refl

pub without_apart : (xs ys : List EntityRef) → apart xs ys ≡ true → without xs ys ≡ xs
unfolding apart without
without_apart xs ys h = keep_all (λ a. not (listed ys a)) xs h

pub apart_back : (xs ys : List EntityRef) → apart xs ys ≡ true → apart ys xs ≡ true
unfolding apart
apart_back xs ys h = every_listed (λ a. not (listed xs a)) ys (λ a k. go a (listed xs a) refl k)
  where
    go : (a : EntityRef) (b : Bool) → listed xs a ≡ b → listed ys a ≡ true → not b ≡ true
    go a true e k = clash (listed_every (λ z. not (listed ys z)) xs a h e) (ap not k)
    go a false e k = refl

-- what is listed without ys is not listed in ys
pub without_apart_from : (xs ys : List EntityRef) → apart (without xs ys) ys ≡ true
unfolding apart without
without_apart_from xs ys = every_listed (λ a. not (listed ys a)) (keep (λ a. not (listed ys a)) xs) (λ a k. and_r (listed xs a) (not (listed ys a)) (sym (listed_keep (λ b. not (listed ys b)) xs a) ∙ k))

-- a set whose lists are those of a set file is normalized
pub normal_same : (c : ChangeSet) → lists_ok c ≡ true → normalize c ≡ c
unfolding normalize lists_ok lists_apart
normal_same c h =
    rw (
      sort_sorted c.created (entries_rise c.created (search parts)),
      sort_sorted c.modified (entries_rise c.modified (search parts)),
      sort_sorted c.deleted (entries_rise c.deleted (search parts)),
      without_apart c.created c.deleted (search parts),
      without_apart c.modified c.created (apart_back c.created c.modified (search parts)),
      without_apart c.modified c.deleted (search parts),
      without_apart c.deleted c.created (apart_back c.created c.deleted (search parts)),
    )

-- a fold without warnings, with the empty set
pub fold_nothing : (f : ChangeSet) → lists_ok f ≡ true → f.warnings ≡ [] → fold_step f no_changes ≡ f
unfolding fold_step
fold_nothing f h w = rw (append-nil f.created, append-nil f.modified, append-nil f.deleted, ← w) (normal_same f h)

-- ---- apart, by what is listed
apart_if : (xs ys : List EntityRef) → ((a : EntityRef) → listed xs a ≡ true → listed ys a ≡ true → ⊥) → apart xs ys ≡ true
unfolding apart
apart_if xs ys f = every_listed (λ a. not (listed ys a)) xs (λ a k. go a (listed ys a) refl k)
  where
    go : (a : EntityRef) (b : Bool) → listed ys a ≡ b → listed xs a ≡ true → not b ≡ true
    go a true e k = absurd (f a k e)
    go a false e k = refl

-- what stays of a sorted list was in it, and is not in what was taken out
stays : (xs ys : List EntityRef) (a : EntityRef) → listed (without xs ys) a ≡ true → listed xs a ≡ true
unfolding without
stays xs ys a k = and_l (listed xs a) (not (listed ys a)) (sym (listed_keep (λ b. not (listed ys b)) xs a) ∙ k)

is_out : (xs ys : List EntityRef) (a : EntityRef) → listed (without xs ys) a ≡ true → listed ys a ≡ true → ⊥
is_out xs ys a k l = clash (listed_every (λ z. not (listed ys z)) (without xs ys) a (unfold apart in without_apart_from xs ys) k) (ap not l)

sorted_has : (xs : List EntityRef) (a : EntityRef) → listed (sort_refs xs) a ≡ true → listed xs a ≡ true
sorted_has xs a k = sym (listed_sort xs a) ∙ k

-- no entry of a normalized set is in two lists
pub normal_apart : (c : ChangeSet) → lists_apart (normalize c) ≡ true
unfolding lists_apart normalize
normal_apart c =
    and_i _ _
    (and_i _ _
    (apart_if _ _ (λ a k l. is_out (sort_refs c.modified) c.created a (stays _ c.deleted a l) (sorted_has c.created a (stays (sort_refs c.created) c.deleted a k))))
    (apart_if _ _ (λ a k l. is_out (sort_refs c.created) c.deleted a k (sorted_has c.deleted a (stays (sort_refs c.deleted) c.created a l)))))
    (apart_if _ _ (λ a k l. is_out (without (sort_refs c.modified) c.created) c.deleted a k (sorted_has c.deleted a (stays (sort_refs c.deleted) c.created a l))))

pub fold_apart : (f c : ChangeSet) → lists_apart (fold_step f c) ≡ true
unfolding fold_step
fold_apart f c = normal_apart _

-- ---- counts: no list of a normalized set is longer than it was, and none of a fold longer than its two parts
pub normal_counts : (c : ChangeSet)
    → (length (normalize c).created ≤ length c.created) × (length (normalize c).modified ≤ length c.modified) × (length (normalize c).deleted ≤ length c.deleted)
unfolding normalize
normal_counts c =
    let a = length_without (sort_refs c.created) c.deleted in
    let b = length_sort c.created in
    let d = length_without (without (sort_refs c.modified) c.created) c.deleted in
    let e = length_without (sort_refs c.modified) c.created in
    let f = length_sort c.modified in
    let g = length_without (sort_refs c.deleted) c.created in
    let h = length_sort c.deleted in
    (omega arith, omega arith, omega arith)

pub fold_counts : (f c : ChangeSet)
    → (length (fold_step f c).created ≤ length f.created + length c.created) × (length (fold_step f c).modified ≤ length f.modified + length c.modified)
    × (length (fold_step f c).deleted ≤ length f.deleted + length c.deleted)
unfolding fold_step
fold_counts f c =
    let n = normal_counts (record { created = f.created ++ c.created; modified = f.modified ++ c.modified; deleted = f.deleted ++ c.deleted; warnings = [] }) in
    let a = length-append f.created c.created in
    let b = length-append f.modified c.modified in
    let d = length-append f.deleted c.deleted in
    let x = n.0 in
    let y = n.1 in
    let z = n.2 in
    (omega arith, omega arith, omega arith)
