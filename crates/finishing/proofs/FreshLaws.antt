-- New records have numbers that no fold of the map names. So whether a fold fits goes by how many are new, and not by their numbers. Assumes nothing.
use Prim.Native.Nat.{ℕ, suc, ◌+◌, ◌≤◌, ◌<◌, Ordering}
use mathlib.Core.Path.{◌≡◌, refl, sym, ap, ◌∙◌}
use mathlib.Core.Bool.{Bool, true, false, not, ◌&&◌, ◌||◌, cond}
use mathlib.Core.List.{List, [], ◌∷◌, ◌++◌}
use native.Mathlib.Omega.{arith}
use lib.Dec.{ltb, leb}
use lib.ListN.{length}
use borrow.Author.Tests.{ltb-true, leb-true}
use Rattle.rows.specs.Lists.{every, keep, by_order}
use Rattle.rows.proofs.Bools.{parts, and_l, clash}
use Rattle.map.specs.Entity.{EntityRef, compare_refs, same_ref, listed}
use Rattle.changes.specs.ChangeFile.{rising_refs, apart, lists_ok}
use Rattle.changes.specs.ChangeSet.{ChangeSet, insert_ref, sort_refs, without, normalize, fold_step}
use Rattle.changes.specs.Running.{State, all_below, fold_ok, fold_fits}
use Rattle.changes.proofs.Refs.{same_self, order_eq, earlier_self, listed-append, listed_keep, listed_sort, every_listed, listed_every, rise_later, rise_rising}
use Rattle.changes.proofs.WalkLaws.{keep_same}
use Rattle.changes.proofs.EntryLaws.{entries_rise}
use Rattle.changes.proofs.FoldLaws.{sort_sorted, without_apart}

-- ---- numbers below n, and from n on

abbrev pub Below : ℕ → List EntityRef → Type 0
Below n xs = (a : EntityRef) → listed xs a ≡ true → a.num < n

pub record New (n : ℕ) (xs : List EntityRef) : Type 0 where
  pub rises : rising_refs xs ≡ true
  pub from : (a : EntityRef) → listed xs a ≡ true → n ≤ a.num

pub below_all : (n : ℕ) (xs : List EntityRef) → all_below n xs ≡ true → Below n xs
unfolding all_below
below_all n xs h a k = ltb-true a.num n (listed_every (λ z. ltb z.num n) xs a h k)

pub new_all : (n : ℕ) (xs : List EntityRef) → rising_refs xs ≡ true → every (λ a. leb n a.num) xs ≡ true → New n xs
new_all n xs r h = record { rises = r; from = λ a k. leb-true n a.num (listed_every (λ z. leb n z.num) xs a h k) }

below_sort : (n : ℕ) (xs : List EntityRef) → Below n xs → Below n (sort_refs xs)
below_sort n xs h a k = h a (sym (listed_sort xs a) ∙ k)

below_without : (n : ℕ) (xs ys : List EntityRef) → Below n xs → Below n (without xs ys)
unfolding without
below_without n xs ys h a k = h a (and_l (listed xs a) (not (listed ys a)) (sym (listed_keep (λ b. not (listed ys b)) xs a) ∙ k))

below_join : (n : ℕ) (xs ys : List EntityRef) → Below n xs → Below n ys → Below n (xs ++ ys)
below_join n xs ys h g a k = go (listed xs a) refl (sym (listed-append xs ys a) ∙ k)
  where
    go : (b : Bool) → listed xs a ≡ b → (b || listed ys a) ≡ true → a.num < n
    go true e q = h a e
    go false e q = g a q

module _ (n : ℕ) (ys : List EntityRef) (new : New n ys) where
  -- no entry below n is among them
  not_new : (a : EntityRef) → a.num < n → listed ys a ≡ false
  not_new a h = go (listed ys a) refl
    where
      go : (b : Bool) → listed ys a ≡ b → b ≡ false
      go true e = let u = new.from a e in absurd (omega arith)
      go false e = refl

  new_stay : (zs : List EntityRef) → Below n zs → without ys zs ≡ ys
  new_stay zs h = without_apart ys zs (unfold apart in every_listed (λ a. not (listed zs a)) ys (λ a k. go a k (listed zs a) refl))
    where
      go : (a : EntityRef) → listed ys a ≡ true → (b : Bool) → listed zs a ≡ b → not b ≡ true
      go a k true e = clash k (not_new a (h a e))
      go a k false e = refl

-- what is taken out of entries below n: which new ones are in the list does not matter
without_new : (n : ℕ) (zs xs ys ys' : List EntityRef) → Below n zs → New n ys → New n ys' → without zs (xs ++ ys) ≡ without zs (xs ++ ys')
unfolding without
without_new n zs xs ys ys' h g g' =
    keep_same _ _ zs (λ a k. ap not (listed-append xs ys a ∙ ap (λ (b : Bool). listed xs a || b) (not_new n ys g a (h a k) ∙ sym (not_new n ys' g' a (h a k))) ∙ sym (listed-append xs ys' a)))

-- ---- how many there are

-- an entry that was not there is one more
keep_insert : (p : EntityRef → Bool) (a : EntityRef) (l : List EntityRef) → listed l a ≡ false → length (keep p (insert_ref a l)) ≡ length (keep p (a ∷ l))
unfolding keep insert_ref listed
keep_insert p a [] h = refl
keep_insert p a (x ∷ l) h = go (compare_refs a x) refl (keep_insert p a l (no_r (same_ref x a) (listed l a) h))
  where
    no_r : (b c : Bool) → (b || c) ≡ false → c ≡ false
    no_r true c e = clash refl e
    no_r false c e = e

    swap : (b c : Bool) (y z : EntityRef) (us vs : List EntityRef) → length vs ≡ length (cond c (z ∷ us) us)
        → length (cond b (y ∷ vs) vs) ≡ length (cond c (z ∷ cond b (y ∷ us) us) (cond b (y ∷ us) us))
    swap true true y z us vs e = ap suc e
    swap true false y z us vs e = ap suc e
    swap false true y z us vs e = e
    swap false false y z us vs e = e

    go : (o : Ordering) → compare_refs a x ≡ o → length (keep p (insert_ref a l)) ≡ length (keep p (a ∷ l))
        → length (keep p (by_order o (a ∷ x ∷ l) (x ∷ l) (x ∷ insert_ref a l))) ≡ length (keep p (a ∷ x ∷ l))
    go Ordering.lt e q = refl
    go Ordering.eq e q = clash (ap (λ (z : EntityRef). same_ref x z || listed l z) (order_eq a x e) ∙ rw (same_self x)) h
    go Ordering.gt e q = swap (p x) (p a) x a (keep p l) (keep p (insert_ref a l)) q

count_new : (n : ℕ) (p : EntityRef → Bool) (xs ys : List EntityRef) → rising_refs xs ≡ true → Below n xs → New n ys → keep p ys ≡ ys
    → length (keep p (sort_refs (xs ++ ys))) ≡ length (keep p xs) + length ys
unfolding keep sort_refs listed rising_refs
count_new n p [] ys r h g e = rw (sort_sorted ys g.rises, e) (let z : length ys ≡ 0 + length ys = omega arith in z)
count_new n p (x ∷ xs) ys r h g e =
    keep_insert p x (sort_refs (xs ++ ys)) (listed_sort (xs ++ ys) x ∙ listed-append xs ys x ∙ rw (own (listed xs x) refl, not_new n ys g x (h x (rw (same_self x)))))
    ∙ go (p x) (count_new n p xs ys (rise_rising x xs r) (λ a k. h a (later (same_ref x a) k)) g e)
  where
    later : (b : Bool) {c : Bool} → c ≡ true → (b || c) ≡ true
    later true k = refl
    later false k = k

    own : (b : Bool) → listed xs x ≡ b → b ≡ false
    own true q = absurd (earlier_self (rise_later x x xs r q))
    own false q = refl

    go : (b : Bool) → length (keep p (sort_refs (xs ++ ys))) ≡ length (keep p xs) + length ys
        → length (cond b (x ∷ keep p (sort_refs (xs ++ ys))) (keep p (sort_refs (xs ++ ys)))) ≡ length (cond b (x ∷ keep p xs) (keep p xs)) + length ys
    go true q = omega arith
    go false q = q

-- ---- the fold

-- a fold whose numbers are below n
pub record FoldBelow (n : ℕ) (f : ChangeSet) : Type 0 where
  pub rises : rising_refs f.created ≡ true
  pub created : Below n f.created
  pub modified : Below n f.modified
  pub deleted : Below n f.deleted

pub fold_below : (s : State) → lists_ok s.fold ≡ true → fold_ok s ≡ true → FoldBelow s.map.next s.fold
unfolding lists_ok fold_ok
fold_below s h k = record {
  rises = entries_rise s.fold.created (search parts);
  created = below_all _ _ (search parts depth 12);
  modified = below_all _ _ (search parts depth 12);
  deleted = below_all _ _ (search parts depth 12);
}

module _ (n : ℕ) (f : ChangeSet) (ok : FoldBelow n f) (c c' : ChangeSet) (m : c.modified ≡ c'.modified) (d : c.deleted ≡ c'.deleted) (bm : Below n c.modified) (bd : Below n c.deleted)
    (g : New n c.created) (g' : New n c'.created) (l : length c.created ≡ length c'.created) where
  abbrev M : List EntityRef
  M = (normalize c).modified

  abbrev D : List EntityRef
  D = (normalize c).deleted

  same_modified : (normalize c').modified ≡ M
  unfolding normalize
  same_modified = rw (← m, ← d) (ap (λ (xs : List EntityRef). without xs c.deleted) (without_new n (sort_refs c.modified) [] c'.created c.created (below_sort n c.modified bm) g' g))

  same_deleted : (normalize c').deleted ≡ D
  unfolding normalize
  same_deleted = rw (← d) (without_new n (sort_refs c.deleted) [] c'.created c.created (below_sort n c.deleted bd) g' g)

  below_m : Below n M
  unfolding normalize
  below_m = below_without n _ c.deleted (below_without n _ c.created (below_sort n c.modified bm))

  below_d : Below n D
  unfolding normalize
  below_d = below_without n _ c.created (below_sort n c.deleted bd)

  own : (b : ChangeSet) → New n b.created → Below n b.deleted → (normalize b).created ≡ b.created
  unfolding normalize
  own b h k = ap (λ (xs : List EntityRef). without xs b.deleted) (sort_sorted b.created h.rises) ∙ new_stay n b.created h b.deleted k

  own_c : (normalize c).created ≡ c.created
  own_c = own c g bd

  own_c' : (normalize c').created ≡ c'.created
  own_c' = own c' g' (rw (← d) bd)

  -- the fold's created entries: those of f that stay, and the new ones
  created_count : (ys : List EntityRef) → New n ys → length (without (sort_refs (f.created ++ ys)) (f.deleted ++ D)) ≡ length (without f.created (f.deleted ++ D)) + length ys
  unfolding without
  created_count ys h = count_new n (λ a. not (listed (f.deleted ++ D) a)) f.created ys ok.rises ok.created h (new_stay n ys h (f.deleted ++ D) (below_join n f.deleted D ok.deleted below_d))

  pub fresh_fits : fold_fits (fold_step f (normalize c)) ≡ fold_fits (fold_step f (normalize c'))
  unfolding fold_fits fold_step
  fresh_fits = rw (same_modified, same_deleted, own_c, own_c') (unfold normalize in parts_same)
    where
      parts_same : (leb (length (without (sort_refs (f.created ++ c.created)) (f.deleted ++ D))) 512
          && leb (length (without (without (sort_refs (f.modified ++ M)) (f.created ++ c.created)) (f.deleted ++ D))) 512
          && leb (length (without (sort_refs (f.deleted ++ D)) (f.created ++ c.created))) 512)
          ≡ (leb (length (without (sort_refs (f.created ++ c'.created)) (f.deleted ++ D))) 512
          && leb (length (without (without (sort_refs (f.modified ++ M)) (f.created ++ c'.created)) (f.deleted ++ D))) 512
          && leb (length (without (sort_refs (f.deleted ++ D)) (f.created ++ c'.created))) 512)
      parts_same = rw (
        created_count c.created g,
        created_count c'.created g',
        l,
        without_new n (sort_refs (f.modified ++ M)) f.created c.created c'.created (below_sort n (f.modified ++ M) (below_join n f.modified M ok.modified below_m)) g g',
        without_new n (sort_refs (f.deleted ++ D)) f.created c.created c'.created (below_sort n (f.deleted ++ D) (below_join n f.deleted D ok.deleted below_d)) g g',
      )
