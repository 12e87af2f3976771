-- Lists of references: what they list, their order, and that the order settles the list.
use mathlib.Core.Path.{◌≡◌, refl, sym, ap₂, subst}
use mathlib.Core.Bool.{Bool, true, false, not, ◌&&◌, ◌||◌, cond, or_assoc}
use mathlib.Core.List.{List, [], ◌∷◌, ◌++◌}
use Prim.Native.Nat.{ℕ, suc, ◌+◌, ◌≤◌, ◌<◌, compare, Ordering}
use lib.ListN.{length}
use lib.Dec.{eqb}
use native.Mathlib.Omega.{arith}
use borrow.Author.Tests.{eqb-true, eq-eqb, ne_eqb}
use Rattle.rows.specs.Lists.{every, keep, by_order}
use Rattle.rows.proofs.Bools.{parts, and_i, clash, agree, is_lt, is_eq, is_gt, lt_is, eq_is, and_no, or_r}
use Rattle.map.specs.Entity.{EntityRef, entity, compare_refs, same_ref, listed}
use Rattle.changes.specs.ChangeFile.{is_before, rise_after, rising_refs}
use Rattle.changes.specs.ChangeSet.{insert_ref, sort_refs, without}

-- ---- the same reference

pub same_self : (a : EntityRef) → same_ref a a ≡ true
unfolding same_ref
same_self a = and_i _ _ (eq-eqb a.kind a.kind refl) (eq-eqb a.num a.num refl)

pub same_eq : (a b : EntityRef) → same_ref a b ≡ true → a ≡ b
unfolding same_ref
same_eq a b t = ap₂ {C = EntityRef} (λ k n. entity k n) (eqb-true _ _ (search parts)) (eqb-true _ _ (search parts))

eqb_sym : (a b : ℕ) → eqb a b ≡ eqb b a
eqb_sym a b = go (eqb a b) refl
  where
    go : (c : Bool) → eqb a b ≡ c → c ≡ eqb b a
    go true e = sym (eq-eqb b a (sym (eqb-true a b e)))
    go false e = sym (ne_eqb b a (λ q. clash {b = eqb a b} (eq-eqb a b (sym q)) e))

pub same_as : (k n : ℕ) (a : EntityRef) → same_ref (entity k n) a ≡ (eqb a.kind k && eqb n a.num)
unfolding same_ref
same_as k n a = rw (eqb_sym k a.kind)

-- ---- the order: by kind, then number

pub data Earlier (a b : EntityRef) : Type 0 where
  by_kind : a.kind < b.kind → Earlier a b
  by_num : a.kind ≡ b.kind → a.num < b.num → Earlier a b

pub order_eq : (a b : EntityRef) → compare_refs a b ≡ Ordering.eq → a ≡ b
unfolding compare_refs
order_eq a b t = go (compare a.kind b.kind) (compare a.num b.num) refl refl t
  where
    go : (k n : Ordering) → compare a.kind b.kind ≡ k → compare a.num b.num ≡ n → by_order k Ordering.lt n Ordering.gt ≡ Ordering.eq → a ≡ b
    go Ordering.lt n p q t = let z : ◌≡◌ {A = ℕ} 0 1 = cc in absurd (omega arith)
    go Ordering.gt n p q t = let z : ◌≡◌ {A = ℕ} 0 1 = cc in absurd (omega arith)
    go Ordering.eq n p q t = let r : compare a.num b.num ≡ Ordering.eq = cc in ap₂ {C = EntityRef} (λ k n. entity k n) (is_eq _ _ p) (is_eq _ _ r)

pub order_lt : (a b : EntityRef) → is_before (compare_refs a b) ≡ true → Earlier a b
unfolding compare_refs is_before
order_lt a b t = go (compare a.kind b.kind) (compare a.num b.num) refl refl t
  where
    go : (k n : Ordering) → compare a.kind b.kind ≡ k → compare a.num b.num ≡ n → is_before (by_order k Ordering.lt n Ordering.gt) ≡ true → Earlier a b
    go Ordering.lt n p q t = by_kind (is_lt _ _ p)
    go Ordering.gt n p q t = clash t refl
    go Ordering.eq Ordering.lt p q t = by_num (is_eq _ _ p) (is_lt _ _ q)
    go Ordering.eq Ordering.eq p q t = clash t refl
    go Ordering.eq Ordering.gt p q t = clash t refl

pub order_gt : (a b : EntityRef) → compare_refs a b ≡ Ordering.gt → Earlier b a
unfolding compare_refs
order_gt a b t = go (compare a.kind b.kind) (compare a.num b.num) refl refl t
  where
    go : (k n : Ordering) → compare a.kind b.kind ≡ k → compare a.num b.num ≡ n → by_order k Ordering.lt n Ordering.gt ≡ Ordering.gt → Earlier b a
    go Ordering.lt n p q t = let z : ◌≡◌ {A = ℕ} 0 1 = cc in absurd (omega arith)
    go Ordering.gt n p q t = by_kind (is_gt _ _ p)
    go Ordering.eq n p q t = let r : compare a.num b.num ≡ Ordering.gt = cc in by_num (sym (is_eq _ _ p)) (is_gt _ _ r)

pub before : {a b : EntityRef} → Earlier a b → is_before (compare_refs a b) ≡ true
unfolding compare_refs is_before
before {a} {b} (by_kind h) = rw (lt_is a.kind b.kind h)
before {a} {b} (by_num e h) = rw (eq_is a.kind b.kind e, lt_is a.num b.num h)

pub earlier_trans : {a b c : EntityRef} → Earlier a b → Earlier b c → Earlier a c
earlier_trans (by_kind h) (by_kind k) = by_kind (omega arith)
earlier_trans (by_kind h) (by_num e k) = by_kind (omega arith)
earlier_trans (by_num e h) (by_kind k) = by_kind (omega arith)
earlier_trans (by_num e h) (by_num f k) = by_num (omega arith) (omega arith)

pub earlier_self : {a : EntityRef} → Earlier a a → ⊥
earlier_self (by_kind h) = omega arith
earlier_self (by_num e h) = omega arith

-- ---- what is listed

pub listed-append : (xs ys : List EntityRef) (a : EntityRef) → listed (xs ++ ys) a ≡ (listed xs a || listed ys a)
unfolding listed
listed-append [] ys a = refl
listed-append (x ∷ xs) ys a = rw (listed-append xs ys a) (sym (or_assoc (same_ref x a) (listed xs a) (listed ys a)))

pub listed_keep : (p : EntityRef → Bool) (xs : List EntityRef) (a : EntityRef) → listed (keep p xs) a ≡ (listed xs a && p a)
unfolding listed keep
listed_keep p [] a = refl
listed_keep p (x ∷ xs) a = go (p x) (same_ref x a) refl refl (listed_keep p xs a)
  where
    go : (b c : Bool) → p x ≡ b → same_ref x a ≡ c → listed (keep p xs) a ≡ (listed xs a && p a) → listed (cond b (x ∷ keep p xs) (keep p xs)) a ≡ ((c || listed xs a) && p a)
    go true true e f h = rw (f, ← same_eq x a f, e)
    go true false e f h = rw f h
    go false true e f h = rw (h, ← same_eq x a f, e) (and_no (listed xs x))
    go false false e f h = h

pub listed_insert : (b : EntityRef) (xs : List EntityRef) (a : EntityRef) → listed (insert_ref b xs) a ≡ (same_ref b a || listed xs a)
unfolding listed insert_ref
listed_insert b [] a = refl
listed_insert b (x ∷ xs) a = go (compare_refs b x) refl (listed_insert b xs a)
  where
    swap : (u v w : Bool) → (u || (v || w)) ≡ (v || (u || w))
    swap true true w = refl
    swap true false w = refl
    swap false true w = refl
    swap false false w = refl

    dup : (u w : Bool) → (u || w) ≡ (u || (u || w))
    dup true w = refl
    dup false w = refl

    go : (o : Ordering) → compare_refs b x ≡ o → listed (insert_ref b xs) a ≡ (same_ref b a || listed xs a)
        → listed (by_order o (b ∷ x ∷ xs) (x ∷ xs) (x ∷ insert_ref b xs)) a ≡ (same_ref b a || (same_ref x a || listed xs a))
    go Ordering.lt e h = refl
    go Ordering.eq e h = rw (order_eq b x e) (dup (same_ref x a) (listed xs a))
    go Ordering.gt e h = rw h (swap (same_ref x a) (same_ref b a) (listed xs a))

pub listed_sort : (xs : List EntityRef) (a : EntityRef) → listed (sort_refs xs) a ≡ listed xs a
unfolding listed sort_refs
listed_sort [] a = refl
listed_sort (x ∷ xs) a = rw (listed_insert x (sort_refs xs) a, listed_sort xs a)

-- ---- every, by what is listed

pub every_listed : (p : EntityRef → Bool) (xs : List EntityRef) → ((a : EntityRef) → listed xs a ≡ true → p a ≡ true) → every p xs ≡ true
unfolding every listed
every_listed p [] h = refl
every_listed p (x ∷ xs) h = and_i _ _ (h x (rw (same_self x))) (every_listed p xs (λ a t. h a (or_r (same_ref x a) t)))

pub listed_every : (p : EntityRef → Bool) (xs : List EntityRef) (a : EntityRef) → every p xs ≡ true → listed xs a ≡ true → p a ≡ true
unfolding every listed
listed_every p [] a e t = clash t refl
listed_every p (x ∷ xs) a e t = go (same_ref x a) refl t (listed_every p xs a (search parts))
  where
    go : (b : Bool) → same_ref x a ≡ b → (b || listed xs a) ≡ true → (listed xs a ≡ true → p a ≡ true) → p a ≡ true
    go true f t k = rw (← same_eq x a f) (search parts)
    go false f t k = k t

-- ---- rising lists

pub rise_from : (a b : EntityRef) (xs : List EntityRef) → Earlier a b → rise_after b xs ≡ true → rise_after a xs ≡ true
unfolding rise_after
rise_from a b [] h t = refl
rise_from a b (x ∷ xs) h t = and_i _ _ (before (earlier_trans h (order_lt b x (search parts)))) (search parts)

pub rise_rising : (a : EntityRef) (xs : List EntityRef) → rise_after a xs ≡ true → rising_refs xs ≡ true
unfolding rise_after rising_refs
rise_rising a [] t = refl
rise_rising a (x ∷ xs) t = search parts

pub rise_insert : (b a : EntityRef) (xs : List EntityRef) → Earlier b a → rise_after b xs ≡ true → rise_after b (insert_ref a xs) ≡ true
unfolding rise_after insert_ref is_before
rise_insert b a [] h t = and_i _ _ (before h) refl
rise_insert b a (x ∷ xs) h t = go (compare_refs a x) refl (λ k. rise_insert x a xs k (search parts))
  where
    go : (o : Ordering) → compare_refs a x ≡ o → (Earlier x a → rise_after x (insert_ref a xs) ≡ true)
        → rise_after b (by_order o (a ∷ x ∷ xs) (x ∷ xs) (x ∷ insert_ref a xs)) ≡ true
    go Ordering.lt e f = and_i _ _ (before h) (and_i (is_before (compare_refs a x)) _ (rw e) (search parts))
    go Ordering.eq e f = t
    go Ordering.gt e f = and_i (is_before (compare_refs b x)) _ (search parts) (f (order_gt a x e))

pub insert_rising : (a : EntityRef) (xs : List EntityRef) → rising_refs xs ≡ true → rising_refs (insert_ref a xs) ≡ true
unfolding rise_after rising_refs insert_ref is_before
insert_rising a [] t = refl
insert_rising a (x ∷ xs) t = go (compare_refs a x) refl
  where
    go : (o : Ordering) → compare_refs a x ≡ o → rising_refs (by_order o (a ∷ x ∷ xs) (x ∷ xs) (x ∷ insert_ref a xs)) ≡ true
    go Ordering.lt e = and_i (is_before (compare_refs a x)) _ (rw e) t
    go Ordering.eq e = t
    go Ordering.gt e = rise_insert x a xs (order_gt a x e) t

pub sort_rising : (xs : List EntityRef) → rising_refs (sort_refs xs) ≡ true
unfolding rising_refs sort_refs
sort_rising [] = refl
sort_rising (x ∷ xs) = insert_rising x (sort_refs xs) (sort_rising xs)

pub rise_keep : (p : EntityRef → Bool) (a : EntityRef) (xs : List EntityRef) → rise_after a xs ≡ true → rise_after a (keep p xs) ≡ true
unfolding rise_after keep
rise_keep p a [] t = refl
rise_keep p a (x ∷ xs) t = go (p x) (rise_keep p x xs (search parts))
  where
    go : (b : Bool) → rise_after x (keep p xs) ≡ true → rise_after a (cond b (x ∷ keep p xs) (keep p xs)) ≡ true
    go true h = and_i (is_before (compare_refs a x)) _ (search parts) h
    go false h = rise_from a x (keep p xs) (order_lt a x (search parts)) h

pub keep_rising : (p : EntityRef → Bool) (xs : List EntityRef) → rising_refs xs ≡ true → rising_refs (keep p xs) ≡ true
unfolding rising_refs keep
keep_rising p [] t = refl
keep_rising p (x ∷ xs) t = go (p x) (rise_keep p x xs t)
  where
    go : (b : Bool) → rise_after x (keep p xs) ≡ true → rising_refs (cond b (x ∷ keep p xs) (keep p xs)) ≡ true
    go true h = h
    go false h = rise_rising x (keep p xs) h

-- what comes after a is not a
pub rise_later : (a b : EntityRef) (xs : List EntityRef) → rise_after a xs ≡ true → listed xs b ≡ true → Earlier a b
unfolding rise_after listed
rise_later a b [] t h = clash h refl
rise_later a b (x ∷ xs) t h = go (same_ref x b) refl h (rise_later x b xs (search parts))
  where
    go : (c : Bool) → same_ref x b ≡ c → (c || listed xs b) ≡ true → (listed xs b ≡ true → Earlier x b) → Earlier a b
    go true e k f = subst (Earlier a) (same_eq x b e) (order_lt a x (search parts))
    go false e k f = earlier_trans (order_lt a x (search parts)) (f k)

or_right : (b c : Bool) → (b || c) ≡ true → b ≡ false → c ≡ true
or_right true c t e = clash refl e
or_right false c t e = t

not_earlier : (a b : EntityRef) → (Earlier a b → ⊥) → (Earlier b a → ⊥) → a ≡ b
not_earlier a b f g = go (compare_refs a b) refl
  where
    go : (o : Ordering) → compare_refs a b ≡ o → a ≡ b
    go Ordering.lt e = absurd (f (order_lt a b (unfold is_before in rw e)))
    go Ordering.eq e = order_eq a b e
    go Ordering.gt e = absurd (g (order_gt a b e))

-- two rising lists that list the same are the same
pub rising_same : (xs ys : List EntityRef) → rising_refs xs ≡ true → rising_refs ys ≡ true → ((a : EntityRef) → listed xs a ≡ listed ys a) → xs ≡ ys
unfolding listed rising_refs
rising_same [] [] r s h = refl
rising_same [] (y ∷ ys) r s h = clash {b = listed (y ∷ ys) y} (rw (same_self y)) (sym (h y))
rising_same (x ∷ xs) [] r s h = clash {b = listed (x ∷ xs) x} (rw (same_self x)) (h x)
rising_same (x ∷ xs) (y ∷ ys) r s h = ap₂ {C = List EntityRef} (λ a l. a ∷ l) head (rising_same xs ys (rise_rising x xs r) (rise_rising y ys s) tails)
  where
    in_y : listed (y ∷ ys) x ≡ true
    in_y = rw (← h x, same_self x)

    in_x : listed (x ∷ xs) y ≡ true
    in_x = rw (h y, same_self y)

    here : (a b : EntityRef) (zs : List EntityRef) → rise_after b zs ≡ true → listed (b ∷ zs) a ≡ true → Earlier a b → ⊥
    here a b zs t k e = go (same_ref b a) refl k
      where
        go : (c : Bool) → same_ref b a ≡ c → (c || listed zs a) ≡ true → ⊥
        go true q k = earlier_self (subst (λ (z : EntityRef). Earlier a z) (same_eq b a q) e)
        go false q k = earlier_self (earlier_trans e (rise_later b a zs t k))

    head : x ≡ y
    head = not_earlier x y (here x y ys s in_y) (here y x xs r in_x)

    step : (a : EntityRef) (us vs : List EntityRef) (u v : EntityRef) → u ≡ v → rise_after u us ≡ true → listed (u ∷ us) a ≡ listed (v ∷ vs) a → listed us a ≡ true → listed vs a ≡ true
    step a us vs u v e t q k = or_right (same_ref v a) (listed vs a) (rw (← q) (or_r (same_ref u a) k)) (off (same_ref v a) refl)
      where
        off : (c : Bool) → same_ref v a ≡ c → same_ref v a ≡ false
        off true p = absurd (earlier_self (subst (λ (z : EntityRef). Earlier z a) (e') (rise_later u a us t k)))
          where
            e' : u ≡ a
            e' = rw e (same_eq v a p)
        off false p = p

    tails : (a : EntityRef) → listed xs a ≡ listed ys a
    tails a = agree _ _ (step a xs ys x y head r (h a)) (step a ys xs y x (sym head) s (sym (h a)))

-- ---- counting

pub keep_count : (p : EntityRef → Bool) (xs : List EntityRef) → length (keep p xs) + length (keep (λ a. not (p a)) xs) ≡ length xs
unfolding keep
keep_count p [] = refl
keep_count p (x ∷ xs) = go (p x) (keep_count p xs)
  where
    go : (b : Bool) → length (keep p xs) + length (keep (λ a. not (p a)) xs) ≡ length xs
        → length (cond b (x ∷ keep p xs) (keep p xs)) + length (cond (not b) (x ∷ keep (λ a. not (p a)) xs) (keep (λ a. not (p a)) xs)) ≡ suc (length xs)
    go true h = omega arith
    go false h = omega arith

pub length_without : (xs ys : List EntityRef) → length (without xs ys) ≤ length xs
unfolding without
length_without xs ys = let u = keep_count (λ a. not (listed ys a)) xs in omega arith

pub length_insert : (a : EntityRef) (xs : List EntityRef) → length (insert_ref a xs) ≤ suc (length xs)
unfolding insert_ref
length_insert a [] = omega arith
length_insert a (x ∷ xs) = go (compare_refs a x) (length_insert a xs)
  where
    go : (o : Ordering) → length (insert_ref a xs) ≤ suc (length xs) → length (by_order o (a ∷ x ∷ xs) (x ∷ xs) (x ∷ insert_ref a xs)) ≤ suc (suc (length xs))
    go Ordering.lt h = omega arith
    go Ordering.eq h = omega arith
    go Ordering.gt h = omega arith

pub length_sort : (xs : List EntityRef) → length (sort_refs xs) ≤ length xs
unfolding sort_refs
length_sort [] = omega arith
length_sort (x ∷ xs) = let u = length_insert x (sort_refs xs) in let v = length_sort xs in omega arith
