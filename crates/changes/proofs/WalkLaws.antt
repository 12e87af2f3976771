-- Walks over lists of entries in flat slices: the step of a walk, and what the first entries of two rising lists say of the lists.
use mathlib.Core.Path.{◌≡◌, refl, sym, ◌∙◌, subst}
use mathlib.Core.Bool.{Bool, true, false, ◌||◌}
use mathlib.Core.List.{List, [], ◌∷◌, ◌++◌}
use Prim.Native.Nat.{ℕ, zero, suc, ◌+◌, ◌-◌, ◌*◌, ◌≤◌, ◌<◌, compare, Ordering}
use native.Mathlib.Omega.{arith}
use Rattle.std.specs.Ordering.{nat_cmp, ordering_then}
use Rattle.std.proofs.lemmas.Bool.Decides.{nat_tests}
use Rattle.rows.specs.Lists.{every, keep, by_order}
use Rattle.rows.proofs.Bools.{clash, is_lt, is_eq, is_gt, lt_is, eq_is}
use Rattle.map.specs.Entity.{EntityRef, compare_refs, same_ref, listed}
use Rattle.std.specs.declared.cmp.Ordering.TheVariants.{Less, Equal, Greater}
use Rattle.std.specs.declared.cmp.Ordering.{Ordering as Order}
use Rattle.changes.specs.Order.{order_of, firsts_of}
use Rattle.changes.specs.ChangeFile.{is_before, rise_after, rising_refs, apart}
use Rattle.changes.specs.ChangeSet.{insert_ref, sort_refs, without}
use Rattle.changes.specs.Layout.{ref_at, refs_at}
use Rattle.changes.specs.Walk.{refs_to}
use Rattle.changes.proofs.Refs.{Earlier, order_eq, order_lt, order_gt, earlier_trans, earlier_self, same_self, same_eq, listed-append, listed_sort, rise_later, sort_rising, rising_same}

-- ---- the order of two entries
nat_told : (m n : ℕ) → nat_cmp m n ≡ order_of (compare m n)
nat_told m n = go (compare m n) refl
  where
    go : (o : Ordering) → compare m n ≡ o → nat_cmp m n ≡ order_of (compare m n)
    go Ordering.lt e = let q : m < n = is_lt m n e in rw e (grind (arith, nat_tests))
    go Ordering.eq e = let q : m ≡ n = is_eq m n e in rw e (grind (arith, nat_tests))
    go Ordering.gt e = let q : n < m = is_gt m n e in rw e (grind (arith, nat_tests))

-- the order that the code derives is the order of entries
pub compared : (a b : EntityRef) → ordering_then (nat_cmp a.kind b.kind) (nat_cmp a.num b.num) ≡ order_of (compare_refs a b)
unfolding compare_refs
compared a b = rw (nat_told a.kind b.kind, nat_told a.num b.num) (both (compare a.kind b.kind) (compare a.num b.num))
  where
    both : (o p : Ordering) → ordering_then (order_of o) (order_of p) ≡ order_of (by_order o Ordering.lt p Ordering.gt)
    both Ordering.lt p = refl
    both Ordering.eq p = refl
    both Ordering.gt p = refl

-- told by the kinds, and among equal kinds by the numbers
module _ (a b : EntityRef) where
  pub kind_below : a.kind < b.kind → Less ≡ order_of (compare_refs a b)
  unfolding compare_refs
  kind_below h = rw (lt_is a.kind b.kind h)

  pub kind_same : (o : Order) → o ≡ nat_cmp a.num b.num → a.kind ≡ b.kind → o ≡ order_of (compare_refs a b)
  unfolding compare_refs
  kind_same o n e = n ∙ rw (eq_is a.kind b.kind e) (nat_told a.num b.num)

  pub kind_above : (a.kind < b.kind → ⊥) → (a.kind ≡ b.kind → ⊥) → Greater ≡ order_of (compare_refs a b)
  unfolding compare_refs
  kind_above h e = go (compare a.kind b.kind) refl
    where
      go : (o : Ordering) → compare a.kind b.kind ≡ o → Greater ≡ order_of (by_order o Ordering.lt (compare a.num b.num) Ordering.gt)
      go Ordering.lt q = absurd (h (is_lt a.kind b.kind q))
      go Ordering.eq q = absurd (e (is_eq a.kind b.kind q))
      go Ordering.gt q = refl

pub ruleset comparing = (kind_below, kind_same, kind_above)

-- ---- the step of a walk
pub some_left : (n : ℕ) → (n ≡ 0 → ⊥) → 0 < n
some_left n p = omega (arith, p)

pub refs_step : (t : List ℕ) (e n : ℕ) → 0 < n → n * 2 ≤ e → refs_to t e n ≡ ref_at t (e - n * 2) ∷ refs_to t e (n - 1)
unfolding refs_to refs_at
refs_step t e zero h k = absurd (omega arith)
refs_step t e (suc n) h k =
    let q : e - suc n * 2 + 2 ≡ e - n * 2 = omega arith in
    let r : suc n - 1 ≡ n = omega arith in
    rw (q, r)

pub refs_none : (t : List ℕ) (e n : ℕ) → n ≡ 0 → refs_to t e n ≡ []
unfolding refs_to refs_at
refs_none t e n h = rw h

module _ (t : List ℕ) (e n : ℕ) (s : List ℕ) (d m : ℕ) where
  pub firsts_none : n ≡ 0 → Greater ≡ firsts_of (refs_to t e n) (refs_to s d m)
  unfolding firsts_of
  firsts_none h = rw (refs_none t e n h)

  pub firsts_one : (n ≡ 0 → ⊥) → n * 2 ≤ e → m ≡ 0 → Less ≡ firsts_of (refs_to t e n) (refs_to s d m)
  unfolding firsts_of
  firsts_one p h z = rw (refs_step t e n (some_left n p) h, refs_none s d m z)

  pub firsts_both : (r : Order) (a b : EntityRef) → r ≡ order_of (compare_refs a b) → a ≡ ref_at t (e - n * 2) → b ≡ ref_at s (d - m * 2) → (n ≡ 0 → ⊥) → n * 2 ≤ e → (m ≡ 0 → ⊥) → m * 2 ≤ d
      → r ≡ firsts_of (refs_to t e n) (refs_to s d m)
  unfolding firsts_of
  firsts_both r a b u x y p h q k = rw (refs_step t e n (some_left n p) h, refs_step s d m (some_left m q) k, ← x, ← y) u

pub ruleset first = (firsts_none, firsts_one, firsts_both)

-- ---- which list has a first entry, where the order tells
module _ (t : List ℕ) (e n : ℕ) (s : List ℕ) (d m : ℕ) (r : Order) where
  pub before_some : r ≡ firsts_of (refs_to t e n) (refs_to s d m) → r ≡ Less → 1 ≤ n
  before_some h k = go n refl
    where
      go : (i : ℕ) → n ≡ i → 1 ≤ i
      go zero z = let q : ◌≡◌ {A = ℕ} 0 1 = cc (firsts_none t e n s d m z) in absurd (omega arith)
      go (suc i) z = omega arith

  pub same_some : r ≡ firsts_of (refs_to t e n) (refs_to s d m) → r ≡ Equal → n * 2 ≤ e → (1 ≤ n) × (1 ≤ m)
  same_some h k w = go n m refl refl
    where
      go : (i j : ℕ) → n ≡ i → m ≡ j → (1 ≤ i) × (1 ≤ j)
      go zero j z y = let q : ◌≡◌ {A = ℕ} 0 1 = cc (firsts_none t e n s d m z) in absurd (omega arith)
      go (suc i) zero z y = let q : ◌≡◌ {A = ℕ} 0 1 = cc (firsts_one t e n s d m (λ u. omega arith) w y) in absurd (omega arith)
      go (suc i) (suc j) z y = (omega arith, omega arith)

  pub after_some : r ≡ firsts_of (refs_to t e n) (refs_to s d m) → r ≡ Greater → n * 2 ≤ e → 0 < n + m → 1 ≤ m
  after_some h k w o = go n m refl refl
    where
      go : (i j : ℕ) → n ≡ i → m ≡ j → 1 ≤ j
      go zero zero z y = absurd (omega arith)
      go (suc i) zero z y = let q : ◌≡◌ {A = ℕ} 0 1 = cc (firsts_one t e n s d m (λ u. omega arith) w y) in absurd (omega arith)
      go i (suc j) z y = omega arith

-- ---- an entry that comes before all of a list
abbrev pub Ahead : EntityRef → List EntityRef → Type 0
Ahead x zs = (b : EntityRef) → listed zs b ≡ true → Earlier x b

is_before_lem : (a b : EntityRef) → Less ≡ order_of (compare_refs a b) → Earlier a b
is_before_lem a b h = go (compare_refs a b) refl
  where
    go : (o : Ordering) → compare_refs a b ≡ o → Earlier a b
    go Ordering.lt e = order_lt a b (unfold is_before in rw e)
    go Ordering.eq e = let q : ◌≡◌ {A = ℕ} 0 1 = cc (rw e at h) in absurd (omega arith)
    go Ordering.gt e = let q : ◌≡◌ {A = ℕ} 0 1 = cc (rw e at h) in absurd (omega arith)

is_after : (a b : EntityRef) → Greater ≡ order_of (compare_refs a b) → Earlier b a
is_after a b h = go (compare_refs a b) refl
  where
    go : (o : Ordering) → compare_refs a b ≡ o → Earlier b a
    go Ordering.lt e = let q : ◌≡◌ {A = ℕ} 0 1 = cc (rw e at h) in absurd (omega arith)
    go Ordering.eq e = let q : ◌≡◌ {A = ℕ} 0 1 = cc (rw e at h) in absurd (omega arith)
    go Ordering.gt e = order_gt a b e

pub is_same : (a b : EntityRef) → Equal ≡ order_of (compare_refs a b) → a ≡ b
is_same a b h = go (compare_refs a b) refl
  where
    go : (o : Ordering) → compare_refs a b ≡ o → a ≡ b
    go Ordering.lt e = let q : ◌≡◌ {A = ℕ} 0 1 = cc (rw e at h) in absurd (omega arith)
    go Ordering.eq e = order_eq a b e
    go Ordering.gt e = let q : ◌≡◌ {A = ℕ} 0 1 = cc (rw e at h) in absurd (omega arith)

or_cases : {A : Type 0} (b c : Bool) → (b || c) ≡ true → (b ≡ true → A) → (c ≡ true → A) → A
or_cases true c h f g = f refl
or_cases false c h f g = g h

pub ahead_cons : (x y : EntityRef) (ys : List EntityRef) → Earlier x y → rise_after y ys ≡ true → Ahead x (y ∷ ys)
unfolding listed
ahead_cons x y ys h r b k = or_cases (same_ref y b) (listed ys b) k (λ u. subst (Earlier x) (same_eq y b u) h) (λ u. earlier_trans h (rise_later y b ys r u))

pub ahead_rest : (x : EntityRef) (xs : List EntityRef) → rising_refs (x ∷ xs) ≡ true → Ahead x xs
unfolding rising_refs
ahead_rest x xs r b k = rise_later x b xs r k

pub ahead_right : (x : EntityRef) (xs ys : List EntityRef) → Less ≡ firsts_of (x ∷ xs) ys → rising_refs ys ≡ true → Ahead x ys
unfolding firsts_of rising_refs listed
ahead_right x xs [] h r b k = clash k refl
ahead_right x xs (y ∷ ys) h r b k = ahead_cons x y ys (is_before_lem x y h) r b k

pub ahead_left : (y : EntityRef) (xs ys : List EntityRef) → Greater ≡ firsts_of xs (y ∷ ys) → rising_refs xs ≡ true → Ahead y xs
unfolding firsts_of rising_refs listed
ahead_left y [] ys h r b k = clash k refl
ahead_left y (x ∷ xs) ys h r b k = ahead_cons y x xs (is_after x y h) r b k

pub ahead_both : (x : EntityRef) (xs ys : List EntityRef) → Ahead x xs → Ahead x ys → Ahead x (xs ++ ys)
ahead_both x xs ys f g b k = or_cases (listed xs b) (listed ys b) (rw listed-append at k) (f b) (g b)

unlisted : (x : EntityRef) (ys : List EntityRef) → Ahead x ys → listed ys x ≡ false
unlisted x ys f = go (listed ys x) refl
  where
    go : (b : Bool) → listed ys x ≡ b → b ≡ false
    go true e = absurd (earlier_self (f x e))
    go false e = refl

-- ---- what is listed does not ask for what comes before
same_not : (y a : EntityRef) → Earlier y a → same_ref y a ≡ false
same_not y a h = go (same_ref y a) refl
  where
    go : (b : Bool) → same_ref y a ≡ b → b ≡ false
    go true e = absurd (earlier_self (subst (Earlier y) (sym (same_eq y a e)) h))
    go false e = refl

pub keep_same : (p q : EntityRef → Bool) (xs : List EntityRef) → ((a : EntityRef) → listed xs a ≡ true → p a ≡ q a) → keep p xs ≡ keep q xs
unfolding keep listed
keep_same p q [] f = refl
keep_same p q (x ∷ xs) f = rw (f x (rw same_self), keep_same p q xs (λ a k. f a (or_later (same_ref x a) k)))
  where
    or_later : (b : Bool) {c : Bool} → c ≡ true → (b || c) ≡ true
    or_later true k = refl
    or_later false k = k

every_same : (p q : EntityRef → Bool) (xs : List EntityRef) → ((a : EntityRef) → listed xs a ≡ true → p a ≡ q a) → every p xs ≡ every q xs
unfolding every listed
every_same p q [] f = refl
every_same p q (x ∷ xs) f = rw (f x (rw same_self), every_same p q xs (λ a k. f a (or_later (same_ref x a) k)))
  where
    or_later : (b : Bool) {c : Bool} → c ≡ true → (b || c) ≡ true
    or_later true k = refl
    or_later false k = k

-- ---- without
pub without_before : (x : EntityRef) (xs ys : List EntityRef) → Ahead x ys → without (x ∷ xs) ys ≡ x ∷ without xs ys
unfolding without keep
without_before x xs ys f = rw (unlisted x ys f)

pub without_after : (y : EntityRef) (xs ys : List EntityRef) → Ahead y xs → without xs (y ∷ ys) ≡ without xs ys
unfolding without listed
without_after y xs ys f = keep_same _ _ xs (λ a k. rw (same_not y a (f a k)))

pub without_same : (x : EntityRef) (xs ys : List EntityRef) → Ahead x xs → without (x ∷ xs) (x ∷ ys) ≡ without xs ys
unfolding without keep listed
without_same x xs ys f = drop_it ∙ without_after x xs ys f
  where
    drop_it : without (x ∷ xs) (x ∷ ys) ≡ without xs (x ∷ ys)
    drop_it = rw same_self

-- ---- apart
pub apart_before : (x : EntityRef) (xs ys : List EntityRef) → Ahead x ys → apart (x ∷ xs) ys ≡ apart xs ys
unfolding apart every
apart_before x xs ys f = rw (unlisted x ys f)

pub apart_after : (y : EntityRef) (xs ys : List EntityRef) → Ahead y xs → apart xs (y ∷ ys) ≡ apart xs ys
unfolding apart listed
apart_after y xs ys f = every_same _ _ xs (λ a k. rw (same_not y a (f a k)))

pub apart_same : (x : EntityRef) (xs ys : List EntityRef) → apart (x ∷ xs) (x ∷ ys) ≡ false
unfolding apart every listed
apart_same x xs ys = rw same_self

-- ---- sorting
pub sort_same : (xs ys : List EntityRef) → ((a : EntityRef) → listed xs a ≡ listed ys a) → sort_refs xs ≡ sort_refs ys
sort_same xs ys f = rising_same _ _ (sort_rising xs) (sort_rising ys) (λ a. listed_sort xs a ∙ f a ∙ sym (listed_sort ys a))

insert_first : (x : EntityRef) (zs : List EntityRef) → Ahead x zs → insert_ref x zs ≡ x ∷ zs
unfolding insert_ref listed
insert_first x [] f = refl
insert_first x (z ∷ zs) f = rw (lt_before (compare_refs x z) refl)
  where
    lt_before : (o : Ordering) → compare_refs x z ≡ o → compare_refs x z ≡ Ordering.lt
    lt_before Ordering.lt e = e
    lt_before Ordering.eq e = absurd (earlier_self (subst (Earlier x) (sym (order_eq x z e)) (f z (rw same_self))))
    lt_before Ordering.gt e = absurd (earlier_self (earlier_trans (f z (rw same_self)) (order_gt x z e)))

pub sort_first : (x : EntityRef) (zs : List EntityRef) → Ahead x zs → sort_refs (x ∷ zs) ≡ x ∷ sort_refs zs
unfolding sort_refs
sort_first x zs f = insert_first x (sort_refs zs) (λ b k. f b (rw listed_sort at k))

pub sort_middle : (y : EntityRef) (xs ys : List EntityRef) → Ahead y xs → Ahead y ys → sort_refs (xs ++ y ∷ ys) ≡ y ∷ sort_refs (xs ++ ys)
unfolding listed
sort_middle y xs ys f g = sort_same (xs ++ y ∷ ys) (y ∷ (xs ++ ys)) moves ∙ sort_first y (xs ++ ys) (ahead_both y xs ys f g)
  where
    swap : (u v w : Bool) → (u || (v || w)) ≡ (v || (u || w))
    swap true true w = refl
    swap true false w = refl
    swap false true w = refl
    swap false false w = refl

    moves : (a : EntityRef) → listed (xs ++ y ∷ ys) a ≡ listed (y ∷ (xs ++ ys)) a
    moves a = rw (listed-append xs (y ∷ ys) a, listed-append xs ys a) (swap (listed xs a) (same_ref y a) (listed ys a))

pub sort_twice : (x : EntityRef) (xs ys : List EntityRef) → Ahead x xs → Ahead x ys → sort_refs ((x ∷ xs) ++ (x ∷ ys)) ≡ x ∷ sort_refs (xs ++ ys)
unfolding listed
sort_twice x xs ys f g = sort_same ((x ∷ xs) ++ (x ∷ ys)) (x ∷ (xs ++ ys)) moves ∙ sort_first x (xs ++ ys) (ahead_both x xs ys f g)
  where
    once : (u v w : Bool) → (u || (v || (u || w))) ≡ (u || (v || w))
    once true v w = refl
    once false v w = refl

    moves : (a : EntityRef) → listed ((x ∷ xs) ++ (x ∷ ys)) a ≡ listed (x ∷ (xs ++ ys)) a
    moves a = rw (listed-append xs (x ∷ ys) a, listed-append xs ys a) (once (same_ref x a) (listed xs a) (listed ys a))
