-- What lifting the stop rules does to the table of rules, and what is said of it.
use mathlib.Core.Path.{◌≡◌, refl, sym, ap, subst, ◌∙◌}
use mathlib.Core.Bool.{Bool, true, false, not, ◌&&◌, ◌||◌, cond}
use Rattle.std.specs.Prelude.{Option, None, Some}
use mathlib.Core.List.{List, [], ◌∷◌, ◌++◌, append_assoc, append_cancel_left}
use Prim.Native.Nat.{ℕ, suc, ◌<◌, ◌≤◌, ◌^◌}
use lib.Dec.{eqb, leb}
use lib.ListN.{length}
use native.Mathlib.Omega.{arith}
use borrow.Author.Tests.{eqb-true, eqb-false, leb-true}
use Rattle.rows.specs.Lists.{every, keep, joined, same_list, member, no_entries}
use Rattle.rows.specs.Table.{find, rising}
use Rattle.rows.proofs.Bools.{parts, and_i, and_no, or_r}
use Rattle.rows.proofs.SameLists.{list_differs}
use Rattle.rows.proofs.Tables.{is_some, one, from_some, changed, found_is, rising_above}
use Rattle.codec.specs.Format.{counted, only}
use Rattle.codec.specs.Items.{list}
use Rattle.codec.specs.Number.{number}
use Rattle.codec.proofs.Fits.{form_splits, number_fits}
use Rattle.map.specs.Ceilings.{rule_within}
use Rattle.map.specs.Entity.{EntityRef, entity, listed, form_in}
use Rattle.map.specs.MapFile.{rule, body, numbers}
use Rattle.map.specs.Record.{Rule}
use Rattle.map.specs.Rows.{rule_with}
use Rattle.map.proofs.Parts.{rule_ok, body_ok_lem}
use Rattle.changes.proofs.Refs.{listed-append, same_as}
use Rattle.edit.specs.Light.{is_stop_at, Lift, kept, eased, gone, lift_of, lift, lifted, eased_ref, gone_ref}
use Rattle.run.specs.Law.{differ}
use Rattle.run.proofs.Rules.{rule_split, short_lists}
use Rattle.run.proofs.Told.{differ_self}

-- ---- the table

abbrev pub as_lifted : Rule → Lift → Option Rule
as_lifted r kept = Some r
as_lifted r (eased ks) = Some (rule_with r r.body ks r.controlled)
as_lifted r gone = None

-- what is left of a rule under a light on the line l
abbrev pub lift_by : Option ℕ → List ℕ → Rule → Option Rule
lift_by None lanes r = Some r
lift_by (Some s) lanes r = as_lifted r (lift s lanes r)

pub lift-all : (s : ℕ) (lanes : List ℕ) (t : List Rule) → joined (λ r. lifted r (lift s lanes r)) t ≡ changed (lift_by (Some s) lanes) t
unfolding joined changed lifted
lift-all s lanes [] = refl
lift-all s lanes (r ∷ t) = go (lift s lanes r) (lift-all s lanes t)
  where
    go : (l : Lift) → joined (λ r. lifted r (lift s lanes r)) t ≡ changed (lift_by (Some s) lanes) t
        → lifted r l ++ joined (λ r. lifted r (lift s lanes r)) t ≡ one (as_lifted r l) ++ changed (lift_by (Some s) lanes) t
    go kept h = ap {B = List Rule} (λ x. r ∷ x) h
    go (eased ks) h = ap {B = List Rule} (λ x. rule_with r r.body ks r.controlled ∷ x) h
    go gone h = h

module _ {A : Type 0} where
  pub changed_append : (f : A → Option A) (s t : List A) → changed f (s ++ t) ≡ changed f s ++ changed f t
  unfolding changed
  changed_append f [] t = refl
  changed_append f (x ∷ s) t = rw (changed_append f s t) (sym (append_assoc (one (f x)) (changed f s) (changed f t)))

  pub changed_twice : (f g : A → Option A) (t : List A) → changed g (changed f t) ≡ changed (λ x. from_some (f x) g) t
  unfolding changed
  changed_twice f g [] = refl
  changed_twice f g (x ∷ t) = go (f x) (changed_twice f g t)
    where
      go : (o : Option A) → changed g (changed f t) ≡ changed (λ x. from_some (f x) g) t → changed g (one o ++ changed f t) ≡ one (from_some o g) ++ changed (λ x. from_some (f x) g) t
      go None h = h
      go (Some y) h = ap {B = List A} (λ r. one (g y) ++ r) h

  pub joined-append : {B : Type 0} (f : A → List B) (s t : List A) → joined f (s ++ t) ≡ joined f s ++ joined f t
  unfolding joined
  joined-append f [] t = refl
  joined-append f (x ∷ s) t = rw (joined-append f s t) (sym (append_assoc (f x) (joined f s) (joined f t)))

-- ---- lists of references to some of the rules

abbrev ref_if : Bool → ℕ → List EntityRef
ref_if true n = entity 8 n ∷ []
ref_if false n = []

abbrev at : (Rule → Bool) → Option Rule → Bool
at p None = false
at p (Some x) = p x

-- what a list of such references lists
module _ (p : Rule → Bool) (f : Rule → List EntityRef) (is : (r : Rule) → f r ≡ ref_if (p r) r.num) where
  pub listed_joined : (l h : ℕ) (t : List Rule) (a : EntityRef) → rising (λ r. r.num) l h t ≡ true → listed (joined f t) a ≡ (eqb a.kind 8 && at p (find (λ r. r.num) a.num t))
  unfolding joined find rising listed
  listed_joined l h [] a r = sym (and_no (eqb a.kind 8))
  listed_joined l h (x ∷ t) a r =
      rw (listed-append (f x) (joined f t) a, is x, listed_joined (suc x.num) h t a (search parts))
      (go (p x) (eqb x.num a.num) (eqb a.kind 8) refl refl refl (later (find (λ r. r.num) a.num t) refl))
    where
      later : (o : Option Rule) → find (λ r. r.num) a.num t ≡ o → x.num ≡ a.num → o ≡ None
      later None q e = refl
      later (Some y) q e =
          let w = found_is (λ (r : Rule). r.num) a.num t (λ r. leb (suc x.num) r.num) y (rising_above (λ (r : Rule). r.num) (suc x.num) h t (search parts)) q in
          let u = leb-true (suc x.num) y.num w.0 in let v = w.1 in absurd (omega arith)

      go : (b c k : Bool) → p x ≡ b → eqb x.num a.num ≡ c → eqb a.kind 8 ≡ k → (x.num ≡ a.num → find (λ r. r.num) a.num t ≡ None)
          → (listed (ref_if b x.num) a || (k && at p (find (λ r. r.num) a.num t))) ≡ (k && at p (cond c (Some x) (find (λ r. r.num) a.num t)))
      go true true true e f g z = rw (same_as 8 x.num a, g, f, e)
      go true true false e f g z = rw (same_as 8 x.num a, g)
      go true false true e f g z = rw (same_as 8 x.num a, g, f)
      go true false false e f g z = rw (same_as 8 x.num a, g)
      go false true true e f g z = rw (z (eqb-true x.num a.num f), e)
      go false true false e f g z = refl
      go false false true e f g z = refl
      go false false false e f g z = refl

abbrev pub is_eased : Lift → Bool
is_eased kept = false
is_eased (eased ks) = true
is_eased gone = false

abbrev pub is_gone : Lift → Bool
is_gone kept = false
is_gone (eased ks) = false
is_gone gone = true

module _ (s : ℕ) (lanes : List ℕ) (l h : ℕ) (t : List Rule) (a : EntityRef) (r : rising (λ x. x.num) l h t ≡ true) where
  pub listed_eased : listed (joined (λ r. eased_ref r (lift s lanes r)) t) a ≡ (eqb a.kind 8 && at (λ r. is_eased (lift s lanes r)) (find (λ r. r.num) a.num t))
  listed_eased = listed_joined (λ r. is_eased (lift s lanes r)) (λ r. eased_ref r (lift s lanes r)) (λ r. go r (lift s lanes r)) l h t a r
    where
      go : (r : Rule) (k : Lift) → eased_ref r k ≡ ref_if (is_eased k) r.num
      go r kept = unfold eased_ref in refl
      go r (eased ks) = unfold eased_ref in refl
      go r gone = unfold eased_ref in refl

  pub listed_gone : listed (joined (λ r. gone_ref r (lift s lanes r)) t) a ≡ (eqb a.kind 8 && at (λ r. is_gone (lift s lanes r)) (find (λ r. r.num) a.num t))
  listed_gone = listed_joined (λ r. is_gone (lift s lanes r)) (λ r. gone_ref r (lift s lanes r)) (λ r. go r (lift s lanes r)) l h t a r
    where
      go : (r : Rule) (k : Lift) → gone_ref r k ≡ ref_if (is_gone k) r.num
      go r kept = unfold gone_ref in refl
      go r (eased ks) = unfold gone_ref in refl
      go r gone = unfold gone_ref in refl

-- ---- a rule that loses lanes

pub keep_shorter : (p : ℕ → Bool) (xs : List ℕ) → length (keep p xs) ≤ length xs
unfolding keep
keep_shorter p [] = omega arith
keep_shorter p (x ∷ xs) = go (p x) (keep_shorter p xs)
  where
    go : (b : Bool) → length (keep p xs) ≤ length xs → length (cond b (x ∷ keep p xs) (keep p xs)) ≤ suc (length xs)
    go true h = omega arith
    go false h = omega arith

pub keep_every : (p q : ℕ → Bool) (xs : List ℕ) → every q xs ≡ true → every q (keep p xs) ≡ true
unfolding keep every
keep_every p q [] e = refl
keep_every p q (x ∷ xs) e = go (p x) (keep_every p q xs (search parts))
  where
    go : (b : Bool) → every q (keep p xs) ≡ true → every q (cond b (x ∷ keep p xs) (keep p xs)) ≡ true
    go true h = and_i (q x) _ (search parts) h
    go false h = h

pub keep_all : (p : ℕ → Bool) (xs : List ℕ) → every p (keep p xs) ≡ true
unfolding keep every
keep_all p [] = refl
keep_all p (x ∷ xs) = go (p x) refl (keep_all p xs)
  where
    go : (b : Bool) → p x ≡ b → every p (keep p xs) ≡ true → every p (cond b (x ∷ keep p xs) (keep p xs)) ≡ true
    go true e h = and_i (p x) _ e h
    go false e h = h

-- where none is lost, all were kept
pub keep_none : (p : ℕ → Bool) (xs : List ℕ) → length (keep p xs) ≡ length xs → every p xs ≡ true
unfolding keep every
keep_none p [] e = refl
keep_none p (x ∷ xs) e = go (p x) refl e (keep_shorter p xs) (keep_none p xs)
  where
    go : (b : Bool) → p x ≡ b → length (cond b (x ∷ keep p xs) (keep p xs)) ≡ suc (length xs) → length (keep p xs) ≤ length xs → (length (keep p xs) ≡ length xs → every p xs ≡ true)
        → (b && every p xs) ≡ true
    go true q e s f = f (omega arith)
    go false q e s f = absurd (omega arith)

-- ---- what a lift can be

pub data Lifted (s : ℕ) (lanes : List ℕ) (r : Rule) : Lift → Type 0 where
  off : is_stop_at s r.body ≡ false → Lifted s lanes r kept
  clear : every (λ n. not (member n lanes)) r.lanes ≡ true → Lifted s lanes r kept
  less : {ks : List ℕ} → ks ≡ keep (λ n. not (member n lanes)) r.lanes → (length ks ≡ length r.lanes → ⊥) → Lifted s lanes r (eased ks)
  none_left : Lifted s lanes r gone

pub lift_is : (s : ℕ) (lanes : List ℕ) (r : Rule) → Lifted s lanes r (lift s lanes r)
unfolding lift lift_of
lift_is s lanes r = go (is_stop_at s r.body) refl
  where
    ks : List ℕ
    ks = keep (λ n. not (member n lanes)) r.lanes

    at₂ : (b c : Bool) → eqb (length ks) (length r.lanes) ≡ b → Lifted s lanes r (cond b kept (cond c gone (eased ks)))
    at₂ true c e = clear (keep_none (λ n. not (member n lanes)) r.lanes (eqb-true _ _ e))
    at₂ false true e = none_left
    at₂ false false e = less refl (eqb-false _ _ e)

    go : (b : Bool) → is_stop_at s r.body ≡ b → Lifted s lanes r (cond b (lift_of r.lanes ks) kept)
    go true e = at₂ (eqb (length ks) (length r.lanes)) (no_entries ks) refl
    go false e = off e

-- fewer lanes show in writing
pub fewer_differs : (r : Rule) (ks : List ℕ) → rule_within r ≡ true → length ks < 2 ^ 64 → (length ks ≡ length r.lanes → ⊥) → same_list (rule.write r) (rule.write (rule_with r r.body ks r.controlled)) ≡ false
fewer_differs r ks f h d = list_differs _ _ (λ e. d (count (append_cancel_left (body.write r.body) _ _ (rule_split r (rule_with r r.body ks r.controlled) refl e))))
  where
    count : numbers.write r.lanes ++ numbers.write r.controlled ≡ numbers.write ks ++ numbers.write r.controlled → length ks ≡ length r.lanes
    count e = unfold numbers list counted only in
        sym (form_splits number (length r.lanes) (length ks) _ _ (number_fits _ (short_lists r f).0) (number_fits _ h)
        (sym (append_assoc (number.write (length r.lanes)) (joined number.write r.lanes) _) ∙ e ∙ append_assoc (number.write (length ks)) (joined number.write ks) _)).0

-- what is told of a rule x that becomes y before the lift: it is the same, or it is a light and shows the change
pub lift_touched : (s : ℕ) (lanes : List ℕ) (x : Rule) → rule_within x ≡ true → is_eased (lift s lanes x) ≡ differ (Some (rule.write x)) (form_in rule.write (lift_by (Some s) lanes x))
unfolding form_in differ
lift_touched s lanes x f = go (lift s lanes x) (lift_is s lanes x)
  where
    go : (k : Lift) → Lifted s lanes x k → is_eased k ≡ differ (Some (rule.write x)) (form_in rule.write (as_lifted x k))
    go kept (off e) = sym (differ_self (Some (rule.write x)))
    go kept (clear e) = sym (differ_self (Some (rule.write x)))
    go (eased ks) (less e d) = rw (fewer_differs x ks f (let u = keep_shorter (λ n. not (member n lanes)) x.lanes in let v = (short_lists x f).0 in let w : length ks ≡ length (keep (λ n. not (member n lanes)) x.lanes) = ap length e in omega arith) d)
    go gone none_left = refl

pub lift_gone : (s : ℕ) (lanes : List ℕ) (x : Rule) → is_gone (lift s lanes x) ≡ not (is_some (lift_by (Some s) lanes x))
lift_gone s lanes x = go (lift s lanes x)
  where
    go : (k : Lift) → is_gone k ≡ not (is_some (as_lifted x k))
    go kept = refl
    go (eased ks) = refl
    go gone = refl

pub lift_same : (l : Option ℕ) (lanes : List ℕ) (x y : Rule) → lift_by l lanes x ≡ Some y → y.num ≡ x.num
lift_same None lanes x y e = let q : x ≡ y = cc in ap (λ (r : Rule). r.num) (sym q)
lift_same (Some s) lanes x y e = go (lift s lanes x) e
  where
    go : (k : Lift) → as_lifted x k ≡ Some y → y.num ≡ x.num
    go kept e = let q : x ≡ y = cc in ap (λ (r : Rule). r.num) (sym q)
    go (eased ks) e = let q : rule_with x x.body ks x.controlled ≡ y = cc in ap (λ (r : Rule). r.num) (sym q)
    go gone e = let z : ◌≡◌ {A = ℕ} 0 1 = cc in absurd (omega arith)

pub lift_ok : (l : Option ℕ) (lanes : List ℕ) (x y : Rule) → rule_ok x ≡ true → lift_by l lanes x ≡ Some y → rule_ok y ≡ true
unfolding rule_ok
lift_ok None lanes x y h e = let q : x ≡ y = cc in subst (λ (r : Rule). rule_ok r ≡ true) q h
lift_ok (Some s) lanes x y h e = go (lift s lanes x) (lift_is s lanes x) e
  where
    go : (k : Lift) → Lifted s lanes x k → as_lifted x k ≡ Some y → rule_ok y ≡ true
    go kept (off f) e = let q : x ≡ y = cc in subst (λ (r : Rule). rule_ok r ≡ true) q h
    go kept (clear f) e = let q : x ≡ y = cc in subst (λ (r : Rule). rule_ok r ≡ true) q h
    go (eased ks) (less f d) e =
        let q : rule_with x x.body ks x.controlled ≡ y = cc in
        subst (λ (r : Rule). rule_ok r ≡ true) q
        (and_i (body_ok_lem x.body && every number.fits ks) _ (and_i (body_ok_lem x.body) _ (search parts) (rw f (keep_every (λ n. not (member n lanes)) number.fits x.lanes (search parts)))) (search parts))
    go gone none_left e = let z : ◌≡◌ {A = ℕ} 0 1 = cc in absurd (omega arith)

-- ---- no stop rule is left: what the light promises

pub lift_clears : (s : ℕ) (lanes : List ℕ) (x y : Rule) → lift_by (Some s) lanes x ≡ Some y → (not (is_stop_at s y.body) || every (λ n. not (member n lanes)) y.lanes) ≡ true
lift_clears s lanes x y e = go (lift s lanes x) (lift_is s lanes x) e
  where
    go : (k : Lift) → Lifted s lanes x k → as_lifted x k ≡ Some y → (not (is_stop_at s y.body) || every (λ n. not (member n lanes)) y.lanes) ≡ true
    go kept (off f) e = let q : y ≡ x = cc in rw (q, f)
    go kept (clear f) e = let q : y ≡ x = cc in rw q (or_r (not (is_stop_at s x.body)) f)
    go (eased ks) (less f d) e =
        let q : y ≡ rule_with x x.body ks x.controlled = cc in
        rw (q, f) (or_r (not (is_stop_at s x.body)) (keep_all (λ n. not (member n lanes)) x.lanes))
    go gone none_left e = let z : ◌≡◌ {A = ℕ} 0 1 = cc in absurd (omega arith)
