-- Lifting leaves lights alone, so it may come before or after a light is pushed or put in its place; and it leaves every rule within its ceilings.
use Prim.Native.Nat.{ℕ, suc, ◌≤◌}
use mathlib.Core.Path.{◌≡◌, refl, sym, ap, ap₂, ◌∙◌}
use mathlib.Core.Bool.{Bool, true, false, not, ◌&&◌, cond}
use Rattle.std.specs.Prelude.{Option, None, Some}
use mathlib.Core.List.{List, [], ◌∷◌, ◌++◌, append-nil}
use native.Mathlib.Omega.{arith}
use lib.Dec.{eqb, leb}
use lib.ListN.{length}
use borrow.Author.Tests.{eqb-true, leb-true, le-leb, ne_eqb}
use Rattle.rows.specs.Lists.{every, keep, joined, member, no_entries}
use Rattle.rows.specs.Table.{find, replaced, rising}
use Rattle.rows.proofs.Bools.{parts, and_i}
use Rattle.rows.proofs.Tables.{every_append, rising_above}
use Rattle.map.specs.Ceilings.{body_within, rule_within}
use Rattle.map.specs.Record.{light, Rule}
use Rattle.edit.specs.Light.{is_stop_at, Lift, kept, eased, gone, lift_of, lift, lifted, eased_ref, gone_ref, lift_warning}
use Rattle.lifting.specs.Lifting.{lifted_rules}
use Rattle.lifting.proofs.GoneLaws.{joined_more}

-- ---- a light is left alone

pub light_kept : (s : ℕ) (lanes : List ℕ) (r : Rule) (signals : List ℕ) (line : Option ℕ) → r.body ≡ light signals line → lift s lanes r ≡ kept
unfolding lift is_stop_at
light_kept s lanes r signals line e = rw e

-- what is said of a rule that is left alone is nothing
pub none_eased : (r : Rule) → eased_ref r kept ≡ []
unfolding eased_ref
none_eased r = refl

pub none_gone : (r : Rule) → gone_ref r kept ≡ []
unfolding gone_ref
none_gone r = refl

pub none_warned : (r : Rule) → lift_warning r kept ≡ []
unfolding lift_warning
none_warned r = refl

-- ---- a rule that is left alone, pushed

module _ (s : ℕ) (lanes : List ℕ) (rs : List Rule) (r : Rule) (k : lift s lanes r ≡ kept) where
  pub lifted_push : lifted_rules s lanes (rs ++ (r ∷ [])) ≡ lifted_rules s lanes rs ++ (r ∷ [])
  unfolding lifted
  lifted_push = joined_more (λ x. lifted x (lift s lanes x)) rs r ∙ rw k

  pub notes_push : {B : Type 0} (f : Rule → Lift → List B) → f r kept ≡ [] → joined (λ x. f x (lift s lanes x)) (rs ++ (r ∷ [])) ≡ joined (λ x. f x (lift s lanes x)) rs
  notes_push f e = joined_more (λ x. f x (lift s lanes x)) rs r ∙ rw (k, e) (append-nil _)

-- ---- a rule that is left alone, in the place of another that is

abbrev is_kept : Lift → Bool
is_kept kept = true
is_kept (eased ks) = false
is_kept gone = false

is_kept_lem : (k : Lift) → is_kept k ≡ true → k ≡ kept
is_kept_lem kept h = refl
is_kept_lem (eased ks) h = let z : ◌≡◌ {A = Bool} false true = h in cc
is_kept_lem gone h = let z : ◌≡◌ {A = Bool} false true = h in cc

-- a rule of the number n is left alone
abbrev pub alone : ℕ → List ℕ → ℕ → Rule → Bool
alone s lanes n x = cond (eqb x.num n) (is_kept (lift s lanes x)) true

alone_is : (b : Bool) (k : Lift) → cond b (is_kept k) true ≡ true → b ≡ true → k ≡ kept
alone_is true k h e = is_kept_lem k h
alone_is false k h e = let z : ◌≡◌ {A = Bool} false true = e in cc

replaced_joins : (a : Rule) (xs ys : List Rule) → replaced (λ (x : Rule). x.num) a (xs ++ ys) ≡ replaced (λ (x : Rule). x.num) a xs ++ replaced (λ (x : Rule). x.num) a ys
unfolding replaced
replaced_joins a [] ys = refl
replaced_joins a (x ∷ xs) ys = ap (λ (r : List Rule). cond (eqb x.num a.num) a x ∷ r) (replaced_joins a xs ys)

module _ (s : ℕ) (lanes : List ℕ) (a : Rule) (k : lift s lanes a ≡ kept) where
  one_lifted : (x : Rule) (l : Lift) → lift s lanes x ≡ l → (b : Bool) → eqb x.num a.num ≡ b → (b ≡ true → l ≡ kept)
      → lifted (cond b a x) (lift s lanes (cond b a x)) ≡ replaced (λ (x : Rule). x.num) a (lifted x l)
  unfolding lifted replaced
  one_lifted x l e true eb h = rw (k, h refl, eb)
  one_lifted x kept e false eb h = rw (e, eb)
  one_lifted x (eased ks) e false eb h = rw (e, eb)
  one_lifted x gone e false eb h = rw e

  pub lifted_replaced : (rs : List Rule) → every (alone s lanes a.num) rs ≡ true
      → lifted_rules s lanes (replaced (λ (x : Rule). x.num) a rs) ≡ replaced (λ (x : Rule). x.num) a (lifted_rules s lanes rs)
  unfolding joined replaced every
  lifted_replaced [] h = refl
  lifted_replaced (x ∷ rs) h =
      let t = alone_is (eqb x.num a.num) (lift s lanes x) (search parts) in
      ap₂ (λ (p q : List Rule). p ++ q) (one_lifted x (lift s lanes x) refl (eqb x.num a.num) refl t) (lifted_replaced rs (search parts))
      ∙ sym (replaced_joins a (lifted x (lift s lanes x)) (lifted_rules s lanes rs))

  module _ {B : Type 0} (f : Rule → Lift → List B) (None : (x : Rule) → f x kept ≡ []) where
    one_noted : (x : Rule) (b : Bool) → (b ≡ true → lift s lanes x ≡ kept) → f (cond b a x) (lift s lanes (cond b a x)) ≡ f x (lift s lanes x)
    one_noted x true h = rw (k, h refl, None a, None x)
    one_noted x false h = refl

    pub notes_replaced : (rs : List Rule) → every (alone s lanes a.num) rs ≡ true
        → joined (λ x. f x (lift s lanes x)) (replaced (λ (x : Rule). x.num) a rs) ≡ joined (λ x. f x (lift s lanes x)) rs
    unfolding joined replaced every
    notes_replaced [] h = refl
    notes_replaced (x ∷ rs) h =
        ap₂ (λ (p q : List B). p ++ q) (one_noted x (eqb x.num a.num) (alone_is (eqb x.num a.num) (lift s lanes x) (search parts))) (notes_replaced rs (search parts))

-- numbers rise, so the rule that is found is the only one of its number
module _ (s : ℕ) (lanes : List ℕ) (n : ℕ) where
  others_alone : (rs : List Rule) → every (λ (x : Rule). leb (suc n) x.num) rs ≡ true → every (alone s lanes n) rs ≡ true
  unfolding every
  others_alone [] h = refl
  others_alone (x ∷ rs) h =
      let g : suc n ≤ x.num = leb-true (suc n) x.num (search parts) in
      let t : alone s lanes n x ≡ true = rw (ne_eqb x.num n (λ e. let z : ⊥ = omega arith in z)) in
      and_i (alone s lanes n x) (every (alone s lanes n) rs) t (others_alone rs (search parts))

  pub found_alone : (low high : ℕ) (rs : List Rule) (r : Rule) → rising (λ (x : Rule). x.num) low high rs ≡ true → find (λ (x : Rule). x.num) n rs ≡ Some r → lift s lanes r ≡ kept
      → every (alone s lanes n) rs ≡ true
  unfolding rising find every
  found_alone low high [] r u e k = refl
  found_alone low high (x ∷ rs) r u e k = go (eqb x.num n) refl e (λ q. found_alone (suc x.num) high rs r (search parts) q k)
    where
      go : (b : Bool) → eqb x.num n ≡ b → cond b (Some x) (find (λ (x : Rule). x.num) n rs) ≡ Some r → (find (λ (x : Rule). x.num) n rs ≡ Some r → every (alone s lanes n) rs ≡ true)
          → (cond b (is_kept (lift s lanes x)) true && every (alone s lanes n) rs) ≡ true
      go true t e f =
          let q : x ≡ r = cc in
          let m : x.num ≡ n = eqb-true _ _ t in
          rw (q, k) (others_alone rs (rw m at (rising_above (λ (x : Rule). x.num) (suc x.num) high rs (search parts))))
      go false t e f = f e

-- ---- ceilings

keep_fewer : (p : ℕ → Bool) (xs : List ℕ) → length (keep p xs) ≤ length xs
unfolding keep
keep_fewer p [] = omega arith
keep_fewer p (x ∷ xs) = go (p x) (keep_fewer p xs)
  where
    go : (b : Bool) → length (keep p xs) ≤ length xs → length (cond b (x ∷ keep p xs) (keep p xs)) ≤ suc (length xs)
    go true h = omega arith
    go false h = omega arith

fewer : (ls ks xs : List ℕ) → length ks ≤ length ls → lift_of ls ks ≡ eased xs → length xs ≤ length ls
unfolding lift_of
fewer ls ks xs h e = go (eqb (length ks) (length ls)) (no_entries ks) e
  where
    go : (b c : Bool) → cond b kept (cond c gone (eased ks)) ≡ eased xs → length xs ≤ length ls
    go true c e = let z : ◌≡◌ {A = ℕ} 0 1 = cc in absurd (let w : ⊥ = omega arith in w)
    go false true e = let z : ◌≡◌ {A = ℕ} 0 1 = cc in absurd (let w : ⊥ = omega arith in w)
    go false false e = let q : ks ≡ xs = cc in rw q at h

pub eased_fewer : (s : ℕ) (lanes : List ℕ) (r : Rule) (ks : List ℕ) → lift s lanes r ≡ eased ks → length ks ≤ length r.lanes
unfolding lift
eased_fewer s lanes r ks e = go (is_stop_at s r.body) e
  where
    go : (b : Bool) → cond b (lift_of r.lanes (keep (λ n. not (member n lanes)) r.lanes)) kept ≡ eased ks → length ks ≤ length r.lanes
    go true e = fewer r.lanes _ ks (keep_fewer _ r.lanes) e
    go false e = let z : ◌≡◌ {A = ℕ} 0 1 = cc in absurd (let w : ⊥ = omega arith in w)

one_within : (r : Rule) (l : Lift) → rule_within r ≡ true → ((ks : List ℕ) → l ≡ eased ks → length ks ≤ length r.lanes) → every rule_within (lifted r l) ≡ true
unfolding lifted every rule_within
one_within r kept h f = and_i (rule_within r) true h refl
one_within r gone h f = refl
one_within r (eased ks) h f =
    let b : body_within r.body ≡ true = search parts in
    let w : leb (length r.lanes) 16 ≡ true = search parts in
    let d : leb (length r.controlled) 16 ≡ true = search parts in
    let g = leb-true (length r.lanes) 16 w in
    let m = f ks refl in
    and_i ((body_within r.body && leb (length ks) 16) && leb (length r.controlled) 16) true
    (and_i (body_within r.body && leb (length ks) 16) (leb (length r.controlled) 16) (and_i (body_within r.body) (leb (length ks) 16) b (le-leb (length ks) 16 (omega arith))) d) refl

pub lifted_within : (s : ℕ) (lanes : List ℕ) (rs : List Rule) → every rule_within rs ≡ true → every rule_within (lifted_rules s lanes rs) ≡ true
unfolding joined every
lifted_within s lanes [] h = refl
lifted_within s lanes (r ∷ rs) h =
    every_append rule_within (lifted r (lift s lanes r)) (lifted_rules s lanes rs)
    (one_within r (lift s lanes r) (search parts) (λ ks e. eased_fewer s lanes r ks e))
    (lifted_within s lanes rs (search parts))
