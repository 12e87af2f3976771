-- Rules that an edit changes: what is said of them, and that a change shows in writing.
use mathlib.Core.Path.{◌≡◌, refl, sym, ap, subst, ◌∙◌}
use mathlib.Core.Bool.{Bool, true, false, not, ◌&&◌, cond}
use Rattle.std.specs.Prelude.{Option, None, Some}
use mathlib.Core.List.{List, [], ◌∷◌, ◌++◌, append_cancel_left}
use Prim.Native.Nat.{ℕ, ◌<◌, ◌^◌}
use lib.Dec.{eqb}
use lib.ListN.{length}
use native.Mathlib.Omega.{arith}
use borrow.Author.Tests.{eqb-true, eq-eqb, ne_eqb, leb-true}
use Rattle.rows.specs.Lists.{every, same_list}
use Rattle.rows.specs.Table.{find, replaced}
use Rattle.rows.proofs.Bools.{parts, and_i, clash}
use Rattle.rows.proofs.Tables.{changed, found_is}
use Rattle.codec.specs.Format.{◌⊗◌}
use Rattle.codec.specs.Format.{via}
use Rattle.codec.specs.Number.{number}
use Rattle.map.specs.Ceilings.{rule_within, body_within, at_most}
use Rattle.map.specs.Entity.{form_in}
use Rattle.map.specs.MapFile.{rule, body, numbers}
use Rattle.map.specs.Record.{Rule, RuleBody}
use Rattle.map.specs.Rows.{rule_with}
use Rattle.map.proofs.Parts.{rule_ok, body_ok_lem}
use Rattle.run.specs.Law.{differ}
use Rattle.run.proofs.Told.{gone_at, touched_at, differ_self}

-- one rule in place of the one with its number
abbrev pub put : Rule → Rule → Option Rule
put s x = Some (cond (eqb x.num s.num) s x)

pub put_all : (s : Rule) (t : List Rule) → replaced (λ x. x.num) s t ≡ changed (put s) t
unfolding replaced changed
put_all s [] = refl
put_all s (x ∷ t) = ap {B = List Rule} (λ r. cond (eqb x.num s.num) s x ∷ r) (put_all s t)

pub put_same : (s x y : Rule) → put s x ≡ Some y → y.num ≡ x.num
put_same s x y e = go (eqb x.num s.num) refl e
  where
    go : (b : Bool) → eqb x.num s.num ≡ b → Some (cond b s x) ≡ Some y → y.num ≡ x.num
    go true q e = let r : s ≡ y = cc in ap (λ (z : Rule). z.num) (sym r) ∙ sym (eqb-true x.num s.num q)
    go false q e = let r : x ≡ y = cc in ap (λ (z : Rule). z.num) (sym r)

pub put_gone : (s : Rule) (o : Option Rule) → gone_at (put s) o ≡ false
put_gone s None = refl
put_gone s (Some x) = refl

pub every_true : (t : List Rule) → every (λ (x : Rule). true) t ≡ true
unfolding every
every_true [] = refl
every_true (x ∷ t) = every_true t

-- only the rule r in its place is touched
pub put_touched : (s r : Rule) (t : List Rule) (n : ℕ) → find (λ x. x.num) s.num t ≡ Some r
    → touched_at rule.write (put s) (find (λ x. x.num) n t) ≡ (eqb s.num n && not (same_list (rule.write r) (rule.write s)))
unfolding differ form_in
put_touched s r t n e = go (eqb s.num n) refl
  where
    at : (o : Option Rule) → find (λ x. x.num) n t ≡ o → eqb s.num n ≡ false → touched_at rule.write (put s) o ≡ false
    at None q f = refl
    at (Some y) q f = rw (ne_eqb y.num s.num (λ h. let v = (found_is (λ (x : Rule). x.num) n t (λ x. true) y (every_true t) q).1 in clash {b = eqb s.num n} (eq-eqb s.num n (sym h ∙ v)) f)) (differ_self (Some (rule.write y)))

    go : (b : Bool) → eqb s.num n ≡ b → touched_at rule.write (put s) (find (λ x. x.num) n t) ≡ (b && not (same_list (rule.write r) (rule.write s)))
    go true q =
        let f : find (λ x. x.num) n t ≡ Some r = subst (λ (k : ℕ). find (λ x. x.num) k t ≡ Some r) (eqb-true s.num n q) e in
        let v = (found_is (λ (x : Rule). x.num) s.num t (λ x. true) r (every_true t) e).1 in
        rw (f, eq-eqb r.num s.num v)
    go false q = at (find (λ x. x.num) n t) refl q

-- ---- rules with the same number that are written the same

pub rule_split : (r s : Rule) → r.num ≡ s.num → rule.write r ≡ rule.write s
    → body.write r.body ++ (numbers.write r.lanes ++ numbers.write r.controlled) ≡ body.write s.body ++ (numbers.write s.lanes ++ numbers.write s.controlled)
unfolding rule via ◌⊗◌
rule_split r s q e = append_cancel_left (number.write r.num) _ _ (e ∙ rw (← q))

pub short_lists : (r : Rule) → rule_within r ≡ true → (length r.lanes < 2 ^ 64) × (length r.controlled < 2 ^ 64)
unfolding rule_within
short_lists r f = (low r.lanes (search parts), low r.controlled (search parts))
  where
    low : (xs : List ℕ) → at_most 16 xs ≡ true → length xs < 2 ^ 64
    low xs e = let u = leb-true (length xs) 16 e in omega arith

pub body_ok : (r : Rule) → rule_ok r ≡ true → body_ok_lem r.body ≡ true
unfolding rule_ok
body_ok r e = search parts

pub body_within_lem : (r : Rule) → rule_within r ≡ true → body_within r.body ≡ true
unfolding rule_within
body_within_lem r e = search parts

pub rule_made : (r : Rule) (w : RuleBody) (ls cs : List ℕ) → body_ok_lem w ≡ true → every number.fits ls ≡ true → every number.fits cs ≡ true → rule_ok (rule_with r w ls cs) ≡ true
unfolding rule_ok
rule_made r w ls cs a b c = and_i _ _ (and_i _ _ a b) c
