-- A rule put in the place of another: what the tests of all rules come to. Assumes nothing.
use Prim.Native.Nat.{ℕ, suc, ◌+◌}
use mathlib.Core.Path.{◌≡◌, refl, sym, ap, ◌∙◌}
use mathlib.Core.Bool.{Bool, true, false, ◌&&◌, cond}
use Rattle.std.specs.Prelude.{Some}
use mathlib.Core.List.{List, [], ◌∷◌}
use native.Mathlib.Omega.{arith}
use borrow.Author.Tests.{eqb-true, leb-true, ne_eqb}
use lib.Dec.{eqb, leb}
use lib.ListN.{length}
use Rattle.rows.specs.Lists.{every, total}
use Rattle.rows.specs.Table.{find, replaced, rising}
use Rattle.rows.proofs.Bools.{parts, and_i}
use Rattle.rows.proofs.Tables.{rising_above}
use Rattle.map.specs.Ceilings.{rule_points}
use Rattle.map.specs.Record.{Rule}

abbrev number : Rule → ℕ
number x = x.num

pub length-replaced : (a : Rule) (rs : List Rule) → length (replaced (λ (x : Rule). x.num) a rs) ≡ length rs
unfolding replaced
length-replaced a [] = refl
length-replaced a (x ∷ rs) = ap suc (length-replaced a rs)

module _ (a : Rule) (p : Rule → Bool) where
  all_kept : (rs : List Rule) → every p rs ≡ true → p a ≡ true → every p (replaced (λ (x : Rule). x.num) a rs) ≡ true
  unfolding every replaced
  all_kept [] h t = refl
  all_kept (x ∷ rs) h t = and_i _ _ (go (eqb x.num a.num) (search parts)) (all_kept rs (search parts) t)
    where
      go : (b : Bool) → p x ≡ true → p (cond b a x) ≡ true
      go true k = t
      go false k = k

  pub every_replaced : (rs : List Rule) (r : Rule) → find (λ (x : Rule). x.num) a.num rs ≡ Some r → every p rs ≡ true → every p (replaced (λ (x : Rule). x.num) a rs) ≡ p a
  unfolding every replaced find
  every_replaced [] r e h = absurd (let z : ◌≡◌ {A = ℕ} 0 1 = cc in omega arith)
  every_replaced (x ∷ rs) r e h = go (eqb x.num a.num) e (λ q. every_replaced rs r q (search parts))
    where
      own : (t : Bool) → p a ≡ t → (t && every p (replaced (λ (y : Rule). y.num) a rs)) ≡ t
      own true k = all_kept rs (search parts) k
      own false k = refl

      go : (b : Bool) → cond b (Some x) (find (λ (y : Rule). y.num) a.num rs) ≡ Some r → (find (λ (y : Rule). y.num) a.num rs ≡ Some r → every p (replaced (λ (y : Rule). y.num) a rs) ≡ p a)
          → (p (cond b a x) && every p (replaced (λ (y : Rule). y.num) a rs)) ≡ p a
      go true q f = own (p a) refl
      go false q f = let t : p x ≡ true = search parts in rw t (f q)

replaced_after : (a : Rule) (rs : List Rule) → every (λ (x : Rule). leb (suc a.num) x.num) rs ≡ true → replaced (λ (x : Rule). x.num) a rs ≡ rs
unfolding every replaced
replaced_after a [] h = refl
replaced_after a (x ∷ rs) h =
    let g = leb-true (suc a.num) x.num (search parts) in
    rw (ne_eqb x.num a.num (λ e. let z : ⊥ = omega arith in z), replaced_after a rs (search parts))

pub total_replaced : (a : Rule) (low high : ℕ) (rs : List Rule) (r : Rule) → rising (λ (x : Rule). x.num) low high rs ≡ true → find (λ (x : Rule). x.num) a.num rs ≡ Some r
    → rule_points a ≡ rule_points r → total rule_points (replaced (λ (x : Rule). x.num) a rs) ≡ total rule_points rs
unfolding total replaced find rising
total_replaced a low high [] r up e h = refl
total_replaced a low high (x ∷ rs) r up e h = go (eqb x.num a.num) refl e (λ q. total_replaced a (suc x.num) high rs r (search parts) q h)
  where
    go : (b : Bool) → eqb x.num a.num ≡ b → cond b (Some x) (find (λ (y : Rule). y.num) a.num rs) ≡ Some r
        → (find (λ (y : Rule). y.num) a.num rs ≡ Some r → total rule_points (replaced (λ (y : Rule). y.num) a rs) ≡ total rule_points rs)
        → rule_points (cond b a x) + total rule_points (replaced (λ (y : Rule). y.num) a rs) ≡ rule_points x + total rule_points rs
    go true t q f =
        let s : x ≡ r = cc in
        let m : x.num ≡ a.num = eqb-true _ _ t in
        let k : replaced (λ (y : Rule). y.num) a rs ≡ rs = replaced_after a rs (rw m at (rising_above (λ (y : Rule). y.num) (suc x.num) high rs (search parts))) in
        let w : rule_points a ≡ rule_points x = h ∙ ap rule_points (sym s) in
        rw (k, w)
    go false t q f = ap (λ (n : ℕ). rule_points x + n) (f q)
