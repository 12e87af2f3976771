-- Lifted rules still rise, and a light among them is found as before. Assumes nothing.
use Prim.Native.Nat.{ℕ, suc, ◌≤◌}
use mathlib.Core.Path.{◌≡◌, refl}
use mathlib.Core.Bool.{Bool, true, false, ◌&&◌, cond}
use Rattle.std.specs.Prelude.{Option, None, Some}
use mathlib.Core.List.{List, [], ◌∷◌, ◌++◌}
use native.Mathlib.Omega.{arith}
use borrow.Author.Tests.{leb-true}
use lib.Dec.{eqb, leb, ltb}
use Rattle.rows.specs.Lists.{joined}
use Rattle.rows.specs.Table.{find, rising}
use Rattle.rows.proofs.Bools.{parts, and_i}
use Rattle.rows.proofs.Tables.{rising_wider}
use Rattle.map.specs.Record.{Rule, Map}
use Rattle.map.specs.Lookup.{rule_of}
use Rattle.edit.specs.Light.{Lift, kept, eased, gone, lift, lifted}
use Rattle.lifting.specs.Lifting.{lifted_rules}
use Rattle.lifting.proofs.OrderLaws.{light_kept}
use Rattle.light_draft.specs.Drafting.{lifted_first, Joinable}

module _ (s : ℕ) (lanes : List ℕ) where
  lifted_rises : (low high : ℕ) (rs : List Rule) → rising (λ (x : Rule). x.num) low high rs ≡ true → rising (λ (x : Rule). x.num) low high (lifted_rules s lanes rs) ≡ true
  unfolding rising joined lifted
  lifted_rises low high [] h = refl
  lifted_rises low high (x ∷ rs) h = go (lift s lanes x) (lifted_rises (suc x.num) high rs (search parts))
    where
      low_is : low ≤ x.num
      low_is = leb-true low x.num (search parts)

      first : (leb low x.num && ltb x.num high) ≡ true
      first = search parts

      go : (k : Lift) → rising (λ (y : Rule). y.num) (suc x.num) high (lifted_rules s lanes rs) ≡ true → rising (λ (y : Rule). y.num) low high (lifted x k ++ lifted_rules s lanes rs) ≡ true
      go kept q = and_i (leb low x.num && ltb x.num high) _ first q
      go (eased ks) q = and_i (leb low x.num && ltb x.num high) _ first q
      go gone q = let l = low_is in rising_wider (λ (y : Rule). y.num) (suc x.num) low high high (lifted_rules s lanes rs) (omega arith) (omega arith) q

  lifted_found : (g : ℕ) (rs : List Rule) (r : Rule) → lift s lanes r ≡ kept → find (λ (x : Rule). x.num) g rs ≡ Some r → find (λ (x : Rule). x.num) g (lifted_rules s lanes rs) ≡ Some r
  unfolding find joined lifted
  lifted_found g [] r k e = e
  lifted_found g (x ∷ rs) r k e = go (eqb x.num g) refl e (lift s lanes x) refl (λ q. lifted_found g rs r k q)
    where
      go : (b : Bool) → eqb x.num g ≡ b → cond b (Some x) (find (λ (y : Rule). y.num) g rs) ≡ Some r → (t : Lift) → lift s lanes x ≡ t
          → (find (λ (y : Rule). y.num) g rs ≡ Some r → find (λ (y : Rule). y.num) g (lifted_rules s lanes rs) ≡ Some r)
          → find (λ (y : Rule). y.num) g (lifted x t ++ lifted_rules s lanes rs) ≡ Some r
      go true eb e kept et f = rw eb e
      go true eb e (eased ks) et f = let q : x ≡ r = cc in absurd (let z : ◌≡◌ {A = ℕ} 0 1 = cc in omega arith)
      go true eb e gone et f = let q : x ≡ r = cc in absurd (let z : ◌≡◌ {A = ℕ} 0 1 = cc in omega arith)
      go false eb e kept et f = rw eb (f e)
      go false eb e (eased ks) et f = rw eb (f e)
      go false eb e gone et f = f e

pub first_rises : (m : Map) (o : Option ℕ) (lanes : List ℕ) → rising (λ (x : Rule). x.num) 0 m.next m.rules ≡ true
    → rising (λ (x : Rule). x.num) 0 (lifted_first m o lanes).next (lifted_first m o lanes).rules ≡ true
unfolding lifted_first
first_rises m None lanes h = h
first_rises m (Some s) lanes h = lifted_rises s lanes 0 m.next m.rules h

pub first_found : (m : Map) (o : Option ℕ) (lanes : List ℕ) (g : ℕ) (j : Joinable m g) → rule_of (lifted_first m o lanes) g ≡ Some j.rule
unfolding lifted_first rule_of
first_found m None lanes g j = j.found
first_found m (Some s) lanes g j = lifted_found s lanes g m.rules j.rule (light_kept s lanes j.rule j.signals j.line j.body) j.found
