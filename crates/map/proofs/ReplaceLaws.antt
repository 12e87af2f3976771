-- A record that is replaced by its number is the one that stands at its index, since numbers rise. Assumes nothing.
use Prim.Native.Nat.{ℕ, zero, suc, ◌≤◌, ◌<◌}
use mathlib.Core.Path.{◌≡◌, refl, sym, ap, ◌∙◌}
use mathlib.Core.Bool.{true, ◌&&◌}
use mathlib.Core.List.{List, [], ◌∷◌}
use native.Mathlib.Omega.{arith}
use borrow.Author.Tests.{leb-true, eq-eqb, ne_eqb}
use lib.Dec.{leb, ltb}
use lib.Ieee.{Float}
use lib.ListN.{length, get_or, set}
use Rattle.rows.specs.Lists.{every}
use Rattle.rows.specs.Table.{replaced, rising}
use Rattle.rows.proofs.Indexed.{get_or-list_to, length-list_to}
use Rattle.rows.proofs.Tables.{found_is}
use Rattle.codec.specs.Format.{both}
use Rattle.store.specs.Layout.{count_of, row_of, coords_of, records_of}
use Rattle.std.specs.Prelude.{Some}
use Rattle.map.specs.Record.{Rule}
use Rattle.map.specs.Tables.{rule_in, map_of}
use Rattle.map.specs.Access.{lookup}
use Rattle.map.proofs.ReadLaws.{rule_number_lem, found_index, found_record}

module _ {A : Type 0} (num : A → ℕ) where
  first_low : (low high : ℕ) (x : A) (xs : List A) → rising num low high (x ∷ xs) ≡ true → (low ≤ num x) × (rising num (suc (num x)) high xs ≡ true)
  unfolding rising
  first_low low high x xs h =
      let a = both (leb low (num x) && ltb (num x) high) (rising num (suc (num x)) high xs) h in
      (leb-true low (num x) (both (leb low (num x)) (ltb (num x) high) a.0).0, a.1)

  all_low : (low high : ℕ) (xs : List A) → rising num low high xs ≡ true → (j : ℕ) (z : A) → j < length xs → low ≤ num (get_or xs j z)
  all_low low high [] h j z g = absurd (let q : ⊥ = omega arith in q)
  all_low low high (x ∷ xs) h zero z g = (first_low low high x xs h).0
  all_low low high (x ∷ xs) h (suc j) z g =
      let a = first_low low high x xs h in
      omega (arith, a.0, all_low (suc (num x)) high xs a.1 j z (omega arith))

  replaced_none : (a : A) (low high : ℕ) (xs : List A) → rising num low high xs ≡ true → num a < low → replaced num a xs ≡ xs
  unfolding replaced
  replaced_none a low high [] h g = refl
  replaced_none a low high (x ∷ xs) h g =
      let p = first_low low high x xs h in
      let l = p.0 in
      rw (ne_eqb (num x) (num a) (omega arith), replaced_none a (suc (num x)) high xs p.1 (omega arith))

  pub replaced-set : (a : A) (low high : ℕ) (xs : List A) → rising num low high xs ≡ true → (i : ℕ) (z : A) → i < length xs → num (get_or xs i z) ≡ num a → replaced num a xs ≡ set xs i a
  unfolding replaced
  replaced-set a low high [] h i z g e = refl
  replaced-set a low high (x ∷ xs) h zero z g e =
      let p = first_low low high x xs h in
      rw (eq-eqb (num x) (num a) e, replaced_none a (suc (num x)) high xs p.1 (omega arith))
  replaced-set a low high (x ∷ xs) h (suc i) z g e =
      let p = first_low low high x xs h in
      let l = all_low (suc (num x)) high xs p.1 i z (omega arith) in
      rw (ne_eqb (num x) (num a) (omega arith), replaced-set a (suc (num x)) high xs p.1 i z (omega arith) e)

all_yes : {A : Type 0} (xs : List A) → every (λ _. true) xs ≡ true
unfolding every
all_yes [] = refl
all_yes (x ∷ xs) = all_yes xs

-- the rule that a look-up found
pub found_number : (ws : List ℕ) (cs : List Float) (x i : ℕ) → lookup ws 5 x ≡ Some i → (rule_in (row_of ws 5 i) (coords_of cs 5 i)).num ≡ x
found_number ws cs x i e = (found_is (λ (r : Rule). r.num) x (records_of rule_in ws cs 5) (λ _. true) (rule_in (row_of ws 5 i) (coords_of cs 5 i)) (all_yes (records_of rule_in ws cs 5)) (found_record (λ r. r.num) rule_in rule_number_lem ws cs 5 (omega arith) x i e)).1

rule_at_lem : (ws : List ℕ) (cs : List Float) (i : ℕ) (z : Rule) → i < count_of ws 5 → get_or (map_of ws cs).rules i z ≡ rule_in (row_of ws 5 i) (coords_of cs 5 i)
unfolding map_of records_of
rule_at_lem ws cs i z h = get_or-list_to (λ j. rule_in (row_of ws 5 j) (coords_of cs 5 j)) (count_of ws 5) i z h

rule_count : (ws : List ℕ) (cs : List Float) → length (map_of ws cs).rules ≡ count_of ws 5
unfolding map_of records_of
rule_count ws cs = length-list_to _ (count_of ws 5)

-- the definition's replacement is the row edit's
pub rule_replaced : (ws : List ℕ) (cs : List Float) (x i : ℕ) → lookup ws 5 x ≡ Some i → rising (λ (r : Rule). r.num) 0 (map_of ws cs).next (map_of ws cs).rules ≡ true
    → (a : Rule) → a.num ≡ x → replaced (λ (r : Rule). r.num) a (map_of ws cs).rules ≡ set (map_of ws cs).rules i a
rule_replaced ws cs x i e up a n =
    let here = (found_index (λ r. r.num) rule_in rule_number_lem ws cs 5 (omega arith) x i e).1 in
    replaced-set (λ (r : Rule). r.num) a 0 (map_of ws cs).next (map_of ws cs).rules up i a (omega (arith, rule_count ws cs)) (ap (λ (r : Rule). r.num) (rule_at_lem ws cs i a here) ∙ found_number ws cs x i e ∙ sym n)
