-- What an accepted call says of the numbers that it names, and of the parts of a shape.
use mathlib.Core.Path.{◌≡◌, refl, sym, ap, subst}
use mathlib.Core.Bool.{Bool, true, false, ◌&&◌, cond}
use Rattle.std.specs.Prelude.{Option, None, Some}
use mathlib.Core.List.{List, [], ◌∷◌}
use Prim.Native.Nat.{ℕ, suc, ◌<◌, ◌≤◌, ◌^◌}
use lib.Dec.{ltb}
use native.Mathlib.Omega.{arith}
use borrow.Author.Tests.{ltb-true, lt-ltb, le-leb}
use Rattle.refusal.specs.Answer.{done}
use Rattle.rows.specs.Lists.{every, first_of, or_else, no_entries}
use Rattle.rows.specs.Table.{holds, rising}
use Rattle.rows.proofs.Bools.{parts, and_i, and_no}
use Rattle.codec.specs.Format.{Bytes}
use Rattle.codec.specs.Number.{number}
use Rattle.map.specs.Lookup.{unknown_in}
use Rattle.map.specs.MapFile.{is_map}
use Rattle.map.specs.Record.{Lane, Map}
use Rattle.map.proofs.Presence.{held_below}
use Rattle.map.proofs.ByKind.{up₁}
use Rattle.place.specs.Place.{refuse_found, check_lane_list}
use Rattle.place.proofs.Answers.{never, next, past}
use Rattle.run.proofs.Shape.{Fresh}
use Rattle.run.proofs.Told.{gone_at, touched_at, kept_not_gone, kept_untouched}

pub unfound : {u : Unit {0}} (o : Option ℕ) (k : ℕ) → refuse_found o k ≡ done u → o ≡ None
unfound None k e = refl
unfound (Some n) k e = never e

-- ---- known numbers are below the next one

module _ (m : Map) (ok : is_map m ≡ true) {A : Type 0} (num : A → ℕ) (t : List A) (r : rising num 0 m.next t ≡ true) where
  pub known : (ns : List ℕ) → unknown_in num t ns ≡ None → every (λ n. ltb n m.next) ns ≡ true
  unfolding unknown_in first_of every
  known [] e = refl
  known (n ∷ ns) e = go (holds num n t) refl e (known ns)
    where
      go : (b : Bool) → holds num n t ≡ b → or_else (cond b None (Some n)) (unknown_in num t ns) ≡ None → (unknown_in num t ns ≡ None → every (λ k. ltb k m.next) ns ≡ true)
          → (ltb n m.next && every (λ k. ltb k m.next) ns) ≡ true
      go true h e k = and_i _ _ (lt-ltb n m.next (held_below m ok num t n r h)) (k e)
      go false h e k = let z : ◌≡◌ {A = ℕ} 0 1 = cc in absurd (omega arith)

pub lanes_known : (m : Map) → is_map m ≡ true → (ns : List ℕ) (u : Unit {0}) → check_lane_list m ns ≡ done u → every (λ n. ltb n m.next) ns ≡ true
unfolding check_lane_list
lanes_known m ok ns u e =
    let a = past (no_entries ns) 1 [] _ u e in
    let b = next (refuse_found (unknown_in (λ l. l.num) m.lanes ns) 1) _ u a.rest in
    known m ok (λ (l : Lane). l.num) m.lanes (up₁ m ok) ns (unfound _ 1 b.first)

pub below_fits : (h : ℕ) → h < 2 ^ 64 → (ns : List ℕ) → every (λ n. ltb n h) ns ≡ true → every number.fits ns ≡ true
unfolding every number
below_fits h k [] e = refl
below_fits h k (n ∷ ns) e = go (ltb-true n h (search parts)) (below_fits h k ns (search parts))
  where
    go : n < h → every number.fits ns ≡ true → (number.fits n && every number.fits ns) ≡ true
    go u v = and_i _ _ (lt-ltb n (2 ^ 64) (omega arith)) v

-- ---- parts of a shape: nothing new, one new record, no rule changed

module _ {A : Type 0} where
  pub no_fresh : (num : A → ℕ) (l h : ℕ) → Fresh num l h None
  no_fresh num l h x e = let z : ◌≡◌ {A = ℕ} 0 1 = cc in absurd (omega arith)

  pub is_fresh : (num : A → ℕ) (l h : ℕ) (y : A) → l ≤ num y → num y < h → Fresh num l h (Some y)
  is_fresh num l h y p q x e = let r : y ≡ x = cc in subst (λ (z : A). (l ≤ num z) × (num z < h)) r (p, q)

  pub no_ok : (p : A → Bool) (x : A) → ◌≡◌ {A = Option A} None (Some x) → p x ≡ true
  no_ok p x e = let z : ◌≡◌ {A = ℕ} 0 1 = cc in absurd (omega arith)

  pub is_ok : (p : A → Bool) (y : A) → p y ≡ true → (x : A) → Some y ≡ Some x → p x ≡ true
  is_ok p y t x e = let r : y ≡ x = cc in subst (λ (z : A). p z ≡ true) r t

  pub kept_same : (num : A → ℕ) (x y : A) → Some x ≡ Some y → num y ≡ num x
  kept_same num x y e = let q : x ≡ y = cc in ap num (sym q)

  pub kept_ok : (p : A → Bool) (x y : A) → p x ≡ true → Some x ≡ Some y → p y ≡ true
  kept_ok p x y t e = let q : x ≡ y = cc in subst (λ (z : A). p z ≡ true) q t

pub none_gone : {A : Type 0} (b : Bool) (o : Option A) → false ≡ (b && gone_at Some o)
none_gone b o = rw (kept_not_gone o) (sym (and_no b))

pub none_touched : {A : Type 0} (w : A → Bytes) (b : Bool) (o : Option A) → false ≡ (b && touched_at w Some o)
none_touched w b o = rw (kept_untouched w o) (sym (and_no b))

-- ---- the new numbers rise

pub rise_one : (l h a : ℕ) → l ≤ a → a < h → rising (λ n. n) l h (a ∷ []) ≡ true
unfolding rising
rise_one l h a p q = and_i _ _ (and_i _ _ (le-leb l a p) (lt-ltb a h q)) refl

pub rise_two : (l h a b : ℕ) → l ≤ a → a < b → b < h → rising (λ n. n) l h (a ∷ b ∷ []) ≡ true
unfolding rising
rise_two l h a b p q r = and_i _ _ (and_i _ _ (le-leb l a p) (lt-ltb a h (omega arith))) (rise_one (suc a) h b (omega arith) r)

pub rise_three : (l h a b c : ℕ) → l ≤ a → a < b → b < c → c < h → rising (λ n. n) l h (a ∷ b ∷ c ∷ []) ≡ true
unfolding rising
rise_three l h a b c p q r s = and_i _ _ (and_i _ _ (le-leb l a p) (lt-ltb a h (omega arith))) (rise_two (suc a) h b c (omega arith) r s)
