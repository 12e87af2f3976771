-- What becomes of a table of which f changes the records, and to which o is added.
use mathlib.Core.Path.{◌≡◌, refl, sym, ap, subst}
use mathlib.Core.Bool.{Bool, true, false, not, ◌&&◌}
use Rattle.std.specs.Prelude.{Option, None, Some}
use mathlib.Core.List.{List, [], ◌∷◌, ◌++◌, append-nil}
use Prim.Native.Nat.{ℕ, ◌<◌, ◌≤◌}
use lib.Dec.{eqb, ltb}
use native.Mathlib.Omega.{arith}
use borrow.Author.Tests.{ne_eqb, ltb-true}
use Rattle.rows.specs.Lists.{or_else}
use Rattle.rows.specs.Table.{find, rising}
use Rattle.rows.proofs.SameLists.{list_same}
use Rattle.rows.proofs.Tables.{is_some, from_some, found_new, one, changed, changed_some, found_is, find_changed, find-append, rising_below, or_none}
use Rattle.codec.specs.Format.{Bytes}
use Rattle.map.specs.Entity.{form_in, form_of, has, EntityRef}
use Rattle.map.specs.Record.{Map}
use Rattle.map.proofs.Presence.{has_form}
use Rattle.run.specs.Law.{differ, alters}

abbrev pub gone_at : {A : Type 0} → (A → Option A) → Option A → Bool
gone_at f o = is_some o && not (is_some (from_some o f))

abbrev pub touched_at : {A : Type 0} → (A → Bytes) → (A → Option A) → Option A → Bool
touched_at w f o = differ (form_in w o) (form_in w (from_some o f))

abbrev pub new_num : {A : Type 0} → (A → ℕ) → Option A → ℕ → Bool
new_num num None n = false
new_num num (Some x) n = eqb (num x) n

pub differ_self : (f : Option Bytes) → differ f f ≡ false
unfolding differ
differ_self None = refl
differ_self (Some x) = rw (list_same x)

pub alters_has : (m n : Map) (a : EntityRef) → alters m n a ≡ true → (has m a && has n a) ≡ true
unfolding alters differ
alters_has m n a t = rw (has_form m a, has_form n a) (go (form_of m a) (form_of n a) t)
  where
    go : (f g : Option Bytes) → differ f g ≡ true → (is_some f && is_some g) ≡ true
    go None g t = t
    go (Some x) None t = t
    go (Some x) (Some y) t = refl

module _ {A : Type 0} (num : A → ℕ) (w : A → Bytes) (h : ℕ) (t : List A) (r : rising num 0 h t ≡ true) where
  pub record Told (f : A → Option A) (o : Option A) (t' : List A) (n : ℕ) : Type 0 where
    pub created : new_num num o n ≡ (is_some (form_in w (find num n t')) && not (is_some (form_in w (find num n t))))
    pub deleted : gone_at f (find num n t) ≡ (is_some (form_in w (find num n t)) && not (is_some (form_in w (find num n t'))))
    pub modified : touched_at w f (find num n t) ≡ differ (form_in w (find num n t)) (form_in w (find num n t'))

  module _ (f : A → Option A) (same : (x y : A) → f x ≡ Some y → num y ≡ num x) where
    pub told : (o : Option A) → ((x : A) → o ≡ Some x → h ≤ num x) → (n : ℕ) → Told f o (changed f t ++ one o) n
    unfolding form_in differ
    told o fresh n = go (find num n t) refl o fresh (found o)
      where
        found : (o : Option A) → find num n (changed f t ++ one o) ≡ or_else (from_some (find num n t) f) (found_new num o n)
        found None = rw (append-nil, find_changed num f same 0 h n t r) (sym (or_none (from_some (find num n t) f)))
        found (Some x) = rw (find-append num n (changed f t) x, find_changed num f same 0 h n t r)

        old : (y : A) → find num n t ≡ Some y → n < h
        old y q = let v = found_is num n t (λ z. ltb (num z) h) y (rising_below num 0 h t r) q in let a = ltb-true (num y) h v.0 in let b = v.1 in omega arith

        sees : (y : Option A) (o : Option A) (g : Option A) → find num n t ≡ y → find num n (changed f t ++ one o) ≡ g
            → new_num num o n ≡ (is_some (form_in w g) && not (is_some (form_in w y))) → gone_at f y ≡ (is_some (form_in w y) && not (is_some (form_in w g)))
            → touched_at w f y ≡ differ (form_in w y) (form_in w g) → Told f o (changed f t ++ one o) n
        sees y o g p q c d m = record { created = rw (p, q) c; deleted = rw (p, q) d; modified = rw (p, q) m }

        go : (y : Option A) → find num n t ≡ y → (o : Option A) → ((x : A) → o ≡ Some x → h ≤ num x)
            → find num n (changed f t ++ one o) ≡ or_else (from_some (find num n t) f) (found_new num o n) → Told f o (changed f t ++ one o) n
        go None p None fresh e = sees None None None p (rw p at e) refl refl refl
        go None p (Some x) fresh e = at (eqb (num x) n) refl
          where
            at : (b : Bool) → eqb (num x) n ≡ b → Told f (Some x) (changed f t ++ (x ∷ [])) n
            at true q = sees None (Some x) (Some x) p (rw (p, q) at e) (rw q) refl refl
            at false q = sees None (Some x) None p (rw (p, q) at e) (rw q) refl refl
        go (Some y) p None fresh e = at (f y) refl
          where
            at : (z : Option A) → f y ≡ z → Told f None (changed f t ++ []) n
            at None q = sees (Some y) None None p (rw (p, q) at e) refl (rw q) (rw q)
            at (Some z) q = sees (Some y) None (Some z) p (rw (p, q) at e) refl (rw q) (rw q)
        go (Some y) p (Some x) fresh e = at (f y) refl (ne_eqb (num x) n (λ q. let u = fresh x refl in let v = old y p in omega arith))
          where
            at : (z : Option A) → f y ≡ z → eqb (num x) n ≡ false → Told f (Some x) (changed f t ++ (x ∷ [])) n
            at None q s = sees (Some y) (Some x) None p (rw (p, q, s) at e) (rw s) (rw q) (rw q)
            at (Some z) q s = sees (Some y) (Some x) (Some z) p (rw (p, q) at e) (rw s) (rw q) (rw q)

  -- where no record changes
  pub told_kept : (o : Option A) → ((x : A) → o ≡ Some x → h ≤ num x) → (n : ℕ) → Told Some o (t ++ one o) n
  told_kept o fresh n = subst (λ (l : List A). Told Some o (l ++ one o) n) (changed_some t) (told Some (λ x y e. let q : x ≡ y = cc in ap num (sym q)) o fresh n)

pub kept_not_gone : {A : Type 0} (o : Option A) → gone_at Some o ≡ false
kept_not_gone None = refl
kept_not_gone (Some x) = refl

pub kept_untouched : {A : Type 0} (w : A → Bytes) (o : Option A) → touched_at w Some o ≡ false
kept_untouched w None = differ_self (form_in w None)
kept_untouched w (Some x) = differ_self (form_in w (Some x))
