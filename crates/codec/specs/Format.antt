-- Formats: how the values of a type are written as bytes, and how they are read. No format is made without its two laws.
use Prim.Native.Nat.{ℕ, zero, suc}
use Rattle.std.specs.Prelude.{◌≡◌, Bool, true, false, ◌&&◌, cond, length, Option, None, Some}
use Rattle.std.proofs.Math.Path.{refl}
use Rattle.std.proofs.Common.{sym, ap, ◌∙◌, arith}
use mathlib.Core.List.{List, [], ◌∷◌, ◌++◌, append_assoc, append-nil}
use Rattle.rows.specs.Lists.{every, joined, open_lists}

abbrev pub Bytes : Type 0
Bytes = List ℕ

-- what reading comes to: a fault, or a value and the bytes that are left
pub data Read (A : Type 0) : Type 0 where
  fault : Read A
  got : A → Bytes → Read A

abbrev pub and_then : {A B : Type 0} → Read A → (A → Bytes → Read B) → Read B
and_then fault f = fault
and_then (got a s) f = f a s

-- fits: which values the format holds. there: what is written is read, whatever follows it.
-- back: what is read is held, and stood there in its written form, so no value has two written forms.
pub record Format (A : Type 0) : Type 0 where
  pub write : A → Bytes
  pub read : Bytes → Read A
  pub fits : A → Bool
  pub there : (a : A) (s : Bytes) → fits a ≡ true → read (write a ++ s) ≡ got a s
  pub back : (s : Bytes) (a : A) (t : Bytes) → read s ≡ got a t → (fits a ≡ true) × (s ≡ write a ++ t)

-- ---- for the laws

pub no_got : {A : Type 0} {a : A} {t : Bytes} → fault ≡ got a t → ⊥
no_got e = let z : ◌≡◌ {A = ℕ} 0 1 = cc in omega arith

pub no_true : false ≡ true → ⊥
no_true e = let z : ◌≡◌ {A = ℕ} 0 1 = cc in omega arith

module _ {A B C : Type 0} where
  pub after : (r : Read A) {f : A → Bytes → Read B} {b : B} {t : Bytes} → and_then r f ≡ got b t → ((a : A) (u : Bytes) → r ≡ got a u → f a u ≡ got b t → C) → C
  after fault h k = absurd (no_got h)
  after (got a u) h k = k a u refl h

pub both : (p q : Bool) → p && q ≡ true → (p ≡ true) × (q ≡ true)
both true q h = (refl, h)
both false q h = absurd (no_true h)

pub and : (p q : Bool) → p ≡ true → q ≡ true → p && q ≡ true
and p q hp hq = rw (hp, hq)

module _ {A : Type 0} where
  pub same_value : {a b : A} {s t : Bytes} → got a s ≡ got b t → a ≡ b
  same_value e = cc

  pub same_rest : {a b : A} {s t : Bytes} → got a s ≡ got b t → s ≡ t
  same_rest e = cc

-- ---- one after the other

module _ {A B : Type 0} where
  infixr 20 ◌⊗◌
  unfoldable pub ◌⊗◌ : Format A → Format B → Format (A × B)
  f ⊗ g =
      record {
        write = λ p. f.write p.0 ++ g.write p.1;
        read = λ s. and_then (f.read s) (λ a t. and_then (g.read t) (λ b u. got (a, b) u));
        fits = λ p. f.fits p.0 && g.fits p.1;
        there = λ p s h.
            let h1 = both (f.fits p.0) (g.fits p.1) h in
            rw (append_assoc, f.there p.0 (g.write p.1 ++ s) h1.0, g.there p.1 s h1.1);
        back = λ s p t h.
            after (f.read s) h λ a u e h2.
            after (g.read u) h2 λ b v d k.
            rw (← same_value k)
            (and _ _ (f.back s a u e).0 (g.back u b v d).0, rw (append_assoc, ← same_rest k, ← (g.back u b v d).1) (f.back s a u e).1);
      }

-- ---- the same bytes, for values that correspond one to one, as far as f holds them

module _ {A B : Type 0} where
  unfoldable pub via : (f : Format A) (into : A → B) (out : B → A) → ((a : A) → f.fits a ≡ true → out (into a) ≡ a) → ((b : B) → f.fits (out b) ≡ true → into (out b) ≡ b) → Format B
  via f into out oi io =
      record {
        write = λ b. f.write (out b);
        read = λ s. and_then (f.read s) (λ a t. got (into a) t);
        fits = λ b. f.fits (out b);
        there = λ b s h. rw (f.there (out b) s h, io b h);
        back = λ s b t h.
            after (f.read s) h λ a u e k.
            rw (← same_value k, oi a (f.back s a u e).0, ← same_rest k) (f.back s a u e);
      }

-- ---- only values that pass a test

module _ {A : Type 0} where
  pub passed : (p : Bool) {r : Read A} {a : A} {t : Bytes} → cond p r fault ≡ got a t → (p ≡ true) × (r ≡ got a t)
  passed true h = (refl, h)
  passed false h = absurd (no_got h)

  unfoldable pub only : (A → Bool) → Format A → Format A
  only p f =
      record {
        write = f.write;
        read = λ s. and_then (f.read s) (λ a t. cond (p a) (got a t) fault);
        fits = λ a. f.fits a && p a;
        there = λ a s h.
            let h1 = both (f.fits a) (p a) h in
            rw (f.there a s h1.0, h1.1);
        back = λ s a t h.
            after (f.read s) h λ b u e k.
            let k1 = passed (p b) k in
            rw (← same_value k1.1, ← same_rest k1.1) (and _ _ (f.back s b u e).0 k1.0, (f.back s b u e).1);
      }

-- ---- a value, and then one whose format goes by it

module _ {A : Type 0} {B : A → Type 0} where
  unfoldable pub tagged : Format A → ((a : A) → Format (B a)) → Format ((a : A) × B a)
  tagged f g =
      record {
        write = λ p. f.write p.0 ++ (g p.0).write p.1;
        read = λ s. and_then (f.read s) (λ a t. and_then ((g a).read t) (λ b u. got (a, b) u));
        fits = λ p. f.fits p.0 && (g p.0).fits p.1;
        there = λ p s h.
            let h1 = both (f.fits p.0) ((g p.0).fits p.1) h in
            rw (append_assoc, f.there p.0 ((g p.0).write p.1 ++ s) h1.0, (g p.0).there p.1 s h1.1);
        back = λ s p t h.
            after (f.read s) h λ a u e h2.
            after ((g a).read u) h2 λ b v d k.
            rw (← same_value k)
            (and _ _ (f.back s a u e).0 ((g a).back u b v d).0, rw (append_assoc, ← same_rest k, ← ((g a).back u b v d).1) (f.back s a u e).1);
      }

-- ---- no bytes, and no value

unfoldable pub nothing : Format (Unit {0})
nothing = record { write = λ x. []; read = λ s. got tt s; fits = λ x. true; there = λ x s h. refl; back = λ s x t h. (refl, same_rest h) }

unfoldable pub never : {A : Type 0} → Format A
never = record { write = λ x. []; read = λ s. fault; fits = λ x. false; there = λ x s h. absurd (no_true h); back = λ s x t h. absurd (no_got h) }

-- ---- items, as many as are said

module _ {A : Type 0} (f : Format A) where
  unfoldable pub read_items : ℕ → Bytes → Read (List A)
  read_items zero s = got [] s
  read_items (suc n) s = and_then (f.read s) (λ a t. and_then (read_items n t) (λ xs u. got (a ∷ xs) u))

  pub items_there : (xs : List A) (s : Bytes) → every f.fits xs ≡ true → read_items (length xs) (joined f.write xs ++ s) ≡ got xs s
  unfolding read_items every joined
  items_there [] s h = refl
  items_there (x ∷ xs) s h =
      let h1 = both (f.fits x) (every f.fits xs) h in
      rw (append_assoc, f.there x (joined f.write xs ++ s) h1.0, items_there xs s h1.1)

  pub items_back : (n : ℕ) (s : Bytes) (xs : List A) (t : Bytes) → read_items n s ≡ got xs t → (length xs ≡ n) × (every f.fits xs ≡ true) × (s ≡ joined f.write xs ++ t)
  unfolding read_items every joined
  items_back zero s xs t h = rw (← same_value h) (refl, refl, same_rest h)
  items_back (suc n) s xs t h =
      after (f.read s) h λ a u e h2.
      after (read_items n u) h2 λ ys v d k.
      let ih = items_back n u ys v d in
      rw (← same_value k)
      (ap suc ih.0, and _ _ (f.back s a u e).0 ih.1, rw (append_assoc, ← same_rest k, ← ih.2) (f.back s a u e).1)

  -- a count, in the format c, then its items
  unfoldable pub counted : Format ℕ → Format (List A)
  counted c =
      record {
        write = λ xs. c.write (length xs) ++ joined f.write xs;
        read = λ s. and_then (c.read s) (λ n t. read_items n t);
        fits = λ xs. c.fits (length xs) && every f.fits xs;
        there = λ xs s h.
            let h1 = both (c.fits (length xs)) (every f.fits xs) h in
            rw (append_assoc, c.there (length xs) (joined f.write xs ++ s) h1.0, items_there xs s h1.1);
        back = λ s xs t h.
            after (c.read s) h λ n u e k.
            let i = items_back n u xs t k in
            (and (c.fits (length xs)) _ (rw i.0 (c.back s n u e).0) i.1, rw (append_assoc, i.0, ← i.2) (c.back s n u e).1);
      }

-- ---- a whole file: nothing is left over

module _ {A : Type 0} (f : Format A) where
  unfoldable pub ended : Read A → Option A
  ended fault = None
  ended (got a []) = Some a
  ended (got a (b ∷ s)) = None

  -- the value whose written form the bytes are
  unfoldable pub file_of : Bytes → Option A
  file_of s = ended (f.read s)

  -- a value that fits has a file, and it is read as that value
  pub file_there : (a : A) → f.fits a ≡ true → file_of (f.write a) ≡ Some a
  unfolding file_of ended
  file_there a h = rw (rw append-nil at (f.there a [] h))

  ended_got : (r : Read A) (a : A) → ended r ≡ Some a → r ≡ got a []
  unfolding ended
  ended_got fault a h = cc
  ended_got (got b []) a h = cc
  ended_got (got b (x ∷ s)) a h = cc

  -- bytes that are read as a value are its file, so it has no other
  pub file_back : (s : Bytes) (a : A) → file_of s ≡ Some a → (f.fits a ≡ true) × (s ≡ f.write a)
  unfolding file_of
  file_back s a h = rw append-nil at (f.back s a [] (ended_got (f.read s) a h))

  -- values that fit and have the same written form are the same
  pub same_form_lem : (a b : A) → f.fits a ≡ true → f.fits b ≡ true → f.write a ≡ f.write b → a ≡ b
  same_form_lem a b ha hb e = same_value (sym (f.there a [] ha) ∙ ap (λ s. f.read (s ++ [])) e ∙ f.there b [] hb)

unfoldable pub open_format : Unit {0}
unfolding open_lists ◌⊗◌ via only tagged nothing never read_items counted ended file_of
open_format = tt
