-- Places and changes: how what one call reads goes on with what the next one reads.
use Prim.Native.Nat.{ℕ, zero, suc, ◌+◌, ◌-◌, ◌≤◌, ◌<◌}
use mathlib.Core.Path.{◌≡◌, refl, sym, ◌∙◌}
use mathlib.Core.Logic.{inl, inr, ⊎_elim}
use mathlib.Core.Bool.{Bool, true, ◌&&◌, cond}
use Rattle.std.proofs.Math.Bool.{and-true}
use mathlib.Core.List.{List, [], ◌∷◌, ◌++◌, append_assoc, append-nil}
use native.Mathlib.Omega.{arith}
use native.Mathlib.Numerals.{add-one}
use lib.Dec.{leb, ltb, leb-suc-suc}
use lib.ListN.{drop, set, length-set}
use lib.Seq.{get_or-set_other}
use borrow.Author.Tests.{le-leb, lt-leb}
use Rattle.rows.specs.Lists.{list_to}
use Rattle.rows.proofs.Indexed.{list_to_same}
use Rattle.codec.specs.Format.{Bytes, Read, fault, got, and_then, Format, only, via, ◌⊗◌, tagged, nothing, never, read_items, counted, no_got, same_value, same_rest}
use Rattle.codec.specs.Number.{number}
use Rattle.codec.specs.Items.{below, list, option, Maybe, maybe, to_option}
use Rattle.codec.proofs.Fits.{number_below}
use Rattle.fields.specs.Fields.{Place, read_at, got_at, Changed, range, largest}
use Rattle.std.specs.Prelude.{Some, None, Option}

-- ---- changes

module _ {A : Type 0} where
  pub unchanged : (l : List A) (a b : ℕ) → Changed l a b l
  unchanged l a b = record { long = refl; kept = λ d j h. refl }

  pub changed_at : (l : List A) (i : ℕ) (v : A) → Changed l i (i + 1) (set l i v)
  changed_at l i v =
      record {
        long = length-set l i v;
        kept = λ d j h. get_or-set_other l i j v d (λ e. ⊎_elim (λ (x : j < i). let z : ⊥ = omega arith in z) (λ (x : i + 1 ≤ j). let z : ⊥ = omega arith in z) h);
      }

  -- one change after another, both between a and b
  module _ (l m n : List A) (a b a1 b1 a2 b2 : ℕ) (x : Changed l a1 b1 m) (y : Changed m a2 b2 n) where
    pub changed_both : a ≤ a1 → b1 ≤ b → a ≤ a2 → b2 ≤ b → Changed l a b n
    changed_both p q r t =
        record {
          long = y.long ∙ x.long;
          kept = λ d j h. y.kept d j (⊎_elim (λ (u : j < a). inl (omega arith)) (λ (u : b ≤ j). inr (omega arith)) h)
              ∙ x.kept d j (⊎_elim (λ (u : j < a). inl (omega arith)) (λ (u : b ≤ j). inr (omega arith)) h);
        }

-- ---- one value after another

module _ {A B : Type 0} (f : Format A) (g : Format B) (s : Bytes) where
  -- a place after a fault is none
  pub place_then : (p q r : Place) (a : A) (b : B) → got_at s q a ≡ read_at f s p → got_at s r b ≡ read_at g s q → got_at s r (a, b) ≡ read_at (f ⊗ g) s p
  unfolding ◌⊗◌
  place_then None (Some j) r a b x y = absurd (no_got (sym x))
  place_then None None (Some k) a b x y = absurd (no_got (sym y))
  place_then None None None a b x y = refl
  place_then (Some i) None (Some k) a b x y = absurd (no_got (sym y))
  place_then (Some i) None None a b x y = rw (← x)
  place_then (Some i) (Some j) (Some k) a b x y = rw (← x, ← y)
  place_then (Some i) (Some j) None a b x y = rw (← x, ← y)

module _ {A : Type 0} {B : A → Type 0} (f : Format A) (g : (a : A) → Format (B a)) (s : Bytes) where
  -- the second format goes by the first value
  pub place_tagged : (p q r : Place) (a : A) (b : B a) → got_at s q a ≡ read_at f s p → got_at s r b ≡ read_at (g a) s q → got_at s r (a, b) ≡ read_at (tagged f g) s p
  unfolding tagged
  place_tagged None (Some j) r a b x y = absurd (no_got (sym x))
  place_tagged None None (Some k) a b x y = absurd (no_got (sym y))
  place_tagged None None None a b x y = refl
  place_tagged (Some i) None (Some k) a b x y = absurd (no_got (sym y))
  place_tagged (Some i) None None a b x y = rw (← x)
  place_tagged (Some i) (Some j) (Some k) a b x y = rw (← x, ← y)
  place_tagged (Some i) (Some j) None a b x y = rw (← x, ← y)

module _ {A B : Type 0} (f : Format A) (into : A → B) (out : B → A) (oi : (a : A) → f.fits a ≡ true → out (into a) ≡ a) (io : (b : B) → f.fits (out b) ≡ true → into (out b) ≡ b) (s : Bytes) where
  pub place_via : (p q : Place) (a : A) → got_at s q a ≡ read_at f s p → got_at s q (into a) ≡ read_at (via f into out oi io) s p
  unfolding via
  place_via None None a x = refl
  place_via None (Some j) a x = absurd (no_got (sym x))
  place_via (Some i) None a x = rw (← x)
  place_via (Some i) (Some j) a x = rw (← x)

-- ---- numbers in a range

module _ (test : ℕ → Bool) (least most : ℕ) (e : (n : ℕ) → test n ≡ leb least n && leb n most) (s : Bytes) where
  cond_same : (r : Read ℕ) → and_then r (λ k t. cond (leb least k && leb k most) (got k t) fault) ≡ and_then r (λ k t. cond (test k) (got k t) fault)
  cond_same fault = refl
  cond_same (got n t) = rw (e n)

  pub range_only : (p : Place) → read_at (range least most) s p ≡ read_at (only test number) s p
  unfolding range only
  range_only None = refl
  range_only (Some i) = cond_same (number.read (drop i s))

-- a number without a range is one up to 2 ^ 64 - 1
module _ (least : ℕ) (s : Bytes) where
  any_same : (t : Bytes) → and_then (number.read t) (λ k u. cond (leb least k && leb k largest) (got k u) fault) ≡ and_then (number.read t) (λ k u. cond (leb least k) (got k u) fault)
  any_same t = go (number.read t) refl
    where
      go : (r : Read ℕ) → number.read t ≡ r → and_then r (λ k u. cond (leb least k && leb k largest) (got k u) fault) ≡ and_then r (λ k u. cond (leb least k) (got k u) fault)
      go fault e = refl
      go (got n u) e = rw (le-leb n largest (omega (arith, number_below n (number.back t n u e).0))) (rw (and-true (leb least n)))

  pub range_from : (p : Place) → read_at (range least largest) s p ≡ read_at (only (λ k. leb least k) number) s p
  unfolding range only
  range_from None = refl
  range_from (Some i) = any_same (drop i s)

  all_got : (r : Read ℕ) → and_then r (λ k u. cond (leb 0 k) (got k u) fault) ≡ r
  all_got fault = refl
  all_got (got n u) = rw (le-leb 0 n (omega arith))

pub range_any : (s : Bytes) (p : Place) → read_at (range 0 largest) s p ≡ read_at number s p
unfolding only
range_any s None = refl
range_any s (Some i) = range_from 0 s (Some i) ∙ all_got 0 s (number.read (drop i s))

-- at most most, as a list's count is
pub range_most : (most : ℕ) (s : Bytes) (p : Place) → read_at (range 0 most) s p ≡ read_at (only (λ k. leb k most) number) s p
range_most most s p = range_only (λ k. leb k most) 0 most (λ n. rw (le-leb 0 n (omega arith))) s p

pub range_below : (most : ℕ) (s : Bytes) (p : Place) → read_at (range 0 most) s p ≡ read_at (below (suc most)) s p
unfolding below
range_below most s p = range_only (λ k. ltb k (suc most)) 0 most (λ n. rw (le-leb 0 n (omega arith)) (leb-suc-suc n most)) s p

-- ---- an option: a flag, and the value where it says yes

module _ {A : Type 0} (f : Format A) (s : Bytes) where
  abbrev opened : Read ℕ → Read (Option A)
  opened r = and_then (and_then {A = ℕ} {B = (k : ℕ) × Maybe A k} r (λ k t. and_then ((maybe f k).read t) (λ b u. got (k, b) u))) (λ a t. got (to_option a.0 a.1) t)

  abbrev flagged : Read ℕ → Read ℕ
  flagged r = and_then r (λ k t. cond (leb 0 k && leb k 1) (got k t) fault)

  flag_none : (r : Read ℕ) (q : Place) → got_at s q 0 ≡ flagged r → got_at {A = Option A} s q None ≡ opened r
  unfolding nothing never
  flag_none fault None x = refl
  flag_none fault (Some j) x = absurd (no_got (sym x))
  flag_none (got zero t) None x = absurd (no_got x)
  flag_none (got zero t) (Some j) x = rw (same_rest x)
  flag_none (got (suc zero) t) None x = absurd (no_got x)
  flag_none (got (suc zero) t) (Some j) x = absurd (let z : ◌≡◌ {A = ℕ} 0 1 = same_value x in let y : ⊥ = omega arith in y)
  flag_none (got (suc (suc n)) t) None x = refl
  flag_none (got (suc (suc n)) t) (Some j) x = absurd (no_got (sym (x ∙ rw (le-leb 0 (suc (suc n)) (omega arith), lt-leb (suc (suc n)) 1 (omega arith)))))

  flag_some : (r : Read ℕ) (v : ℕ) (q k : Place) (a : A) → (v ≡ 0 → ⊥) → got_at s q v ≡ flagged r → got_at s k a ≡ read_at f s q → got_at s k (Some a) ≡ opened r
  unfolding nothing never
  flag_some fault v None None a n x y = refl
  flag_some fault v None (Some l) a n x y = absurd (no_got (sym y))
  flag_some fault v (Some j) k a n x y = absurd (no_got (sym x))
  flag_some (got zero t) v None k a n x y = absurd (no_got x)
  flag_some (got zero t) v (Some j) k a n x y = absurd (n (same_value x))
  flag_some (got (suc zero) t) v None k a n x y = absurd (no_got x)
  flag_some (got (suc zero) t) v (Some j) None a n x y = rw (← same_rest x, ← y)
  flag_some (got (suc zero) t) v (Some j) (Some l) a n x y = rw (← same_rest x, ← y)
  flag_some (got (suc (suc m)) t) v None None a n x y = refl
  flag_some (got (suc (suc m)) t) v None (Some l) a n x y = absurd (no_got (sym y))
  flag_some (got (suc (suc m)) t) v (Some j) k a n x y = absurd (no_got (sym (x ∙ rw (le-leb 0 (suc (suc m)) (omega arith), lt-leb (suc (suc m)) 1 (omega arith)))))

  pub option_none : (p q : Place) (v : ℕ) → v ≡ 0 → got_at s q v ≡ read_at (range 0 1) s p → got_at {A = Option A} s q None ≡ read_at (option f) s p
  unfolding option via tagged range only
  option_none None None v e x = refl
  option_none None (Some j) v e x = absurd (no_got (sym x))
  option_none (Some i) q v e x = flag_none (number.read (drop i s)) q (rw e at x)

  pub option_some : (p q k : Place) (v : ℕ) (a : A) → (v ≡ 0 → ⊥) → got_at s q v ≡ read_at (range 0 1) s p → got_at s k a ≡ read_at f s q → got_at s k (Some a) ≡ read_at (option f) s p
  unfolding option via tagged range only
  option_some None None None v a n x y = refl
  option_some None None (Some l) v a n x y = absurd (no_got (sym y))
  option_some None (Some j) k v a n x y = absurd (no_got (sym x))
  option_some (Some i) q k v a n x y = flag_some (number.read (drop i s)) v q k a n x y

-- ---- a list: items one by one onto those that are read

module _ {A : Type 0} where
  abbrev pub onto : Format A → List A → ℕ → Bytes → Place → Read (List A)
  onto f xs n s (Some i) = and_then (read_items f n (drop i s)) (λ qs t. got (xs ++ qs) t)
  onto f xs n s None = fault

  -- k of n items are read, as the first of v, and what is left gives the whole
  pub record Listed (f : Format A) (s : Bytes) (all : Read (List A)) (n k : ℕ) (p : Place) (v : ℕ → A) : Type 0 where
    pub few : k ≤ n
    pub goes : onto f (list_to v k) (n - k) s p ≡ all

  onto_none : (r : Read (List A)) → and_then r (λ qs t. got qs t) ≡ r
  onto_none fault = refl
  onto_none (got a s) = refl

  onto_one : (r : Read (List A)) (xs : List A) (a : A)
      → and_then (and_then r (λ ys t. got (a ∷ ys) t)) (λ qs t. got (xs ++ qs) t) ≡ and_then r (λ qs t. got ((xs ++ (a ∷ [])) ++ qs) t)
  onto_one fault xs a = refl
  onto_one (got qs t) xs a = rw append_assoc

  module _ (f : Format A) (s : Bytes) where
    onto_more : (xs : List A) (n : ℕ) (p q : Place) (a : A) → got_at s q a ≡ read_at f s p → onto f xs (suc n) s p ≡ onto f (xs ++ (a ∷ [])) n s q
    unfolding read_items
    onto_more xs n None None a x = refl
    onto_more xs n None (Some j) a x = absurd (no_got (sym x))
    onto_more xs n (Some i) None a x = rw (← x)
    onto_more xs n (Some i) (Some j) a x = rw (← x) (onto_one (read_items f n (drop j s)) xs a)

    onto_ends : (xs : List A) (p : Place) → onto f xs 0 s p ≡ got_at s p xs
    unfolding read_items
    onto_ends xs None = refl
    onto_ends xs (Some i) = rw append-nil

    counted_starts : (c : Format ℕ) (p q : Place) (n : ℕ) → got_at s q n ≡ read_at c s p → onto f [] n s q ≡ read_at (counted f c) s p
    unfolding counted
    counted_starts c None None n x = refl
    counted_starts c None (Some j) n x = absurd (no_got (sym x))
    counted_starts c (Some i) None n x = rw (← x)
    counted_starts c (Some i) (Some j) n x = rw (← x) (onto_none (read_items f n (drop j s)))

    pub listed_starts : (n : ℕ) (q : Place) (v : ℕ → A) → Listed f s (onto f [] n s q) n 0 q v
    unfolding list_to
    listed_starts n q v = let z : n - 0 ≡ n = omega arith in record { few = omega arith; goes = rw z }

    -- after a count that is at most most
    pub listed-all : (most n : ℕ) (p q : Place) → got_at s q n ≡ read_at (range 0 most) s p → onto f [] n s q ≡ read_at (list most f) s p
    unfolding list
    listed-all most n p q x = counted_starts (only (λ k. leb k most) number) p q n (x ∙ range_most most s p)

    module _ (all : Read (List A)) (n k : ℕ) (p : Place) (v : ℕ → A) (w : Listed f s all n k p v) where
      pub listed_more : (q : Place) (v' : ℕ → A) → k < n → ((i : ℕ) → i < k → v' i ≡ v i) → got_at s q (v' k) ≡ read_at f s p → Listed f s all n (k + 1) q v'
      unfolding list_to
      listed_more q v' h same x =
          let e : n - k ≡ suc (n - (k + 1)) = omega arith in
          record {
            few = omega arith;
            goes = rw (add-one k, list_to_same v v' k same, ← add-one k) (sym (onto_more (list_to v k) (n - (k + 1)) p q (v' k) x) ∙ (rw e at w.goes));
          }

      pub listed_ends : n ≤ k → got_at s p (list_to v n) ≡ all
      listed_ends h =
          let e : k ≡ n = omega (arith, w.few) in
          let z : n - k ≡ 0 = omega arith in
          sym (onto_ends (list_to v n) p) ∙ (rw (z, e) at w.goes)
