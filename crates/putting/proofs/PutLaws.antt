-- How what one call writes goes on with what the next one writes.
use Prim.Native.Nat.{ℕ, suc, ◌+◌, ◌^◌, ◌≤◌, ◌<◌}
use mathlib.Core.Path.{◌≡◌, refl, sym, ap, ◌∙◌}
use mathlib.Core.Bool.{Bool, true, false, cond}
use mathlib.Core.List.{List, [], ◌∷◌, ◌++◌, append_assoc, append-nil}
use native.Mathlib.Omega.{arith}
use native.Mathlib.Numerals.{add-one}
use lib.Dec.{ltb}
use lib.ListN.{length, set, length-append}
use lib.Seq.{sets, length-sets, sets-eq, take_all}
use borrow.Author.Tests.{lt-ltb, le-ltb, ltb-false}
use Rattle.rows.specs.Lists.{list_to, joined}
use Rattle.rows.specs.Rows.{pasted}
use Rattle.rows.proofs.Indexed.{length-list_to}
use Rattle.codec.specs.Format.{Bytes, Format, only, counted}
use Rattle.codec.specs.Items.{list}
use Rattle.codec.specs.Number.{number, split}
use Rattle.codec.specs.Answers.{Wrote}
use Rattle.fields.specs.Fields.{Place}
use Rattle.std.specs.Prelude.{Some, None}
use Rattle.putting.specs.Putting.{ahead, PutAt}

-- ---- places

pub lost_place : {i : ℕ} → None ≡ Some i → ⊥
lost_place e = let z : ◌≡◌ {A = ℕ} 0 1 = cc in omega arith

pub same_place : {i j : ℕ} → Some i ≡ Some j → i ≡ j
same_place e = cc

ahead_both : (p : Place) (a b : ℕ) → ahead (ahead p a) b ≡ ahead p (a + b)
unfolding ahead
ahead_both None a b = refl
ahead_both (Some i) a b =
    split (ltb (i + a) (2 ^ 64))
    (λ t. let e : i + a + b ≡ i + (a + b) = omega arith in rw (t, e))
    (λ t. let l = ltb-false (i + a) (2 ^ 64) t in rw (t, le-ltb (i + (a + b)) (2 ^ 64) (omega arith)))

-- a place that is there is that many bytes further on
ahead_at : (i j n : ℕ) → Some j ≡ ahead (Some i) n → j ≡ i + n
unfolding ahead
ahead_at i j n e = go (ltb (i + n) (2 ^ 64)) e
  where
    go : (b : Bool) → Some j ≡ cond b (Some (i + n)) None → j ≡ i + n
    go true e = same_place e
    go false e = absurd (lost_place (sym e))

pub sets_append : {A : Type 0} (l : List A) (i : ℕ) (xs ys : List A) → sets (sets l i xs) (i + length xs) ys ≡ sets l i (xs ++ ys)
sets_append l i [] ys = let e : i + 0 ≡ i = omega arith in rw e
sets_append l i (x ∷ xs) ys = let e : i + suc (length xs) ≡ suc i + length xs = omega arith in rw e (sets_append (set l i x) (suc i) xs ys)

-- ---- a form after another

module _ (f g old mid new : Bytes) where
  made_both : (p q r : Place) → PutAt f old p q mid → PutAt g mid q r new → (i j : ℕ) → p ≡ Some i → r ≡ Some j → j ≤ length old → new ≡ sets old i (f ++ g)
  unfolding ahead
  made_both p None r x y i j ep er h = absurd (lost_place (sym y.next ∙ er))
  made_both p (Some k) r x y i j ep er h =
      let a : k ≡ i + length f = ahead_at i k (length f) (rw ep at x.next) in
      let b : j ≡ k + length g = ahead_at k j (length g) (sym er ∙ y.next) in
      let m : mid ≡ sets old i f = x.made i k ep refl (omega arith) in
      let n : new ≡ sets mid k g = y.made k j refl er (omega (arith, x.long)) in
      n ∙ rw (m, a) (sets_append old i f g)

  pub put_then : (p q r : Place) → PutAt f old p q mid → PutAt g mid q r new → PutAt (f ++ g) old p r new
  put_then p q r x y =
      record {
        next = y.next ∙ rw (x.next, length-append f g) (ahead_both p (length f) (length g));
        long = y.long ∙ x.long;
        made = made_both p q r x y;
      }

-- no bytes, after some
module _ (f old mid : Bytes) (p q : Place) (x : PutAt f old p q mid) where
  still_there : ahead q 0 ≡ q
  still_there = rw x.next (ahead_both p (length f) 0 ∙ ap (ahead p) (let e : length f + 0 ≡ length f = omega arith in e))

  pub put_none : PutAt [] mid q q mid
  put_none = record { next = sym still_there; long = refl; made = λ i j ep er h. refl }

-- ---- items one by one

module _ {A : Type 0} (w : A → Bytes) where
  joined_last : (xs : List A) (a : A) → joined w (xs ++ (a ∷ [])) ≡ joined w xs ++ w a
  unfolding joined
  joined_last [] a = append-nil (w a)
  joined_last (x ∷ xs) a = rw (joined_last xs a, append_assoc)

  -- the first k of n items stand there
  pub record Items (v : ℕ → A) (n : ℕ) (old : Bytes) (p : Place) (out : Bytes) (q : Place) (k : ℕ) : Type 0 where
    pub few : k ≤ n
    pub stand : PutAt (joined w (list_to v k)) old p q out

  pub items_start : (v : ℕ → A) (n : ℕ) (f old out : Bytes) (p q : Place) → PutAt f old p q out → Items v n out q out q 0
  unfolding list_to joined
  items_start v n f old out p q x = record { few = omega arith; stand = put_none f old out p q x }

  pub items_more : (v : ℕ → A) (n : ℕ) (old out new : Bytes) (p q r : Place) (k : ℕ) → Items v n old p out q k → k < n → PutAt (w (v k)) out q r new → Items v n old p new r (k + 1)
  unfolding list_to
  items_more v n old out new p q r k i h x =
      record { few = omega arith; stand = rw (add-one k, joined_last (list_to v k) (v k)) (put_then _ _ old out new p q r i.stand x) }

-- a list: its count and its items
pub list_put : {A : Type 0} (f : Format A) (most : ℕ) (v : ℕ → A) (n : ℕ) (old mid new : Bytes) (p q r : Place) (k : ℕ)
    → PutAt (number.write n) old p q mid → Items f.write v n mid q new r k → n ≤ k → PutAt ((list most f).write (list_to v n)) old p r new
unfolding list counted only
list_put f most v n old mid new p q r k x i h =
    let e : k ≡ n = omega (arith, i.few) in
    rw (length-list_to v n) (put_then _ _ old mid new p q r x (rw e at i.stand))

-- ---- a form that is written already

module _ (form old : Bytes) (p : Place) where
  pub put_lost : p ≡ None → PutAt form old p None old
  unfolding ahead
  put_lost e = record { next = rw e; long = refl; made = λ i j ep er h. absurd (lost_place er) }

  module _ (i : ℕ) (e : p ≡ Some i) where
    -- the place after it is past the last one
    pub put_far : (r : Place) → r ≡ None → (i + length form < 2 ^ 64 → ⊥) → PutAt form old p r old
    unfolding ahead
    put_far r n h = rw n (record { next = rw (e, le-ltb (i + length form) (2 ^ 64) (omega arith)); long = refl; made = λ a b ep er k. absurd (lost_place er) })

    module _ (next : ℕ) (h : i + length form < 2 ^ 64) (n : next ≡ i + length form) where
      goes : Some next ≡ ahead p (length form)
      unfolding ahead
      goes = rw (n, e, lt-ltb (i + length form) (2 ^ 64) h)

      pub put_short : length old < next → PutAt form old p (Some next) old
      put_short k = record { next = goes; long = refl; made = λ a b ep er m. let z = same_place er in absurd (let y : ⊥ = omega arith in y) }

      put_made : (new : Bytes) → new ≡ sets old i form → PutAt form old p (Some next) new
      put_made new m =
          record {
            next = goes;
            long = ap length m ∙ length-sets old i form;
            made = λ a b ep er k. let z : i ≡ a = same_place (sym e ∙ ep) in rw (← z) m;
          }

      pub put_wrote : (new : Bytes) (r : ℕ) → Wrote form old i r new → PutAt form old p (Some next) new
      put_wrote new r w = put_made new w.made

      pub put_pasted : next ≤ length old → (new : Bytes) → new ≡ pasted old i form (length form) → PutAt form old p (Some next) new
      unfolding pasted
      put_pasted k new w =
          put_made new (w ∙ rw (take_all (length form) form (omega arith)) (sym (sets-eq form old i (omega arith))))

pub ruleset putting_form = (put_lost, put_far, put_short, put_wrote, put_pasted)
