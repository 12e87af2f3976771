-- A field that was read, as it stands in the row once the fields after it are read too.
use Prim.Native.Nat.{ℕ, zero, suc, ◌+◌, ◌*◌, ◌≤◌, ◌<◌}
use mathlib.Core.Path.{◌≡◌, refl, ◌∙◌}
use mathlib.Core.Logic.{inl}
use mathlib.Core.Bool.{not}
use mathlib.Core.List.{List}
use native.Mathlib.Omega.{arith}
use lib.Dec.{eqb}
use lib.Ieee.{Float, nan}
use lib.ListN.{get_or}
use Rattle.rows.proofs.Indexed.{list_to_same}
use Rattle.codec.specs.Format.{Bytes, ◌⊗◌}
use Rattle.codec.specs.Number.{number}
use Rattle.codec.specs.Items.{below, flag, option}
use Rattle.map.specs.MapFile.{polyline, boundary_ref, height}
use Rattle.map.specs.Tables.{flag_at, option_at, line_at, point_from}
use Rattle.fields.specs.Fields.{Place, read_at, got_at, Changed, range, largest, Word, Line, OptionHeight}
use Rattle.records.specs.Records.{side_at, SideRead}
use Rattle.fields.proofs.Places.{changed_both, place_then, place_via, range_any, range_below}

-- everything below a is as it was
pub record Kept {A : Type 0} (l : List A) (a : ℕ) (l' : List A) : Type 0 where
  pub same : (d : A) (j : ℕ) → j < a → get_or l' j d ≡ get_or l j d

module _ {A : Type 0} where
  pub still : (l : List A) (a : ℕ) → Kept l a l
  still l a = record { same = λ d j h. refl }

  pub kept_one : (l l' : List A) (a b : ℕ) → Changed l a b l' → Kept l a l'
  kept_one l l' a b x = record { same = λ d j h. x.kept d j (inl h) }

  -- a change, and others further on
  pub kept_more : (l m n : List A) (a b c : ℕ) → Changed l a b m → Kept m c n → a ≤ c → Kept l a n
  kept_more l m n a b c x y h = record { same = λ d j k. y.same d j (omega arith) ∙ x.kept d j (inl k) }

module _ (least most : ℕ) (s : Bytes) (p q : Place) (w w1 wf : List ℕ) (o a : ℕ) (x : Word least most s p w o q w1) (k : Kept w1 a wf) (h : o < a) where
  pub word_at : got_at s q (get_or wf o 0) ≡ read_at (range least most) s p
  word_at = rw (k.same 0 o h) x.is

  pub word_few : get_or wf o 0 ≤ most
  word_few = rw (k.same 0 o h) x.few

module _ (s : Bytes) (p q : Place) (w w1 wf : List ℕ) (o a : ℕ) where
  pub number_at : Word 0 largest s p w o q w1 → Kept w1 a wf → o < a → got_at s q (get_or wf o 0) ≡ read_at number s p
  number_at x k h = word_at 0 largest s p q w w1 wf o a x k h ∙ range_any s p

  pub below_at : (most : ℕ) → Word 0 most s p w o q w1 → Kept w1 a wf → o < a → got_at s q (get_or wf o 0) ≡ read_at (below (suc most)) s p
  below_at most x k h = word_at 0 most s p q w w1 wf o a x k h ∙ range_below most s p

  pub flag_at_lem : Word 0 1 s p w o q w1 → Kept w1 a wf → o < a → got_at s q (flag_at wf o) ≡ read_at flag s p
  unfolding flag flag_at
  flag_at_lem x k h =
      let e : (n : ℕ) → n ≤ 1 → eqb n 1 ≡ not (eqb n 0) = λ n l. one n l in
      rw (← e (get_or wf o 0) (word_few 0 1 s p q w w1 wf o a x k h)) (place_via (below 2) _ _ _ _ s p q _ (below_at 1 x k h))
    where
      one : (n : ℕ) → n ≤ 1 → eqb n 1 ≡ not (eqb n 0)
      one zero l = refl
      one (suc zero) l = refl
      one (suc (suc n)) l = absurd (let z : ⊥ = omega arith in z)

-- a boundary's number and whether it is reversed
pub side_got : (s : Bytes) (p q r : Place) (w w1 w2 : List ℕ) (o : ℕ) → Word 0 largest s p w o q w1 → Word 0 1 s q w1 (o + 1) r w2 → SideRead s p w o r w2
unfolding boundary_ref
side_got s p q r w w1 w2 o x y =
    let k = kept_one w1 w2 (o + 1) (o + 1 + 1) y.words in
    let v = number_at s p q w w1 w2 o (o + 1) x k (omega arith) in
    let f = flag_at_lem s q r w1 w2 w2 (o + 1) (o + 2) y (still w2 (o + 2)) (omega arith) in
    record {
      words = changed_both w w1 w2 o (o + 2) o (o + 1) (o + 1) (o + 1 + 1) x.words y.words (omega arith) (omega arith) (omega arith) (omega arith);
      is = place_via (number ⊗ flag) _ _ _ _ s p r _ (place_then number flag s p q r _ _ v f);
    }

pub side_at_lem : (s : Bytes) (p r : Place) (w w2 wf : List ℕ) (o a : ℕ) → SideRead s p w o r w2 → Kept w2 a wf → o + 2 ≤ a → got_at s r (side_at wf o) ≡ read_at boundary_ref s p
unfolding flag_at
side_at_lem s p r w w2 wf o a x k h = rw (k.same 0 o (omega arith), k.same 0 (o + 1) (omega arith)) x.is

-- a polyline whose points and count nothing after it has touched
pub line_at_lem : (s : Bytes) (p q : Place) (w w1 wf : List ℕ) (o a : ℕ) (cs c1 cf : List Float) (c b : ℕ) → Line s p w o cs c q w1 c1 → Kept w1 a wf → o < a → Kept c1 b cf → c + 192 ≤ b
    → got_at s q (line_at cf c (get_or wf o 0)) ≡ read_at polyline s p
unfolding line_at point_from
line_at_lem s p q w w1 wf o a cs c1 cf c b x k h m g =
    let same : (i : ℕ) → i < get_or w1 o 0 → point_from cf (c + i * 3) ≡ point_from c1 (c + i * 3) = λ i l.
    rw (m.same nan (c + i * 3) (omega (arith, x.few)), m.same nan (c + i * 3 + 1) (omega (arith, x.few)), m.same nan (c + i * 3 + 2) (omega (arith, x.few))) in
    rw (k.same 0 o h, list_to_same (λ i. point_from c1 (c + i * 3)) (λ i. point_from cf (c + i * 3)) (get_or w1 o 0) same) x.is

pub height_at : (s : Bytes) (p q : Place) (w w1 wf : List ℕ) (o a : ℕ) (cs c1 cf : List Float) (c b : ℕ) → OptionHeight s p w o cs c q w1 c1 → Kept w1 a wf → o < a → Kept c1 b cf → c < b
    → got_at s q (option_at wf o (get_or cf c nan)) ≡ read_at (option height) s p
unfolding flag_at
height_at s p q w w1 wf o a cs c1 cf c b x k h m g = rw (k.same 0 o h, m.same nan c g) x.is
