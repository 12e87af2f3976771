-- A rule from its kind and its fields.
use Prim.Native.Nat.{ℕ, zero, suc, ◌+◌, ◌≤◌, ◌<◌}
use mathlib.Core.Path.{◌≡◌, refl, ◌∙◌}
use mathlib.Core.Logic.{inl, inr}
use mathlib.Core.Bool.{true}
use mathlib.Core.List.{List}
use native.Mathlib.Omega.{arith}
use lib.Ieee.{Float}
use lib.ListN.{length, get_or}
use Rattle.rows.proofs.Indexed.{list_to_same}
use Rattle.codec.specs.Format.{Bytes, fault, Format, ◌⊗◌, via, tagged, never}
use Rattle.codec.specs.Number.{number}
use Rattle.codec.specs.Items.{from, option}
use Rattle.map.specs.MapFile.{polyline, numbers, Fields, fields, to_body, body, rule}
use Rattle.map.specs.Tables.{flag_at, list_at, body_of, rule_in}
use Rattle.fields.specs.Fields.{Place, read_at, got_at, Changed, largest, Word, Numbers, OptionLine, OptionNumber}
use Rattle.std.specs.Prelude.{Some, None}
use Rattle.fields.proofs.Places.{changed_both, place_then, place_via, range_any, range_from, place_tagged}
use Rattle.records.specs.Records.{RowRead, BodyRead, PartRead, SignRead, light_in, sign_in, right_of_way_in, crossing_in}

-- ---- a list that stands apart from a change

module _ (w wf : List ℕ) (a b : ℕ) (x : Changed w a b wf) where
  -- behind the change
  pub list_behind : (o : ℕ) → b ≤ o → list_at wf o ≡ list_at w o
  unfolding list_at
  list_behind o h =
      rw (x.kept 0 o (inr h), list_to_same (λ i. get_or w (o + 1 + i) 0) (λ i. get_or wf (o + 1 + i) 0) (get_or w o 0) (λ i l. x.kept 0 (o + 1 + i) (inr (omega arith))))

  -- in front of it
  pub list_before : (o : ℕ) → get_or w o 0 ≤ 16 → o + 17 ≤ a → list_at wf o ≡ list_at w o
  unfolding list_at
  list_before o f h =
      rw (x.kept 0 o (inl (omega arith)), list_to_same (λ i. get_or w (o + 1 + i) 0) (λ i. get_or wf (o + 1 + i) 0) (get_or w o 0) (λ i l. x.kept 0 (o + 1 + i) (inl (omega arith))))

-- ---- the parts

module _ (s : Bytes) (p q r : Place) (w w1 w2 : List ℕ) where
  pub light_got : Numbers s p w 41 q w1 → OptionNumber s q w1 3 r w2 → PartRead (numbers ⊗ option number) light_in s p w r w2
  light_got x y =
      record {
        words = changed_both w w1 w2 2 92 41 58 3 5 x.words y.words (omega arith) (omega arith) (omega arith) (omega arith);
        is = place_then numbers (option number) s p q r _ _ (rw (list_behind w1 w2 3 5 y.words 41 (omega arith)) x.is) y.is;
      }

  pub crossing_got : Word 0 largest s p w 2 q w1 → Numbers s q w1 75 r w2 → PartRead (number ⊗ numbers) crossing_in s p w r w2
  crossing_got x y =
      record {
        words = changed_both w w1 w2 2 92 2 3 75 92 x.words y.words (omega arith) (omega arith) (omega arith) (omega arith);
        is = place_then number numbers s p q r _ _ (rw (y.words.kept 0 2 (inl (omega arith))) (x.is ∙ range_any s p)) y.is;
      }

module _ (s : Bytes) (p q q2 r : Place) (w w1 w2 w3 : List ℕ) where
  pub right_of_way_got : Numbers s p w 41 q w1 → Numbers s q w1 58 q2 w2 → Numbers s q2 w2 75 r w3 → PartRead (numbers ⊗ numbers ⊗ numbers) right_of_way_in s p w r w3
  right_of_way_got x y z =
      let c = changed_both w1 w2 w3 58 92 58 75 75 92 y.words z.words (omega arith) (omega arith) (omega arith) (omega arith) in
      record {
        words = changed_both w w1 w3 2 92 41 58 58 92 x.words c (omega arith) (omega arith) (omega arith) (omega arith);
        is = place_then numbers (numbers ⊗ numbers) s p q r _ _ (rw (list_before w1 w3 58 92 c 41 x.few (omega arith)) x.is)
            (place_then numbers numbers s q q2 r _ _ (rw (list_before w2 w3 75 92 z.words 58 y.few (omega arith)) y.is) z.is);
      }

  pub sign_got : (cs cs2 : List Float) → Word 1 largest s p w 2 q w1 → OptionLine s q w1 5 cs 0 q2 w2 cs2 → OptionNumber s q2 w2 3 r w3 → SignRead s p w cs r w3 cs2
  unfolding from flag_at
  sign_got cs cs2 x y z =
      let c = changed_both w1 w2 w3 3 7 5 7 3 5 y.words z.words (omega arith) (omega arith) (omega arith) (omega arith) in
      record {
        words = changed_both w w1 w3 2 92 2 3 3 7 x.words c (omega arith) (omega arith) (omega arith) (omega arith);
        coords = y.coords.long;
        is = place_then (from 1) (option polyline ⊗ option number) s p q r _ _ (rw (c.kept 0 2 (inl (omega arith))) (x.is ∙ range_from 1 s p))
            (place_then (option polyline) (option number) s q q2 r _ _ (rw (z.words.kept 0 5 (inr (omega arith)), z.words.kept 0 6 (inr (omega arith))) y.is) z.is);
      }

pub ruleset reading_parts = (light_got, crossing_got, right_of_way_got, sign_got)

-- ---- the body

module _ {A : Type 0} {B : A → Type 0} (f : Format A) (g : (a : A) → Format (B a)) (s : Bytes) where
  tagged_fault : (p q : Place) (a : A) → got_at s q a ≡ read_at f s p → fault ≡ read_at (g a) s q → fault ≡ read_at (tagged f g) s p
  unfolding tagged
  tagged_fault None q a x y = refl
  tagged_fault (Some i) None a x y = rw (← x)
  tagged_fault (Some i) (Some j) a x y = rw (← x, ← y)

via_fault : {A B : Type 0} (f : Format A) (into : A → B) (out : B → A) (oi : (a : A) → f.fits a ≡ true → out (into a) ≡ a) (io : (b : B) → f.fits (out b) ≡ true → into (out b) ≡ b) (s : Bytes) (p : Place)
    → fault ≡ read_at f s p → fault ≡ read_at (via f into out oi io) s p
unfolding via
via_fault f into out oi io s None x = refl
via_fault f into out oi io s (Some i) x = rw (← x)

no_fields : (s : Bytes) (q : Place) (k : ℕ) → (k ≡ 1 → ⊥) → (k ≡ 2 → ⊥) → (k ≡ 3 → ⊥) → (k ≡ 4 → ⊥) → (k ≡ 5 → ⊥) → (k ≡ 6 → ⊥) → fault ≡ read_at (fields k) s q
unfolding never
no_fields s None k a b c d e f = refl
no_fields s (Some i) zero a b c d e f = refl
no_fields s (Some i) (suc zero) a b c d e f = absurd (a refl)
no_fields s (Some i) (suc (suc zero)) a b c d e f = absurd (b refl)
no_fields s (Some i) (suc (suc (suc zero))) a b c d e f = absurd (c refl)
no_fields s (Some i) (suc (suc (suc (suc zero)))) a b c d e f = absurd (d refl)
no_fields s (Some i) (suc (suc (suc (suc (suc zero))))) a b c d e f = absurd (e refl)
no_fields s (Some i) (suc (suc (suc (suc (suc (suc zero)))))) a b c d e f = absurd (f refl)
no_fields s (Some i) (suc (suc (suc (suc (suc (suc (suc k))))))) a b c d e f = refl

module _ (s : Bytes) (p q : Place) (w w1 : List ℕ) (x : Word 0 largest s p w 1 q w1) where
  body_at : (r : Place) (k : ℕ) (b : Fields k) → get_or w1 1 0 ≡ k → got_at s r b ≡ read_at (fields k) s q → got_at s r (to_body k b) ≡ read_at body s p
  unfolding body
  body_at r k b e y = place_via (tagged number fields) _ _ _ _ s p r (k, b) (place_tagged number fields s p q r k b (rw e at (x.is ∙ range_any s p)) y)

  -- with fields of kind k in the words from 2 on
  body_of_lem : (k : ℕ) (r : Place) (w2 : List ℕ) (cs cs2 : List Float) → get_or w1 1 0 ≡ k → Changed w1 2 92 w2 → length cs2 ≡ length cs → got_at s r (body_of k w2 cs2) ≡ read_at body s p → BodyRead s p w cs r w2 cs2
  body_of_lem k r w2 cs cs2 e c l y =
      let z : get_or w2 1 0 ≡ k = c.kept 0 1 (inl (omega arith)) ∙ e in
      record { words = c.long ∙ x.words.long; number = c.kept 0 0 (inl (omega arith)) ∙ x.words.kept 0 0 (inl (omega arith)); coords = l; is = rw z y }

  pub body_light : (r : Place) (w2 : List ℕ) (cs : List Float) → get_or w1 1 0 ≡ 1 → PartRead (numbers ⊗ option number) light_in s q w1 r w2 → BodyRead s p w cs r w2 cs
  body_light r w2 cs e y = body_of_lem 1 r w2 cs cs e y.words refl (body_at r 1 (light_in w2) e y.is)

  pub body_sign : (r : Place) (w2 : List ℕ) (cs cs2 : List Float) → get_or w1 1 0 ≡ 2 → SignRead s q w1 cs r w2 cs2 → BodyRead s p w cs r w2 cs2
  body_sign r w2 cs cs2 e y = body_of_lem 2 r w2 cs cs2 e y.words y.coords (body_at r 2 (sign_in w2 cs2) e y.is)

  pub body_marking : (r : Place) (w2 : List ℕ) (cs : List Float) → get_or w1 1 0 ≡ 3 → Word 0 largest s q w1 4 r w2 → BodyRead s p w cs r w2 cs
  body_marking r w2 cs e y =
      body_of_lem 3 r w2 cs cs e (changed_both w1 w2 w2 2 92 4 5 4 4 y.words (Rattle.fields.proofs.Places.unchanged w2 4 4) (omega arith) (omega arith) (omega arith) (omega arith)) refl
      (body_at r 3 (get_or w2 4 0) e (y.is ∙ range_any s q))

  pub body_right_of_way : (r : Place) (w2 : List ℕ) (cs : List Float) → get_or w1 1 0 ≡ 4 → PartRead (numbers ⊗ numbers ⊗ numbers) right_of_way_in s q w1 r w2 → BodyRead s p w cs r w2 cs
  body_right_of_way r w2 cs e y = body_of_lem 4 r w2 cs cs e y.words refl (body_at r 4 (right_of_way_in w2) e y.is)

  pub body_crossing : (r : Place) (w2 : List ℕ) (cs : List Float) → get_or w1 1 0 ≡ 5 → PartRead (number ⊗ numbers) crossing_in s q w1 r w2 → BodyRead s p w cs r w2 cs
  body_crossing r w2 cs e y = body_of_lem 5 r w2 cs cs e y.words refl (body_at r 5 (crossing_in w2) e y.is)

  pub body_other : (r : Place) (w2 : List ℕ) (cs : List Float) → get_or w1 1 0 ≡ 6 → Word 1 largest s q w1 2 r w2 → BodyRead s p w cs r w2 cs
  unfolding from
  body_other r w2 cs e y =
      body_of_lem 6 r w2 cs cs e (changed_both w1 w2 w2 2 92 2 3 2 2 y.words (Rattle.fields.proofs.Places.unchanged w2 2 2) (omega arith) (omega arith) (omega arith) (omega arith)) refl
      (body_at r 6 (get_or w2 2 0) e (y.is ∙ range_from 1 s q))

  pub body_none : (cs : List Float) → (get_or w1 1 0 ≡ 1 → ⊥) → (get_or w1 1 0 ≡ 2 → ⊥) → (get_or w1 1 0 ≡ 3 → ⊥) → (get_or w1 1 0 ≡ 4 → ⊥) → (get_or w1 1 0 ≡ 5 → ⊥) → (get_or w1 1 0 ≡ 6 → ⊥) → BodyRead s p w cs None w1 cs
  unfolding body
  body_none cs a b c d e f =
      record {
        words = x.words.long;
        number = x.words.kept 0 0 (inl (omega arith));
        coords = refl;
        is = via_fault (tagged number fields) _ _ _ _ s p (tagged_fault number fields s p q (get_or w1 1 0) (x.is ∙ range_any s p) (no_fields s q (get_or w1 1 0) a b c d e f));
      }

pub ruleset reading_body = (body_light, body_sign, body_marking, body_right_of_way, body_crossing, body_other, body_none)

-- ---- the rule

-- a rule's fields stand apart from its lanes and controlled crosswalks
module _ (w wf : List ℕ) (cs : List Float) (x : Changed w 7 41 wf) where
  low : (j : ℕ) → j < 7 → get_or wf j 0 ≡ get_or w j 0
  low j h = x.kept 0 j (inl h)

  body_kept : (k : ℕ) → body_of k wf cs ≡ body_of k w cs
  unfolding flag_at
  body_kept zero = refl
  body_kept (suc zero) = rw (list_behind w wf 7 41 x 41 (omega arith), low 3 (omega arith), low 4 (omega arith))
  body_kept (suc (suc zero)) = rw (low 2 (omega arith), low 3 (omega arith), low 4 (omega arith), low 5 (omega arith), low 6 (omega arith))
  body_kept (suc (suc (suc zero))) = rw (low 4 (omega arith))
  body_kept (suc (suc (suc (suc zero)))) = rw (list_behind w wf 7 41 x 41 (omega arith), list_behind w wf 7 41 x 58 (omega arith), list_behind w wf 7 41 x 75 (omega arith))
  body_kept (suc (suc (suc (suc (suc zero))))) = rw (low 2 (omega arith), list_behind w wf 7 41 x 75 (omega arith))
  body_kept (suc (suc (suc (suc (suc (suc zero)))))) = rw (low 2 (omega arith))
  body_kept (suc (suc (suc (suc (suc (suc (suc k))))))) = refl

module _ (s : Bytes) (p p1 p2 p3 p4 : Place) (w w1 w2 w3 w4 : List ℕ) (cs cs2 : List Float) where
  pub rule_got : Word 0 largest s p w 0 p1 w1 → BodyRead s p1 w1 cs p2 w2 cs2 → Numbers s p2 w2 7 p3 w3 → Numbers s p3 w3 24 p4 w4 → RowRead rule rule_in s p w cs p4 w4 cs2
  unfolding rule rule_in
  rule_got a b l k =
      let c = changed_both w2 w3 w4 7 41 7 24 24 41 l.words k.words (omega arith) (omega arith) (omega arith) (omega arith) in
      let n : get_or w4 0 0 ≡ get_or w1 0 0 = c.kept 0 0 (inl (omega arith)) ∙ b.number in
      let d : body_of (get_or w4 1 0) w4 cs2 ≡ body_of (get_or w2 1 0) w2 cs2 = rw (c.kept 0 1 (inl (omega arith))) (body_kept w2 w4 cs2 c (get_or w2 1 0)) in
      record {
        words = c.long ∙ b.words ∙ a.words.long;
        coords = b.coords;
        is = place_via (number ⊗ body ⊗ numbers ⊗ numbers) _ _ _ _ s p p4 _
            (place_then number (body ⊗ numbers ⊗ numbers) s p p1 p4 _ _ (rw n (a.is ∙ range_any s p))
            (place_then body (numbers ⊗ numbers) s p1 p2 p4 _ _ (rw d b.is)
            (place_then numbers numbers s p2 p3 p4 _ _ (rw (list_before w3 w4 24 41 k.words 7 l.few (omega arith)) l.is) k.is)));
      }

pub ruleset reading_rule = (rule_got)
