-- One rule under a light: whether it stops vehicles at the line, what is left of its lanes, and what happens to it.
use Prim.Native.Nat.{ℕ, zero, suc, ◌+◌, ◌≤◌, ◌<◌}
use mathlib.Core.Path.{◌≡◌, refl, sym, ap, ◌∙◌}
use mathlib.Core.Bool.{Bool, true, false, not, ◌&&◌, cond}
use Rattle.std.specs.Prelude.{Option, None, Some}
use mathlib.Core.List.{List, [], ◌∷◌, ◌++◌, append-nil, append_assoc}
use native.Mathlib.Numerals.{add-one}
use native.Mathlib.Omega.{arith}
use lib.Dec.{eqb}
use lib.Ieee.{Float}
use lib.ListN.{length, get_or, set, take, drop, length-set, length-take, drop_of_length-le}
use lib.Seq.{drop-cons, take-suc-set}
use borrow.Author.Tests.{eq-eqb, ne_eqb, not-true, not-false}
use Rattle.geometry.specs.Polyline.{Polyline}
use Rattle.rows.specs.Lists.{keep, member, no_entries}
use Rattle.store.specs.Layout.{SizedWords, count_of, row_of}
use Rattle.rows.proofs.Indexed.{length-list_to}
use Rattle.place.specs.Readable.{ReadableWords}
use Rattle.map.proofs.UpdateLaws.{rule_limit}
use Rattle.map.specs.declared.RuleHead.{RuleHead}
use Rattle.map.specs.declared.Entries.{Entries}
use Rattle.map.specs.Record.{sign}
use Rattle.map.specs.Tables.{flag_at, list_at, line_at, body_of, rule_in}
use Rattle.map.specs.Access.{HeadRead}
use Rattle.edit.specs.Light as light
use Rattle.edit.specs.Light.{is_stop_at, lift}
use Rattle.lifting.specs.declared.Lift.TheVariants.{Kept, Eased, Gone}
use Rattle.lifting.specs.Lifting.{head_stops, head_points, others, entries_of, Left, LiftRead}

-- ---- does it stop vehicles at the line

module _ (s : ℕ) (h : RuleHead) where
  pub stops_marking : h.kind ≡ 3 → eqb h.line s ≡ head_stops s h
  unfolding head_stops
  stops_marking e = rw (eq-eqb h.kind 3 e)

  module _ (n3 : h.kind ≡ 3 → ⊥) where
    pub stops_sign : h.kind ≡ 2 → h.has_line ≡ true → h.value ≡ 1 → eqb h.line s ≡ head_stops s h
    unfolding head_stops
    stops_sign e l v = rw (ne_eqb h.kind 3 n3, eq-eqb h.kind 2 e, l, eq-eqb h.value 1 v)

    pub stops_other_sign : h.kind ≡ 2 → h.has_line ≡ true → (h.value ≡ 1 → ⊥) → false ≡ head_stops s h
    unfolding head_stops
    stops_other_sign e l v = rw (ne_eqb h.kind 3 n3, eq-eqb h.kind 2 e, l, ne_eqb h.value 1 v)

    pub stops_no_line : h.kind ≡ 2 → h.has_line ≡ false → false ≡ head_stops s h
    unfolding head_stops
    stops_no_line e l = rw (ne_eqb h.kind 3 n3, eq-eqb h.kind 2 e, l)

    pub stops_none : (h.kind ≡ 2 → ⊥) → false ≡ head_stops s h
    unfolding head_stops
    stops_none e = rw (ne_eqb h.kind 3 n3, ne_eqb h.kind 2 e)

module _ (s : ℕ) where
  sign_stops : (t : ℕ) (shape : Option Polyline) (b : Bool) (l : ℕ) → cond b (eqb t 1 && eqb l s) false ≡ is_stop_at s (sign t shape (cond b (Some l) None))
  unfolding is_stop_at
  sign_stops t shape true l = refl
  sign_stops t shape false l = refl

  stops_by_kind : (k : ℕ) (r : List ℕ) (c : List Float)
      → cond (eqb k 3) (eqb (get_or r 4 0) s) (cond (eqb k 2) (cond (flag_at r 3) (eqb (get_or r 2 0) 1 && eqb (get_or r 4 0) s) false) false) ≡ is_stop_at s (body_of k r c)
  unfolding is_stop_at
  stops_by_kind zero r c = refl
  stops_by_kind (suc zero) r c = refl
  stops_by_kind (suc (suc zero)) r c = sign_stops (get_or r 2 0) (cond (flag_at r 5) (Some (line_at c 0 (get_or r 6 0))) None) (flag_at r 3) (get_or r 4 0)
  stops_by_kind (suc (suc (suc zero))) r c = refl
  stops_by_kind (suc (suc (suc (suc zero)))) r c = refl
  stops_by_kind (suc (suc (suc (suc (suc zero))))) r c = refl
  stops_by_kind (suc (suc (suc (suc (suc (suc zero)))))) r c = refl
  stops_by_kind (suc (suc (suc (suc (suc (suc (suc k))))))) r c =
      let j : ℕ = suc (suc (suc (suc (suc (suc (suc k)))))) in
      rw (ne_eqb j 3 (λ e. let z : ⊥ = omega arith in z), ne_eqb j 2 (λ e. let z : ⊥ = omega arith in z))

  head_stops_lem : (r : List ℕ) (h : RuleHead) → HeadRead r h → (c : List Float) → head_stops s h ≡ is_stop_at s (body_of (get_or r 1 0) r c)
  unfolding head_stops
  head_stops_lem r h e c = rw (e.kind, e.has_line, e.line, e.value) (stops_by_kind (get_or r 1 0) r c)

-- ---- the points of its shape

module _ (h : RuleHead) where
  pub points_shape : h.kind ≡ 2 → h.has_shape ≡ true → h.points ≡ head_points h
  unfolding head_points
  points_shape e t = rw (eq-eqb h.kind 2 e, t)

  pub points_none : h.kind ≡ 2 → h.has_shape ≡ false → 0 ≡ head_points h
  unfolding head_points
  points_none e t = rw (eq-eqb h.kind 2 e, t)

  pub points_other : (h.kind ≡ 2 → ⊥) → 0 ≡ head_points h
  unfolding head_points
  points_other e = rw (ne_eqb h.kind 2 e)

-- ---- what is left of its lanes

-- of the first i entries of ls, those that are none of the lanes stand in es
pub record Sifted (ls lanes es : List ℕ) (count i : ℕ) : Type 0 where
  pub within : i ≤ length ls
  pub room : length es ≡ 16
  pub few : count ≤ i
  pub goes : take count es ++ others lanes (drop i ls) ≡ others lanes ls

pub sifted_start : (ls lanes es : List ℕ) → length es ≡ 16 → Sifted ls lanes es 0 0
sifted_start ls lanes es h = record { within = omega arith; room = h; few = omega arith; goes = refl }

module _ (ls lanes es : List ℕ) (count i : ℕ) (inv : Sifted ls lanes es count i) (short : length ls ≤ 16) where
  pub sifted_end : length ls ≤ i → Left ls lanes (record { count = count; entries = es })
  unfolding keep
  sifted_end h =
      let w = inv.within in
      let f = inv.few in
      let r = inv.room in
      let e : take count es ≡ others lanes ls = sym (append-nil (take count es)) ∙ rw (drop_of_length-le ls h) at inv.goes in
      record { entries = e; count = omega (arith, ap length e, length-take count es); room = r; few = omega arith }

  module _ (h : i < length ls) (b : Bool) (eb : b ≡ member (get_or ls i 0) (drop 0 lanes)) where
    rest : others lanes (drop i ls) ≡ cond (not b) (get_or ls i 0 ∷ others lanes (drop (i + 1) ls)) (others lanes (drop (i + 1) ls))
    unfolding keep
    rest = rw (drop-cons ls i 0 h, add-one i, eb)

    pub sifted_more : not b ≡ true → Sifted ls lanes (set es count (get_or ls i 0)) (count + 1) (i + 1)
    sifted_more t =
        let f = inv.few in
        let r = inv.room in
        record {
          within = omega arith;
          room = length-set es count _ ∙ r;
          few = omega arith;
          goes = rw (add-one count, take-suc-set es count (get_or ls i 0) (omega arith), append_assoc) (ap (λ (l : List ℕ). take count es ++ l) (sym (rest ∙ rw t)) ∙ inv.goes);
        }

    pub sifted_less : not b ≡ false → Sifted ls lanes es count (i + 1)
    sifted_less t = let f = inv.few in record { within = omega arith; room = inv.room; few = omega arith; goes = ap (λ (l : List ℕ). take count es ++ l) (sym (rest ∙ rw t)) ∙ inv.goes }

-- ---- what happens to it

no_entries_lem : (ks : List ℕ) → length ks ≡ 0 → no_entries ks ≡ true
unfolding no_entries
no_entries_lem [] h = refl
no_entries_lem (n ∷ ns) h = absurd (let z : ⊥ = omega arith in z)

some_entries : (ks : List ℕ) → (length ks ≡ 0 → ⊥) → no_entries ks ≡ false
unfolding no_entries
some_entries [] h = absurd (h refl)
some_entries (n ∷ ns) h = refl

module _ (ws : List ℕ) (i s : ℕ) (lanes ls : List ℕ) (el : ls ≡ list_at (row_of ws 5 i) 7) (left : Entries) (q : Left ls lanes left) (h : RuleHead) (eh : HeadRead (row_of ws 5 i) h)
    (b : Bool) (eb : b ≡ head_stops s h) where
  its_count : length (entries_of left) ≡ left.count
  its_count = ap length q.entries ∙ sym q.count

  off : not b ≡ true → (c : List Float) → light.kept ≡ lift s lanes (rule_in (row_of ws 5 i) c)
  unfolding lift rule_in
  off t c = rw (← head_stops_lem s (row_of ws 5 i) h eh c, ← eb, not-true b t)

  on : not b ≡ false → (c : List Float) → light.lift_of ls (entries_of left) ≡ lift s lanes (rule_in (row_of ws 5 i) c)
  unfolding lift rule_in
  on t c = rw (← head_stops_lem s (row_of ws 5 i) h eh c, ← eb, not-false b t, ← el, q.entries)

  pub lift_off : not b ≡ true → LiftRead ws i s lanes (record { lift = Kept; left = left })
  lift_off t = record { answer = off t; count = its_count; few = q.few; room = q.room }

  module _ (t : not b ≡ false) where
    pub lift_kept : left.count ≡ length ls → LiftRead ws i s lanes (record { lift = Kept; left = left })
    unfolding light.lift_of
    lift_kept e = record { answer = λ c. sym (rw (its_count, eq-eqb left.count (length ls) e)) ∙ on t c; count = its_count; few = q.few; room = q.room }

    module _ (n : left.count ≡ length ls → ⊥) where
      pub lift_gone : left.count ≡ 0 → LiftRead ws i s lanes (record { lift = Gone; left = left })
      unfolding light.lift_of
      lift_gone e =
          let z : length (entries_of left) ≡ 0 = its_count ∙ e in
          record { answer = λ c. sym (rw (its_count, ne_eqb left.count (length ls) n, no_entries_lem (entries_of left) z)) ∙ on t c; count = its_count; few = q.few; room = q.room }

      pub lift_eased : (left.count ≡ 0 → ⊥) → LiftRead ws i s lanes (record { lift = Eased; left = left })
      unfolding light.lift_of
      lift_eased e =
          record { answer = λ c. sym (rw (its_count, ne_eqb left.count (length ls) n, some_entries (entries_of left) (λ z. e (sym its_count ∙ z)))) ∙ on t c; count = its_count; few = q.few; room = q.room }

-- ---- what the readers ask

module _ (ws : List ℕ) (ok : ReadableWords ws) (i : ℕ) (hi : i < count_of ws 5) where
  pub head_asks : SizedWords ws × (i < 128)
  head_asks = let k = ok.sized.counts 5 (omega arith) in (ok.sized, omega (arith, rule_limit))

  pub list_asks : SizedWords ws × (i < 128) × (7 + 1 + get_or (row_of ws 5 i) 7 0 ≤ 92)
  list_asks = let k = ok.lanes i hi in (ok.sized, head_asks.1, omega arith)

  pub list_short : (ls : List ℕ) → ls ≡ list_at (row_of ws 5 i) 7 → length ls ≤ 16
  unfolding list_at
  list_short ls e = omega (arith, ap length e, length-list_to (λ j. get_or (row_of ws 5 i) (7 + 1 + j) 0) (get_or (row_of ws 5 i) 7 0), ok.lanes i hi)
