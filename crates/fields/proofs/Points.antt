-- Coordinates, points and polylines, read into a row.
use Prim.Native.Nat.{ℕ, ◌+◌, ◌*◌, ◌^◌, ◌≤◌, ◌<◌}
use mathlib.Core.Path.{◌≡◌, refl, sym, ◌∙◌}
use mathlib.Core.Logic.{inl}
use mathlib.Core.Bool.{Bool, true, false, not, ◌&&◌}
use mathlib.Core.List.{List, []}
use native.Mathlib.Omega.{arith}
use lib.Dec.{eqb}
use lib.ListN.{length, get_or, drop, set}
use lib.Seq.{get_or-set_same}
use lib.Ieee.{Float, nan, inf, fin, binary64, of_bits, is_nan, fits, le, lt, eq, neg, up, down}
use lib.IntN.{ℤ}
use lib.Ieee.Fits.{down_pos}
use borrow.Author.Tests.{lt-ltb, eq-eqb, ne_eqb, eqb-true, eqb-false}
use Rattle.std.specs.Float.{float_is_finite}
use Rattle.codec.specs.Format.{Bytes, fault, got, only, ◌⊗◌, both, no_true}
use Rattle.codec.specs.Number.{split}
use Rattle.codec.specs.Double.{double}
use Rattle.codec.specs.Answers.{DoubleRead}
use Rattle.geometry.specs.Double.{on_map, is_finite, absolute, farthest}
use Rattle.map.specs.MapFile.{coordinate, height, point, polyline}
use Rattle.map.specs.Tables.{point_from, line_at}
use Rattle.fields.specs.Fields.{Place, read_at, got_at, Changed, Word, Cells, cell_at, Line}
use Rattle.std.specs.Prelude.{Option, Some, None}
use Rattle.fields.proofs.Places.{unchanged, changed_at, changed_both, place_then, place_via, onto, Listed, listed_starts, listed-all, listed_more, listed_ends}

-- ---- on the map: a double between the two ends

abbrev lowest : Float
lowest = neg farthest

eqb_sym : (a b : ℕ) → eqb a b ≡ eqb b a
eqb_sym a b = split (eqb a b) (λ t. t ∙ sym (eq-eqb b a (sym (eqb-true a b t)))) (λ t. t ∙ sym (ne_eqb b a (λ e. eqb-false a b t (sym e))))

and_true : (p : Bool) → p && true ≡ p
and_true true = refl
and_true false = refl

fin_span : (s : Bool) (m : ℕ) (e : ℤ) → le (fin false m e) farthest ≡ le lowest (fin s m e) && le (fin s m e) farthest
unfolding le lt eq neg of_bits
fin_span false m e = rw (lt-ltb 0 (1 * 2 ^ 26 * down e + m * up e * 1) (omega (arith, down_pos e)))
fin_span true m e =
    rw (lt-ltb 0 (m * up e * 1 + 1 * 2 ^ 26 * down e) (omega (arith, down_pos e)), eqb_sym (m * up e * 1) (1 * 2 ^ 26 * down e)) (sym (and_true (le lowest (fin true m e))))

-- a double that is no NaN is on the map where it lies between the ends
span_of : (x : Float) → fits binary64 x && not (is_nan x) ≡ true → on_map x ≡ le lowest x && le x farthest
unfolding on_map is_finite absolute is_nan le lt eq neg of_bits
span_of nan h = absurd (no_true (both (fits binary64 nan) false h).1)
span_of (inf true) h = refl
span_of (inf false) h = refl
span_of (fin s m e) h = rw (both (fits binary64 (fin s m e)) true h).0 (fin_span s m e)

module _ (s : Bytes) (p : Place) (cs : List Float) (c : ℕ) (h : c < length cs) where
  cell_lost : fault ≡ read_at coordinate s p → Cells coordinate 1 cell_at s p cs c None cs
  cell_lost e = record { coords = unchanged cs c (c + 1); is = e }

  pub cell_none : p ≡ None → Cells coordinate 1 cell_at s p cs c None cs
  cell_none e = cell_lost (rw e)

  module _ (i : ℕ) (e : p ≡ Some i) (a : Option (Float × ℕ)) (ea : DoubleRead s i a) where
    pub cell_cut : a ≡ None → Cells coordinate 1 cell_at s p cs c None cs
    unfolding coordinate only
    cell_cut f = cell_lost (rw (e, ← ea.read, f))

    module _ (x : Float) (next : ℕ) (fa : a ≡ Some (x, next)) where
      reads : double.read (drop i s) ≡ got x (drop next s)
      reads = rw fa at (sym ea.read)

      on : on_map x ≡ le lowest x && le x farthest
      unfolding double
      on = span_of x (double.back (drop i s) x (drop next s) reads).0

      pub cell_low : le lowest x ≡ false → Cells coordinate 1 cell_at s p cs c None cs
      unfolding coordinate only
      cell_low l = cell_lost (rw (e, reads, on, l))

      pub cell_high : le lowest x ≡ true → le x farthest ≡ false → Cells coordinate 1 cell_at s p cs c None cs
      unfolding coordinate only
      cell_high l m = cell_lost (rw (e, reads, on, l, m))

      pub cell_off : le lowest x && le x farthest ≡ false → Cells coordinate 1 cell_at s p cs c None cs
      unfolding coordinate only
      cell_off l = cell_lost (rw (e, reads, on, l))

      pub cell_got : le lowest x ≡ true → le x farthest ≡ true → Cells coordinate 1 cell_at s p cs c (Some next) (set cs c x)
      unfolding coordinate only
      cell_got l m = record { coords = changed_at cs c x; is = rw (get_or-set_same cs c x nan h, e, reads, on, l, m) }

pub ruleset reading_cell = (cell_none, cell_cut, cell_low, cell_high, cell_off, cell_got)

-- ---- a height: any finite double

finite_of : (x : Float) → fits binary64 x && not (is_nan x) ≡ true → is_finite x ≡ float_is_finite x
unfolding is_finite float_is_finite is_nan
finite_of nan h = refl
finite_of (inf s) h = refl
finite_of (fin s m e) h = (both (fits binary64 (fin s m e)) true h).0

module _ (s : Bytes) (p : Place) (cs : List Float) (c : ℕ) (h : c < length cs) where
  height_lost : fault ≡ read_at height s p → Cells height 1 cell_at s p cs c None cs
  height_lost e = record { coords = unchanged cs c (c + 1); is = e }

  pub height_none : p ≡ None → Cells height 1 cell_at s p cs c None cs
  height_none e = height_lost (rw e)

  module _ (i : ℕ) (e : p ≡ Some i) (a : Option (Float × ℕ)) (ea : DoubleRead s i a) where
    pub height_cut : a ≡ None → Cells height 1 cell_at s p cs c None cs
    unfolding height only
    height_cut f = height_lost (rw (e, ← ea.read, f))

    module _ (x : Float) (next : ℕ) (fa : a ≡ Some (x, next)) where
      double_reads : double.read (drop i s) ≡ got x (drop next s)
      double_reads = rw fa at (sym ea.read)

      finite : is_finite x ≡ float_is_finite x
      unfolding double
      finite = finite_of x (double.back (drop i s) x (drop next s) double_reads).0

      pub height_off : float_is_finite x ≡ false → Cells height 1 cell_at s p cs c None cs
      unfolding height only
      height_off l = height_lost (rw (e, double_reads, finite, l))

      pub height_got : float_is_finite x ≡ true → Cells height 1 cell_at s p cs c (Some next) (set cs c x)
      unfolding height only
      height_got l = record { coords = changed_at cs c x; is = rw (get_or-set_same cs c x nan h, e, double_reads, finite, l) }

pub ruleset reading_height = (height_none, height_cut, height_off, height_got)

-- ---- a point

module _ (s : Bytes) (p x y z : Place) (a b d e : List Float) (c : ℕ) where
  pub point_got : Cells coordinate 1 cell_at s p a c x b → Cells coordinate 1 cell_at s x b (c + 1) y d → Cells coordinate 1 cell_at s y d (c + 2) z e → Cells point 3 point_from s p a c z e
  unfolding point point_from
  point_got k l m =
      let n = changed_both b d e (c + 1) (c + 3) (c + 1) (c + 1 + 1) (c + 2) (c + 2 + 1) l.coords m.coords (omega arith) (omega arith) (omega arith) (omega arith) in
      let u : got_at s x (get_or e c nan) ≡ read_at coordinate s p = rw (n.kept nan c (inl (omega arith))) k.is in
      let v : got_at s y (get_or e (c + 1) nan) ≡ read_at coordinate s x = rw (m.coords.kept nan (c + 1) (inl (omega arith))) l.is in
      record {
        coords = changed_both a b e c (c + 3) c (c + 1) (c + 1) (c + 3) k.coords n (omega arith) (omega arith) (omega arith) (omega arith);
        is = place_via (coordinate ⊗ coordinate ⊗ coordinate) _ _ _ _ s p z _ (place_then coordinate (coordinate ⊗ coordinate) s p x z _ _ u (place_then coordinate coordinate s x y z _ _ v m.is));
      }

pub ruleset reading_point = (point_got)

-- ---- a polyline

pub record Lines (s : Bytes) (cs₀ : List Float) (c : ℕ) (q₀ : Place) (n : ℕ) (cs : List Float) (q : Place) (k : ℕ) : Type 0 where
  pub room : c + 192 ≤ length cs
  pub low : n ≤ 64
  pub coords : Changed cs₀ c (c + 192) cs
  pub items : Listed point s (onto point [] n s q₀) n k q (λ i. point_from cs (c + i * 3))

module _ (s : Bytes) (p : Place) (old ws₀ : List ℕ) (o : ℕ) (cs₀ : List Float) (c : ℕ) (q₀ : Place) (x : Word 0 64 s p old o q₀ ws₀) where
  pub lines_start : c + 192 ≤ length cs₀ → Lines s cs₀ c q₀ (get_or ws₀ o 0) cs₀ q₀ 0
  lines_start h = record { room = h; low = x.few; coords = unchanged cs₀ c (c + 192); items = listed_starts point s (get_or ws₀ o 0) q₀ (λ i. point_from cs₀ (c + i * 3)) }

  pub lines_end : (cs : List Float) (q : Place) (k : ℕ) → Lines s cs₀ c q₀ (get_or ws₀ o 0) cs q k → get_or ws₀ o 0 ≤ k → Line s p old o cs₀ c q ws₀ cs
  unfolding line_at polyline
  lines_end cs q k w h =
      record { words = x.words; coords = w.coords; few = x.few; is = listed_ends point s _ (get_or ws₀ o 0) k q _ w.items h ∙ listed-all point s 64 (get_or ws₀ o 0) p q₀ x.is }

module _ (s : Bytes) (cs₀ : List Float) (c : ℕ) (q₀ : Place) (n : ℕ) (cs : List Float) (q : Place) (k : ℕ) (w : Lines s cs₀ c q₀ n cs q k) where
  pub lines_more : k < n → (q' : Place) (cs' : List Float) → Cells point 3 point_from s q cs (c + k * 3) q' cs' → Lines s cs₀ c q₀ n cs' q' (k + 1)
  unfolding point_from
  lines_more h q' cs' x =
      let same : (i : ℕ) → i < k → point_from cs' (c + i * 3) ≡ point_from cs (c + i * 3) = λ i l.
      rw (x.coords.kept nan (c + i * 3) (inl (omega arith)), x.coords.kept nan (c + i * 3 + 1) (inl (omega arith)), x.coords.kept nan (c + i * 3 + 2) (inl (omega arith))) in
      record {
        room = omega (arith, w.room, x.coords.long);
        low = w.low;
        coords = changed_both cs₀ cs cs' c (c + 192) c (c + 192) (c + k * 3) (c + k * 3 + 3) w.coords x.coords (omega arith) (omega arith) (omega arith) (omega (arith, w.low));
        items = listed_more point s _ n k q _ w.items q' (λ i. point_from cs' (c + i * 3)) h same x.is;
      }

pub ruleset reading_line = (lines_start, lines_more, lines_end)
