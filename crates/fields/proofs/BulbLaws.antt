-- A signal's bulbs.
use Prim.Native.Nat.{ℕ, ◌+◌, ◌*◌, ◌≤◌, ◌<◌}
use mathlib.Core.Path.{◌≡◌, ◌∙◌}
use mathlib.Core.Logic.{inl}
use mathlib.Core.List.{List, []}
use native.Mathlib.Omega.{arith}
use lib.Ieee.{Float, nan}
use lib.ListN.{length, get_or}
use Rattle.codec.specs.Format.{Bytes, ◌⊗◌}
use Rattle.codec.specs.Items.{below}
use Rattle.map.specs.MapFile.{point, bulb}
use Rattle.map.specs.Tables.{point_from, bulb_at}
use Rattle.fields.specs.Fields.{Place, read_at, got_at, Changed, Word, Cells, BulbAt, Bulbs}
use Rattle.fields.proofs.Places.{unchanged, changed_both, place_then, place_via, range_below, onto, Listed, listed_starts, listed-all, listed_more, listed_ends}

module _ (s : Bytes) (p x y z : Place) (cs cs1 : List Float) (c : ℕ) (ws ws1 ws2 : List ℕ) (o : ℕ) where
  pub bulb_got : Cells point 3 point_from s p cs c x cs1 → Word 0 3 s x ws o y ws1 → Word 0 8 s y ws1 (o + 1) z ws2 → BulbAt s p ws o cs c z ws2 cs1
  unfolding bulb
  bulb_got k l m =
      let u : got_at s y (get_or ws2 o 0) ≡ read_at (below 4) s x = rw (m.words.kept 0 o (inl (omega arith))) (l.is ∙ range_below 3 s x) in
      record {
        words = changed_both ws ws1 ws2 o (o + 2) o (o + 1) (o + 1) (o + 1 + 1) l.words m.words (omega arith) (omega arith) (omega arith) (omega arith);
        coords = k.coords;
        is = place_via (point ⊗ below 4 ⊗ below 9) _ _ _ _ s p z _ (place_then point (below 4 ⊗ below 9) s p x z _ _ k.is (place_then (below 4) (below 9) s x y z _ _ u (m.is ∙ range_below 8 s y)));
      }

pub ruleset reading_bulb = (bulb_got)

-- k of n bulbs stand in the row; the words were ws₀, and the place q₀, where they begin
pub record Lit (s : Bytes) (ws₀ : List ℕ) (cs₀ : List Float) (q₀ : Place) (n : ℕ) (ws : List ℕ) (cs : List Float) (q : Place) (k : ℕ) : Type 0 where
  pub words_room : 13 ≤ length ws
  pub coords_room : 205 ≤ length cs
  pub low : n ≤ 4
  pub words : Changed ws₀ 5 13 ws
  pub coords : Changed cs₀ 193 205 cs
  pub items : Listed bulb s (onto bulb [] n s q₀) n k q (bulb_at ws cs)

module _ (s : Bytes) (p : Place) (old ws₀ : List ℕ) (cs₀ : List Float) (q₀ : Place) (x : Word 0 4 s p old 4 q₀ ws₀) where
  pub bulbs_start : 13 ≤ length old → 205 ≤ length cs₀ → Lit s ws₀ cs₀ q₀ (get_or ws₀ 4 0) ws₀ cs₀ q₀ 0
  bulbs_start h g =
      record { words_room = omega (arith, x.words.long); coords_room = g; low = x.few; words = unchanged ws₀ 5 13; coords = unchanged cs₀ 193 205; items = listed_starts bulb s (get_or ws₀ 4 0) q₀ (bulb_at ws₀ cs₀) }

  pub bulbs_end : (ws : List ℕ) (cs : List Float) (q : Place) (k : ℕ) → Lit s ws₀ cs₀ q₀ (get_or ws₀ 4 0) ws cs q k → get_or ws₀ 4 0 ≤ k → Bulbs s p old cs₀ q ws cs
  bulbs_end ws cs q k w h =
      let e : get_or ws 4 0 ≡ get_or ws₀ 4 0 = w.words.kept 0 4 (inl (omega arith)) in
      record {
        words = changed_both old ws₀ ws 4 13 4 5 5 13 x.words w.words (omega arith) (omega arith) (omega arith) (omega arith);
        coords = w.coords;
        is = rw e (listed_ends bulb s _ (get_or ws₀ 4 0) k q _ w.items h ∙ listed-all bulb s 4 (get_or ws₀ 4 0) p q₀ x.is);
      }

module _ (s : Bytes) (ws₀ : List ℕ) (cs₀ : List Float) (q₀ : Place) (n : ℕ) (ws : List ℕ) (cs : List Float) (q : Place) (k : ℕ) (w : Lit s ws₀ cs₀ q₀ n ws cs q k) where
  pub bulbs_more : k < n → (q' : Place) (ws' : List ℕ) (cs' : List Float) → BulbAt s q ws (5 + k * 2) cs (193 + k * 3) q' ws' cs' → Lit s ws₀ cs₀ q₀ n ws' cs' q' (k + 1)
  unfolding bulb_at point_from
  bulbs_more h q' ws' cs' x =
      let same : (i : ℕ) → i < k → bulb_at ws' cs' i ≡ bulb_at ws cs i = λ i l.
      rw (
        x.coords.kept nan (193 + i * 3) (inl (omega arith)),
        x.coords.kept nan (193 + i * 3 + 1) (inl (omega arith)),
        x.coords.kept nan (193 + i * 3 + 2) (inl (omega arith)),
        x.words.kept 0 (5 + i * 2) (inl (omega arith)),
        x.words.kept 0 (6 + i * 2) (inl (omega arith)),
      ) in
      let six : 5 + k * 2 + 1 ≡ 6 + k * 2 = omega arith in
      record {
        words_room = omega (arith, w.words_room, x.words.long);
        coords_room = omega (arith, w.coords_room, x.coords.long);
        low = w.low;
        words = changed_both ws₀ ws ws' 5 13 5 13 (5 + k * 2) (5 + k * 2 + 2) w.words x.words (omega arith) (omega arith) (omega arith) (omega (arith, w.low));
        coords = changed_both cs₀ cs cs' 193 205 193 205 (193 + k * 3) (193 + k * 3 + 3) w.coords x.coords (omega arith) (omega arith) (omega arith) (omega (arith, w.low));
        items = listed_more bulb s _ n k q _ w.items q' (bulb_at ws' cs') h same (rw six at x.is);
      }

pub ruleset reading_bulbs = (bulbs_start, bulbs_more, bulbs_end)
