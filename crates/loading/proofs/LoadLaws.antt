-- Rows and tables that are loaded.
use Prim.Native.Nat.{ℕ, zero, suc, ◌+◌, ◌-◌, ◌*◌, min, ◌≤◌, ◌<◌}
use mathlib.Core.Path.{◌≡◌, sym, ◌∙◌}
use mathlib.Core.Logic.{inl, inr, ⊎_elim}
use mathlib.Core.List.{List, [], ◌++◌, append_assoc}
use native.Mathlib.Omega.{arith}
use lib.Ieee.{Float, nan}
use lib.ListN.{length, get_or, take, drop, length-take, length-drop}
use lib.Seq.{ext_get_or, length-take-le, take-length, take_all, drop-drop}
use Rattle.rows.specs.Rows.{cut, pasted}
use Rattle.rows.proofs.RowLaws.{side, get_or-cut, get_or_before, get_d_past, length-pasted, cut_start}
use Rattle.codec.specs.Format.{Bytes}
use Rattle.store.specs.Layout.{limit_of, width_of, base_of, coord_width_of, coord_base_of, all_words, all_coords, place_of, coord_place_of, count_of, row_of, coords_of, records_of}
use Rattle.store.proofs.KindLaws.{kind_below}
use Rattle.store.proofs.StoreLaws.{row_ends, coords_end, open_place, open_coord_place}
use native.Mathlib.Nat.{le_refl, suc-mul, mul-le-mul_right, min-le_left}
use Rattle.fields.specs.Fields.{Place, Changed, Word}
use Rattle.fields.proofs.Places.{unchanged, changed_both, onto, Listed, listed_starts, listed-all, listed_more, listed_ends}
use Rattle.records.specs.Records.{record_form, record_in, RowRead}
use Rattle.loading.specs.Loading.{RowLoaded, TableLoaded}

-- ---- a part of a list that is lent and comes back

whole : {A : Type 0} (m : List A) (n : ℕ) → length m ≡ n → cut m 0 n ≡ m
unfolding cut
whole m n e = rw (← e) (take-length m)

length_cut_at : {A : Type 0} (l : List A) (a n : ℕ) → a + n ≤ length l → length (take n (drop a l)) ≡ n
length_cut_at l a n h = length-take-le n (drop a l) (simp length-drop (omega arith))

module _ {A : Type 0} (l m : List A) (a n : ℕ) (h : a + n ≤ length l) (e : length m ≡ n) where
  abbrev back : List A
  back = take a l ++ (m ++ drop n (drop a l))

  back_is : back ≡ pasted l a m n
  unfolding pasted
  back_is = rw (append_assoc, drop-drop n a l, take_all n m (omega arith))

  pub part_changed : Changed l a (a + n) back
  part_changed =
      rw back_is
      (record {
        long = length-pasted l a m n h (omega arith);
        kept = λ d j u. ⊎_elim (λ (v : j < a). get_or_before l a m n j d v (omega arith)) (λ (v : a + n ≤ j). get_d_past l a m n j d v (omega arith) (omega arith)) u;
      })

  pub part_here : cut back a n ≡ m
  part_here = rw back_is (cut_start l a m n n (le_refl n) (omega arith) (omega arith) ∙ cut_whole)
    where
      cut_whole : cut m 0 n ≡ m
      cut_whole = whole m n (omega arith)

pub row_fits : (k i a w : ℕ) → k < 6 → i < limit_of k → a ≡ place_of k i → w ≡ width_of k → a + w ≤ all_words
row_fits k i a w h g x y = omega (arith, row_ends k i h g)

pub coord_row_fits : (k i a w : ℕ) → k < 6 → i < limit_of k → a ≡ coord_place_of k i → w ≡ coord_width_of k → a + w ≤ all_coords
coord_row_fits k i a w h g x y = omega (arith, coords_end k i h g)

module _ (s : Bytes) (p : Place) (k i : ℕ) (ws : List ℕ) (cs : List Float) (r : Place) (row : List ℕ) (xs : List Float) (a w c v : ℕ) where
  pub row_got : k < 6 → i < limit_of k → length ws ≡ all_words → length cs ≡ all_coords → a ≡ place_of k i → w ≡ width_of k → c ≡ coord_place_of k i → v ≡ coord_width_of k
      → RowRead (record_form k) (record_in k) s p (take (a + w - a) (drop a ws)) (take (c + v - c) (drop c cs)) r row xs
      → RowLoaded s p k i ws cs r (take a ws ++ (row ++ drop (a + w - a) (drop a ws))) (take c cs ++ (xs ++ drop (c + v - c) (drop c cs)))
  unfolding row_of coords_of
  row_got hk hi lw lc ea ew ec ev x =
      let nw : a + w - a ≡ w = omega arith in
      let nc : c + v - c ≡ v = omega arith in
      let fw : a + w ≤ length ws = omega (arith, row_fits k i a w hk hi ea ew) in
      let fc : c + v ≤ length cs = omega (arith, coord_row_fits k i c v hk hi ec ev) in
      let gw : length row ≡ w = x.words ∙ rw nw (length_cut_at ws a w fw) in
      let gc : length xs ≡ v = x.coords ∙ rw nc (length_cut_at cs c v fc) in
      rw (nw, nc)
      (record {
        words = rw (← ea, ← ew) (part_changed ws row a w fw gw);
        coords = rw (← ec, ← ev) (part_changed cs xs c v fc gc);
        is = rw (← ea, ← ew, ← ec, ← ev, part_here ws row a w fw gw, part_here cs xs c v fc gc) x.is;
      })

pub ruleset loading_row = (row_fits, coord_row_fits, kind_below)

-- ---- a table

cut-length : {A : Type 0} (m : List A) (at n : ℕ) → length (cut m at n) ≡ min n (length m - at)
unfolding cut
cut-length m at n = length-take n (drop at m) ∙ rw (length-drop at m)

-- rows apart from what has changed
module _ {A : Type 0} (l l' : List A) (d : A) (e : length l' ≡ length l) where
  pub cut_same : (at n : ℕ) → ((j : ℕ) → at ≤ j → j < at + n → get_or l' j d ≡ get_or l j d) → cut l' at n ≡ cut l at n
  cut_same at n k =
      let g : length (cut l' at n) ≡ length (cut l at n) = rw (cut-length l' at n, cut-length l at n, e) in
      ext_get_or d (cut l' at n) (cut l at n) g (λ i h.
      let u : i < n = omega (arith, h, cut-length l' at n, min-le_left n (length l' - at)) in
      get_or-cut l' at n i d u ∙ k (at + i) (omega arith) (omega arith) ∙ sym (get_or-cut l at n i d u))

pub rows_lie : (i j w : ℕ) → j < i → j * w + w ≤ i * w
rows_lie i j w h = omega (arith, suc-mul j w, mul-le-mul_right {m = suc j} {n = i} w (omega arith))

pub record Filling (s : Bytes) (k : ℕ) (ws₀ : List ℕ) (cs₀ : List Float) (q₀ : Place) (n : ℕ) (ws : List ℕ) (cs : List Float) (q : Place) (i : ℕ) : Type 0 where
  pub kind : k < 6
  pub low : n ≤ limit_of k
  pub long : length ws ≡ all_words
  pub coords_long : length cs ≡ all_coords
  pub words : Changed ws₀ (base_of k) (base_of k + limit_of k * width_of k) ws
  pub coords : Changed cs₀ (coord_base_of k) (coord_base_of k + limit_of k * coord_width_of k) cs
  pub items : Listed (record_form k) s (onto (record_form k) [] n s q₀) n i q (λ j. record_in k (row_of ws k j) (coords_of cs k j))

base_high : (k : ℕ) → k < 6 → 7 ≤ base_of k
unfolding base_of
base_high zero h = omega arith
base_high (suc zero) h = omega arith
base_high (suc (suc zero)) h = omega arith
base_high (suc (suc (suc zero))) h = omega arith
base_high (suc (suc (suc (suc zero)))) h = omega arith
base_high (suc (suc (suc (suc (suc zero))))) h = omega arith
base_high (suc (suc (suc (suc (suc (suc k)))))) h = absurd (let y : ⊥ = omega arith in y)

module _ (s : Bytes) (p : Place) (k at : ℕ) (old ws₀ : List ℕ) (cs₀ : List Float) (q₀ : Place) (most : ℕ) (x : Word 0 most s p old at q₀ ws₀) (ea : at ≡ 1 + k) (e : most ≡ limit_of k) (h : k < 6) where
  counted : Word 0 most s p old (1 + k) q₀ ws₀
  counted = rw ea at x

  pub filling_starts : length old ≡ all_words → length cs₀ ≡ all_coords → Filling s k ws₀ cs₀ q₀ (get_or ws₀ at 0) ws₀ cs₀ q₀ 0
  filling_starts lw lc = rw ea
      (record {
        kind = h;
        low = omega (arith, counted.few);
        long = x.words.long ∙ lw;
        coords_long = lc;
        words = unchanged ws₀ (base_of k) (base_of k + limit_of k * width_of k);
        coords = unchanged cs₀ (coord_base_of k) (coord_base_of k + limit_of k * coord_width_of k);
        items = listed_starts (record_form k) s (get_or ws₀ (1 + k) 0) q₀ (λ j. record_in k (row_of ws₀ k j) (coords_of cs₀ k j));
      })

  all_loaded : (ws : List ℕ) (cs : List Float) (q : Place) (i : ℕ) → Filling s k ws₀ cs₀ q₀ (get_or ws₀ (1 + k) 0) ws cs q i → get_or ws₀ (1 + k) 0 ≤ i → TableLoaded s p k old cs₀ q ws cs
  unfolding records_of count_of
  all_loaded ws cs q i w g =
      let c : get_or ws (1 + k) 0 ≡ get_or ws₀ (1 + k) 0 = w.words.kept 0 (1 + k) (inl (omega (arith, base_high k h))) in
      record {
        long = w.words.long ∙ counted.words.long;
        words = λ j u v. w.words.kept 0 j u ∙ counted.words.kept 0 j (⊎_elim (λ (y : j < 1 + k). inl y) (λ (y : 1 + k < j). inr (omega arith)) (side j (1 + k) v));
        coords = w.coords;
        few = omega (arith, c, counted.few);
        is = rw c (listed_ends (record_form k) s _ (get_or ws₀ (1 + k) 0) i q _ w.items g ∙ listed-all (record_form k) s (limit_of k) (get_or ws₀ (1 + k) 0) p q₀ (rw e at counted.is));
      }

  pub filling_ends : (ws : List ℕ) (cs : List Float) (q : Place) (i : ℕ) → Filling s k ws₀ cs₀ q₀ (get_or ws₀ at 0) ws cs q i → get_or ws₀ at 0 ≤ i → TableLoaded s p k old cs₀ q ws cs
  filling_ends ws cs q i w g = all_loaded ws cs q i (rw ea at w) (rw ea at g)

module _ (s : Bytes) (k : ℕ) (ws₀ : List ℕ) (cs₀ : List Float) (q₀ : Place) (n : ℕ) (ws : List ℕ) (cs : List Float) (q : Place) (i : ℕ) (w : Filling s k ws₀ cs₀ q₀ n ws cs q i) (h : i < n) where
  pub filling_row : i < limit_of k
  filling_row = omega (arith, w.low)

  pub filling_more : (q' : Place) (ws' : List ℕ) (cs' : List Float) → RowLoaded s q k i ws cs q' ws' cs' → Filling s k ws₀ cs₀ q₀ n ws' cs' q' (i + 1)
  unfolding row_of coords_of
  filling_more q' ws' cs' x =
      let pl : place_of k i ≡ base_of k + i * width_of k = open_place k i in
      let cp : coord_place_of k i ≡ coord_base_of k + i * coord_width_of k = open_coord_place k i in
      let rw1 = rows_lie (limit_of k) i (width_of k) filling_row in
      let rc1 = rows_lie (limit_of k) i (coord_width_of k) filling_row in
      let same : (j : ℕ) → j < i → record_in k (row_of ws' k j) (coords_of cs' k j) ≡ record_in k (row_of ws k j) (coords_of cs k j) = λ j l.
      rw (
        cut_same ws ws' 0 x.words.long (place_of k j) (width_of k) (λ m u v. x.words.kept 0 m (inl (omega (arith, pl, open_place k j, rows_lie i j (width_of k) l)))),
        cut_same cs cs' nan x.coords.long (coord_place_of k j) (coord_width_of k) (λ m u v. x.coords.kept nan m (inl (omega (arith, cp, open_coord_place k j, rows_lie i j (coord_width_of k) l)))),
      ) in
      record {
        kind = w.kind;
        low = w.low;
        long = x.words.long ∙ w.long;
        coords_long = x.coords.long ∙ w.coords_long;
        words = changed_both ws₀ ws ws' (base_of k) (base_of k + limit_of k * width_of k) (base_of k) (base_of k + limit_of k * width_of k) (place_of k i) (place_of k i + width_of k) w.words x.words (omega arith) (omega arith) (omega arith) (omega arith);
        coords = changed_both cs₀ cs cs' (coord_base_of k) (coord_base_of k + limit_of k * coord_width_of k) (coord_base_of k) (coord_base_of k + limit_of k * coord_width_of k) (coord_place_of k i) (coord_place_of k i + coord_width_of k) w.coords x.coords (omega arith) (omega arith) (omega arith) (omega arith);
        items = listed_more (record_form k) s _ n i q _ w.items q' (λ j. record_in k (row_of ws' k j) (coords_of cs' k j)) h same x.is;
      }

pub ruleset loading_table = (filling_starts, filling_row, filling_more, filling_ends, kind_below)
