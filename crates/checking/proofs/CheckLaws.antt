-- A table that is passed over.
use Prim.Native.Nat.{ℕ, zero, suc, ◌+◌, ◌-◌, ◌*◌, ◌^◌, ◌≤◌, ◌<◌}
use mathlib.Core.Path.{◌≡◌, refl, sym, ap, ◌∙◌, subst}
use mathlib.Core.Logic.{◌⊎◌, inl, inr}
use mathlib.Core.Bool.{true, false, ◌&&◌, cond}
use mathlib.Core.List.{List, [], ◌∷◌, ◌++◌, append_assoc, append-nil}
use native.Mathlib.Omega.{arith}
use native.Mathlib.Numerals.{add-one}
use lib.Dec.{leb, ltb}
use lib.Ieee.{Float}
use lib.ListN.{length, get_or, drop}
use borrow.Author.Tests.{le-leb, lt-leb, lt-ltb, le-ltb}
use Rattle.rows.specs.Lists.{list_to, total}
use Rattle.rows.specs.Table.{rising}
use Rattle.rows.proofs.Indexed.{list_to_same}
use Rattle.codec.specs.Format.{Bytes, Read, fault, got, and_then, only, read_items, no_got}
use Rattle.codec.specs.Items.{list}
use Rattle.map.specs.MapFile.{table}
use Rattle.store.specs.Layout.{limit_of, width_of, coord_width_of}
use Rattle.store.proofs.KindLaws.{kind_below}
use Rattle.store.proofs.StoreLaws.{limit_small}
use Rattle.fields.specs.Fields.{Place, read_at, got_at, Word}
use Rattle.std.specs.Prelude.{Some, None}
use Rattle.fields.proofs.Places.{onto, Listed, listed_starts, listed-all, listed_more, listed_ends}
use Rattle.records.specs.Records.{Rec, record_form, record_in, RowRead}
use Rattle.checking.specs.Checking.{record_num, record_points, points_in, table_form, seen, TableChecked}
use Rattle.checking.proofs.PointLaws.{points_are, points_few, num_is}

-- ---- a list, tested, and what is kept of it

module _ (k next : ℕ) (s : Bytes) where
  abbrev tested : Read (List (Rec k)) → Read ℕ
  tested r = seen (total (record_points k)) (and_then r (λ a t. cond (rising (record_num k) 0 next a) (got a t) fault))

  answer_is : (p : Place) → seen (total (record_points k)) (read_at (table_form k next) s p) ≡ tested (read_at (list (limit_of k) (record_form k)) s p)
  unfolding table only
  answer_is None = refl
  answer_is (Some i) = refl

  -- a test that fails whatever follows
  early_read : (r : Read (List (Rec k))) (xs : List (Rec k)) → ((qs : List (Rec k)) → rising (record_num k) 0 next (xs ++ qs) ≡ false) → fault ≡ tested (and_then r (λ qs t. got (xs ++ qs) t))
  early_read fault xs h = refl
  early_read (got qs t) xs h = rw (h qs)

  early : (n : ℕ) (q : Place) (xs : List (Rec k)) → ((qs : List (Rec k)) → rising (record_num k) 0 next (xs ++ qs) ≡ false) → fault ≡ tested (onto (record_form k) xs n s q)
  early n None xs h = refl
  early n (Some i) xs h = early_read (read_items (record_form k) n (drop i s)) xs h

  cut_now : (n : ℕ) (q : Place) (xs : List (Rec k)) → q ≡ None → fault ≡ tested (onto (record_form k) xs n s q)
  cut_now n None xs h = refl
  cut_now n (Some i) xs h = absurd (let z : ◌≡◌ {A = ℕ} 0 1 = cc in let y : ⊥ = omega arith in y)

  passed-all : (q : Place) (xs : List (Rec k)) → rising (record_num k) 0 next xs ≡ true → got_at s q (total (record_points k) xs) ≡ tested (got_at s q xs)
  passed-all None xs h = refl
  passed-all (Some i) xs h = rw h

-- ---- the loop

pub record Passing (s : Bytes) (k next : ℕ) (row₀ : List ℕ) (xs₀ : List Float) (q₀ : Place) (n : ℕ) (row : List ℕ) (xs : List Float) (q : Place) (i low sum : ℕ) : Type 0 where
  pub kind : k < 6
  pub small : n ≤ 128
  pub row_room : 92 ≤ length row
  pub xs_room : 576 ≤ length xs
  pub row_long : length row ≡ length row₀
  pub xs_long : length xs ≡ length xs₀
  pub v : ℕ → Rec k
  pub items : Listed (record_form k) s (onto (record_form k) [] n s q₀) n i q v
  pub rise : (qs : List (Rec k)) → rising (record_num k) 0 next (list_to v i ++ qs) ≡ rising (record_num k) low next qs
  pub adds : total (record_points k) (list_to v i) ≡ sum
  pub bound : sum ≤ 192 * i

total-append : {A : Type 0} (f : A → ℕ) (xs ys : List A) → total f (xs ++ ys) ≡ total f xs + total f ys
unfolding total
total-append f [] ys = omega arith
total-append f (x ∷ xs) ys = omega (arith, total-append f xs ys)

module _ (s : Bytes) (p : Place) (k next most : ℕ) (old row₀ : List ℕ) (xs₀ : List Float) (q₀ : Place) (x : Word 0 most s p old 0 q₀ row₀) (e : most ≡ limit_of k) (h : k < 6) where
  whole : onto (record_form k) [] (get_or row₀ 0 0) s q₀ ≡ read_at (list (limit_of k) (record_form k)) s p
  whole = listed-all (record_form k) s (limit_of k) (get_or row₀ 0 0) p q₀ (rw e at x.is)

  pub passing_starts : 92 ≤ length old → 576 ≤ length xs₀ → Passing s k next row₀ xs₀ q₀ (get_or row₀ 0 0) row₀ xs₀ q₀ 0 0 0
  unfolding total list_to
  passing_starts lr lx =
      let v : ℕ → Rec k = λ j. record_in k row₀ xs₀ in
      record {
        kind = h;
        small = omega (arith, x.few, limit_small k);
        row_room = omega (arith, x.words.long);
        xs_room = lx;
        row_long = refl;
        xs_long = refl;
        v = v;
        items = listed_starts (record_form k) s (get_or row₀ 0 0) q₀ v;
        rise = λ qs. refl;
        adds = refl;
        bound = omega arith;
      }

  module _ (row : List ℕ) (xs : List Float) (q : Place) (i low sum : ℕ) (w : Passing s k next row₀ xs₀ q₀ (get_or row₀ 0 0) row xs q i low sum) where
    all_passed : get_or row₀ 0 0 ≤ i → got_at s q sum ≡ seen (total (record_points k)) (read_at (table_form k next) s p)
    unfolding rising
    all_passed g =
        let n : ℕ = get_or row₀ 0 0 in
        let c : i ≡ n = omega (arith, w.items.few) in
        let t : rising (record_num k) 0 next (list_to w.v n) ≡ true = rw (← c) (rw append-nil at (w.rise [])) in
        let m : total (record_points k) (list_to w.v n) ≡ sum = rw (← c) w.adds in
        let y : got_at s q sum ≡ tested k next s (got_at s q (list_to w.v n)) = rw (← m) (passed-all k next s q (list_to w.v n) t) in
        let z : tested k next s (got_at s q (list_to w.v n)) ≡ seen (total (record_points k)) (read_at (table_form k next) s p) =
        rw (answer_is k next s p, ← whole) (ap (tested k next s) (listed_ends (record_form k) s _ n i q _ w.items g)) in
        y ∙ z

    pub passing_ends : get_or row₀ 0 0 ≤ i → (e : ℕ) → q ≡ Some e → TableChecked s p k next (Some (sum, e))
    passing_ends g e f = record { few = omega (arith, w.bound, w.small, w.items.few); is = rw f at (all_passed g) }

    pub passing_lost : get_or row₀ 0 0 ≤ i → q ≡ None → TableChecked s p k next None
    passing_lost g f = record { few = omega arith; is = rw f at (all_passed g) }

    module _ (g : i < get_or row₀ 0 0) (q' : Place) (row' : List ℕ) (xs' : List Float) (y : RowRead (record_form k) (record_in k) s q row xs q' row' xs') where
      abbrev a : Rec k
      a = record_in k row' xs'

      unfoldable v' : ℕ → Rec k
      v' j = cond (ltb j i) (w.v j) a

      same : (j : ℕ) → j < i → v' j ≡ w.v j
      unfolding v'
      same j l = rw (lt-ltb j i l)

      here : v' i ≡ a
      unfolding v'
      here = rw (le-ltb i i (omega arith))

      further : Listed (record_form k) s (onto (record_form k) [] (get_or row₀ 0 0) s q₀) (get_or row₀ 0 0) (i + 1) q' v'
      further = listed_more (record_form k) s _ (get_or row₀ 0 0) i q _ w.items q' v' g same (rw here y.is)

      front : list_to v' (i + 1) ≡ list_to w.v i ++ (a ∷ [])
      unfolding list_to
      front = rw (add-one i, list_to_same w.v v' i same, here)

      pub passing_cut : q' ≡ None → TableChecked s p k next None
      passing_cut f = record { few = omega arith; is = cut_now k next s (get_or row₀ 0 0 - (i + 1)) q' (list_to v' (i + 1)) f ∙ rw (answer_is k next s p, ← whole, ← further.goes) }

      num : record_num k a ≡ get_or row' 0 0
      num = sym (num_is k row' xs' h)

      step : (qs : List (Rec k)) → rising (record_num k) 0 next (list_to v' (i + 1) ++ qs) ≡ leb low (get_or row' 0 0) && ltb (get_or row' 0 0) next && rising (record_num k) (suc (get_or row' 0 0)) next qs
      unfolding rising
      step qs = rw (front, append_assoc) (w.rise (a ∷ qs)) ∙ ap (λ z. leb low z && ltb z next && rising (record_num k) (suc z) next qs) num

      stops : leb low (get_or row' 0 0) && ltb (get_or row' 0 0) next ≡ false → TableChecked s p k next None
      stops f =
          record {
            few = omega arith;
            is = early k next s (get_or row₀ 0 0 - (i + 1)) q' (list_to v' (i + 1)) (λ qs. step qs ∙ rw f) ∙ rw (answer_is k next s p, ← whole, ← further.goes);
          }

      pub passing_off : (get_or row' 0 0 < low) ⊎ ((low ≤ get_or row' 0 0) × (next ≤ get_or row' 0 0)) → TableChecked s p k next None
      passing_off (inl l) = stops (rw (lt-leb low (get_or row' 0 0) l))
      passing_off (inr l) = stops (rw (le-leb low (get_or row' 0 0) l.0, le-ltb (get_or row' 0 0) next l.1))

      module _ (after : ℕ) (f : q' ≡ Some after) where
        fits_at : (z : Place) → got_at s (Some after) a ≡ read_at (record_form k) s z → (record_form k).fits a ≡ true
        fits_at None u = absurd (no_got (sym u))
        fits_at (Some j) u = ((record_form k).back (drop j s) a (drop after s) (sym u)).0

        small_points : record_points k a ≤ 192
        small_points = points_few k a (fits_at q (rw f at y.is))

        pub passing_few : points_in k row' ≤ 192
        passing_few = rw (points_are k row' xs') small_points

        pub passing_room : (m : ℕ) → m ≡ points_in k row' → sum + m < 2 ^ 64
        passing_room m e = omega (arith, w.bound, w.small, passing_few)

        pub passing_more : (d : ℕ) → d ≡ points_in k row' → low ≤ get_or row' 0 0 → get_or row' 0 0 < next → Passing s k next row₀ xs₀ q₀ (get_or row₀ 0 0) row' xs' q' (i + 1) (get_or row' 0 0 + 1) (sum + d)
        unfolding total
        passing_more d e l m =
            record {
              kind = h;
              small = w.small;
              row_room = omega (arith, w.row_room, y.words);
              xs_room = omega (arith, w.xs_room, y.coords);
              row_long = y.words ∙ w.row_long;
              xs_long = y.coords ∙ w.xs_long;
              v = v';
              items = further;
              rise = λ qs. step qs ∙ rw (le-leb low (get_or row' 0 0) l, lt-ltb (get_or row' 0 0) next m, add-one (get_or row' 0 0));
              adds = rw (front, total-append (record_points k) (list_to w.v i) (a ∷ [])) (omega (arith, w.adds, points_are k row' xs', e));
              bound = omega (arith, w.bound, passing_few, e);
            }

        pub passing_on : (d : ℕ) → d ≡ points_in k row' → low ≤ get_or row' 0 0 → get_or row' 0 0 < next → Passing s k next row₀ xs₀ q₀ (get_or row₀ 0 0) row' xs' (Some after) (i + 1) (get_or row' 0 0 + 1) (sum + d)
        passing_on d e l m = subst (λ (z : Place). Passing s k next row₀ xs₀ q₀ (get_or row₀ 0 0) row' xs' z (i + 1) (get_or row' 0 0 + 1) (sum + d)) f (passing_more d e l m)

wide_row : (k : ℕ) → k < 6 → (width_of k ≤ 92) × (coord_width_of k ≤ 576)
unfolding width_of coord_width_of
wide_row zero h = (omega arith, omega arith)
wide_row (suc zero) h = (omega arith, omega arith)
wide_row (suc (suc zero)) h = (omega arith, omega arith)
wide_row (suc (suc (suc zero))) h = (omega arith, omega arith)
wide_row (suc (suc (suc (suc zero)))) h = (omega arith, omega arith)
wide_row (suc (suc (suc (suc (suc zero))))) h = (omega arith, omega arith)
wide_row (suc (suc (suc (suc (suc (suc k)))))) h = absurd (let y : ⊥ = omega arith in y)

pub row_wide : (k n : ℕ) → k < 6 → 92 ≤ n → width_of k ≤ n
row_wide k n h g = omega (arith, (wide_row k h).0)

pub coords_wide : (k n : ℕ) → k < 6 → 576 ≤ n → coord_width_of k ≤ n
coords_wide k n h g = omega (arith, (wide_row k h).1)

pub ruleset passing = (passing_starts, passing_ends, passing_lost, passing_cut, passing_off, row_wide, coords_wide, kind_below)
