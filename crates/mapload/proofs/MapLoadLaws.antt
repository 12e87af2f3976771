-- Tables loaded one after the other: what a table holds stays while those after it are loaded.
use Prim.Native.Nat.{ℕ, zero, suc, ◌+◌, ◌*◌, ◌≤◌, ◌<◌}
use mathlib.Core.Path.{◌≡◌, refl, ◌∙◌}
use mathlib.Core.Logic.{inl}
use mathlib.Core.List.{List}
use native.Mathlib.Omega.{arith}
use lib.Ieee.{Float, nan}
use lib.ListN.{get_or}
use Rattle.rows.proofs.Indexed.{list_to_same}
use Rattle.codec.specs.Format.{Bytes, ◌⊗◌}
use Rattle.codec.specs.Number.{number}
use Rattle.codec.specs.Items.{list}
use Rattle.map.specs.MapFile.{lane, line_string, signal, crosswalk, rule}
use Rattle.map.specs.Tables.{lane_in, line_string_in, signal_in, crosswalk_in}
use Rattle.store.specs.Layout.{limit_of, width_of, base_of, coord_width_of, coord_base_of, place_of, coord_place_of, next_of, count_of, row_of, coords_of, records_of}
use Rattle.store.proofs.StoreLaws.{open_place, open_coord_place}
use Rattle.fields.specs.Fields.{Place, largest, Word}
use Rattle.std.specs.Prelude.{Some}
use Rattle.fields.proofs.Places.{place_then, range_any}
use Rattle.loading.specs.Loading.{TableLoaded}
use Rattle.loading.proofs.LoadLaws.{cut_same, rows_lie}
use Rattle.mapload.specs.MapLoad.{Before, mark_lists, line_lists, MarksLoaded, LinesLoaded, MapLoaded}

-- ---- the layout

record Lies (k : ℕ) : Type 0 where
  pub high : 7 ≤ base_of k
  pub ends : base_of k + limit_of k * width_of k ≡ base_of (suc k)
  pub coord_ends : coord_base_of k + limit_of k * coord_width_of k ≡ coord_base_of (suc k)

lies : (k : ℕ) → k < 6 → Lies k
unfolding base_of limit_of width_of coord_base_of coord_width_of
lies zero h = record { high = omega arith; ends = refl; coord_ends = refl }
lies (suc zero) h = record { high = omega arith; ends = refl; coord_ends = refl }
lies (suc (suc zero)) h = record { high = omega arith; ends = refl; coord_ends = refl }
lies (suc (suc (suc zero))) h = record { high = omega arith; ends = refl; coord_ends = refl }
lies (suc (suc (suc (suc zero)))) h = record { high = omega arith; ends = refl; coord_ends = refl }
lies (suc (suc (suc (suc (suc zero))))) h = record { high = omega arith; ends = refl; coord_ends = refl }
lies (suc (suc (suc (suc (suc (suc k)))))) h = absurd (let y : ⊥ = omega arith in y)

-- ---- what comes before

before_table : (s : Bytes) (p : Place) (k : ℕ) (ws : List ℕ) (cs : List Float) (r : Place) (ws' : List ℕ) (cs' : List Float) → k < 6 → TableLoaded s p k ws cs r ws' cs' → Before k ws cs ws' cs'
before_table s p k ws cs r ws' cs' h x =
    let l = lies k h in
    record {
      long = x.long;
      coords_long = x.coords.long;
      head = λ j u. x.words j (inl (omega arith)) (λ e. let z : ⊥ = omega arith in z);
      rows = λ j u v. x.words j (inl v) (λ e. let z : ⊥ = omega arith in z);
      coords = λ j u. x.coords.kept nan j (inl u);
    }

before_then : (k : ℕ) (a b c : List ℕ) (d e f : List Float) → k < 6 → Before k a d b e → Before (suc k) b e c f → Before k a d c f
before_then k a b c d e f h x y =
    let l = lies k h in
    record {
      long = y.long ∙ x.long;
      coords_long = y.coords_long ∙ x.coords_long;
      head = λ j u. y.head j (omega arith) ∙ x.head j u;
      rows = λ j u v. y.rows j u (omega arith) ∙ x.rows j u v;
      coords = λ j u. y.coords j (omega arith) ∙ x.coords j u;
    }

-- the records of table k, once those after it are loaded
records_stay : {A : Type 0} (g : List ℕ → List Float → A) (k : ℕ) (ws ws' : List ℕ) (cs cs' : List Float) → k < 6 → count_of ws k ≤ limit_of k → Before (suc k) ws cs ws' cs' → records_of g ws' cs' k ≡ records_of g ws cs k
unfolding records_of count_of row_of coords_of
records_stay g k ws ws' cs cs' h few x =
    let l = lies k h in
    let same : (i : ℕ) → i < get_or ws (1 + k) 0 → g (row_of ws' k i) (coords_of cs' k i) ≡ g (row_of ws k i) (coords_of cs k i) = λ i u.
    let rl = rows_lie (limit_of k) i (width_of k) (omega arith) in
    let cl = rows_lie (limit_of k) i (coord_width_of k) (omega arith) in
    rw (
      cut_same ws ws' 0 x.long (place_of k i) (width_of k) (λ m a b. x.rows m (omega (arith, open_place k i)) (omega (arith, open_place k i))),
      cut_same cs cs' nan x.coords_long (coord_place_of k i) (coord_width_of k) (λ m a b. x.coords m (omega (arith, open_coord_place k i))),
    ) in
    rw (x.head (1 + k) (omega arith), list_to_same (λ i. g (row_of ws k i) (coords_of cs k i)) (λ i. g (row_of ws' k i) (coords_of cs' k i)) (get_or ws (1 + k) 0) same)

-- ---- table by table

module _ (s : Bytes) (p q r t : Place) (w w1 w2 w3 : List ℕ) (c c1 c2 c3 : List Float) where
  pub marks_loaded : TableLoaded s p 3 w c q w1 c1 → TableLoaded s q 4 w1 c1 r w2 c2 → TableLoaded s r 5 w2 c2 t w3 c3 → MarksLoaded s p w c t w3 c3
  unfolding limit_of
  marks_loaded x y z =
      let b5 = before_table s r 5 w2 c2 t w3 c3 (omega arith) z in
      let b4 = before_then 4 w1 w2 w3 c1 c2 c3 (omega arith) (before_table s q 4 w1 c1 r w2 c2 (omega arith) y) b5 in
      record {
        before = before_then 3 w w1 w3 c c1 c3 (omega arith) (before_table s p 3 w c q w1 c1 (omega arith) x) b4;
        is = place_then (list 64 signal) (list 32 crosswalk ⊗ list 128 rule) s p q t _ _ (rw (records_stay signal_in 3 w1 w3 c1 c3 (omega arith) x.few b4) x.is)
            (place_then (list 32 crosswalk) (list 128 rule) s q r t _ _ (rw (records_stay crosswalk_in 4 w2 w3 c2 c3 (omega arith) y.few b5) y.is) z.is);
      }

  pub lines_loaded : TableLoaded s p 1 w c q w1 c1 → TableLoaded s q 2 w1 c1 r w2 c2 → MarksLoaded s r w2 c2 t w3 c3 → LinesLoaded s p w c t w3 c3
  unfolding limit_of
  lines_loaded x y z =
      let b2 = before_then 2 w1 w2 w3 c1 c2 c3 (omega arith) (before_table s q 2 w1 c1 r w2 c2 (omega arith) y) z.before in
      record {
        before = before_then 1 w w1 w3 c c1 c3 (omega arith) (before_table s p 1 w c q w1 c1 (omega arith) x) b2;
        is = place_then (list 128 line_string) (list 64 line_string ⊗ mark_lists) s p q t _ _ (rw (records_stay line_string_in 1 w1 w3 c1 c3 (omega arith) x.few b2) x.is)
            (place_then (list 64 line_string) mark_lists s q r t _ _ (rw (records_stay line_string_in 2 w2 w3 c2 c3 (omega arith) y.few z.before) y.is) z.is);
      }

pub ruleset loading_marks = (marks_loaded)

pub ruleset loading_lines = (lines_loaded)

pub map_loaded : (s : Bytes) (q r t : Place) (w w1 w2 w3 : List ℕ) (c c2 c3 : List Float) → Word 0 largest s (Some 0) w 0 q w1 → TableLoaded s q 0 w1 c r w2 c2 → LinesLoaded s r w2 c2 t w3 c3 → MapLoaded s w c t w3 c3
unfolding limit_of next_of
map_loaded s q r t w w1 w2 w3 c c2 c3 x y z =
    let b0 = before_then 0 w1 w2 w3 c c2 c3 (omega arith) (before_table s q 0 w1 c r w2 c2 (omega arith) y) z.before in
    record {
      long = b0.long ∙ x.words.long;
      coords_long = b0.coords_long;
      is = place_then number (list 64 lane ⊗ line_lists) s (Some 0) q t _ _ (rw (b0.head 0 (omega arith)) (x.is ∙ range_any s (Some 0)))
          (place_then (list 64 lane) line_lists s q r t _ _ (rw (records_stay lane_in 0 w2 w3 c2 c3 (omega arith) y.few z.before) y.is) z.is);
    }

pub ruleset loading_map = (map_loaded)
