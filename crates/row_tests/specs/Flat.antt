-- What the passes over the tables test, in terms of the two lists. The crate `validity` shows that all of it together is that the tables are those of a map.
use Rattle.std.specs.Prelude.{ℕ, zero, suc, ◌+◌, ◌*◌, ◌≤◌, ◌<◌, Bool, true, false, ◌&&◌, not, cond, List, leb, ltb, eqb, Float, get_or, length}
use Rattle.std.specs.Float.{nan}
use Rattle.std.specs.Float.Ieee.{le, neg}
use Rattle.geometry.specs.Double.{farthest, is_finite}
use Rattle.rows.specs.Lists.{every, list_to, total}
use Rattle.rows.specs.Table.{rising}
use Rattle.rows.specs.Rows.{cut, numbers_at}
use Rattle.store.specs.Layout.{limit_of, width_of, base_of, count_of, next_of, all_words, all_coords}

-- ---- coordinates

unfoldable pub good_coord : Float → Bool
good_coord x = le x farthest && le (neg farthest) x

-- n points, from index at on
unfoldable pub good_line : List Float → ℕ → ℕ → Bool
good_line cs at n = leb n 64 && every good_coord (cut cs at (n * 3))

-- ---- rows: words from index at on, coordinates from index o on

-- the word at an offset, and whether it says yes
abbrev pub flagged : List ℕ → ℕ → Bool
flagged ws j = not (eqb (get_or ws j 0) 0)

unfoldable pub good_lane : List ℕ → List Float → ℕ → ℕ → Bool
good_lane ws cs at o = ltb (get_or ws (at + 1) 0) 8 && cond (flagged ws (at + 6)) (good_line cs o (get_or ws (at + 7) 0)) true

unfoldable pub good_string : List ℕ → List Float → ℕ → ℕ → Bool
good_string ws cs at o = good_line cs o (get_or ws (at + 1) 0)

unfoldable pub good_bulb : List ℕ → List Float → ℕ → ℕ → ℕ → Bool
good_bulb ws cs at o j =
    ltb (get_or ws (at + 5 + j * 2) 0) 4 && (ltb (get_or ws (at + 6 + j * 2) 0) 9 && every good_coord (cut cs (o + 193 + j * 3) 3))

unfoldable pub good_bulbs : List ℕ → List Float → ℕ → ℕ → Bool
good_bulbs ws cs at o = leb (get_or ws (at + 4) 0) 4 && every (λ b. b) (list_to (good_bulb ws cs at o) (get_or ws (at + 4) 0))

unfoldable pub good_height : List ℕ → List Float → ℕ → ℕ → Bool
good_height ws cs at o = cond (flagged ws (at + 3)) (is_finite (get_or cs (o + 192) nan)) true

unfoldable pub good_signal : List ℕ → List Float → ℕ → ℕ → Bool
good_signal ws cs at o = ltb (get_or ws (at + 1) 0) 2 && (good_line cs o (get_or ws (at + 2) 0) && (good_height ws cs at o && good_bulbs ws cs at o))

unfoldable pub good_crosswalk : List ℕ → List Float → ℕ → ℕ → Bool
good_crosswalk ws cs at o =
    good_line cs o (get_or ws (at + 1) 0) && (good_line cs (o + 192) (get_or ws (at + 2) 0) && cond (flagged ws (at + 3)) (good_line cs (o + 384) (get_or ws (at + 4) 0)) true)

abbrev pub good_body : ℕ → List ℕ → List Float → ℕ → ℕ → Bool
good_body zero ws cs at o = false
good_body (suc zero) ws cs at o = leb (get_or ws (at + 41) 0) 16
good_body (suc (suc zero)) ws cs at o = leb 1 (get_or ws (at + 2) 0) && cond (flagged ws (at + 5)) (good_line cs o (get_or ws (at + 6) 0)) true
good_body (suc (suc (suc zero))) ws cs at o = true
good_body (suc (suc (suc (suc zero)))) ws cs at o = leb (get_or ws (at + 41) 0) 16 && (leb (get_or ws (at + 58) 0) 16 && leb (get_or ws (at + 75) 0) 16)
good_body (suc (suc (suc (suc (suc zero))))) ws cs at o = leb (get_or ws (at + 75) 0) 16
good_body (suc (suc (suc (suc (suc (suc zero)))))) ws cs at o = leb 1 (get_or ws (at + 2) 0)
good_body (suc (suc (suc (suc (suc (suc (suc k))))))) ws cs at o = false

unfoldable pub good_rule : List ℕ → List Float → ℕ → ℕ → Bool
good_rule ws cs at o = leb (get_or ws (at + 7) 0) 16 && (leb (get_or ws (at + 24) 0) 16 && good_body (get_or ws (at + 1) 0) ws cs at o)

-- ---- tables

abbrev pub good_row : ℕ → List ℕ → List Float → ℕ → Bool
good_row zero ws cs i = good_lane ws cs (7 + i * 8) (i * 192)
good_row (suc zero) ws cs i = good_string ws cs (519 + i * 2) (12288 + i * 192)
good_row (suc (suc zero)) ws cs i = good_string ws cs (775 + i * 2) (36864 + i * 192)
good_row (suc (suc (suc zero))) ws cs i = good_signal ws cs (903 + i * 13) (49152 + i * 205)
good_row (suc (suc (suc (suc zero)))) ws cs i = good_crosswalk ws cs (1735 + i * 5) (62272 + i * 576)
good_row (suc (suc (suc (suc (suc zero))))) ws cs i = good_rule ws cs (1895 + i * 92) (80704 + i * 192)
good_row (suc (suc (suc (suc (suc (suc k)))))) ws cs i = false

unfoldable pub good_rows : List ℕ → List Float → ℕ → Bool
good_rows ws cs k = every (λ b. b) (list_to (good_row k ws cs) (count_of ws k))

unfoldable pub good_order : List ℕ → ℕ → Bool
good_order ws k = rising (λ x. x) 0 (next_of ws) (numbers_at ws (width_of k) (count_of ws k) (base_of k))

unfoldable pub good_table : List ℕ → List Float → ℕ → Bool
good_table ws cs k = good_order ws k && good_rows ws cs k

unfoldable pub good_tables : List ℕ → List Float → Bool
good_tables ws cs = every (λ b. b) (list_to (good_table ws cs) 6)

unfoldable pub good_counts : List ℕ → Bool
good_counts ws = every (λ b. b) (list_to (λ k. leb (count_of ws k) (limit_of k)) 6)

-- ---- points

unfoldable pub crosswalk_points : List ℕ → ℕ → ℕ
crosswalk_points ws at = get_or ws (at + 1) 0 + get_or ws (at + 2) 0 + cond (flagged ws (at + 3)) (get_or ws (at + 4) 0) 0

abbrev pub row_points : ℕ → List ℕ → ℕ → ℕ
row_points zero ws i = cond (flagged ws (7 + i * 8 + 6)) (get_or ws (7 + i * 8 + 7) 0) 0
row_points (suc zero) ws i = get_or ws (519 + i * 2 + 1) 0
row_points (suc (suc zero)) ws i = get_or ws (775 + i * 2 + 1) 0
row_points (suc (suc (suc zero))) ws i = get_or ws (903 + i * 13 + 2) 0
row_points (suc (suc (suc (suc zero)))) ws i = crosswalk_points ws (1735 + i * 5)
row_points (suc (suc (suc (suc (suc zero))))) ws i =
    cond (eqb (get_or ws (1895 + i * 92 + 1) 0) 2 && flagged ws (1895 + i * 92 + 5)) (get_or ws (1895 + i * 92 + 6) 0) 0
row_points (suc (suc (suc (suc (suc (suc k)))))) ws i = 0

unfoldable pub table_points : List ℕ → ℕ → ℕ
table_points ws k = total (λ n. n) (list_to (row_points k ws) (count_of ws k))

unfoldable pub all_points : List ℕ → ℕ
all_points ws = total (λ n. n) (list_to (table_points ws) 6)

-- no row's points are past its polylines' room: what a sum that fits asks for
pub record Few (ws : List ℕ) : Type 0 where
  pub few : (k i : ℕ) → k < 6 → i < count_of ws k → row_points k ws i ≤ 192

-- ---- the whole

unfoldable pub good_map : List ℕ → List Float → Bool
good_map ws cs = eqb (length ws) all_words && (eqb (length cs) all_coords && (good_counts ws && (good_tables ws cs && leb (all_points ws) 1024)))
