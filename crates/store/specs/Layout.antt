-- Six tables over two lists. words: the next number, six counts, then the tables' rows; coords: a row of coordinates for each row of words.
-- Kinds: 0 lane, 1 boundary, 2 stop line, 3 signal, 4 crosswalk, 5 rule. docs/TABLES.md has what stands in a row.
use Rattle.std.specs.Prelude.{ℕ, ◌+◌, ◌-◌, ◌*◌, ◌≤◌, ◌<◌, ◌≡◌, List, [], ◌∷◌, Float, length, get_or, set}
use Rattle.rows.specs.Lists.{list_to}
use Rattle.rows.specs.Rows.{cut, pasted, moved}

-- ---- the layout

-- how many records a kind has room for
unfoldable pub limit_of : ℕ → ℕ
limit_of k = get_or (64 ∷ 128 ∷ 64 ∷ 64 ∷ 32 ∷ 128 ∷ []) k 0

-- words of a row, and where a kind's rows begin
unfoldable pub width_of : ℕ → ℕ
width_of k = get_or (8 ∷ 2 ∷ 2 ∷ 13 ∷ 5 ∷ 92 ∷ []) k 0

unfoldable pub base_of : ℕ → ℕ
base_of k = get_or (7 ∷ 519 ∷ 775 ∷ 903 ∷ 1735 ∷ 1895 ∷ 13671 ∷ []) k 0

abbrev pub all_words : ℕ
all_words = 13671

-- coordinates of a row, and where a kind's rows begin
unfoldable pub coord_width_of : ℕ → ℕ
coord_width_of k = get_or (192 ∷ 192 ∷ 192 ∷ 205 ∷ 576 ∷ 192 ∷ []) k 0

unfoldable pub coord_base_of : ℕ → ℕ
coord_base_of k = get_or (0 ∷ 12288 ∷ 36864 ∷ 49152 ∷ 62272 ∷ 80704 ∷ 105280 ∷ []) k 0

abbrev pub all_coords : ℕ
all_coords = 105280

-- where row i of kind k begins
unfoldable pub place_of : ℕ → ℕ → ℕ
place_of k i = base_of k + i * width_of k

unfoldable pub coord_place_of : ℕ → ℕ → ℕ
coord_place_of k i = coord_base_of k + i * coord_width_of k

-- ---- what stands in the tables

unfoldable pub next_of : List ℕ → ℕ
next_of ws = get_or ws 0 0

unfoldable pub count_of : List ℕ → ℕ → ℕ
count_of ws k = get_or ws (1 + k) 0

unfoldable pub row_of : List ℕ → ℕ → ℕ → List ℕ
row_of ws k i = cut ws (place_of k i) (width_of k)

unfoldable pub coords_of : List Float → ℕ → ℕ → List Float
coords_of cs k i = cut cs (coord_place_of k i) (coord_width_of k)

-- the records of kind k, each by its index: f makes a record of a row of words and a row of coordinates
unfoldable pub records_of : {A : Type 0} → (List ℕ → List Float → A) → List ℕ → List Float → ℕ → List A
records_of f ws cs k = list_to (λ i. f (row_of ws k i) (coords_of cs k i)) (count_of ws k)

-- ---- lists that are tables: their lengths, and no count above its kind's room

pub record SizedWords (ws : List ℕ) : Type 0 where
  pub room : length ws ≡ all_words
  pub counts : (k : ℕ) → k < 6 → count_of ws k ≤ limit_of k

pub record Sized (ws : List ℕ) (cs : List Float) : Type 0 where
  pub words : SizedWords ws
  pub coords : length cs ≡ all_coords

-- ---- what an edit of one kind keeps

-- table m, of which nothing has changed
pub record Same (ws : List ℕ) (cs : List Float) (m : ℕ) (ws' : List ℕ) (cs' : List Float) : Type 0 where
  pub count : count_of ws' m ≡ count_of ws m
  pub rows : (i : ℕ) → i < count_of ws m → row_of ws' m i ≡ row_of ws m i
  pub coords : (i : ℕ) → i < count_of ws m → coords_of cs' m i ≡ coords_of cs m i

-- every table but k's, and the sizes
pub record Kept (ws : List ℕ) (cs : List Float) (k : ℕ) (ws' : List ℕ) (cs' : List Float) : Type 0 where
  pub others : (m : ℕ) → m < 6 → (m ≡ k → ⊥) → Same ws cs m ws' cs'
  pub sized : Sized ws' cs'

-- ---- what the edits leave

unfoldable pub set_next : List ℕ → ℕ → List ℕ
set_next ws v = set ws 0 v

-- a row more
unfoldable pub push_row : List ℕ → ℕ → List ℕ → List ℕ
push_row ws k row = set (pasted ws (place_of k (count_of ws k)) row (width_of k)) (1 + k) (count_of ws k + 1)

-- a part of row i, from its word o on
unfoldable pub put_part : List ℕ → ℕ → ℕ → ℕ → List ℕ → List ℕ
put_part ws k i o s = pasted ws (place_of k i + o) s (length s)

-- a part of row i's coordinates, from o on
unfoldable pub put_coords : List Float → ℕ → ℕ → ℕ → List Float → List Float
put_coords cs k i o s = pasted cs (coord_place_of k i + o) s (length s)

-- row j is gone, and those after it have moved down, with their coordinates
unfoldable pub drop_row : List ℕ → ℕ → ℕ → List ℕ
drop_row ws k j = set (moved ws (place_of k j) (place_of k j + width_of k) ((count_of ws k - 1 - j) * width_of k)) (1 + k) (count_of ws k - 1)

unfoldable pub drop_coords : List Float → ℕ → ℕ → ℕ → List Float
drop_coords cs k n j = moved cs (coord_place_of k j) (coord_place_of k j + coord_width_of k) ((n - 1 - j) * coord_width_of k)
