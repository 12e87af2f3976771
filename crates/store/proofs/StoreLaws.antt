-- Each edit changes one table and leaves the others: for all kinds together. Assumes nothing.
use Prim.Native.Nat.{ℕ, zero, suc, ◌+◌, ◌-◌, ◌*◌, ◌≤◌, ◌<◌}
use mathlib.Core.Path.{◌≡◌, refl, sym, ◌∙◌, subst}
use mathlib.Core.Logic.{◌⊎◌, ⊎_elim}
use mathlib.Core.List.{List, [], ◌∷◌, ◌++◌}
use native.Mathlib.Nat.{add-zero, mul-le-mul_right, le_refl}
use native.Mathlib.Omega.{arith}
use lib.Dec.{lit≤}
use lib.Ieee.{Float}
use lib.ListN.{length, get_or, set, length-set}
use lib.Seq.{get_or-set_same, get_or-set_other}
use Rattle.rows.specs.Rows.{pasted, moved, without}
use Rattle.rows.proofs.RowLaws.{same_or, get_or_before, get_or_before_moved, cut_set_off, pasted-all, length_cut}
use Rattle.rows.proofs.Indexed.{length-list_to, list_to_same, list_to_push, list_to-set, list_to_delete}
use Rattle.rows.proofs.Plan.{Plan, from_first, within, row_inside, part_here, part_other, part_others, part_long, gone_fits, gone_before, gone_past, gone_others, gone_long}
use Rattle.store.specs.Layout.{limit_of, width_of, base_of, coord_width_of, coord_base_of, all_words, all_coords, place_of, coord_place_of, next_of, count_of, row_of, coords_of, records_of, SizedWords, Sized, Same, Kept, set_next, push_row, put_part, put_coords, drop_row, drop_coords}

-- ---- the layout: both lists have their tables one after the other

word_ends : (k : ℕ) → k < 6 → base_of k + limit_of k * width_of k ≡ base_of (suc k)
unfolding base_of limit_of width_of
word_ends zero h = refl
word_ends (suc zero) h = refl
word_ends (suc (suc zero)) h = refl
word_ends (suc (suc (suc zero))) h = refl
word_ends (suc (suc (suc (suc zero)))) h = refl
word_ends (suc (suc (suc (suc (suc zero))))) h = refl
word_ends (suc (suc (suc (suc (suc (suc k)))))) h = absurd (omega arith)

coord_ends : (k : ℕ) → k < 6 → coord_base_of k + limit_of k * coord_width_of k ≡ coord_base_of (suc k)
unfolding coord_base_of limit_of coord_width_of
coord_ends zero h = refl
coord_ends (suc zero) h = refl
coord_ends (suc (suc zero)) h = refl
coord_ends (suc (suc (suc zero))) h = refl
coord_ends (suc (suc (suc (suc zero)))) h = refl
coord_ends (suc (suc (suc (suc (suc zero))))) h = refl
coord_ends (suc (suc (suc (suc (suc (suc k)))))) h = absurd (omega arith)

abbrev in_words : Plan
in_words = record { base = base_of; width = width_of; limit = limit_of; kinds = 6; ends = word_ends }

abbrev in_coords : Plan
in_coords = record { base = coord_base_of; width = coord_width_of; limit = limit_of; kinds = 6; ends = coord_ends }

starts : base_of 0 ≡ 7
unfolding base_of
starts = refl

stops : base_of 6 ≡ all_words
unfolding base_of
stops = refl

coord_stops : coord_base_of 6 ≡ all_coords
unfolding coord_base_of
coord_stops = refl

pub limit_small : (k : ℕ) → limit_of k ≤ 128
unfolding limit_of
limit_small zero = lit≤ tt
limit_small (suc zero) = lit≤ tt
limit_small (suc (suc zero)) = lit≤ tt
limit_small (suc (suc (suc zero))) = lit≤ tt
limit_small (suc (suc (suc (suc zero)))) = lit≤ tt
limit_small (suc (suc (suc (suc (suc zero))))) = lit≤ tt
limit_small (suc (suc (suc (suc (suc (suc k)))))) = lit≤ tt

pub wide : (k : ℕ) → k < 6 → 0 < width_of k
unfolding width_of
wide zero h = lit≤ tt
wide (suc zero) h = lit≤ tt
wide (suc (suc zero)) h = lit≤ tt
wide (suc (suc (suc zero))) h = lit≤ tt
wide (suc (suc (suc (suc zero)))) h = lit≤ tt
wide (suc (suc (suc (suc (suc zero))))) h = lit≤ tt
wide (suc (suc (suc (suc (suc (suc k)))))) h = absurd (omega arith)

pub open_place : (k i : ℕ) → place_of k i ≡ base_of k + i * width_of k
unfolding place_of
open_place k i = refl

pub open_coord_place : (k i : ℕ) → coord_place_of k i ≡ coord_base_of k + i * coord_width_of k
unfolding coord_place_of
open_coord_place k i = refl

-- rows i and on begin within the list
pub placed : (k i : ℕ) → k < 6 → i ≤ limit_of k → base_of k + i * width_of k ≤ all_words
placed k i hk h = omega (arith, stops, within in_words k hk, mul-le-mul_right (width_of k) h)

pub coord_placed : (k i : ℕ) → k < 6 → i ≤ limit_of k → coord_base_of k + i * coord_width_of k ≤ all_coords
coord_placed k i hk h = omega (arith, coord_stops, within in_coords k hk, mul-le-mul_right (coord_width_of k) h)

-- and end within it
pub row_ends : (k i : ℕ) → k < 6 → i < limit_of k → place_of k i + width_of k ≤ all_words
row_ends k i hk h = omega (arith, stops, within in_words k hk, row_inside in_words k i h, open_place k i)

pub coords_end : (k i : ℕ) → k < 6 → i < limit_of k → coord_place_of k i + coord_width_of k ≤ all_coords
coords_end k i hk h = omega (arith, coord_stops, within in_coords k hk, row_inside in_coords k i h, open_coord_place k i)

-- ---- what an edit of kind k leaves

pub record WordsKept (ws : List ℕ) (k : ℕ) (ws' : List ℕ) : Type 0 where
  pub counts : (m : ℕ) → m < 6 → (m ≡ k → ⊥) → count_of ws' m ≡ count_of ws m
  pub rows : (m i : ℕ) → m < 6 → (m ≡ k → ⊥) → i < limit_of m → row_of ws' m i ≡ row_of ws m i
  pub sized : SizedWords ws'

pub record CoordsKept (cs : List Float) (k : ℕ) (cs' : List Float) : Type 0 where
  pub rows : (m i : ℕ) → m < 6 → (m ≡ k → ⊥) → i < limit_of m → coords_of cs' m i ≡ coords_of cs m i
  pub sized : length cs' ≡ all_coords

pub kept : (ws : List ℕ) (cs : List Float) (k : ℕ) (ws' : List ℕ) (cs' : List Float) → SizedWords ws → WordsKept ws k ws' → CoordsKept cs k cs' → Kept ws cs k ws' cs'
kept ws cs k ws' cs' ok a b =
    record {
      others = λ m hm ne.
          record {
            count = a.counts m hm ne;
            rows = λ i h. a.rows m i hm ne (omega (arith, ok.counts m hm));
            coords = λ i h. b.rows m i hm ne (omega (arith, ok.counts m hm));
          };
      sized = record { words = a.sized; coords = b.sized };
    }

pub coords_still : (cs : List Float) (k : ℕ) → length cs ≡ all_coords → CoordsKept cs k cs
coords_still cs k h = record { rows = λ m i hm ne hi. refl; sized = h }

-- the records of a table of which nothing has changed, of whatever kind
pub records_same : {A : Type 0} (f : List ℕ → List Float → A) (ws : List ℕ) (cs : List Float) (m : ℕ) (ws' : List ℕ) (cs' : List Float)
    → Same ws cs m ws' cs' → records_of f ws' cs' m ≡ records_of f ws cs m
unfolding records_of
records_same f ws cs m ws' cs' s =
    rw s.count (list_to_same _ _ (count_of ws m) (λ i h. rw (s.rows i h, s.coords i h)))

pub length_records : {A : Type 0} (f : List ℕ → List Float → A) (ws : List ℕ) (cs : List Float) (k : ℕ) → length (records_of f ws cs k) ≡ count_of ws k
unfolding records_of
length_records f ws cs k = length-list_to _ (count_of ws k)

-- ---- the head: the next number and the counts

-- a word of the head is stored
head_row : (l : List ℕ) (j v m i : ℕ) → j < 7 → m < 6 → row_of (set l j v) m i ≡ row_of l m i
unfolding row_of
head_row l j v m i hj hm = cut_set_off l j v (place_of m i) (width_of m) (omega (arith, open_place m i, starts, from_first in_words m (omega arith)))

module _ (ws : List ℕ) (ok : SizedWords ws) (v : ℕ) where
  pub next_set : next_of (set_next ws v) ≡ v
  unfolding next_of set_next
  next_set = get_or-set_same ws 0 v 0 (omega (arith, ok.room))

  pub next_count : (m : ℕ) → count_of (set_next ws v) m ≡ count_of ws m
  unfolding count_of set_next
  next_count m = get_or-set_other ws 0 (1 + m) v 0 (omega arith)

  pub next_same : (cs : List Float) (m : ℕ) → m < 6 → Same ws cs m (set_next ws v) cs
  unfolding set_next
  next_same cs m hm = record { count = next_count m; rows = λ i h. head_row ws 0 v m i (omega arith) hm; coords = λ i h. refl }

  pub next_sized : SizedWords (set_next ws v)
  unfolding set_next
  next_sized = record { room = length-set ws 0 v ∙ ok.room; counts = λ m h. rw (next_count m) (ok.counts m h) }

-- an edit of table k, and then the next number
pub then_next : (ws : List ℕ) (k : ℕ) (l : List ℕ) → WordsKept ws k l → (v : ℕ) → WordsKept ws k (set_next l v)
unfolding set_next
then_next ws k l w v =
    record {
      counts = λ m hm ne. next_count l w.sized v m ∙ w.counts m hm ne;
      rows = λ m i hm ne h. head_row l 0 v m i (omega arith) hm ∙ w.rows m i hm ne h;
      sized = next_sized l w.sized v;
    }

module _ (l : List ℕ) (k v : ℕ) where
  count_here : 1 + k < length l → count_of (set l (1 + k) v) k ≡ v
  unfolding count_of
  count_here h = get_or-set_same l (1 + k) v 0 h

  count_other : (m : ℕ) → (m ≡ k → ⊥) → count_of (set l (1 + k) v) m ≡ count_of l m
  unfolding count_of
  count_other m ne = get_or-set_other l (1 + k) (1 + m) v 0 (λ e. ne (omega arith))

  count_next : next_of (set l (1 + k) v) ≡ next_of l
  unfolding next_of
  count_next = get_or-set_other l (1 + k) 0 v 0 (omega arith)

-- an edit of table k, and then its count
counted : (ws : List ℕ) → SizedWords ws → (k : ℕ) → k < 6 → (l : List ℕ) → WordsKept ws k l → (v : ℕ) → v ≤ limit_of k → WordsKept ws k (set l (1 + k) v)
counted ws ok k hk l w v hv =
    let other : (m : ℕ) → m < 6 → (m ≡ k → ⊥) → count_of (set l (1 + k) v) m ≡ count_of ws m = λ m hm ne. count_other l k v m ne ∙ w.counts m hm ne in
    record {
      counts = other;
      rows = λ m i hm ne h. head_row l (1 + k) v m i (omega arith) hm ∙ w.rows m i hm ne h;
      sized = record {
        room = simp length-set w.sized.room;
        counts = λ m hm. ⊎_elim
            (λ (e : m ≡ k). rw (e, count_here l k v (omega (arith, w.sized.room))) hv)
            (λ (d : (m < k) ⊎ (k < m)). rw (other m hm (⊎_elim (λ (h : m < k). omega arith) (λ (h : k < m). omega arith) d)) (ok.counts m hm))
            (same_or m k);
      };
    }

word_room : (ws : List ℕ) → SizedWords ws → base_of 6 ≤ length ws
word_room ws ok = omega (arith, ok.room, stops)

coord_room : (cs : List Float) → length cs ≡ all_coords → coord_base_of 6 ≤ length cs
coord_room cs ok = omega (arith, ok, coord_stops)

-- ---- a part of row i is written, n entries of s from o on

module _ (ws : List ℕ) (ok : SizedWords ws) (k : ℕ) (hk : k < 6) (i : ℕ) (hi : i < limit_of k) (o : ℕ) (s : List ℕ) (n : ℕ) (ho : o + n ≤ width_of k) (hs : n ≤ length s) where
  word_here : row_of (pasted ws (place_of k i + o) s n) k i ≡ pasted (row_of ws k i) o s n
  unfolding row_of place_of
  word_here = part_here in_words ws (word_room ws ok) k hk i hi o s n ho hs

  word_other : (m : ℕ) → m < limit_of k → (m ≡ i → ⊥) → row_of (pasted ws (place_of k i + o) s n) k m ≡ row_of ws k m
  unfolding row_of place_of
  word_other = part_other in_words ws (word_room ws ok) k hk i hi o s n ho hs

  word_head : (j : ℕ) → j < 7 → get_or (pasted ws (place_of k i + o) s n) j 0 ≡ get_or ws j 0
  word_head j h = get_or_before ws (place_of k i + o) s n j 0 (omega (arith, open_place k i, starts, from_first in_words k (omega arith)))
      (omega (arith, ok.room, row_ends k i hk hi))

  word_count : (m : ℕ) → m < 6 → count_of (pasted ws (place_of k i + o) s n) m ≡ count_of ws m
  unfolding count_of
  word_count m hm = word_head (1 + m) (omega arith)

  word_next : next_of (pasted ws (place_of k i + o) s n) ≡ next_of ws
  unfolding next_of
  word_next = word_head 0 (omega arith)

  word_others : (m j : ℕ) → m < 6 → (m ≡ k → ⊥) → j < limit_of m → row_of (pasted ws (place_of k i + o) s n) m j ≡ row_of ws m j
  unfolding row_of place_of
  word_others = part_others in_words ws (word_room ws ok) k hk i hi o s n ho hs

  word_long : length (pasted ws (place_of k i + o) s n) ≡ length ws
  unfolding place_of
  word_long = part_long in_words ws (word_room ws ok) k hk i hi o s n ho hs

  word_kept : WordsKept ws k (pasted ws (place_of k i + o) s n)
  word_kept =
      record {
        counts = λ m hm ne. word_count m hm;
        rows = word_others;
        sized = record { room = word_long ∙ ok.room; counts = λ m hm. rw (word_count m hm) (ok.counts m hm) };
      }

module _ (cs : List Float) (ok : length cs ≡ all_coords) (k : ℕ) (hk : k < 6) (i : ℕ) (hi : i < limit_of k) (o : ℕ) (s : List Float) (ho : o + length s ≤ coord_width_of k) where
  pub coord_here : coords_of (put_coords cs k i o s) k i ≡ pasted (coords_of cs k i) o s (length s)
  unfolding coords_of coord_place_of put_coords
  coord_here = part_here in_coords cs (coord_room cs ok) k hk i hi o s (length s) ho (le_refl _)

  pub coord_other : (m : ℕ) → m < limit_of k → (m ≡ i → ⊥) → coords_of (put_coords cs k i o s) k m ≡ coords_of cs k m
  unfolding coords_of coord_place_of put_coords
  coord_other = part_other in_coords cs (coord_room cs ok) k hk i hi o s (length s) ho (le_refl _)

  coord_others : (m j : ℕ) → m < 6 → (m ≡ k → ⊥) → j < limit_of m → coords_of (put_coords cs k i o s) m j ≡ coords_of cs m j
  unfolding coords_of coord_place_of put_coords
  coord_others = part_others in_coords cs (coord_room cs ok) k hk i hi o s (length s) ho (le_refl _)

  pub coord_long : length (put_coords cs k i o s) ≡ all_coords
  unfolding coord_place_of put_coords
  coord_long = part_long in_coords cs (coord_room cs ok) k hk i hi o s (length s) ho (le_refl _) ∙ ok

  pub coord_kept : CoordsKept cs k (put_coords cs k i o s)
  coord_kept = record { rows = coord_others; sized = coord_long }

-- only the coordinates of row n of kind k are written: n is the count, so they belong to no record yet
pub record Filled (cs : List Float) (k n : ℕ) (cs' : List Float) : Type 0 where
  pub kept : CoordsKept cs k cs'
  pub others : (i : ℕ) → i < n → coords_of cs' k i ≡ coords_of cs k i

pub filled_none : (cs : List Float) (k n : ℕ) → length cs ≡ all_coords → Filled cs k n cs
filled_none cs k n h = record { kept = coords_still cs k h; others = λ i g. refl }

pub filled_more : (cs : List Float) (k n : ℕ) (cs₁ : List Float) → Filled cs k n cs₁ → k < 6 → n < limit_of k → (o : ℕ) (s : List Float) → o + length s ≤ coord_width_of k
    → Filled cs k n (put_coords cs₁ k n o s)
filled_more cs k n cs₁ f hk hn o s ho =
    let ok = f.kept.sized in
    record {
      kept = record { rows = λ m i hm ne h. coord_others cs₁ ok k hk n hn o s ho m i hm ne h ∙ f.kept.rows m i hm ne h; sized = coord_long cs₁ ok k hk n hn o s ho };
      others = λ i h. coord_other cs₁ ok k hk n hn o s ho i (omega arith) (omega arith) ∙ f.others i h;
    }

-- ---- a row more

module _ (ws : List ℕ) (ok : SizedWords ws) (k : ℕ) (hk : k < 6) (row : List ℕ) (long : length row ≡ width_of k) (free : count_of ws k < limit_of k) where
  filled_kept : WordsKept ws k (pasted ws (place_of k (count_of ws k)) row (width_of k))
  filled_kept = subst (λ (p : ℕ). WordsKept ws k (pasted ws p row (width_of k))) (add-zero (place_of k (count_of ws k)))
      (word_kept ws ok k hk (count_of ws k) free 0 row (width_of k) (omega arith) (omega (arith, long)))

  filled_other : (m : ℕ) → m < limit_of k → (m ≡ count_of ws k → ⊥) → row_of (pasted ws (place_of k (count_of ws k)) row (width_of k)) k m ≡ row_of ws k m
  filled_other = subst (λ (p : ℕ). (m : ℕ) → m < limit_of k → (m ≡ count_of ws k → ⊥) → row_of (pasted ws p row (width_of k)) k m ≡ row_of ws k m) (add-zero (place_of k (count_of ws k)))
      (word_other ws ok k hk (count_of ws k) free 0 row (width_of k) (omega arith) (omega (arith, long)))

  long_row : length (row_of ws k (count_of ws k)) ≡ width_of k
  unfolding row_of
  long_row = length_cut ws (place_of k (count_of ws k)) (width_of k) (omega (arith, ok.room, row_ends k (count_of ws k) hk free))

  whole_row : pasted (row_of ws k (count_of ws k)) 0 row (width_of k) ≡ row
  whole_row = rw (← long) (pasted-all (row_of ws k (count_of ws k)) row (long_row ∙ sym long))

  filled_here : row_of (pasted ws (place_of k (count_of ws k)) row (width_of k)) k (count_of ws k) ≡ row
  filled_here = subst (λ (p : ℕ). row_of (pasted ws p row (width_of k)) k (count_of ws k) ≡ row) (add-zero (place_of k (count_of ws k)))
      (word_here ws ok k hk (count_of ws k) free 0 row (width_of k) (omega arith) (omega (arith, long)) ∙ whole_row)

  pub push_kept : WordsKept ws k (push_row ws k row)
  unfolding push_row
  push_kept = counted ws ok k hk (pasted ws (place_of k (count_of ws k)) row (width_of k)) filled_kept (count_of ws k + 1) (omega arith)

  pub push_count : count_of (push_row ws k row) k ≡ count_of ws k + 1
  unfolding push_row
  push_count = count_here (pasted ws (place_of k (count_of ws k)) row (width_of k)) k (count_of ws k + 1) (omega (arith, filled_kept.sized.room))

  pub push_next : next_of (push_row ws k row) ≡ next_of ws
  unfolding push_row
  push_next = count_next _ k (count_of ws k + 1) ∙ subst (λ (p : ℕ). next_of (pasted ws p row (width_of k)) ≡ next_of ws) (add-zero (place_of k (count_of ws k)))
      (word_next ws ok k hk (count_of ws k) free 0 row (width_of k) (omega arith) (omega (arith, long)))

  push_row_lem : (i : ℕ) → row_of (push_row ws k row) k i ≡ row_of (pasted ws (place_of k (count_of ws k)) row (width_of k)) k i
  unfolding push_row
  push_row_lem i = head_row (pasted ws (place_of k (count_of ws k)) row (width_of k)) (1 + k) (count_of ws k + 1) k i (omega arith) hk

  push_records : {A : Type 0} (f : List ℕ → List Float → A) (cs cs' : List Float) → Filled cs k (count_of ws k) cs'
      → records_of f (push_row ws k row) cs' k ≡ records_of f ws cs k ++ (f row (coords_of cs' k (count_of ws k)) ∷ [])
  unfolding records_of
  push_records f cs cs' c =
      rw push_count
      (list_to_push (λ i. f (row_of ws k i) (coords_of cs k i)) (λ i. f (row_of (push_row ws k row) k i) (coords_of cs' k i)) (count_of ws k)
      (λ i h. rw (push_row_lem i, filled_other i (omega arith) (omega arith), c.others i h))
      ∙ rw (push_row_lem (count_of ws k), filled_here))

  -- a record more: its coordinates are written, then its row, then the next number
  module _ (cs cs' : List Float) (c : Filled cs k (count_of ws k) cs') (v : ℕ) where
    pub pushed_kept : Kept ws cs k (set_next (push_row ws k row) v) cs'
    pushed_kept = kept ws cs k _ _ ok (then_next ws k (push_row ws k row) push_kept v) c.kept

    pub pushed_records : {A : Type 0} (f : List ℕ → List Float → A)
        → records_of f (set_next (push_row ws k row) v) cs' k ≡ records_of f ws cs k ++ (f row (coords_of cs' k (count_of ws k)) ∷ [])
    pushed_records f = records_same f _ _ k _ _ (next_same (push_row ws k row) push_kept.sized v cs' k hk) ∙ push_records f cs cs' c

    pub pushed_next : next_of (set_next (push_row ws k row) v) ≡ v
    pushed_next = next_set (push_row ws k row) push_kept.sized v

    pub pushed_count : count_of (set_next (push_row ws k row) v) k ≡ count_of ws k + 1
    pushed_count = next_count (push_row ws k row) push_kept.sized v k ∙ push_count

-- ---- a part of a row written over

module _ (ws : List ℕ) (ok : SizedWords ws) (k : ℕ) (hk : k < 6) (i : ℕ) (hi : i < count_of ws k) (o : ℕ) (s : List ℕ) (ho : o + length s ≤ width_of k) where
  low : i < limit_of k
  low = omega (arith, ok.counts k hk)

  pub put_kept : WordsKept ws k (put_part ws k i o s)
  unfolding put_part
  put_kept = word_kept ws ok k hk i low o s (length s) ho (le_refl _)

  pub put_next : next_of (put_part ws k i o s) ≡ next_of ws
  unfolding put_part
  put_next = word_next ws ok k hk i low o s (length s) ho (le_refl _)

  pub put_count : (m : ℕ) → m < 6 → count_of (put_part ws k i o s) m ≡ count_of ws m
  unfolding put_part
  put_count m hm = word_count ws ok k hk i low o s (length s) ho (le_refl _) m hm

  pub put_row : row_of (put_part ws k i o s) k i ≡ pasted (row_of ws k i) o s (length s)
  unfolding put_part
  put_row = word_here ws ok k hk i low o s (length s) ho (le_refl _)

  pub put_other : (m : ℕ) → m < limit_of k → (m ≡ i → ⊥) → row_of (put_part ws k i o s) k m ≡ row_of ws k m
  unfolding put_part
  put_other = word_other ws ok k hk i low o s (length s) ho (le_refl _)

  pub put_records : {A : Type 0} (f : List ℕ → List Float → A) (cs : List Float)
      → records_of f (put_part ws k i o s) cs k ≡ set (records_of f ws cs k) i (f (pasted (row_of ws k i) o s (length s)) (coords_of cs k i))
  unfolding records_of
  put_records f cs =
      rw (put_count k hk)
      (list_to-set (λ j. f (row_of ws k j) (coords_of cs k j)) (λ j. f (row_of (put_part ws k i o s) k j) (coords_of cs k j)) (count_of ws k) i hi
      (λ j h ne. rw (put_other j (omega (arith, ok.counts k hk)) ne))
      ∙ rw put_row)

-- ---- a row less

module _ (ws : List ℕ) (ok : SizedWords ws) (k : ℕ) (hk : k < 6) (j : ℕ) (hj : j < count_of ws k) where
  closed : List ℕ
  closed = moved ws (place_of k j) (place_of k j + width_of k) ((count_of ws k - 1 - j) * width_of k)

  pub drop_fits : place_of k j + width_of k + (count_of ws k - 1 - j) * width_of k ≤ length ws
  unfolding place_of
  drop_fits = gone_fits in_words ws (word_room ws ok) k hk (count_of ws k) j (ok.counts k hk) hj

  closed_before : (i : ℕ) → i < j → row_of closed k i ≡ row_of ws k i
  unfolding row_of place_of closed
  closed_before = gone_before in_words ws (word_room ws ok) k hk (count_of ws k) j (ok.counts k hk) hj

  closed_past : (i : ℕ) → j ≤ i → i + 1 < count_of ws k → row_of closed k i ≡ row_of ws k (i + 1)
  unfolding row_of place_of closed
  closed_past = gone_past in_words ws (word_room ws ok) k hk (count_of ws k) j (ok.counts k hk) hj

  closed_head : (i : ℕ) → i < 7 → get_or closed i 0 ≡ get_or ws i 0
  unfolding closed
  closed_head i h = get_or_before_moved ws (place_of k j) _ _ i 0 (omega (arith, open_place k j, starts, from_first in_words k (omega arith))) (omega (arith, drop_fits))

  closed_count : (m : ℕ) → m < 6 → count_of closed m ≡ count_of ws m
  unfolding count_of
  closed_count m hm = closed_head (1 + m) (omega arith)

  closed_next : next_of closed ≡ next_of ws
  unfolding next_of
  closed_next = closed_head 0 (omega arith)

  closed_others : (m i : ℕ) → m < 6 → (m ≡ k → ⊥) → i < limit_of m → row_of closed m i ≡ row_of ws m i
  unfolding row_of place_of closed
  closed_others = gone_others in_words ws (word_room ws ok) k hk (count_of ws k) j (ok.counts k hk) hj

  closed_long : length closed ≡ length ws
  unfolding place_of closed
  closed_long = gone_long in_words ws (word_room ws ok) k hk (count_of ws k) j (ok.counts k hk) hj

  closed_kept : WordsKept ws k closed
  closed_kept =
      record {
        counts = λ m hm ne. closed_count m hm;
        rows = closed_others;
        sized = record { room = closed_long ∙ ok.room; counts = λ m hm. rw (closed_count m hm) (ok.counts m hm) };
      }

  pub drop_kept : WordsKept ws k (drop_row ws k j)
  unfolding drop_row closed
  drop_kept = counted ws ok k hk closed closed_kept (count_of ws k - 1) (omega (arith, ok.counts k hk))

  pub drop_next : next_of (drop_row ws k j) ≡ next_of ws
  unfolding drop_row closed
  drop_next = count_next closed k (count_of ws k - 1) ∙ closed_next

  pub drop_count : count_of (drop_row ws k j) k ≡ count_of ws k - 1
  unfolding drop_row closed
  drop_count = count_here closed k (count_of ws k - 1) (omega (arith, closed_kept.sized.room))

  drop_row_lem : (i : ℕ) → row_of (drop_row ws k j) k i ≡ row_of closed k i
  unfolding drop_row closed
  drop_row_lem i = head_row closed (1 + k) (count_of ws k - 1) k i (omega arith) hk

module _ (cs : List Float) (ok : length cs ≡ all_coords) (k : ℕ) (hk : k < 6) (n j : ℕ) (hn : n ≤ limit_of k) (hj : j < n) where
  pub drop_coords_fits : coord_place_of k j + coord_width_of k + (n - 1 - j) * coord_width_of k ≤ length cs
  unfolding coord_place_of
  drop_coords_fits = gone_fits in_coords cs (coord_room cs ok) k hk n j hn hj

  coords_before : (i : ℕ) → i < j → coords_of (drop_coords cs k n j) k i ≡ coords_of cs k i
  unfolding coords_of coord_place_of drop_coords
  coords_before = gone_before in_coords cs (coord_room cs ok) k hk n j hn hj

  coords_past : (i : ℕ) → j ≤ i → i + 1 < n → coords_of (drop_coords cs k n j) k i ≡ coords_of cs k (i + 1)
  unfolding coords_of coord_place_of drop_coords
  coords_past = gone_past in_coords cs (coord_room cs ok) k hk n j hn hj

  coords_others : (m i : ℕ) → m < 6 → (m ≡ k → ⊥) → i < limit_of m → coords_of (drop_coords cs k n j) m i ≡ coords_of cs m i
  unfolding coords_of coord_place_of drop_coords
  coords_others = gone_others in_coords cs (coord_room cs ok) k hk n j hn hj

  coords_long : length (drop_coords cs k n j) ≡ length cs
  unfolding coord_place_of drop_coords
  coords_long = gone_long in_coords cs (coord_room cs ok) k hk n j hn hj

  pub drop_coords_kept : CoordsKept cs k (drop_coords cs k n j)
  drop_coords_kept = record { rows = coords_others; sized = coords_long ∙ ok }

-- a part of a record written over, its coordinates as they are
pub put_all_kept : (ws : List ℕ) (cs : List Float) → Sized ws cs → (k : ℕ) → k < 6 → (i : ℕ) → i < count_of ws k → (o : ℕ) (s : List ℕ) → o + length s ≤ width_of k
    → Kept ws cs k (put_part ws k i o s) cs
put_all_kept ws cs ok k hk i hi o s ho = kept ws cs k _ _ ok.words (put_kept ws ok.words k hk i hi o s ho) (coords_still cs k ok.coords)

-- a record goes with its row and its coordinates
module _ (ws : List ℕ) (cs : List Float) (ok : Sized ws cs) (k : ℕ) (hk : k < 6) (j : ℕ) (hj : j < count_of ws k) where
  few : count_of ws k ≤ limit_of k
  few = ok.words.counts k hk

  pub drop_records : {A : Type 0} (f : List ℕ → List Float → A)
      → records_of f (drop_row ws k j) (drop_coords cs k (count_of ws k) j) k ≡ without j (records_of f ws cs k)
  unfolding records_of
  drop_records f =
      rw (drop_count ws ok.words k hk j hj)
      (list_to_delete (λ i. f (row_of ws k i) (coords_of cs k i)) (λ i. f (row_of (drop_row ws k j) k i) (coords_of (drop_coords cs k (count_of ws k) j) k i)) (count_of ws k) j hj
      (λ i h. rw (drop_row_lem ws ok.words k hk j hj i, closed_before ws ok.words k hk j hj i h, coords_before cs ok.coords k hk (count_of ws k) j few hj i h))
      (λ i h g. rw (drop_row_lem ws ok.words k hk j hj i, closed_past ws ok.words k hk j hj i h g, coords_past cs ok.coords k hk (count_of ws k) j few hj i h g)))

  pub drop_all_kept : Kept ws cs k (drop_row ws k j) (drop_coords cs k (count_of ws k) j)
  drop_all_kept = kept ws cs k _ _ ok.words (drop_kept ws ok.words k hk j hj) (drop_coords_kept cs ok.coords k hk (count_of ws k) j few hj)
