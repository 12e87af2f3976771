-- One theory for every table, over the width w, the base and the element type. Assumes nothing.
use Prim.Native.Nat.{ℕ, zero, suc, ◌+◌, ◌-◌, ◌*◌, ◌≤◌, ◌<◌}
use mathlib.Core.Path.{◌≡◌, refl, sym, ap, ◌∙◌, subst, subst⁻¹}
use mathlib.Core.Bool.{Bool, true, false}
use mathlib.Core.Logic.{◌⊎◌, inl, inr, ⊎_elim}
use mathlib.Core.List.{List, [], ◌∷◌, ◌++◌, append_assoc, append-nil}
use native.Mathlib.Nat.{suc-add, zero-add, add-zero, suc-mul, add_assoc, le_refl, eq-or-lt_of_le}
use native.Mathlib.Numerals.{add-one}
use native.Mathlib.Omega.{arith}
use native.Mathlib.Decide.{dec_le}
use borrow.Author.Tests.{eq-eqb, ne_eqb, le-leb, lt-leb, le-ltb, lt-ltb}
use lib.ListN.{length, get_or, set, take, drop, length-drop}
use lib.Seq.{drop-drop, take-take, drop_at, take-append-le, drop-append-le, length-take-le, take-add, paste-zero, paste-suc, drop-paste, length-paste, get_or-drop, get_or-take, take-nil, drop-set-lt, drop-set-add, take-set-lt, drop-cons, take-suc-set, append_snoc, take-length, drop-length}
use Rattle.rows.specs.Lists.{every}
use Rattle.rows.specs.Table.{rising}
use Rattle.rows.specs.Rows.{cut, numbers_at, pasted, moved, index_of}

pub drop_next {ℓ} : {B : Type ℓ} (p : List B) (x : B) (q : List B) (n : ℕ) → length p ≡ n → drop (suc n) (p ++ x ∷ q) ≡ q
drop_next {B} p x q n e = subst (λ (k : ℕ). drop (suc k) (p ++ x ∷ q) ≡ q) e (go p)
  where
    go : (r : List B) → drop (suc (length r)) (r ++ x ∷ q) ≡ q
    go [] = refl
    go (y ∷ r) = go r

pub same_or : (m k : ℕ) → (m ≡ k) ⊎ ((m < k) ⊎ (k < m))
same_or m k = go (dec_le m k)
  where
    near : (m ≡ k) ⊎ (m < k) → (m ≡ k) ⊎ ((m < k) ⊎ (k < m))
    near (inl e) = inl e
    near (inr h) = inr (inl h)

    go : Dec (m ≤ k) → (m ≡ k) ⊎ ((m < k) ⊎ (k < m))
    go (yes h) = near (eq-or-lt_of_le h)
    go (no h) = inr (inr (omega arith))

pub side : (m k : ℕ) → (m ≡ k → ⊥) → (m < k) ⊎ (k < m)
side m k ne = ⊎_elim (λ (e : m ≡ k). absurd (ne e)) (λ (h : (m < k) ⊎ (k < m)). h) (same_or m k)

module _ {ℓ} {A : Type ℓ} where
  pub take-drop : (m n : ℕ) (l : List A) → take m (drop n l) ≡ drop n (take (n + m) l)
  take-drop m zero l = rw zero-add
  take-drop m (suc n) [] = rw suc-add (take-nil m)
  take-drop m (suc n) (x ∷ l) = rw suc-add (take-drop m n l)

  -- ---- a part
  pub length_cut : (l : List A) (at k : ℕ) → at + k ≤ length l → length (cut l at k) ≡ k
  unfolding cut
  length_cut l at k h = length-take-le k (drop at l) (simp length-drop (omega arith))

  pub get_or-cut : (l : List A) (at k i : ℕ) (z : A) → i < k → get_or (cut l at k) i z ≡ get_or l (at + i) z
  unfolding cut
  get_or-cut l at k i z h = rw (get_or-take, get_or-drop)

  pub cut_cut : (l : List A) (at k i m : ℕ) → i + m ≤ k → cut (cut l at k) i m ≡ cut l (at + i) m
  unfolding cut
  cut_cut l at k i m h = rw (take-drop m i (take k (drop at l)), take-take, ← take-drop m i (drop at l), drop-drop)

  pub take-cut : (l : List A) (at k m : ℕ) → m ≤ k → take m (cut l at k) ≡ cut l at m
  unfolding cut
  take-cut l at k m h = take-take m k (drop at l) h

  pub cut_add : (l : List A) (at n m : ℕ) → cut l at (n + m) ≡ cut l at n ++ cut l (at + n) m
  unfolding cut
  cut_add l at n m = rw (take-add, drop-drop)

  pub cut-drop : (l : List A) (a i k : ℕ) → cut (drop a l) i k ≡ cut l (a + i) k
  unfolding cut
  cut-drop l a i k = ap (take k) (drop-drop i a l)

  -- ---- what a copy leaves
  pub pasted_none : (d : List A) (at : ℕ) (s : List A) → d ≡ pasted d at s 0
  unfolding pasted
  pasted_none d at s = paste-zero d at s

  pub pasted_more : (d : List A) (at : ℕ) (s : List A) (j : ℕ) (z : A) → at + j < length d → j < length s
      → set (pasted d at s j) (at + j) (get_or s j z) ≡ pasted d at s (j + 1)
  unfolding pasted
  pasted_more d at s j z hd hs = rw add-one (paste-suc d at s j z hd hs)

  -- a part that is written at once
  pub pasted_whole : (d s : List A) (at : ℕ) → take at d ++ (s ++ drop (at + length s - at) (drop at d)) ≡ pasted d at s (length s)
  unfolding pasted
  pasted_whole d s at =
      let e : at + length s - at ≡ length s = omega arith in
      rw (e, drop-drop, take-length, append_assoc)

  pub length-pasted : (d : List A) (at : ℕ) (s : List A) (n : ℕ) → at + n ≤ length d → n ≤ length s → length (pasted d at s n) ≡ length d
  unfolding pasted
  length-pasted d at s n hd hs = length-paste d at s n hd hs

  pub take-pasted : (k : ℕ) (d : List A) (at : ℕ) (s : List A) (n : ℕ) → k ≤ at → at ≤ length d → take k (pasted d at s n) ≡ take k d
  unfolding pasted
  take-pasted k d at s n h hd =
      let a : k ≤ length (take at d) = simp (length-take-le at d hd) h in
      rw (append_assoc, take-append-le k (take at d) _ a, take-take)

  drop-pasted : (k : ℕ) (d : List A) (at : ℕ) (s : List A) (n : ℕ) → at + n ≤ k → at ≤ length d → n ≤ length s → drop k (pasted d at s n) ≡ drop k d
  unfolding pasted
  drop-pasted k d at s n h hd hs =
      let e : k ≡ at + n + (k - (at + n)) = omega arith in
      subst⁻¹ (λ (i : ℕ). drop i (pasted d at s n) ≡ drop i d) e
      (rw (← drop-drop (k - (at + n)) (at + n) (pasted d at s n), drop-paste d at s n hd hs, drop-drop))

  pub cut_before : (d : List A) (p : ℕ) (s : List A) (n at k : ℕ) → at + k ≤ p → p ≤ length d → cut (pasted d p s n) at k ≡ cut d at k
  unfolding cut
  cut_before d p s n at k h hd =
      rw (take-drop k at (pasted d p s n), take-pasted (at + k) d p s n h hd, ← take-drop k at d)

  pub cut_past : (d : List A) (p : ℕ) (s : List A) (n at k : ℕ) → p + n ≤ at → p ≤ length d → n ≤ length s → cut (pasted d p s n) at k ≡ cut d at k
  unfolding cut
  cut_past d p s n at k h hd hs = rw (drop-pasted at d p s n h hd hs)

  pub cut_in : (d : List A) (p : ℕ) (s : List A) (n i k : ℕ) → i + k ≤ n → p ≤ length d → n ≤ length s → cut (pasted d p s n) (p + i) k ≡ cut s i k
  unfolding cut pasted
  cut_in d p s n i k h hd hs =
      let a : i ≤ length (take n s) = simp (length-take-le n s hs) (omega arith) in
      let b : k ≤ length (drop i (take n s)) = simp (length-drop, length-take-le n s hs) (omega arith) in
      rw (
        ← drop-drop i p (pasted d p s n),
        append_assoc,
        drop_at (take p d) _ p (length-take-le p d hd),
        drop-append-le i (take n s) _ a,
        take-append-le k (drop i (take n s)) _ b,
        take-drop k i (take n s),
        take-take,
        ← take-drop k i s,
      )

  pub cut_start : (d : List A) (p : ℕ) (s : List A) (n k : ℕ) → k ≤ n → p ≤ length d → n ≤ length s → cut (pasted d p s n) p k ≡ cut s 0 k
  cut_start d p s n k h hd hs =
      subst (λ (i : ℕ). cut (pasted d p s n) i k ≡ cut s 0 k) (add-zero p) (cut_in d p s n 0 k (omega arith) hd hs)

  pub get_d_past : (d : List A) (p : ℕ) (s : List A) (n i : ℕ) (z : A) → p + n ≤ i → p ≤ length d → n ≤ length s
      → get_or (pasted d p s n) i z ≡ get_or d i z
  get_d_past d p s n i z h hd hs =
      rw (← add-zero i, ← get_or-drop i (pasted d p s n) 0 z, drop-pasted i d p s n h hd hs, get_or-drop)

  pub get_or_before : (d : List A) (p : ℕ) (s : List A) (n i : ℕ) (z : A) → i < p → p ≤ length d
      → get_or (pasted d p s n) i z ≡ get_or d i z
  get_or_before d p s n i z h hd =
      rw (← get_or-take p (pasted d p s n) i z h, take-pasted p d p s n (le_refl p) hd, get_or-take)

  pub get_or_in : (d : List A) (p : ℕ) (s : List A) (n i : ℕ) (z : A) → i < n → p ≤ length d → n ≤ length s → get_or (pasted d p s n) (p + i) z ≡ get_or s i z
  get_or_in d p s n i z h hd hs =
      sym (get_or-cut (pasted d p s n) p n i z h) ∙ ap (λ (l : List A). get_or l i z) (cut_start d p s n n (le_refl n) hd hs) ∙ get_or-cut s 0 n i z h ∙ rw zero-add

  -- ---- what a store leaves
  pub cut_set_off : (d : List A) (p : ℕ) (v : A) (at k : ℕ) → p < at → cut (set d p v) at k ≡ cut d at k
  unfolding cut
  cut_set_off d p v at k h = rw drop-set-lt

  pub cut_set_in : (d : List A) (at i k : ℕ) (v : A) → i < k → cut (set d (at + i) v) at k ≡ set (cut d at k) i v
  unfolding cut
  cut_set_in d at i k v h = rw (drop-set-add, take-set-lt)

  -- ---- element by element: a row that is read, and one that is written, in front of a part
  pub cut_cons : (l : List A) (at k : ℕ) (z : A) → at < length l → get_or l at z ∷ cut l (at + 1) k ≡ cut l at (suc k)
  unfolding cut
  cut_cons l at k z h = rw (add-one, drop-cons l at z)

  pub cut_cons_at : (l : List A) (at i k : ℕ) (z : A) → at + i < length l → get_or l (at + i) z ∷ cut l (at + (i + 1)) k ≡ cut l (at + i) (suc k)
  cut_cons_at l at i k z h = rw (← add_assoc at i 1) (cut_cons l (at + i) k z h)

  pub pasted_cons : (d : List A) (p : ℕ) (v : A) (s : List A) (n : ℕ) → p < length d → pasted (set d p v) (p + 1) s n ≡ pasted d p (v ∷ s) (suc n)
  unfolding pasted
  pasted_cons d p v s n h =
      let e : p + suc n ≡ suc p + n = omega arith in
      let g : p < suc p + n = omega arith in
      rw (add-one, e, take-suc-set d p v h, drop-set-lt (suc p + n) d p v g, append_snoc (take p d) v (take n s))

  pub pasted_cons_at : (d : List A) (p i : ℕ) (v : A) (s : List A) (n : ℕ) → p + i < length d
      → pasted (set d (p + i) v) (p + (i + 1)) s n ≡ pasted d (p + i) (v ∷ s) (suc n)
  pasted_cons_at d p i v s n h = rw (← add_assoc p i 1) (pasted_cons d (p + i) v s n h)

  -- a whole list replaced
  pub pasted-all : (d s : List A) → length d ≡ length s → pasted d 0 s (length s) ≡ s
  unfolding pasted
  pasted-all d s e =
      rw (zero-add, ← e, drop-length, append-nil, e, take-length)

  pub cut_whole : (l : List A) (k : ℕ) → length l ≡ k → cut l 0 k ≡ l
  unfolding cut
  cut_whole l k e = rw (← e) (take-length l)

  -- what is read by a copy of a part, `put(out, 0, &t[at..at + out.len()])`
  pub got : (out t : List A) (at : ℕ) → at + length out ≤ length t
      → pasted out 0 (take (at + length out - at) (drop at t)) (length (take (at + length out - at) (drop at t))) ≡ cut t at (length out)
  unfolding cut
  got out t at h =
      let e : at + length out - at ≡ length out = omega arith in
      let f : length out ≡ length (take (length out) (drop at t)) = sym (length-take-le (length out) (drop at t) (simp length-drop (omega arith))) in
      rw e (pasted-all out (take (length out) (drop at t)) f)

  -- a part of a row is written: a field or a list of the record
  pub drop-cut : (l : List A) (at m r : ℕ) → drop m (cut l at (m + r)) ≡ cut l (at + m) r
  unfolding cut
  drop-cut l at m r = sym (take-drop r m (drop at l)) ∙ ap (take r) (drop-drop m at l)

  pub cut-take : (l : List A) (k : ℕ) → cut l 0 k ≡ take k l
  unfolding cut
  cut-take l k = refl

  pub row_part : (l : List A) (p w o : ℕ) (s : List A) (k : ℕ) → o + k ≤ w → p + w ≤ length l → k ≤ length s
      → cut (pasted l (p + o) s k) p w ≡ pasted (cut l p w) o s k
  unfolding pasted
  row_part l p w o s k h hl hs =
      let r : ℕ = w - (o + k) in
      let e : w ≡ o + k + r = omega arith in
      let l' : List A = pasted l (p + o) s k in
      let hp : p + o ≤ length l = omega arith in
      let a : o ≤ o + k + r = omega arith in
      rw (
        e,
        cut_add l' p (o + k) r,
        cut_add l' p o k,
        cut_before l (p + o) s k p o (le_refl _) hp,
        cut_start l (p + o) s k k (le_refl k) hp hs,
        cut_past l (p + o) s k (p + (o + k)) r (omega arith) hp hs,
        take-cut l p (o + k + r) o a,
        drop-cut l p (o + k) r,
        cut-take s k,
      )

  pub set-pasted : (l : List A) (p : ℕ) (v : A) → p < length l → set l p v ≡ pasted l p (v ∷ []) 1
  set-pasted l p v h = pasted_none (set l p v) (p + 1) [] ∙ pasted_cons l p v [] 0 h

  -- what a move leaves: lengths, and what lies outside
  pub length_moved : (l : List A) (to from k : ℕ) → to ≤ from → from + k ≤ length l → length (moved l to from k) ≡ length l
  unfolding moved
  length_moved l to from k h hl = length-pasted l to (drop from l) k (omega arith) (simp length-drop (omega arith))

  pub get_or_before_moved : (l : List A) (to from k i : ℕ) (z : A) → i < to → to ≤ length l → get_or (moved l to from k) i z ≡ get_or l i z
  unfolding moved
  get_or_before_moved l to from k i z h hl = get_or_before l to (drop from l) k i z h hl

-- ---- a walk over the rows: what is left at row i, which begins at index at

pub left_step : (w n i : ℕ) → i < n → (n - i) * w ≡ (n - (i + 1)) * w + w
left_step w n i h =
    let e : n - i ≡ suc (n - (i + 1)) = omega arith in
    ap (λ (k : ℕ). k * w) e ∙ suc-mul (n - (i + 1)) w

-- the index of the next row
pub row_next : (base w i : ℕ) → base + i * w + w ≡ base + (i + 1) * w
row_next base w i = omega (arith, suc-mul i w, ap (λ (k : ℕ). k * w) (add-one i))

pub numbers_step : (t : List ℕ) (w n i at : ℕ) → i < n → numbers_at t w (n - i) at ≡ get_or t at 0 ∷ numbers_at t w (n - (i + 1)) (at + w)
unfolding numbers_at
numbers_step t w n i at h =
    let e : n - i ≡ suc (n - (i + 1)) = omega arith in
    rw e

none_left : (t : List ℕ) (w n i at : ℕ) → n ≤ i → numbers_at t w (n - i) at ≡ []
unfolding numbers_at
none_left t w n i at h =
    let e : n - i ≡ 0 = omega arith in
    rw e

module _ {ℓ} {A : Type ℓ} where
  pub cut_step : (l : List A) (n i at : ℕ) (z : A) → i < n → at < length l → cut l at (n - i) ≡ get_or l at z ∷ cut l (at + 1) (n - (i + 1))
  cut_step l n i at z h k =
      let e : n - i ≡ suc (n - (i + 1)) = omega arith in
      rw e (sym (cut_cons l at (n - (i + 1)) z k))

  pub cut_none : (l : List A) (n i at : ℕ) → n ≤ i → cut l at (n - i) ≡ []
  unfolding cut
  cut_none l n i at h =
      let e : n - i ≡ 0 = omega arith in
      rw e

module _ {A : Type 0} where
  -- a walk that tests each entry: b is the answer, and x the entry at hand
  module _ (f : A → Bool) (l r : List A) (x : A) (b : Bool) (so : b ≡ every f l) (e : l ≡ x ∷ r) where
    pub every_next : f x ≡ true → b ≡ every f r
    unfolding every
    every_next t = so ∙ rw (e, t)

    pub every_stop : f x ≡ false → false ≡ b
    unfolding every
    every_stop t = sym (so ∙ rw (e, t))

  pub every_end : (f : A → Bool) (l : List A) (b : Bool) → b ≡ every f l → l ≡ [] → true ≡ b
  unfolding every
  every_end f l b so e = sym (so ∙ rw e)

-- a search: r is the answer, and the rows passed do not have x
module _ (x : ℕ) (t : List ℕ) (w n i at : ℕ) (r : ℕ) (so : r ≡ i + index_of x (numbers_at t w (n - i) at)) where
  pub index_here : i < n → get_or t at 0 ≡ x → i ≡ r
  unfolding index_of
  index_here h e = sym (so ∙ rw (numbers_step t w n i at h, eq-eqb (get_or t at 0) x e, add-zero))

  pub index_next : i < n → (get_or t at 0 ≡ x → ⊥) → r ≡ i + 1 + index_of x (numbers_at t w (n - (i + 1)) (at + w))
  unfolding index_of
  index_next h e = so ∙ rw (numbers_step t w n i at h, ne_eqb (get_or t at 0) x e) (omega arith)

  pub index_none : n ≤ i → i ≡ r
  unfolding index_of
  index_none h = sym (so ∙ rw (none_left t w n i at h, add-zero))

-- a walk over rising numbers: b is the answer
module _ (next low : ℕ) (t : List ℕ) (w n i at : ℕ) (b : Bool) (so : b ≡ rising (λ x. x) low next (numbers_at t w (n - i) at)) where
  pub rising_low : i < n → get_or t at 0 < low → false ≡ b
  unfolding rising
  rising_low h e = sym (so ∙ rw (numbers_step t w n i at h, lt-leb low (get_or t at 0) e))

  pub rising_high : i < n → low ≤ get_or t at 0 → next ≤ get_or t at 0 → false ≡ b
  unfolding rising
  rising_high h e k = sym (so ∙ rw (numbers_step t w n i at h, le-leb low (get_or t at 0) e, le-ltb (get_or t at 0) next k))

  pub rising_next : i < n → low ≤ get_or t at 0 → get_or t at 0 < next
      → b ≡ rising (λ x. x) (get_or t at 0 + 1) next (numbers_at t w (n - (i + 1)) (at + w))
  unfolding rising
  rising_next h e k = so ∙ rw (add-one (get_or t at 0), numbers_step t w n i at h, le-leb low (get_or t at 0) e, lt-ltb (get_or t at 0) next k)

  pub rising_end : n ≤ i → true ≡ b
  unfolding rising
  rising_end h = sym (so ∙ rw (none_left t w n i at h))
