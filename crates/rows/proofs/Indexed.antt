-- Lists whose entries are read by their index: what an edit of a table does, from what it does at each index. Assumes nothing.
use mathlib.Core.Path.{◌≡◌, refl, sym, ap, ◌∙◌, subst⁻¹}
use Prim.Native.Nat.{ℕ, zero, suc, ◌+◌, ◌-◌, ◌*◌, ◌≤◌, ◌<◌}
use native.Mathlib.Nat.{suc-add, zero-add, add-zero, suc-mul, add-mul, one-mul, mul-le-mul_right, le_refl}
use native.Mathlib.Numerals.{add-one}
use native.Mathlib.Omega.{arith}
use mathlib.Core.List.{List, [], ◌∷◌, ◌++◌}
use lib.ListN.{length, get_or, set, drop, length-drop}
use lib.Seq.{set_at, take_at, ext_get_or}
use Rattle.rows.specs.Lists.{list_to}
use Rattle.rows.specs.Rows.{without, cut, pasted, moved}
use mathlib.Core.Logic.{⊎_elim}
use Rattle.rows.proofs.RowLaws.{length_cut, get_or-cut, drop_next, cut_start, cut_whole, cut_before, cut_past, cut_in, cut-drop, side}

module _ {A : Type 0} where
  -- f i, f (i + 1) .. f (i + n - 1): what is left of a list from index i on
  unfoldable pub tab : (ℕ → A) → ℕ → ℕ → List A
  tab f i zero = []
  tab f i (suc n) = f i ∷ tab f (suc i) n

  pub length_tab : (f : ℕ → A) (i n : ℕ) → length (tab f i n) ≡ n
  unfolding tab
  length_tab f i zero = refl
  length_tab f i (suc n) = ap suc (length_tab f (suc i) n)

  -- rows d further on
  pub tab_same : (f g : ℕ → A) (i d n : ℕ) → ((k : ℕ) → i ≤ k → k < i + n → g k ≡ f (k + d)) → tab g i n ≡ tab f (i + d) n
  unfolding tab
  tab_same f g i d zero e = refl
  tab_same f g i d (suc n) e =
      rw (e i (omega arith) (omega arith), ← suc-add i d) (ap (λ (l : List A). f (i + d) ∷ l) (tab_same f g (suc i) d n (λ k a b. e k (omega arith) (omega arith))))

  pub tab_add : (f : ℕ → A) (i n m : ℕ) → tab f i (n + m) ≡ tab f i n ++ tab f (i + n) m
  unfolding tab
  tab_add f i zero m = rw (zero-add, add-zero)
  tab_add f i (suc n) m =
      let e : i + suc n ≡ suc i + n = omega arith in
      rw (suc-add, e, tab_add f (suc i) n m)

  pub tab_equal : (f g : ℕ → A) (i n : ℕ) → ((k : ℕ) → i ≤ k → k < i + n → g k ≡ f k) → tab g i n ≡ tab f i n
  tab_equal f g i n e = tab_same f g i 0 n (λ k a b. rw (add-zero k) (e k a b)) ∙ rw (add-zero i)

  tab_last : (f : ℕ → A) (n : ℕ) → tab f 0 (suc n) ≡ tab f 0 n ++ (f n ∷ [])
  unfolding tab
  tab_last f n = ap (tab f 0) (sym (add-one n)) ∙ tab_add f 0 n 1 ∙ rw zero-add

  -- the whole list is what is left from index 0 on
  pub list_to_tab : (f : ℕ → A) (n : ℕ) → list_to f n ≡ tab f 0 n
  unfolding list_to tab
  list_to_tab f zero = refl
  list_to_tab f (suc n) = rw (list_to_tab f n) (sym (tab_last f n))

  pub length-list_to : (f : ℕ → A) (n : ℕ) → length (list_to f n) ≡ n
  length-list_to f n = ap length (list_to_tab f n) ∙ length_tab f 0 n

  pub list_to_same : (f g : ℕ → A) (n : ℕ) → ((k : ℕ) → k < n → g k ≡ f k) → list_to g n ≡ list_to f n
  list_to_same f g n e = list_to_tab g n ∙ tab_equal f g 0 n (λ k a b. e k (omega arith)) ∙ sym (list_to_tab f n)

  tab_at : (f : ℕ → A) (i n j : ℕ) (z : A) → j < n → get_or (tab f i n) j z ≡ f (i + j)
  unfolding tab
  tab_at f i zero j z h = absurd (let q : ⊥ = omega arith in q)
  tab_at f i (suc n) zero z h = rw add-zero
  tab_at f i (suc n) (suc j) z h =
      let e : i + suc j ≡ suc i + j = omega arith in
      rw e (tab_at f (suc i) n j z (omega arith))

  pub get_or-list_to : (f : ℕ → A) (n j : ℕ) (z : A) → j < n → get_or (list_to f n) j z ≡ f j
  get_or-list_to f n j z h = rw (list_to_tab f n) (tab_at f 0 n j z h ∙ rw zero-add)

  -- a part of a list, entry by entry
  pub list_to-cut : (l : List A) (o n : ℕ) (z : A) → o + n ≤ length l → list_to (λ i. get_or l (o + i) z) n ≡ cut l o n
  list_to-cut l o n z h =
      let a : length (list_to (λ i. get_or l (o + i) z) n) ≡ n = length-list_to (λ i. get_or l (o + i) z) n in
      ext_get_or z _ _ (a ∙ sym (length_cut l o n h)) (λ i g. get_or-list_to (λ j. get_or l (o + j) z) n i z (omega arith) ∙ sym (get_or-cut l o n i z (omega arith)))

  -- in two parts: j before, m after
  module _ (f g : ℕ → A) (j m : ℕ) where
    tab_put : ((k : ℕ) → k < j + suc m → (k ≡ j → ⊥) → g k ≡ f k) → tab g 0 (j + suc m) ≡ set (tab f 0 (j + suc m)) j (g j)
    unfolding tab
    tab_put e =
        rw (
          tab_add g 0 j (suc m),
          tab_add f 0 j (suc m),
          zero-add j,
          tab_equal f g 0 j (λ k a b. e k (omega arith) (omega arith)),
          tab_equal f g (suc j) m (λ k a b. e k (omega arith) (omega arith)),
        )
        (sym (set_at (tab f 0 j) _ _ (g j) j (length_tab f 0 j)))

    tab_less : ((k : ℕ) → k < j → g k ≡ f k) → ((k : ℕ) → j ≤ k → k < j + m → g k ≡ f (k + 1)) → tab g 0 (j + m) ≡ without j (tab f 0 (j + suc m))
    unfolding tab without
    tab_less a b =
        rw (
          tab_add g 0 j m,
          tab_add f 0 j (suc m),
          zero-add j,
          tab_equal f g 0 j (λ k x y. a k (omega arith)),
          tab_same f g j 1 m (λ k x y. b k x y),
          add-one j,
          take_at (tab f 0 j) _ j (length_tab f 0 j),
        )
        (ap (λ (l : List A). tab f 0 j ++ l) (sym (drop_next (tab f 0 j) _ _ j (length_tab f 0 j))))

  module _ (f g : ℕ → A) (n : ℕ) where
    -- one more
    pub list_to_push : ((k : ℕ) → k < n → g k ≡ f k) → list_to g (n + 1) ≡ list_to f n ++ (g n ∷ [])
    unfolding list_to
    list_to_push e = rw (add-one, list_to_same f g n e)

    -- one changed
    tab_set : (j : ℕ) → j < n → ((k : ℕ) → k < n → (k ≡ j → ⊥) → g k ≡ f k) → tab g 0 n ≡ set (tab f 0 n) j (g j)
    tab_set j h e =
        let q : n ≡ j + suc (n - 1 - j) = omega arith in
        subst⁻¹ (λ (x : ℕ). tab g 0 x ≡ set (tab f 0 x) j (g j)) q (tab_put f g j (n - 1 - j) (λ k a b. e k (omega arith) b))

    -- one less
    tab_delete : (j : ℕ) → j < n → ((k : ℕ) → k < j → g k ≡ f k) → ((k : ℕ) → j ≤ k → k + 1 < n → g k ≡ f (k + 1))
        → tab g 0 (n - 1) ≡ without j (tab f 0 n)
    tab_delete j h a b =
        let q : n ≡ j + suc (n - 1 - j) = omega arith in
        let r : n - 1 ≡ j + (n - 1 - j) = omega arith in
        ap (λ (x : ℕ). tab g 0 x) r ∙ tab_less f g j (n - 1 - j) a (λ k x y. b k x (omega arith)) ∙ ap (λ (x : ℕ). without j (tab f 0 x)) (sym q)

    pub list_to-set : (j : ℕ) → j < n → ((k : ℕ) → k < n → (k ≡ j → ⊥) → g k ≡ f k) → list_to g n ≡ set (list_to f n) j (g j)
    list_to-set j h e = rw (list_to_tab g n, list_to_tab f n) (tab_set j h e)

    pub list_to_delete : (j : ℕ) → j < n → ((k : ℕ) → k < j → g k ≡ f k) → ((k : ℕ) → j ≤ k → k + 1 < n → g k ≡ f (k + 1))
        → list_to g (n - 1) ≡ without j (list_to f n)
    list_to_delete j h a b = rw (list_to_tab g (n - 1), list_to_tab f n) (tab_delete j h a b)

  -- a walk over the entries: what is left at index i
  pub tab_step : (f : ℕ → A) (n i : ℕ) → i < n → tab f i (n - i) ≡ f i ∷ tab f (i + 1) (n - (i + 1))
  unfolding tab
  tab_step f n i h =
      let e : n - i ≡ suc (n - (i + 1)) = omega arith in
      rw (e, add-one)

  pub tab_none : (f : ℕ → A) (n i : ℕ) → n ≤ i → tab f i (n - i) ≡ []
  unfolding tab
  tab_none f n i h =
      let e : n - i ≡ 0 = omega arith in
      rw e

-- ---- a row at its index, after an edit of its table
module _ {ℓ} {A : Type ℓ} (l : List A) (w n at : ℕ) (hl : at + n * w ≤ length l) where
  spans : (i : ℕ) → i < n → i * w + w ≤ n * w
  spans i h = omega (arith, suc-mul i w, mul-le-mul_right w h)

  -- written over at i
  pub row_put_here : (i : ℕ) (row : List A) → i < n → length row ≡ w → cut (pasted l (at + i * w) row w) (at + i * w) w ≡ row
  row_put_here i row h e = cut_start l (at + i * w) row w w (le_refl w) (omega (arith, spans i h)) (omega arith) ∙ cut_whole row w e

  -- a part of row i is written: any other row stays
  pub row_part_other : (i k o m : ℕ) (s : List A) → i < n → k < n → (k ≡ i → ⊥) → o + m ≤ w → m ≤ length s
      → cut (pasted l (at + i * w + o) s m) (at + k * w) w ≡ cut l (at + k * w) w
  row_part_other i k o m s h hk ne ho hs = ⊎_elim
      (λ (c : k < i). cut_before l (at + i * w + o) s m (at + k * w) w (omega (arith, suc-mul k w, mul-le-mul_right w c)) (omega (arith, spans i h)))
      (λ (c : i < k). cut_past l (at + i * w + o) s m (at + k * w) w (omega (arith, suc-mul i w, mul-le-mul_right w c)) (omega (arith, spans i h)) hs)
      (side k i ne)

  -- taken out at j
  pub row_gone_before : (j k : ℕ) → j < n → k < j → cut (moved l (at + j * w) (at + j * w + w) ((n - 1 - j) * w)) (at + k * w) w ≡ cut l (at + k * w) w
  unfolding moved
  row_gone_before j k h hk = cut_before l (at + j * w) (drop (at + j * w + w) l) ((n - 1 - j) * w) (at + k * w) w (omega (arith, suc-mul k w, mul-le-mul_right w hk)) (omega (arith, spans j h))

  pub row_gone_past : (j k : ℕ) → j ≤ k → k + 1 < n → cut (moved l (at + j * w) (at + j * w + w) ((n - 1 - j) * w)) (at + k * w) w ≡ cut l (at + (k + 1) * w) w
  unfolding moved
  row_gone_past j k h hk =
      let d : ℕ = k - j in
      let m : ℕ = n - 1 - j in
      let ek : k ≡ j + d = omega arith in
      let kw : k * w ≡ j * w + d * w = ap (λ (x : ℕ). x * w) ek ∙ add-mul j d w in
      let en : n ≡ j + suc m = omega arith in
      let nw : n * w ≡ j * w + (m * w + w) = ap (λ (x : ℕ). x * w) en ∙ simp (add-mul, suc-mul) in
      let dm : suc d ≤ m = omega arith in
      let p : ℕ = at + j * w in
      let s : List A = drop (p + w) l in
      let a : at + k * w ≡ p + d * w = omega arith in
      let b : at + (k + 1) * w ≡ p + w + d * w = omega (arith, add-mul k 1 w, one-mul w) in
      rw (a, b, cut_in l p s (m * w) (d * w) w (omega (arith, suc-mul d w, mul-le-mul_right w dm)) (omega arith) (simp length-drop (omega arith)))
      (cut-drop l (p + w) (d * w) w)
