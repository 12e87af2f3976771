-- Entries, warnings and their lists, read into a table.
use Prim.Native.Nat.{ℕ, zero, suc, ◌+◌, ◌*◌, ◌≤◌, ◌<◌}
use mathlib.Core.Path.{◌≡◌, refl, ◌∙◌}
use mathlib.Core.Logic.{◌⊎◌, inl, inr}
use mathlib.Core.Bool.{Bool, true, false, ◌&&◌, cond}
use mathlib.Core.List.{List, []}
use native.Mathlib.Omega.{arith}
use native.Mathlib.Nat.{suc-mul, mul-le-mul_right}
use lib.Dec.{ltb, leb}
use lib.ListN.{length, get_or, drop}
use borrow.Author.Tests.{lt-ltb, le-ltb, le-leb}
use Rattle.rows.specs.Lists.{list_to}
use Rattle.codec.specs.Format.{Bytes, Read, fault, got, and_then, Format, ◌⊗◌, only, tagged, nothing}
use Rattle.codec.specs.Number.{number, split}
use Rattle.codec.specs.Items.{below, list}
use Rattle.changes.specs.ChangeFile.{kinds, entry, abouts, about, warning_form, warnings}
use Rattle.changes.specs.Layout.{set_words, count_in, ref_at, about_of, warning_at, list_in}
use Rattle.changes.proofs.WrittenLaws.{refs_same}
use Rattle.fields.specs.Fields.{Place, read_at, got_at, Changed, range, largest, Word}
use Rattle.std.specs.Prelude.{Some, None}
use Rattle.fields.proofs.Places.{unchanged, changed_both, place_then, place_via, place_tagged, range_any, range_below, onto, Listed, listed_starts, listed-all, listed_more, listed_ends}
use Rattle.setfile.specs.SetFile.{ItemRead, ListRead, SetLoaded}
use Rattle.setfile.proofs.SetLaws.{refs_list, warnings_list}

-- ---- an entry, a warning

-- a kind from 1 on
kind_test : (k most : ℕ) → leb 1 k && leb k most ≡ ltb k (suc most) && ltb 0 k
kind_test zero most = and_no (ltb 0 (suc most))
  where
    and_no : (b : Bool) → false ≡ b && false
    and_no true = refl
    and_no false = refl
kind_test (suc k) most =
    split (leb (suc k) most)
    (λ t. rw (le-leb 1 (suc k) (omega arith), t, lt-ltb (suc k) (suc most) (omega (arith, borrow.Author.Tests.leb-true (suc k) most t))))
    (λ t. rw (le-leb 1 (suc k) (omega arith), t, le-ltb (suc k) (suc most) (omega (arith, borrow.Author.Tests.leb-false (suc k) most t))))

kinds_read : (most : ℕ) (s : Bytes) (p : Place) → read_at (range 1 most) s p ≡ read_at (kinds (suc most)) s p
unfolding range kinds below only
kinds_read most s None = refl
kinds_read most s (Some i) = go (number.read (drop i s))
  where
    two : (a b : Bool) (k : ℕ) (t : Bytes) → cond (a && b) (got k t) fault ≡ and_then (cond a (got k t) fault) (λ k t. cond b (got k t) fault)
    two true b k t = refl
    two false b k t = refl

    go : (r : Read ℕ) → and_then r (λ k t. cond (leb 1 k && leb k most) (got k t) fault) ≡ and_then (and_then r (λ k t. cond (ltb k (suc most)) (got k t) fault)) (λ k t. cond (ltb 0 k) (got k t) fault)
    go fault = refl
    go (got k t) = rw (kind_test k most) (split (ltb k (suc most)) (λ e. rw e) (λ e. rw e))

module _ (s : Bytes) (p q r : Place) (t t1 t2 : List ℕ) (at : ℕ) where
  pub entry_read : Word 1 8 s p t at q t1 → Word 0 largest s q t1 (at + 1) r t2 → ItemRead entry ref_at 2 s p t at r t2
  unfolding entry ref_at
  entry_read x y =
      record {
        words = changed_both t t1 t2 at (at + 2) at (at + 1) (at + 1) (at + 1 + 1) x.words y.words (omega arith) (omega arith) (omega arith) (omega arith);
        is = place_via (kinds 9 ⊗ number) _ _ _ _ s p r _
            (place_then (kinds 9) number s p q r _ _ (rw (y.words.kept 0 at (inl (omega arith))) (x.is ∙ kinds_read 8 s p)) (y.is ∙ range_any s q));
      }

module _ (s : Bytes) (p q : Place) (k : ℕ) (x : got_at s q k ≡ read_at (range 0 8) s p) where
  about_none : (n : ℕ) → k ≡ 0 → got_at s q (about_of k n) ≡ read_at about s p
  unfolding about nothing
  about_none n z = rw z (place_via (tagged (below 9) abouts) _ _ _ _ s p q (0, tt) (place_tagged (below 9) abouts s p q q 0 tt (rw z at (x ∙ range_below 8 s p)) (nothing_more q)))
    where
      nothing_more : (q : Place) → got_at {A = Unit {0}} s q tt ≡ read_at (abouts 0) s q
      nothing_more None = refl
      nothing_more (Some i) = refl

  about_some : (r : Place) (n : ℕ) → (k ≡ 0 → ⊥) → got_at s r n ≡ read_at number s q → got_at s r (about_of k n) ≡ read_at about s p
  unfolding about
  about_some r n z y = go k z x
    where
      go : (k : ℕ) → (k ≡ 0 → ⊥) → got_at s q k ≡ read_at (range 0 8) s p → got_at s r (about_of k n) ≡ read_at about s p
      go zero z x = absurd (z refl)
      go (suc k) z x = place_via (tagged (below 9) abouts) _ _ _ _ s p r (suc k, n) (place_tagged (below 9) abouts s p q r (suc k) n (x ∙ range_below 8 s p) y)

module _ (s : Bytes) (p q r : Place) (t t1 t2 : List ℕ) (at : ℕ) (x : Word 1 4 s p t at q t1) (y : Word 0 8 s q t1 (at + 1) r t2) where
  pub bare_read : get_or t2 (at + 1) 0 ≡ 0 → ItemRead warning_form warning_at 3 s p t at r t2
  unfolding warning_form warning_at
  bare_read z =
      record {
        words = changed_both t t1 t2 at (at + 3) at (at + 1) (at + 1) (at + 1 + 1) x.words y.words (omega arith) (omega arith) (omega arith) (omega arith);
        is = place_via (kinds 5 ⊗ about) _ _ _ _ s p r _
            (place_then (kinds 5) about s p q r _ _ (rw (y.words.kept 0 at (inl (omega arith))) (x.is ∙ kinds_read 4 s p)) (about_none s q r _ y.is (get_or t2 (at + 2) 0) z));
      }

  pub about_read : (get_or t2 (at + 1) 0 ≡ 0 → ⊥) → (v : Place) (t3 : List ℕ) → Word 0 largest s r t2 (at + 2) v t3 → ItemRead warning_form warning_at 3 s p t at v t3
  unfolding warning_form warning_at
  about_read z v t3 w =
      let c = changed_both t t1 t2 at (at + 2) at (at + 1) (at + 1) (at + 1 + 1) x.words y.words (omega arith) (omega arith) (omega arith) (omega arith) in
      record {
        words = changed_both t t2 t3 at (at + 3) at (at + 2) (at + 2) (at + 2 + 1) c w.words (omega arith) (omega arith) (omega arith) (omega arith);
        is = place_via (kinds 5 ⊗ about) _ _ _ _ s p v _
            (place_then (kinds 5) about s p q v _ _
            (rw (w.words.kept 0 at (inl (omega arith)), y.words.kept 0 at (inl (omega arith))) (x.is ∙ kinds_read 4 s p))
            (rw (w.words.kept 0 (at + 1) (inl (omega arith))) (about_some s q r _ y.is v (get_or t3 (at + 2) 0) z (w.is ∙ range_any s r))));
      }

pub ruleset loading_entry = (entry_read)

pub ruleset loading_warning = (bare_read, about_read)

-- ---- lists

module _ {A : Type 0} (f : Format A) (get : List ℕ → ℕ → A) (w most from : ℕ) where
  -- k of n items stand in their places; the table was t₀, and the place q₀, where the items begin
  pub record Rows (s : Bytes) (t₀ : List ℕ) (q₀ : Place) (n : ℕ) (t : List ℕ) (q : Place) (k : ℕ) : Type 0 where
    pub room : from + most * w ≤ length t
    pub low : n ≤ most
    pub changed : Changed t₀ from (from + most * w) t
    pub items : Listed f s (onto f [] n s q₀) n k q (λ i. get t (from + i * w))

  -- items go by their own words
  abbrev Local : Type 0
  Local = (t t' : List ℕ) (at : ℕ) → ((j : ℕ) → at ≤ j → j < at + w → get_or t' j 0 ≡ get_or t j 0) → get t' at ≡ get t at

  rows_start : (s : Bytes) (p : Place) (old t₀ : List ℕ) (l : ℕ) (q₀ : Place) → Word 0 most s p old l q₀ t₀ → from + most * w ≤ length old → Rows s t₀ q₀ (get_or t₀ l 0) t₀ q₀ 0
  rows_start s p old t₀ l q₀ x h =
      record { room = omega (arith, x.words.long); low = x.few; changed = unchanged t₀ from (from + most * w); items = listed_starts f s (get_or t₀ l 0) q₀ (λ i. get t₀ (from + i * w)) }

  apart : (i k : ℕ) → i < k → from + i * w + w ≤ from + k * w
  apart i k h = omega (arith, suc-mul i w, mul-le-mul_right {m = suc i} {n = k} w (omega arith))

  rows_inside : (s : Bytes) (t₀ : List ℕ) (q₀ : Place) (n : ℕ) (t : List ℕ) (q : Place) (k : ℕ) → Rows s t₀ q₀ n t q k → k < n → from + k * w + w ≤ length t
  rows_inside s t₀ q₀ n t q k i h = omega (arith, i.room, i.low, apart k most (omega (arith, i.low)))

  rows_more : Local → (s : Bytes) (t₀ : List ℕ) (q₀ : Place) (n : ℕ) (t : List ℕ) (q : Place) (k : ℕ) → Rows s t₀ q₀ n t q k → k < n → (r : Place) (t' : List ℕ)
      → ItemRead f get w s q t (from + k * w) r t' → Rows s t₀ q₀ n t' r (k + 1)
  rows_more same s t₀ q₀ n t q k i h r t' x =
      record {
        room = omega (arith, i.room, x.words.long);
        low = i.low;
        changed = changed_both t₀ t t' from (from + most * w) from (from + most * w) (from + k * w) (from + k * w + w) i.changed x.words (omega arith) (omega arith) (omega arith) (omega (arith, i.low, apart k most (omega (arith, i.low))));
        items = listed_more f s _ n k q _ i.items r (λ j. get t' (from + j * w)) h
            (λ j l. same t t' (from + j * w) (λ m a b. x.words.kept 0 m (inl (omega (arith, apart j k l))))) x.is;
      }

  rows_end : (s : Bytes) (p : Place) (old t₀ : List ℕ) (l : ℕ) (q₀ : Place) → Word 0 most s p old l q₀ t₀ → l < from → (t : List ℕ) (q : Place) (k : ℕ)
      → Rows s t₀ q₀ (get_or t₀ l 0) t q k → get_or t₀ l 0 ≤ k → ListRead f get w most from l s p old q t
  rows_end s p old t₀ l q₀ x h t q k i e =
      let c : get_or t l 0 ≡ get_or t₀ l 0 = i.changed.kept 0 l (inl h) in
      record {
        long = i.changed.long ∙ x.words.long;
        kept = λ j n o. i.changed.kept 0 j o ∙ x.words.kept 0 j (beside j n);
        few = omega (arith, c, x.few);
        is = rw c (listed_ends f s _ (get_or t₀ l 0) k q _ i.items e ∙ listed-all f s most (get_or t₀ l 0) p q₀ x.is);
      }
    where
      beside : (j : ℕ) → (j ≡ l → ⊥) → (j < l) ⊎ (l + 1 ≤ j)
      beside j n = split (ltb j l) (λ y. inl (borrow.Author.Tests.ltb-true j l y)) (λ y. inr (let u = borrow.Author.Tests.ltb-false j l y in omega (arith, n)))

ref_local : (t t' : List ℕ) (at : ℕ) → ((j : ℕ) → at ≤ j → j < at + 2 → get_or t' j 0 ≡ get_or t j 0) → ref_at t' at ≡ ref_at t at
unfolding ref_at
ref_local t t' at e = rw (e at (omega arith) (omega arith), e (at + 1) (omega arith) (omega arith))

warning_local : (t t' : List ℕ) (at : ℕ) → ((j : ℕ) → at ≤ j → j < at + 3 → get_or t' j 0 ≡ get_or t j 0) → warning_at t' at ≡ warning_at t at
unfolding warning_at
warning_local t t' at e = rw (e at (omega arith) (omega arith), e (at + 1) (omega arith) (omega arith), e (at + 2) (omega arith) (omega arith))

abbrev pub Entered : ℕ → Bytes → List ℕ → Place → ℕ → List ℕ → Place → ℕ → Type 0
Entered l s t₀ q₀ n t q k = Rows entry ref_at 2 512 (4 + l * 1024) s t₀ q₀ n t q k

abbrev pub Warned : Bytes → List ℕ → Place → ℕ → List ℕ → Place → ℕ → Type 0
Warned s t₀ q₀ n t q k = Rows warning_form warning_at 3 160 3076 s t₀ q₀ n t q k

module _ (s : Bytes) (p : Place) (old t₀ : List ℕ) (q₀ : Place) (e : length old ≡ set_words) where
  module _ (l : ℕ) (h : l < 3) (x : Word 0 512 s p old l q₀ t₀) where
    pub entered_start : Entered l s t₀ q₀ (get_or t₀ l 0) t₀ q₀ 0
    entered_start = rows_start entry ref_at 2 512 (4 + l * 1024) s p old t₀ l q₀ x (omega arith)

    pub entered_end : (t : List ℕ) (q : Place) (k : ℕ) → Entered l s t₀ q₀ (get_or t₀ l 0) t q k → get_or t₀ l 0 ≤ k → ListRead entry ref_at 2 512 (4 + l * 1024) l s p old q t
    entered_end t q k i g = rows_end entry ref_at 2 512 (4 + l * 1024) s p old t₀ l q₀ x (omega arith) t q k i g

  module _ (x : Word 0 160 s p old 3 q₀ t₀) where
    pub warned_start : Warned s t₀ q₀ (get_or t₀ 3 0) t₀ q₀ 0
    warned_start = rows_start warning_form warning_at 3 160 3076 s p old t₀ 3 q₀ x (omega arith)

    pub warned_end : (t : List ℕ) (q : Place) (k : ℕ) → Warned s t₀ q₀ (get_or t₀ 3 0) t q k → get_or t₀ 3 0 ≤ k → ListRead warning_form warning_at 3 160 3076 3 s p old q t
    warned_end t q k i g = rows_end warning_form warning_at 3 160 3076 s p old t₀ 3 q₀ x (omega arith) t q k i g

module _ (s : Bytes) (t₀ : List ℕ) (q₀ : Place) (n : ℕ) (t : List ℕ) (q : Place) (k : ℕ) (h : k < n) where
  module _ (l : ℕ) (i : Entered l s t₀ q₀ n t q k) where
    pub entered_inside : 4 + l * 1024 + k * 2 + 2 ≤ length t
    entered_inside = rows_inside entry ref_at 2 512 (4 + l * 1024) s t₀ q₀ n t q k i h

    pub entered_more : (r : Place) (t' : List ℕ) → ItemRead entry ref_at 2 s q t (4 + l * 1024 + k * 2) r t' → Entered l s t₀ q₀ n t' r (k + 1)
    entered_more r t' x = rows_more entry ref_at 2 512 (4 + l * 1024) ref_local s t₀ q₀ n t q k i h r t' x

  module _ (i : Warned s t₀ q₀ n t q k) where
    pub warned_inside : 3076 + k * 3 + 3 ≤ length t
    warned_inside = rows_inside warning_form warning_at 3 160 3076 s t₀ q₀ n t q k i h

    pub warned_more : (r : Place) (t' : List ℕ) → ItemRead warning_form warning_at 3 s q t (3076 + k * 3) r t' → Warned s t₀ q₀ n t' r (k + 1)
    warned_more r t' x = rows_more warning_form warning_at 3 160 3076 warning_local s t₀ q₀ n t q k i h r t' x

pub ruleset loading_entries = (entered_start, entered_inside, entered_more, entered_end)

pub ruleset loading_warnings = (warned_start, warned_inside, warned_more, warned_end)

-- ---- the set: a list stays while those after it are loaded

-- the counts and the lists before list m are as they were
record Before (m : ℕ) (t t' : List ℕ) : Type 0 where
  pub head : (j : ℕ) → j < m → get_or t' j 0 ≡ get_or t j 0
  pub rows : (j : ℕ) → 4 ≤ j → j < 4 + m * 1024 → get_or t' j 0 ≡ get_or t j 0

before_list : {A : Type 0} (f : Format A) (get : List ℕ → ℕ → A) (w most l : ℕ) (s : Bytes) (p : Place) (t : List ℕ) (r : Place) (t' : List ℕ) → l < 4 → ListRead f get w most (4 + l * 1024) l s p t r t' → Before l t t'
before_list f get w most l s p t r t' h x =
    record {
      head = λ j u. x.kept j (λ e. let z : ⊥ = omega arith in z) (inl (omega arith));
      rows = λ j u v. x.kept j (λ e. let z : ⊥ = omega arith in z) (inl v);
    }

before_then : (m n : ℕ) (a b c : List ℕ) → m ≤ n → Before m a b → Before n b c → Before m a c
before_then m n a b c h x y = record { head = λ j u. y.head j (omega arith) ∙ x.head j u; rows = λ j u v. y.rows j u (omega arith) ∙ x.rows j u v }

list_is : (t : List ℕ) (l : ℕ) → list_in t l ≡ list_to (λ i. ref_at t (4 + l * 1024 + i * 2)) (get_or t l 0)
unfolding list_in count_in
list_is t l = refs_list t (4 + l * 1024) (get_or t l 0)

list_stays : (m : ℕ) (t t' : List ℕ) → get_or t m 0 ≤ 512 → Before (suc m) t t' → list_in t' m ≡ list_in t m
unfolding list_in count_in
list_stays m t t' h x =
    rw (x.head m (omega arith))
    (refs_same t t' (4 + m * 1024) (get_or t m 0) (λ i a b. x.rows i (omega arith) (omega arith)))

module _ (s : Bytes) (q r v z : Place) (t t1 t2 t3 t4 : List ℕ) where
  pub set_loaded : ListRead entry ref_at 2 512 4 0 s (Some 0) t q t1 → ListRead entry ref_at 2 512 1028 1 s q t1 r t2 → ListRead entry ref_at 2 512 2052 2 s r t2 v t3
      → ListRead warning_form warning_at 3 160 3076 3 s v t3 z t4 → SetLoaded s t z t4
  unfolding warnings count_in
  set_loaded a b c d =
      let b3 = before_list warning_form warning_at 3 160 3 s v t3 z t4 (omega arith) d in
      let b2 = before_then 2 3 t2 t3 t4 (omega arith) (before_list entry ref_at 2 512 2 s r t2 v t3 (omega arith) c) b3 in
      let b1 = before_then 1 2 t1 t2 t4 (omega arith) (before_list entry ref_at 2 512 1 s q t1 r t2 (omega arith) b) b2 in
      record {
        long = d.long ∙ c.long ∙ b.long ∙ a.long;
        is = place_then (list 512 entry) (list 512 entry ⊗ list 512 entry ⊗ warnings) s (Some 0) q z _ _ (rw (list_stays 0 t1 t4 a.few b1, list_is t1 0) a.is)
            (place_then (list 512 entry) (list 512 entry ⊗ warnings) s q r z _ _ (rw (list_stays 1 t2 t4 b.few b2, list_is t2 1) b.is)
            (place_then (list 512 entry) warnings s r v z _ _ (rw (list_stays 2 t3 t4 c.few b3, list_is t3 2) c.is) (rw (warnings_list t4 3076 (get_or t4 3 0)) d.is)));
      }

pub ruleset loading_set = (set_loaded)
