-- Entries, warnings and their lists, written from a table.
use Prim.Native.Nat.{ℕ, zero, suc, ◌+◌, ◌*◌, ◌≤◌, ◌<◌}
use mathlib.Core.Path.{◌≡◌, refl, sym, ◌∙◌}
use mathlib.Core.List.{List, append-nil}
use native.Mathlib.Omega.{arith}
use native.Mathlib.Nat.{mul-le-mul_right}
use lib.ListN.{length, get_or}
use Rattle.rows.specs.Lists.{list_to}
use Rattle.rows.proofs.Indexed.{tab, list_to_tab}
use Rattle.codec.specs.Format.{Bytes, ◌⊗◌, via, only, tagged, nothing}
use Rattle.codec.specs.Number.{number}
use Rattle.codec.specs.Items.{below}
use Rattle.changes.specs.ChangeFile.{max_entries, max_warnings, kinds, entry, about, warning_form, entries, warnings, change_file}
use Rattle.changes.specs.Layout.{set_words, count_in, ref_at, refs_at, warning_at, warnings_at, list_in, change_set_of}
use Rattle.fields.specs.Fields.{Place}
use Rattle.putting.specs.Putting.{PutAt}
use Rattle.putting.proofs.PutLaws.{put_then, Items, items_start, items_more, list_put}
use Rattle.setfile.specs.SetFile.{Counted}

-- ---- lists by index

refs_tab : (t : List ℕ) (from i n : ℕ) → refs_at t (from + i * 2) n ≡ tab (λ k. ref_at t (from + k * 2)) i n
unfolding refs_at tab
refs_tab t from i zero = refl
refs_tab t from i (suc n) = let e : from + i * 2 + 2 ≡ from + suc i * 2 = omega arith in rw (e, refs_tab t from (suc i) n)

pub refs_list : (t : List ℕ) (from n : ℕ) → refs_at t from n ≡ list_to (λ k. ref_at t (from + k * 2)) n
refs_list t from n = let e : from + 0 * 2 ≡ from = omega arith in (rw e at (refs_tab t from 0 n)) ∙ sym (list_to_tab (λ k. ref_at t (from + k * 2)) n)

warnings_tab : (t : List ℕ) (from i n : ℕ) → warnings_at t (from + i * 3) n ≡ tab (λ k. warning_at t (from + k * 3)) i n
unfolding warnings_at tab
warnings_tab t from i zero = refl
warnings_tab t from i (suc n) = let e : from + i * 3 + 3 ≡ from + suc i * 3 = omega arith in rw (e, warnings_tab t from (suc i) n)

pub warnings_list : (t : List ℕ) (from n : ℕ) → warnings_at t from n ≡ list_to (λ k. warning_at t (from + k * 3)) n
warnings_list t from n = let e : from + 0 * 3 ≡ from = omega arith in (rw e at (warnings_tab t from 0 n)) ∙ sym (list_to_tab (λ k. warning_at t (from + k * 3)) n)

-- ---- an entry, a warning

module _ (t : List ℕ) (at : ℕ) (old mid new : Bytes) (p q r : Place) where
  pub entry_put : PutAt (number.write (get_or t at 0)) old p q mid → PutAt (number.write (get_or t (at + 1) 0)) mid q r new → PutAt (entry.write (ref_at t at)) old p r new
  unfolding entry via ◌⊗◌ kinds below only ref_at
  entry_put x y = put_then _ _ old mid new p q r x y

  module _ (x : PutAt (number.write (get_or t at 0)) old p q mid) (y : PutAt (number.write (get_or t (at + 1) 0)) mid q r new) where
    pub bare_put : get_or t (at + 1) 0 ≡ 0 → PutAt (warning_form.write (warning_at t at)) old p r new
    unfolding warning_form about via ◌⊗◌ tagged kinds below only nothing warning_at
    bare_put z = rw z (rw append-nil (put_then _ _ old mid new p q r x (rw z at y)))

    pub about_put : (last : Bytes) (s : Place) → (get_or t (at + 1) 0 ≡ 0 → ⊥) → PutAt (number.write (get_or t (at + 2) 0)) new r s last → PutAt (warning_form.write (warning_at t at)) old p s last
    unfolding warning_form about via ◌⊗◌ tagged kinds below only nothing warning_at
    about_put last s h z = go (get_or t (at + 1) 0) refl h
      where
        go : (k : ℕ) → get_or t (at + 1) 0 ≡ k → (k ≡ 0 → ⊥) → PutAt (warning_form.write (warning_at t at)) old p s last
        go zero e f = absurd (f refl)
        go (suc k) e f = rw e (put_then _ _ old mid last p q s x (put_then _ _ mid new last q r s (rw e at y) z))

pub ruleset putting_entry = (entry_put)

pub ruleset putting_warning = (bare_put, about_put)

-- ---- lists

module _ (t : List ℕ) (from n : ℕ) where
  abbrev pub Entered : Bytes → Place → Bytes → Place → ℕ → Type 0
  Entered old p out q k = Items entry.write (λ i. ref_at t (from + i * 2)) n old p out q k

  abbrev pub Warned : Bytes → Place → Bytes → Place → ℕ → Type 0
  Warned old p out q k = Items warning_form.write (λ i. warning_at t (from + i * 3)) n old p out q k

  module _ (old mid : Bytes) (p q : Place) (x : PutAt (number.write n) old p q mid) where
    pub entered_start : Entered mid q mid q 0
    entered_start = items_start _ _ n _ old mid p q x

    pub warned_start : Warned mid q mid q 0
    warned_start = items_start _ _ n _ old mid p q x

    module _ (new : Bytes) (r : Place) (k : ℕ) where
      pub entered_end : Entered mid q new r k → n ≤ k → PutAt (entries.write (refs_at t from n)) old p r new
      unfolding entries only
      entered_end i h = rw (refs_list t from n) (list_put entry max_entries _ n old mid new p q r k x i h)

      pub warned_end : Warned mid q new r k → n ≤ k → PutAt (warnings.write (warnings_at t from n)) old p r new
      unfolding warnings
      warned_end i h = rw (warnings_list t from n) (list_put warning_form max_warnings _ n old mid new p q r k x i h)

  module _ (old out new : Bytes) (p q r : Place) (k : ℕ) where
    pub entered_more : Entered old p out q k → k < n → PutAt (entry.write (ref_at t (from + k * 2))) out q r new → Entered old p new r (k + 1)
    entered_more i h x = items_more _ _ n old out new p q r k i h x

    pub warned_more : Warned old p out q k → k < n → PutAt (warning_form.write (warning_at t (from + k * 3))) out q r new → Warned old p new r (k + 1)
    warned_more i h x = items_more _ _ n old out new p q r k i h x

  pub word_inside : (k w : ℕ) → from + n * w ≤ length t → k < n → from + k * w + w ≤ length t
  word_inside k w h l = omega (arith, mul-le-mul_right {m = suc k} {n = n} w (omega arith))

pub ruleset putting_entries = (entered_start, entered_more, entered_end)

pub ruleset putting_warnings = (warned_start, warned_more, warned_end)

-- ---- the set

module _ (t : List ℕ) (c : Counted t) where
  room : (l : ℕ) → l < 3 → (n : ℕ) → n ≡ get_or t l 0 → 4 + l * 1024 + n * 2 ≤ length t
  unfolding count_in
  room l h n e = omega (arith, c.lists.few l h, c.lists.size)

  pub created_room : (n : ℕ) → n ≡ get_or t 0 0 → 4 + n * 2 ≤ length t
  created_room n e = room 0 (omega arith) n e

  pub modified_room : (n : ℕ) → n ≡ get_or t 1 0 → 1028 + n * 2 ≤ length t
  modified_room n e = room 1 (omega arith) n e

  pub deleted_room : (n : ℕ) → n ≡ get_or t 2 0 → 2052 + n * 2 ≤ length t
  deleted_room n e = room 2 (omega arith) n e

  pub set_long : length t ≡ set_words
  set_long = c.lists.size

  pub warnings_room : (n : ℕ) → n ≡ get_or t 3 0 → 3076 + n * 3 ≤ length t
  unfolding count_in
  warnings_room n e = omega (arith, c.warnings, c.lists.size)

module _ (t : List ℕ) (a b c d : ℕ) (o o1 o2 o3 o4 : Bytes) (p p1 p2 p3 p4 : Place) where
  pub set_put : a ≡ get_or t 0 0 → b ≡ get_or t 1 0 → c ≡ get_or t 2 0 → d ≡ get_or t 3 0
      → PutAt (entries.write (refs_at t 4 a)) o p p1 o1 → PutAt (entries.write (refs_at t 1028 b)) o1 p1 p2 o2 → PutAt (entries.write (refs_at t 2052 c)) o2 p2 p3 o3
      → PutAt (warnings.write (warnings_at t 3076 d)) o3 p3 p4 o4 → PutAt (change_file.write (change_set_of t)) o p p4 o4
  unfolding change_file only via ◌⊗◌ change_set_of list_in count_in
  set_put ea eb ec ed w x y z =
      rw (← ea, ← eb, ← ec, ← ed) (put_then _ _ o o1 o4 p p1 p4 w (put_then _ _ o1 o2 o4 p1 p2 p4 x (put_then _ _ o2 o3 o4 p2 p3 p4 y z)))

pub ruleset putting_set = (created_room, modified_room, deleted_room, set_long, warnings_room, set_put)
