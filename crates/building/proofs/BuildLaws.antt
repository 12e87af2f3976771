-- Entries and warnings added to a table, and the empty set.
use mathlib.Core.Path.{◌≡◌, refl, sym, ap, ap₂, ◌∙◌}
use mathlib.Core.Bool.{Bool, true, false}
use mathlib.Core.List.{List, [], ◌∷◌, ◌++◌}
use Prim.Native.Nat.{ℕ, zero, suc, ◌+◌, ◌*◌, ◌≤◌, ◌<◌}
use native.Mathlib.Omega.{arith}
use lib.Dec.{eqb, ltb}
use lib.ListN.{length, get_or, set, length-set, length-append}
use lib.Seq.{get_or-set_same, get_or-set_other, set-get_or}
use borrow.Author.Tests.{eqb-true, eqb-false, ltb-true, ltb-false}
use Rattle.map.specs.Entity.{EntityRef}
use Rattle.changes.specs.ChangeSet.{Warning, warning, no_changes, tally_of}
use Rattle.changes.specs.ChangeFile.{max_entries, max_warnings}
use Rattle.changes.specs.Layout.{from_of, set_words, count_in, ref_at, refs_at, about_of, warning_at, warnings_at, list_in, change_set_of}
use Rattle.changes.specs.Walk.{put_ref, written}
use Rattle.changes.proofs.WrittenLaws.{refs_same, warnings_same}
use Rattle.sets.specs.Tables.{Roomy, put_list}
use Rattle.sets.proofs.SettleLaws.{length_in}
use Rattle.sets.proofs.TableLaws.{size_put, count_put, count_kept, list_put, list_before, list_past, warnings_kept}
use Rattle.building.specs.Build.{Cleared, with_entry, EntryAdded, put_warning, with_warning, WarningAdded}

pub told : (f : List ℕ) → record { created = get_or f 0 0; modified = get_or f 1 0; deleted = get_or f 2 0 } ≡ tally_of (change_set_of f)
unfolding tally_of change_set_of count_in
told f = rw (length_in f 0, length_in f 1, length_in f 2)

-- ---- nothing
none_counted : (s : List ℕ) → length s ≡ set_words → (l : ℕ) → l < 4 → count_in (set (set (set (set s 0 0) 1 0) 2 0) 3 0) l ≡ 0
unfolding count_in
none_counted s h zero k = get_or-set_other (set (set (set s 0 0) 1 0) 2 0) 3 0 0 0 (λ e. omega arith) ∙ get_or-set_other (set (set s 0 0) 1 0) 2 0 0 0 (λ e. omega arith)
    ∙ get_or-set_other (set s 0 0) 1 0 0 0 (λ e. omega arith) ∙ get_or-set_same s 0 0 0 (omega arith)
none_counted s h (suc zero) k = get_or-set_other (set (set (set s 0 0) 1 0) 2 0) 3 1 0 0 (λ e. omega arith) ∙ get_or-set_other (set (set s 0 0) 1 0) 2 1 0 0 (λ e. omega arith)
    ∙ get_or-set_same (set s 0 0) 1 0 0 (simp length-set (omega arith))
none_counted s h (suc (suc zero)) k = get_or-set_other (set (set (set s 0 0) 1 0) 2 0) 3 2 0 0 (λ e. omega arith) ∙ get_or-set_same (set (set s 0 0) 1 0) 2 0 0 (simp length-set (omega arith))
none_counted s h (suc (suc (suc zero))) k = get_or-set_same (set (set (set s 0 0) 1 0) 2 0) 3 0 0 (simp length-set (omega arith))
none_counted s h (suc (suc (suc (suc l)))) k = absurd (omega arith)

-- a table of no entries
none_listed : (s : List ℕ) → ((l : ℕ) → l < 4 → count_in s l ≡ 0) → change_set_of s ≡ no_changes
unfolding change_set_of list_in refs_at warnings_at
none_listed s f = rw (f 0 (omega arith), f 1 (omega arith), f 2 (omega arith), f 3 (omega arith))

pub cleared : (s : List ℕ) → length s ≡ set_words → Cleared (set (set (set (set s 0 0) 1 0) 2 0) 3 0)
cleared s h = record {
  size = simp length-set h;
  room = record { size = simp length-set h; few = λ l k. let u = none_counted s h l (omega arith) in omega arith };
  set = none_listed _ (none_counted s h);
  none = none_counted s h;
}

-- ---- an entry more
put_self : (w : List ℕ) (p : ℕ) → put_ref w p (ref_at w p) ≡ w
unfolding put_ref ref_at
put_self w p = rw (set-get_or w p 0) (set-get_or w (p + 1) 0)

written_more : (w : List ℕ) (p n : ℕ) (a : EntityRef) → written w p (refs_at w p n ++ a ∷ []) ≡ put_ref w (p + n * 2) a
unfolding written refs_at
written_more w p zero a = let q : p + 0 * 2 ≡ p = omega arith in rw q
written_more w p (suc n) a =
    let q : p + suc n * 2 ≡ p + 2 + n * 2 = omega arith in
    ap (λ (v : List ℕ). written v (p + 2) (refs_at w (p + 2) n ++ a ∷ [])) (put_self w p) ∙ written_more w (p + 2) n a ∙ ap (λ (i : ℕ). put_ref w i a) (sym q)

pushed : (s : List ℕ) (l n : ℕ) (a : EntityRef) → n ≡ get_or s l 0 → set (put_ref s (from_of l + n * 2) a) l (n + 1) ≡ put_list s l (list_in s l ++ a ∷ [])
unfolding put_list list_in count_in
pushed s l n a e = ap₂ {C = List ℕ} (λ (w : List ℕ) (m : ℕ). set w l m)
    (sym (written_more s (from_of l) n a) ∙ ap (λ (m : ℕ). written s (from_of l) (refs_at s (from_of l) m ++ a ∷ [])) e)
    (let d = length-append (list_in s l) (a ∷ []) in let b = length_in s l in omega arith)

pub push_few : (s : List ℕ) (l w n : ℕ) → w ≡ l → n ≡ get_or s w 0 → count_in s l < max_entries → n < max_entries
unfolding count_in
push_few s l w n d e h = omega (arith, rw d at e)

module _ (s : List ℕ) (l : ℕ) (a : EntityRef) (r : Roomy s) (h : l < 3) (k : count_in s l < max_entries) where
  more : length (list_in s l ++ a ∷ []) ≡ count_in s l + 1
  more = let u = length-append (list_in s l) (a ∷ []) in let v = length_in s l in omega arith

  within : length (list_in s l ++ a ∷ []) ≤ max_entries
  within = let u = more in omega arith

  kept : (m : ℕ) → m < 4 → (m ≡ l → ⊥) → count_in (put_list s l (list_in s l ++ a ∷ [])) m ≡ count_in s m
  kept = count_kept s l (list_in s l ++ a ∷ []) h within r.size

  counted : count_in (put_list s l (list_in s l ++ a ∷ [])) l ≡ count_in s l + 1
  counted = count_put s l (list_in s l ++ a ∷ []) h within r.size ∙ more

  few_still : (m : ℕ) → m < 3 → count_in (put_list s l (list_in s l ++ a ∷ [])) m ≤ max_entries
  few_still m q = go (eqb m l) refl
    where
      go : (b : Bool) → eqb m l ≡ b → count_in (put_list s l (list_in s l ++ a ∷ [])) m ≤ max_entries
      go true e = let d = eqb-true m l e in rw d (let u = counted in omega arith)
      go false e = let u = kept m (omega arith) (eqb-false m l e) in let v = r.few m q in omega arith

  other : (m : ℕ) → m < 3 → (m ≡ l → ⊥) → list_in (put_list s l (list_in s l ++ a ∷ [])) m ≡ list_in s m
  other m q f = go (ltb m l) refl
    where
      go : (b : Bool) → ltb m l ≡ b → list_in (put_list s l (list_in s l ++ a ∷ [])) m ≡ list_in s m
      go true e = list_before s l (list_in s l ++ a ∷ []) h within r.size m (ltb-true m l e) (r.few m q)
      go false e = list_past s l (list_in s l ++ a ∷ []) h within r.size m (let u = ltb-false m l e in omega (arith, f)) q (r.few m q)

  listed : list_in (put_list s l (list_in s l ++ a ∷ [])) l ≡ list_in s l ++ a ∷ []
  listed = list_put s l (list_in s l ++ a ∷ []) h within r.size

  quiet : warnings_at (put_list s l (list_in s l ++ a ∷ [])) (from_of 3) (count_in (put_list s l (list_in s l ++ a ∷ [])) 3) ≡ warnings_at s (from_of 3) (count_in s 3)
  quiet = rw (kept 3 (omega arith) (λ e. omega arith)) (warnings_kept s l (list_in s l ++ a ∷ []) h within r.size (count_in s 3))

set_pushed : (s : List ℕ) (l : ℕ) (a : EntityRef) → Roomy s → l < 3 → count_in s l < max_entries → change_set_of (put_list s l (list_in s l ++ a ∷ [])) ≡ with_entry (change_set_of s) l a
unfolding change_set_of
set_pushed s zero a r h k = rw (listed s 0 a r h k, other s 0 a r h k 1 (omega arith) (λ e. omega arith), other s 0 a r h k 2 (omega arith) (λ e. omega arith), quiet s 0 a r h k)
set_pushed s (suc zero) a r h k = rw (listed s 1 a r h k, other s 1 a r h k 0 (omega arith) (λ e. omega arith), other s 1 a r h k 2 (omega arith) (λ e. omega arith), quiet s 1 a r h k)
set_pushed s (suc (suc zero)) a r h k = rw (listed s 2 a r h k, other s 2 a r h k 0 (omega arith) (λ e. omega arith), other s 2 a r h k 1 (omega arith) (λ e. omega arith), quiet s 2 a r h k)
set_pushed s (suc (suc (suc l))) a r h k = absurd (omega arith)

pub entry_added : (s : List ℕ) (l w p n : ℕ) (a : EntityRef) (s' : List ℕ) → Roomy s → l < 3 → count_in s l < max_entries → w ≡ l → p ≡ from_of l → n ≡ get_or s w 0
    → s' ≡ put_ref s (p + n * 2) a → EntryAdded s l a (set s' w (n + 1))
entry_added s l w p n a s' r h f d q e g = rw (d, g, q, pushed s l n a (rw d at e)) (record {
  memory = refl;
  room = record { size = size_put s l _ h (within s l a r h f) r.size; few = few_still s l a r h f };
  set = set_pushed s l a r h f;
  count = counted s l a r h f;
  others = kept s l a r h f;
})

-- ---- a warning more
pub warn_few : (s : List ℕ) (n : ℕ) → n ≡ get_or s 3 0 → count_in s 3 < max_warnings → n < max_warnings
unfolding count_in
warn_few s n e h = omega arith

warned : (s : List ℕ) (n c k x : ℕ) → n ≡ get_or s 3 0
    → set (set (set (set s (from_of 3 + n * 3) c) (from_of 3 + n * 3 + 1) k) (from_of 3 + n * 3 + 2) x) 3 (n + 1) ≡ put_warning s c k x
unfolding put_warning count_in
warned s n c k x e = rw e

warnings_more : (w : List ℕ) (p n : ℕ) → warnings_at w p (n + 1) ≡ warnings_at w p n ++ warning_at w (p + n * 3) ∷ []
unfolding warnings_at
warnings_more w p zero = let q : p + 0 * 3 ≡ p = omega arith in rw q
warnings_more w p (suc n) = let q : p + suc n * 3 ≡ p + 3 + n * 3 = omega arith in let d : suc n + 1 ≡ suc (n + 1) = omega arith in rw (q, d) (ap (λ (l : List Warning). warning_at w p ∷ l) (warnings_more w (p + 3) n))

-- three words from p on, and word 3
module _ (s : List ℕ) (p c k x v : ℕ) where
  word_other : (i : ℕ) → (i ≡ 3 → ⊥) → (i ≡ p → ⊥) → (i ≡ p + 1 → ⊥) → (i ≡ p + 2 → ⊥) → get_or (set (set (set (set s p c) (p + 1) k) (p + 2) x) 3 v) i 0 ≡ get_or s i 0
  word_other i f a b d =
      get_or-set_other (set (set (set s p c) (p + 1) k) (p + 2) x) 3 i v 0 f ∙ get_or-set_other (set (set s p c) (p + 1) k) (p + 2) i x 0 d ∙ get_or-set_other (set s p c) (p + 1) i k 0 b
      ∙ get_or-set_other s p i c 0 a

  warning_put : 3 < p → p + 2 < length s → warning_at (set (set (set (set s p c) (p + 1) k) (p + 2) x) 3 v) p ≡ warning c (about_of k x)
  unfolding warning_at
  warning_put h l =
      rw (
        get_or-set_other (set (set (set s p c) (p + 1) k) (p + 2) x) 3 p v 0 (λ e. omega arith),
        get_or-set_other (set (set (set s p c) (p + 1) k) (p + 2) x) 3 (p + 1) v 0 (λ e. omega arith),
        get_or-set_other (set (set (set s p c) (p + 1) k) (p + 2) x) 3 (p + 2) v 0 (λ e. omega arith),
        get_or-set_other (set (set s p c) (p + 1) k) (p + 2) p x 0 (λ e. omega arith),
        get_or-set_other (set (set s p c) (p + 1) k) (p + 2) (p + 1) x 0 (λ e. omega arith),
        get_or-set_same (set (set s p c) (p + 1) k) (p + 2) x 0 (simp length-set l),
        get_or-set_other (set s p c) (p + 1) p k 0 (λ e. omega arith),
        get_or-set_same (set s p c) (p + 1) k 0 (simp length-set (omega arith)),
        get_or-set_same s p c 0 (omega arith),
      )

module _ (s : List ℕ) (c k x : ℕ) (r : Roomy s) (h : count_in s 3 < max_warnings) where
  -- any word before the new warning but the count
  word_kept : (i : ℕ) → (i ≡ 3 → ⊥) → i < from_of 3 + count_in s 3 * 3 → get_or (put_warning s c k x) i 0 ≡ get_or s i 0
  unfolding put_warning
  word_kept i f l = word_other s (from_of 3 + count_in s 3 * 3) c k x (count_in s 3 + 1) i f (λ e. omega arith) (λ e. omega arith) (λ e. omega arith)

  pub warn_size : length (put_warning s c k x) ≡ set_words
  unfolding put_warning
  warn_size = simp length-set r.size

  pub warn_count : count_in (put_warning s c k x) 3 ≡ count_in s 3 + 1
  unfolding put_warning count_in
  warn_count = let u = r.size in get_or-set_same (set (set (set s (from_of 3 + get_or s 3 0 * 3) c) (from_of 3 + get_or s 3 0 * 3 + 1) k) (from_of 3 + get_or s 3 0 * 3 + 2) x) 3 (get_or s 3 0 + 1) 0 (simp length-set (omega arith))

  pub warn_others : (m : ℕ) → m < 3 → count_in (put_warning s c k x) m ≡ count_in s m
  unfolding count_in
  warn_others m q = word_kept m (λ e. omega arith) (omega arith)

  warn_lists : (m : ℕ) → m < 3 → list_in (put_warning s c k x) m ≡ list_in s m
  unfolding list_in
  warn_lists m q = rw (warn_others m q) (refs_same s (put_warning s c k x) (from_of m) (count_in s m) (λ i a b. word_kept i (λ e. omega arith) (let u = r.few m q in omega arith)))

  warn_new : warning_at (put_warning s c k x) (from_of 3 + count_in s 3 * 3) ≡ warning c (about_of k x)
  unfolding put_warning
  warn_new = let u = r.size in warning_put s (from_of 3 + count_in s 3 * 3) c k x (count_in s 3 + 1) (omega arith) (omega arith)

  warn_list : warnings_at (put_warning s c k x) (from_of 3) (count_in (put_warning s c k x) 3) ≡ warnings_at s (from_of 3) (count_in s 3) ++ warning c (about_of k x) ∷ []
  warn_list = rw (warn_count, warnings_more (put_warning s c k x) (from_of 3) (count_in s 3), warn_new)
      (ap (λ (l : List Warning). l ++ warning c (about_of k x) ∷ []) (warnings_same s (put_warning s c k x) (from_of 3) (count_in s 3) (λ i a b. word_kept i (λ e. omega arith) (omega arith))))

  warn_set : change_set_of (put_warning s c k x) ≡ with_warning (change_set_of s) (warning c (about_of k x))
  unfolding change_set_of
  warn_set = rw (warn_lists 0 (omega arith), warn_lists 1 (omega arith), warn_lists 2 (omega arith), warn_list)

  warn_room : Roomy (put_warning s c k x)
  warn_room = record { size = warn_size; few = λ m q. let u = warn_others m q in let v = r.few m q in omega arith }

pub warning_added : (s : List ℕ) (n c : ℕ) (a : EntityRef) (s' : List ℕ) → Roomy s → count_in s 3 < max_warnings → n ≡ get_or s 3 0 → s' ≡ put_ref (set s (from_of 3 + n * 3) c) (from_of 3 + n * 3 + 1) a
    → WarningAdded s c a.kind a.num (set s' 3 (n + 1))
unfolding put_ref
warning_added s n c a s' r h e g =
    let p : from_of 3 + n * 3 + 1 + 1 ≡ from_of 3 + n * 3 + 2 = omega arith in
    rw (g, p, warned s n c a.kind a.num e) (record {
      memory = refl;
      room = warn_room s c a.kind a.num r h;
      set = warn_set s c a.kind a.num r h;
      count = warn_count s c a.kind a.num r h;
      others = warn_others s c a.kind a.num r h;
    })
