-- When a list in flat words is one of a change set, entry by entry; and that such a list can be walked.
use mathlib.Core.Path.{◌≡◌, refl, sym, ap, ◌∙◌}
use mathlib.Core.Bool.{Bool, true, false, not, ◌&&◌}
use mathlib.Core.List.{List, [], ◌∷◌}
use Prim.Native.Nat.{ℕ, zero, suc, ◌+◌, ◌-◌, ◌*◌, ◌^◌, ◌≤◌, ◌<◌, Ordering}
use native.Mathlib.Omega.{arith}
use Rattle.std.proofs.Common.{◌⊎◌, ⊎_elim}
use Rattle.std.specs.Ordering.{is_lt}
use lib.ListN.{length}
use borrow.Author.Tests.{lt-ltb, ltb-true, le-leb, leb-true}
use Rattle.rows.specs.Lists.{every}
use Rattle.rows.proofs.Bools.{parts, and_i, and_no, agree}
use Rattle.codec.specs.Format.{◌⊗◌, only, via}
use Rattle.codec.specs.Items.{below}
use Rattle.codec.proofs.Fits.{list_each, list_few}
use Rattle.map.specs.Entity.{EntityRef, entity, compare_refs}
use Rattle.std.specs.declared.cmp.Ordering.{Ordering as Order}
use Rattle.changes.specs.Order.{order_of}
use Rattle.changes.specs.ChangeFile.{max_entries, is_before, rise_after, rising_refs, kinds, entry, entries}
use Rattle.changes.specs.Layout.{ref_at, refs_at}
use Rattle.changes.specs.Walk.{refs_to, Walks}
use Rattle.changes.proofs.Refs.{by_kind, before, rise_rising}
use Rattle.changes.proofs.Entries.{entry_fits, entries_fit}

-- ---- one entry
pub entry_kind : (a : EntityRef) → entry.fits a ≡ true → 1 ≤ a.kind
unfolding entry via ◌⊗◌ kinds only
entry_kind a h = let u = ltb-true 0 a.kind (search parts) in omega arith

pub entry_low : (a : EntityRef) → entry.fits a ≡ true → a.kind < 9
unfolding entry via ◌⊗◌ kinds below only
entry_low a h = ltb-true a.kind 9 (search parts)

not_fits : (a : EntityRef) → (entry.fits a ≡ true → ⊥) → entry.fits a ≡ false
not_fits a f = go (entry.fits a) refl
  where
    go : (b : Bool) → entry.fits a ≡ b → b ≡ false
    go true e = absurd (f e)
    go false e = refl

module _ (a b : EntityRef) where
  pub follows_not : b.kind ≡ 0 ⊎ 8 < b.kind → false ≡ (is_before (compare_refs a b) && entry.fits b)
  follows_not z = rw (not_fits b (λ h. let u = entry_kind b h in let v = entry_low b h in ⊎_elim (λ e. omega arith) (λ e. omega arith) z)) (sym (and_no (is_before (compare_refs a b))))

  lt_told : (o : Ordering) → is_lt (order_of o) ≡ is_before o
  unfolding is_before
  lt_told Ordering.lt = refl
  lt_told Ordering.eq = refl
  lt_told Ordering.gt = refl

  pub follows_told : (r : Order) (s : Bool) → (b.kind ≡ 0 → ⊥) → b.kind ≤ 8 → b.num < 2 ^ 64 → r ≡ order_of (compare_refs a b) → s ≡ is_lt r → s ≡ (is_before (compare_refs a b) && entry.fits b)
  follows_told r s z l n h e = rw (entry_fits b (and_i _ _ (lt-ltb 0 b.kind (omega (arith, z))) (lt-ltb b.kind 9 (omega arith))) n, and_yes (is_before (compare_refs a b))) (e ∙ ap is_lt h ∙ lt_told (compare_refs a b))
    where
      and_yes : (p : Bool) → (p && true) ≡ p
      and_yes true = refl
      and_yes false = refl

pub ruleset following = (follows_not, follows_told)

-- ---- all entries, each after the one before it
unfoldable pub good_after : EntityRef → List EntityRef → Bool
good_after a [] = true
good_after a (b ∷ r) = (is_before (compare_refs a b) && entry.fits b) && good_after b r

good_rises : (a : EntityRef) (xs : List EntityRef) → good_after a xs ≡ true → rise_after a xs ≡ true
unfolding good_after rise_after
good_rises a [] h = refl
good_rises a (b ∷ r) h = and_i (is_before (compare_refs a b)) _ (search parts) (good_rises b r (search parts))

good_each : (a : EntityRef) (xs : List EntityRef) → good_after a xs ≡ true → every entry.fits xs ≡ true
unfolding good_after every
good_each a [] h = refl
good_each a (b ∷ r) h = and_i (entry.fits b) _ (search parts) (good_each b r (search parts))

both_good : (a : EntityRef) (xs : List EntityRef) → rise_after a xs ≡ true → every entry.fits xs ≡ true → good_after a xs ≡ true
unfolding good_after rise_after every
both_good a [] h k = refl
both_good a (b ∷ r) h k = and_i _ _ (and_i (is_before (compare_refs a b)) (entry.fits b) (search parts) (search parts)) (both_good b r (search parts) (search parts))

from_none : (xs : List EntityRef) → rising_refs xs ≡ true → every entry.fits xs ≡ true → rise_after (entity 0 0) xs ≡ true
unfolding rise_after rising_refs every
from_none [] r e = refl
from_none (b ∷ xs) r e = and_i _ _ (before (by_kind (let u = entry_kind b (search parts) in omega arith))) r

pub entries_rise : (xs : List EntityRef) → entries.fits xs ≡ true → rising_refs xs ≡ true
unfolding entries only
entries_rise xs h = search parts

pub entries_each : (xs : List EntityRef) → entries.fits xs ≡ true → every entry.fits xs ≡ true
unfolding entries only
entries_each xs h = list_each max_entries entry xs (search parts)

pub entries_few : (xs : List EntityRef) → entries.fits xs ≡ true → length xs ≤ 512
unfolding entries only
entries_few xs h = leb-true (length xs) 512 (list_few max_entries entry xs (search parts))

good_entries : (xs : List EntityRef) → length xs ≤ 512 → entries.fits xs ≡ good_after (entity 0 0) xs
good_entries xs l = agree _ _
    (λ h. both_good (entity 0 0) xs (from_none xs (entries_rise xs h) (entries_each xs h)) (entries_each xs h))
    (λ h. entries_fit xs (rise_rising (entity 0 0) xs (good_rises (entity 0 0) xs h)) (good_each (entity 0 0) xs h) (le-leb (length xs) 512 l))

-- ---- in flat words
pub length_refs : (t : List ℕ) (p n : ℕ) → length (refs_at t p n) ≡ n
unfolding refs_at
length_refs t p zero = refl
length_refs t p (suc n) = ap suc (length_refs t (p + 2) n)

pub refs_at_lem : (t : List ℕ) (p n : ℕ) → refs_to t (p + n * 2) n ≡ refs_at t p n
unfolding refs_to
refs_at_lem t p n = let q : p + n * 2 - n * 2 ≡ p = omega arith in rw q

-- i of n entries are tested, the last of them k, x
pub record Checking (b : Bool) (t : List ℕ) (p n i : ℕ) (a : EntityRef) : Type 0 where
  pub room : p + 1024 ≤ length t
  pub few : n ≤ 512
  pub within : i ≤ n
  pub goes : good_after a (refs_at t (p + i * 2) (n - i)) ≡ b

pub checking_many : (t : List ℕ) (p n : ℕ) → 512 < n → false ≡ entries.fits (refs_at t p n)
checking_many t p n h = go (entries.fits (refs_at t p n)) refl
  where
    go : (b : Bool) → entries.fits (refs_at t p n) ≡ b → false ≡ b
    go true e = let u = entries_few (refs_at t p n) e in let v = length_refs t p n in absurd (omega arith)
    go false e = refl

pub checking_start : (t : List ℕ) (p n : ℕ) → p + 1024 ≤ length t → n ≤ 512 → Checking (entries.fits (refs_at t p n)) t p n 0 (entity 0 0)
checking_start t p n h l = record {
  room = h;
  few = l;
  within = omega arith;
  goes = let q : p + 0 * 2 ≡ p = omega arith in let r : n - 0 ≡ n = omega arith in rw (q, r) (sym (good_entries (refs_at t p n) (let u = length_refs t p n in omega arith)));
}

module _ (b : Bool) (t : List ℕ) (p n i : ℕ) (a : EntityRef) (c : Checking b t p n i a) (o : i < n) (e : EntityRef) (s : e ≡ ref_at t (p + i * 2)) (r : Bool) (h : r ≡ (is_before (compare_refs a e) && entry.fits e)) where
  turn : (r && good_after e (refs_at t (p + (i + 1) * 2) (n - (i + 1)))) ≡ b
  unfolding good_after refs_at
  turn =
      let q : n - i ≡ suc (n - (i + 1)) = omega arith in
      let u : p + i * 2 + 2 ≡ p + (i + 1) * 2 = omega arith in
      rw (h, s) (rw (q, u) at c.goes)

  pub checking_stop : not r ≡ true → false ≡ b
  checking_stop n = rw (no r n) at turn
    where
      no : (q : Bool) → not q ≡ true → q ≡ false
      no true z = sym z
      no false z = refl

  pub checking_more : not r ≡ false → Checking b t p n (i + 1) e
  checking_more m = record { room = c.room; few = c.few; within = omega arith; goes = rw (yes_it r m) at turn }
    where
      yes_it : (q : Bool) → not q ≡ false → q ≡ true
      yes_it true z = refl
      yes_it false z = sym z

pub checking_end : (b : Bool) (t : List ℕ) (p n i : ℕ) (a : EntityRef) → Checking b t p n i a → i ≡ n → true ≡ b
unfolding good_after refs_at
checking_end b t p n i a c h = let q : n - i ≡ 0 = omega arith in rw q at c.goes

pub ruleset checking = (checking_many, checking_start, checking_stop, checking_more, checking_end)

-- a list of a change set can be walked
pub walks_entries : (t : List ℕ) (p n : ℕ) → p + 1024 ≤ length t → entries.fits (refs_at t p n) ≡ true → Walks t (p + n * 2) n
walks_entries t p n h e =
    let u = entries_few (refs_at t p n) e in
    let v = length_refs t p n in
    record { starts = omega arith; ends = omega arith; rises = rw (refs_at_lem t p n) (entries_rise (refs_at t p n) e) }
