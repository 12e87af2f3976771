-- A form that is put into a buffer once its size is known to be there.
use Prim.Native.Nat.{ℕ, ◌+◌, ◌^◌, ◌≤◌, ◌<◌}
use mathlib.Core.Path.{◌≡◌, refl, sym, ◌∙◌}
use mathlib.Core.Bool.{Bool, true, false, not, ◌&&◌, cond}
use mathlib.Core.List.{List, [], ◌++◌}
use native.Mathlib.Omega.{arith}
use lib.Dec.{ltb, eqb}
use lib.Ieee.{Float}
use lib.ListN.{length, drop}
use lib.Seq.{sets-eq}
use borrow.Author.Tests.{lt-ltb, le-ltb, ltb-false, leb-true}
use Rattle.std.proofs.Common.{Ok, Err}
use Rattle.refusal.specs.Answer.{Answer, refused, done, ◌>>◌, refuse_when}
use Rattle.refusal.specs.declared.Refusal.TheVariants.{BadMap, BadSet, ShortBuffer}
use Rattle.rows.proofs.Bools.{and_l, and_r, clash}
use Rattle.codec.specs.Format.{Bytes}
use Rattle.codec.proofs.Fits.{list_few}
use Rattle.fields.specs.Fields.{Place}
use Rattle.std.specs.Prelude.{Some, None}
use Rattle.putting.specs.Putting.{ahead, PutAt}
use Rattle.putting.proofs.PutLaws.{lost_place, same_place}
use Rattle.changes.specs.ChangeFile.{max_warnings, warning_form, warnings, change_file, is_set, lists_ok}
use Rattle.changes.specs.Layout.{set_words, count_in, warnings_at, change_set_of, lists_ok_in, is_set_in}
use Rattle.sets.proofs.TableLaws.{fits_ok}
use Rattle.set_tests.proofs.SetLaws.{set-parts, length-warnings}
use Rattle.setfile.specs.SetFile.{Counted}
use Rattle.store.specs.Layout.{all_words, all_coords, Sized}
use Rattle.map.specs.MapFile.{map_file, is_map}
use Rattle.map.specs.Tables.{map_of, is_map_tables}
use Rattle.map.proofs.SoundLaws.{sound}
use Rattle.files.specs.Files.{put_in, write_map, write_changes}
use Rattle.files.specs.WriteOut.{FileWritten, write_set, ChangesWritten, write_tables, MapWritten}

-- ---- the size, and the form in its place

module _ (form a b : Bytes) (q : Place) (x : PutAt form a (Some 0) q b) where
  lost : q ≡ None → 2 ^ 64 ≤ length form
  unfolding ahead
  lost e = go (ltb (0 + length form) (2 ^ 64)) refl (sym e ∙ x.next)
    where
      go : (t : Bool) → ltb (0 + length form) (2 ^ 64) ≡ t → None ≡ cond t (Some (0 + length form)) None → 2 ^ 64 ≤ length form
      go true z y = absurd (lost_place y)
      go false z y = omega (arith, ltb-false (0 + length form) (2 ^ 64) z)

  sized : (n : ℕ) → q ≡ Some n → n ≡ length form
  unfolding ahead
  sized n e = go (ltb (0 + length form) (2 ^ 64)) (sym e ∙ x.next)
    where
      go : (t : Bool) → Some n ≡ cond t (Some (0 + length form)) None → n ≡ length form
      go true y = omega (arith, same_place y)
      go false y = absurd (lost_place (sym y))

  module _ (old : Bytes) where
    too_long : length old < 2 ^ 64 → q ≡ None → refused 14 [] ≡ put_in form old
    unfolding put_in
    too_long l e = rw (lt-ltb (length old) (length form) (omega (arith, lost e)))

    too_short : (n : ℕ) → q ≡ Some n → length old < n → refused 14 [] ≡ put_in form old
    unfolding put_in
    too_short n e l = rw (lt-ltb (length old) (length form) (omega (arith, sized n e)))

    stands : (n : ℕ) → q ≡ Some n → n ≤ length old → (r : Place) (new : Bytes) → PutAt form old (Some 0) r new → done new ≡ put_in form old
    unfolding put_in ahead
    stands n e l r new y =
        let s = sized n e in
        let m : r ≡ Some n = y.next ∙ sym x.next ∙ e in
        let k : 0 + length form ≡ length form = omega arith in
        let z : new ≡ form ++ drop (length form) old = y.made 0 n refl m l ∙ (rw k at (sets-eq form old 0 (omega arith))) in
        rw (le-ltb (length old) (length form) (omega arith), z)

    -- the answer of a call that refuses nothing but a short buffer
    module _ (answer : Answer Bytes) (told : put_in form old ≡ answer) where
      out_long : length old < 2 ^ 64 → q ≡ None → FileWritten answer form old (Err ShortBuffer) old
      out_long l e = record { is = too_long l e ∙ told; left = refl }

      out_short : (n : ℕ) → q ≡ Some n → length old < n → FileWritten answer form old (Err ShortBuffer) old
      out_short n e l = record { is = too_short n e l ∙ told; left = refl }

      out_written : (n : ℕ) → q ≡ Some n → n ≤ length old → (r : Place) (new : Bytes) → PutAt form old (Some 0) r new → FileWritten answer form old (Ok n) new
      out_written n e l r new y = record { is = stands n e l r new y ∙ told; left = sized n e }

-- ---- a change set

set-counted : (t : List ℕ) → is_set_in t ≡ true → Counted t
unfolding is_set_in change_set_of count_in warnings
set-counted t h =
    let s = rw (set-parts (change_set_of t)) at (and_r (eqb (length t) set_words) _ h) in
    record {
      lists = (fits_ok t (ok (and_l (eqb (length t) set_words) _ h) (and_l (lists_ok (change_set_of t)) _ s))).room;
      warnings = few (and_r (lists_ok (change_set_of t)) _ s);
    }
  where
    ok : eqb (length t) set_words ≡ true → lists_ok (change_set_of t) ≡ true → lists_ok_in t ≡ true
    ok a b = unfold lists_ok_in in rw (a, b)

    few : warnings.fits (change_set_of t).warnings ≡ true → count_in t 3 ≤ 160
    few w = let u = leb-true (length (warnings_at t 3076 (count_in t 3))) 160 (list_few max_warnings warning_form (change_set_of t).warnings w) in let v = length-warnings t 3076 (count_in t 3) in omega arith

module _ (t : List ℕ) (old : Bytes) (p : Bool) (h : p ≡ is_set_in t) where
  pub set_wrong : not p ≡ true → ChangesWritten t old (Err BadSet) old
  unfolding is_set_in write_changes
  set_wrong n = record { is = go (eqb (length t) set_words) (is_set (change_set_of t)) p h n; left = refl }
    where
      go : (a b q : Bool) → q ≡ (a && b) → not q ≡ true → refused 13 [] ≡ (refuse_when (not a) 13 [] >> (refuse_when (not b) 13 [] >> put_in (change_file.write (change_set_of t)) old))
      go false b q e z = refl
      go true false q e z = refl
      go true true true e z = clash z refl
      go true true false e z = clash refl (sym e)

  module _ (y : not p ≡ false) where
    good : is_set_in t ≡ true
    good = sym h ∙ yes p y
      where
        yes : (q : Bool) → not q ≡ false → q ≡ true
        yes true z = refl
        yes false z = sym z

    pub set_right : Counted t
    set_right = set-counted t good

    told : put_in (change_file.write (change_set_of t)) old ≡ write_set t old
    unfolding is_set_in write_changes
    told = rw (and_l (eqb (length t) set_words) _ good, and_r (eqb (length t) set_words) _ good)

    module _ (a b : Bytes) (q : Place) (x : PutAt (change_file.write (change_set_of t)) a (Some 0) q b) where
      pub set_long : length old < 2 ^ 64 → q ≡ None → ChangesWritten t old (Err ShortBuffer) old
      set_long l e = out_long _ a b q x old _ told l e

      pub set_short : (n : ℕ) → q ≡ Some n → length old < n → ChangesWritten t old (Err ShortBuffer) old
      set_short n e l = out_short _ a b q x old _ told n e l

      pub set-written : (n : ℕ) → q ≡ Some n → n ≤ length old → (r : Place) (new : Bytes) → PutAt (change_file.write (change_set_of t)) old (Some 0) r new → ChangesWritten t old (Ok n) new
      set-written n e l r new y = out_written _ a b q x old _ told n e l r new y

pub ruleset writing_set = (set_wrong, set_right, set_long, set_short, set-written)

-- ---- a map

module _ (ws : List ℕ) (cs : List Float) (old : Bytes) (p : Bool) (h : p ≡ is_map_tables ws cs) where
  pub map_wrong : not p ≡ true → MapWritten ws cs old (Err BadMap) old
  unfolding is_map_tables write_map
  map_wrong n = record { is = go (eqb (length ws) all_words && eqb (length cs) all_coords) (is_map (map_of ws cs)) p h n; left = refl }
    where
      go : (a b q : Bool) → q ≡ (a && b) → not q ≡ true → refused 12 [] ≡ (refuse_when (not a) 12 [] >> (refuse_when (not b) 12 [] >> put_in (map_file.write (map_of ws cs)) old))
      go false b q e z = refl
      go true false q e z = refl
      go true true true e z = clash z refl
      go true true false e z = clash refl (sym e)

  module _ (y : not p ≡ false) where
    map_good : is_map_tables ws cs ≡ true
    map_good = sym h ∙ yes p y
      where
        yes : (q : Bool) → not q ≡ false → q ≡ true
        yes true z = refl
        yes false z = sym z

    pub map_right : Sized ws cs
    map_right = (sound ws cs map_good).sized

    map_told : put_in (map_file.write (map_of ws cs)) old ≡ write_tables ws cs old
    unfolding is_map_tables write_map
    map_told = rw (and_l (eqb (length ws) all_words && eqb (length cs) all_coords) _ map_good, and_r (eqb (length ws) all_words && eqb (length cs) all_coords) _ map_good)

    module _ (a b : Bytes) (q : Place) (x : PutAt (map_file.write (map_of ws cs)) a (Some 0) q b) where
      pub map_long : length old < 2 ^ 64 → q ≡ None → MapWritten ws cs old (Err ShortBuffer) old
      map_long l e = out_long _ a b q x old _ map_told l e

      pub map_short : (n : ℕ) → q ≡ Some n → length old < n → MapWritten ws cs old (Err ShortBuffer) old
      map_short n e l = out_short _ a b q x old _ map_told n e l

      pub map-written : (n : ℕ) → q ≡ Some n → n ≤ length old → (r : Place) (new : Bytes) → PutAt (map_file.write (map_of ws cs)) old (Some 0) r new → MapWritten ws cs old (Ok n) new
      map-written n e l r new y = out_written _ a b q x old _ map_told n e l r new y

pub ruleset writing_map = (map_wrong, map_right, map_long, map_short, map-written)
