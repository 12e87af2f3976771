-- A set file loaded without a test of its order, and then tested, stands in the table as the set that it is.
use Prim.Native.Nat.{ℕ, ◌≤◌, ◌<◌}
use mathlib.Core.Path.{◌≡◌, refl, sym, ap, ◌∙◌}
use mathlib.Core.Bool.{Bool, true, false, not}
use mathlib.Core.List.{List, [], ◌++◌, append-nil}
use native.Mathlib.Omega.{arith}
use lib.ListN.{length, drop, length-drop, drop_of_length-le}
use borrow.Author.Tests.{eq-eqb, ne_eqb}
use Rattle.std.proofs.Common.{Ok, Err}
use Rattle.refusal.specs.Answer.{refused, done, present}
use Rattle.refusal.specs.declared.Refusal.TheVariants.{BadSet}
use Rattle.rows.specs.Rows.{pasted}
use Rattle.rows.proofs.Bools.{parts, and_i}
use Rattle.rows.proofs.RowLaws.{pasted-all}
use Rattle.codec.specs.Format.{Bytes, got, ◌⊗◌, only, via, file_of, file_there, file_back, no_got, no_true, same_value, same_rest}
use Rattle.changes.specs.ChangeSet.{Warning, ChangeSet}
use Rattle.changes.specs.ChangeFile.{entries, warnings, change_file, is_set}
use Rattle.changes.specs.Layout.{set_words, count_in, change_set_of, is_set_in}
use Rattle.fields.specs.Fields.{Place, got_at}
use Rattle.std.specs.Prelude.{Some, None, Option}
use Rattle.map.specs.Entity.{EntityRef}
use Rattle.setfile.specs.SetFile.{loose_set, lists_in, SetLoaded}
use Rattle.files.specs.Files.{read_changes}
use Rattle.files.specs.ReadInto.{ChangesReadInto}

abbrev Loose : Type 0
Loose = List EntityRef × (List EntityRef × (List EntityRef × List Warning))

abbrev pieces : ChangeSet → Loose
pieces c = (c.created, (c.modified, (c.deleted, c.warnings)))

abbrev from_pieces : Loose → ChangeSet
from_pieces z = record { created = z.0; modified = z.1.0; deleted = z.1.1.0; warnings = z.1.1.1 }

loose_fits : (c : ChangeSet) → is_set c ≡ true → loose_set.fits (pieces c) ≡ true
unfolding is_set change_file entries only via ◌⊗◌
loose_fits c h = search (parts, and_i)

same_written : (z : Loose) → change_file.write (from_pieces z) ≡ loose_set.write z
unfolding change_file entries only via ◌⊗◌
same_written z = refl

loose_read : (s : Bytes) (c : ChangeSet) → file_of change_file s ≡ Some c → loose_set.read s ≡ got (pieces c) []
unfolding is_set
loose_read s c e =
    let b = file_back change_file s c e in
    let w : s ≡ loose_set.write (pieces c) ++ [] = b.1 ∙ same_written (pieces c) ∙ sym (append-nil (loose_set.write (pieces c))) in
    ap (λ t. loose_set.read t) w ∙ loose_set.there (pieces c) [] (loose_fits c b.0)

read_loose : (s : Bytes) (z : Loose) → loose_set.read s ≡ got z [] → is_set (from_pieces z) ≡ true → file_of change_file s ≡ Some (from_pieces z)
unfolding is_set
read_loose s z e h =
    let w : s ≡ change_file.write (from_pieces z) = (loose_set.back s z [] e).1 ∙ append-nil (loose_set.write z) ∙ sym (same_written z) in
    ap (λ t. file_of change_file t) w ∙ file_there change_file (from_pieces z) h

placed : (s : Bytes) (r : Place) (x y : Loose) → got_at s r x ≡ got y [] → x ≡ y
placed s None x y h = absurd (no_got h)
placed s (Some j) x y h = same_value h

module _ (s : Bytes) (t t' : List ℕ) (r : Place) (x : SetLoaded s t r t') where
  -- a file gives what was loaded, with nothing left over
  refused_if : ((c : ChangeSet) → got_at s r (lists_in t') ≡ got (pieces c) [] → file_of change_file s ≡ Some c → ⊥) → refused 13 [] ≡ read_changes s
  unfolding read_changes
  refused_if never = go (file_of change_file s) refl
    where
      go : (o : Option ChangeSet) → file_of change_file s ≡ o → refused 13 [] ≡ present o 13 []
      go None e = refl
      go (Some c) e = absurd (never c (x.is ∙ loose_read s c e) e)

  is_lost : r ≡ None → refused 13 [] ≡ read_changes s
  is_lost e = refused_if (λ c h k. no_got (rw e at h))

  module _ (n : ℕ) (e : r ≡ Some n) where
    is_left : n < length s → refused 13 [] ≡ read_changes s
    is_left l = refused_if (λ c h k. let z : drop n s ≡ [] = same_rest (rw e at h) in let u = ap length z in omega (arith, u, length-drop n s))

    is_none : is_set (change_set_of t') ≡ false → refused 13 [] ≡ read_changes s
    unfolding change_set_of count_in is_set
    is_none f = refused_if (λ c h k.
        let y : change_set_of t' ≡ c = ap from_pieces (placed s r (lists_in t') (pieces c) h) in
        no_true (sym f ∙ ap is_set y ∙ (file_back change_file s c k).0))

    is_some : length s ≤ n → is_set (change_set_of t') ≡ true → done (change_set_of t') ≡ read_changes s
    unfolding read_changes change_set_of count_in
    is_some l f =
        let g : loose_set.read s ≡ got (lists_in t') [] = sym x.is ∙ rw (e, drop_of_length-le s l) in
        rw (read_loose s (lists_in t') g f)

module _ (s : Bytes) (old : List ℕ) where
  pub table_wrong : (length old ≡ 3556 → ⊥) → ChangesReadInto s old (Err BadSet) old
  table_wrong h = record { is = rw (ne_eqb (length old) 3556 h); untouched = refl }

  module _ (h : length old ≡ 3556) (t t' : List ℕ) (r : Place) (l : length t' ≡ 3556) (x : SetLoaded s t r t') where
    kept : refused 13 [] ≡ read_changes s → ChangesReadInto s old (Err BadSet) old
    kept e = record { is = rw (eq-eqb (length old) 3556 h) e; untouched = refl }

    pub set_lost : r ≡ None → ChangesReadInto s old (Err BadSet) old
    set_lost e = kept (is_lost s t t' r x e)

    module _ (n : ℕ) (e : r ≡ Some n) where
      pub set_left : n < length s → ChangesReadInto s old (Err BadSet) old
      set_left k = kept (is_left s t t' r x n e k)

      module _ (p : Bool) (b : p ≡ is_set_in t') where
        tested : is_set (change_set_of t') ≡ p
        unfolding is_set_in
        tested = sym (b ∙ rw (eq-eqb (length t') set_words l))

        pub set_none : not p ≡ true → ChangesReadInto s old (Err BadSet) old
        set_none k = kept (is_none s t t' r x n e (tested ∙ fails p k))
          where
            fails : (q : Bool) → not q ≡ true → q ≡ false
            fails true z = sym z
            fails false z = refl

        pub set_read : length s ≤ n → not p ≡ false → (new : List ℕ) → new ≡ pasted old 0 t' (length t') → ChangesReadInto s old (Ok tt) new
        set_read k y new m =
            record {
              is = rw (eq-eqb (length old) 3556 h, m, pasted-all old t' (h ∙ sym l)) (is_some s t t' r x n e k (tested ∙ holds p y));
              untouched = tt;
            }
          where
            holds : (q : Bool) → not q ≡ false → q ≡ true
            holds true z = refl
            holds false z = sym z

pub ruleset reading_set = (table_wrong, set_lost, set_left, set_none, set_read)
