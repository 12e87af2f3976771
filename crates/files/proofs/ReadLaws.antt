-- A map file, tested and then loaded, stands in the tables as the map that it is.
use Prim.Native.Nat.{ℕ}
use mathlib.Core.Path.{◌≡◌, refl, sym, ap, ◌∙◌}
use mathlib.Core.Bool.{Bool, true, false}
use mathlib.Core.List.{List, [], ◌++◌, append-nil}
use lib.Ieee.{Float}
use lib.ListN.{length}
use borrow.Author.Tests.{eq-eqb, ne_eqb}
use Rattle.std.proofs.Common.{Ok, Err}
use Rattle.refusal.specs.Answer.{refused, done, present}
use Rattle.refusal.specs.declared.Refusal.TheVariants.{BadMap}
use Rattle.rows.specs.Table.{rising}
use Rattle.codec.specs.Format.{Bytes, got, Format, ◌⊗◌, only, via, tagged, file_of, file_back, no_got, no_true, both, and, same_value}
use Rattle.codec.specs.Number.{number}
use Rattle.codec.specs.Items.{list}
use Rattle.map.specs.Record.{Lane, LineString, Signal, Crosswalk, Rule, Map}
use Rattle.map.specs.MapFile.{lane, line_string, signal, crosswalk, rule, table, tables, map_file, is_map}
use Rattle.map.specs.Tables.{map_of}
use Rattle.map.proofs.Parts.{map-parts}
use Rattle.fields.specs.Fields.{Place, got_at}
use Rattle.std.specs.Prelude.{Some, None, Option}
use Rattle.mapfile.specs.MapBytes.{is_there, is_map_file}
use Rattle.mapload.specs.MapLoad.{line_lists, MapLoaded}
use Rattle.files.specs.Files.{read_map}
use Rattle.files.specs.ReadInto.{MapReadInto}

abbrev Loose : Type 0
Loose = ℕ × (List Lane × (List LineString × (List LineString × (List Signal × (List Crosswalk × List Rule)))))

abbrev loose : Format Loose
loose = number ⊗ list 64 lane ⊗ line_lists

abbrev pieces : Map → Loose
pieces m = (m.next, (m.lanes, (m.boundaries, (m.stop_lines, (m.signals, (m.crosswalks, m.rules))))))

abbrev from_pieces : Loose → Map
from_pieces z =
    record {
      next = z.0;
      lanes = z.1.0;
      boundaries = z.1.1.0;
      stop_lines = z.1.1.1.0;
      signals = z.1.1.1.1.0;
      crosswalks = z.1.1.1.1.1.0;
      rules = z.1.1.1.1.1.1;
    }

table_list : {A : Type 0} (num : A → ℕ) (n : ℕ) (f : Format A) (next : ℕ) (xs : List A) → (table num n f next).fits xs ≡ true → (list n f).fits xs ≡ true
unfolding table only
table_list num n f next xs h = (both ((list n f).fits xs) (rising num 0 next xs) h).0

loose_fits : (m : Map) → is_map m ≡ true → loose.fits (pieces m) ≡ true
unfolding ◌⊗◌
loose_fits m h =
    let p = map-parts m h in
    and _ _ p.next (and _ _ (table_list _ _ lane _ _ p.lanes) (and _ _ (table_list _ _ line_string _ _ p.boundaries) (and _ _ (table_list _ _ line_string _ _ p.stop_lines)
    (and _ _ (table_list _ _ signal _ _ p.signals) (and _ _ (table_list _ _ crosswalk _ _ p.crosswalks) (table_list _ _ rule _ _ p.rules))))))

same_written : (m : Map) → map_file.write m ≡ loose.write (pieces m)
unfolding map_file tables table only via tagged ◌⊗◌
same_written m = refl

loose_read : (s : Bytes) (m : Map) → file_of map_file s ≡ Some m → loose.read s ≡ got (pieces m) []
unfolding is_map
loose_read s m e =
    let b = file_back map_file s m e in
    let w : s ≡ loose.write (pieces m) ++ [] = b.1 ∙ same_written m ∙ sym (append-nil (loose.write (pieces m))) in
    ap (λ t. loose.read t) w ∙ loose.there (pieces m) [] (loose_fits m b.0)

placed : (s : Bytes) (r : Place) (x y : Loose) → got_at s r x ≡ got y [] → x ≡ y
placed s None x y h = absurd (no_got h)
placed s (Some j) x y h = same_value h

module _ (s : Bytes) where
  pub is_refused_lem : is_map_file s ≡ false → refused 12 [] ≡ read_map s
  unfolding is_map_file read_map
  is_refused_lem h = go (file_of map_file s) h
    where
      go : (o : Option Map) → is_there o ≡ false → refused 12 [] ≡ present o 12 []
      go None h = refl
      go (Some m) h = absurd (no_true (sym h))

  module _ (ws ws' : List ℕ) (cs cs' : List Float) (r : Place) (x : MapLoaded s ws cs r ws' cs') where
    pub is_done_lem : is_map_file s ≡ true → done (map_of ws' cs') ≡ read_map s
    unfolding is_map_file read_map map_of
    is_done_lem h = go (file_of map_file s) refl h
      where
        go : (o : Option Map) → file_of map_file s ≡ o → is_there o ≡ true → done (map_of ws' cs') ≡ present o 12 []
        go None e h = absurd (no_true h)
        go (Some m) e h = ap (λ z. done (from_pieces z)) (placed s r _ (pieces m) (x.is ∙ loose_read s m e))

module _ (s : Bytes) (ws : List ℕ) (cs : List Float) where
  pub words_wrong : (length ws ≡ 13671 → ⊥) → MapReadInto s ws cs (Err BadMap) ws cs
  words_wrong h = record { is = rw (ne_eqb (length ws) 13671 h); untouched = (refl, refl) }

  pub coords_wrong : length ws ≡ 13671 → (length cs ≡ 105280 → ⊥) → MapReadInto s ws cs (Err BadMap) ws cs
  coords_wrong e h = record { is = rw (eq-eqb (length ws) 13671 e, ne_eqb (length cs) 105280 h); untouched = (refl, refl) }

  module _ (lw : length ws ≡ 13671) (lc : length cs ≡ 105280) (good : Bool) (g : good ≡ is_map_file s) where
    pub file_wrong : good ≡ false → MapReadInto s ws cs (Err BadMap) ws cs
    file_wrong h = record { is = rw (eq-eqb (length ws) 13671 lw, eq-eqb (length cs) 105280 lc) (is_refused_lem s (sym g ∙ h)); untouched = (refl, refl) }

    pub file_right : (ws' : List ℕ) (cs' : List Float) (r : Place) → good ≡ true → MapLoaded s ws cs r ws' cs' → MapReadInto s ws cs (Ok tt) ws' cs'
    file_right ws' cs' r h x = record { is = rw (eq-eqb (length ws) 13671 lw, eq-eqb (length cs) 105280 lc) (is_done_lem s ws ws' cs cs' r x (sym g ∙ h)); untouched = tt }

pub ruleset reading_map = (words_wrong, coords_wrong, file_wrong, file_right)
