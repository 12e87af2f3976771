-- The tables of a map file, one after the other.
use Prim.Native.Nat.{ℕ, suc, ◌+◌, ◌≤◌, ◌<◌}
use mathlib.Core.Path.{◌≡◌, refl, sym, ◌∙◌}
use mathlib.Core.Bool.{Bool, true, false, cond}
use mathlib.Core.List.{List, [], ◌∷◌}
use native.Mathlib.Omega.{arith}
use lib.Dec.{leb}
use lib.ListN.{length, get_or, drop, drop_of_length-le}
use lib.Seq.{drop-cons}
use Rattle.rows.specs.Lists.{total}
use Rattle.codec.specs.Format.{Bytes, Read, fault, got, and_then, Format, ◌⊗◌, only, via, tagged, ended, file_of, no_got, same_value, same_rest}
use Rattle.codec.specs.Number.{number}
use Rattle.map.specs.Record.{Lane, LineString, Signal, Crosswalk, Rule, Map}
use Rattle.map.specs.Ceilings.{points, signal_points, crosswalk_points, rule_points, lane_points, line_string_points, max_signals, max_crosswalks, max_rules, max_lanes, max_boundaries, max_stop_lines}
use Rattle.map.specs.MapFile.{lane, line_string, signal, crosswalk, rule, table, tables, map_file}
use Rattle.store.specs.Layout.{limit_of}
use Rattle.fields.specs.Fields.{Place, read_at, got_at, largest, Word}
use Rattle.fields.proofs.Places.{range_any}
use Rattle.std.specs.Prelude.{Some, None}
use Rattle.checking.specs.Checking.{record_points, Checked, end_of, points_of, seen, TableChecked}
use Rattle.mapfile.specs.MapBytes.{is_there, is_map_file, marks, mark_points, lines, line_points, table_points, MarksChecked, LinesChecked, TablesChecked}

module _ {A B : Type 0} (s : Bytes) (v : A → ℕ) (w : B → ℕ) where
  seen_second : (x : A) (rg : Read B) (r : Place) (b : ℕ) → got_at s r b ≡ seen w rg → got_at s r (v x + b) ≡ seen (λ (z : A × B). v z.0 + w z.1) (and_then rg (λ y u. got (x, y) u))
  seen_second x fault None b h = refl
  seen_second x fault (Some k) b h = absurd (no_got (sym h))
  seen_second x (got y u) None b h = absurd (no_got h)
  seen_second x (got y u) (Some k) b h = rw (same_value h, same_rest h)

  seen_first : (g : Format B) (rf : Read A) (q r : Place) (a b : ℕ) → got_at s q a ≡ seen v rf → got_at s r b ≡ seen w (read_at g s q)
      → got_at s r (a + b) ≡ seen (λ (z : A × B). v z.0 + w z.1) (and_then rf (λ x t. and_then (g.read t) (λ y u. got (x, y) u)))
  seen_first g fault (Some j) r a b x y = absurd (no_got (sym x))
  seen_first g fault None None a b x y = refl
  seen_first g fault None (Some k) a b x y = absurd (no_got (sym y))
  seen_first g (got c t) None r a b x y = absurd (no_got x)
  seen_first g (got c t) (Some j) r a b x y = rw (same_value x, ← same_rest x) (seen_second c (g.read (drop j s)) r b y)

  -- what is kept of one table, and of those after it
  pub seen_then : (f : Format A) (g : Format B) (p q r : Place) (a b : ℕ) → got_at s q a ≡ seen v (read_at f s p) → got_at s r b ≡ seen w (read_at g s q)
      → got_at s r (a + b) ≡ seen (λ (z : A × B). v z.0 + w z.1) (read_at (f ⊗ g) s p)
  unfolding ◌⊗◌
  seen_then f g None (Some j) r a b x y = absurd (no_got (sym x))
  seen_then f g None None None a b x y = refl
  seen_then f g None None (Some k) a b x y = absurd (no_got (sym y))
  seen_then f g (Some i) q r a b x y = seen_first g (f.read (drop i s)) q r a b x y

-- at no place nothing is passed over
lost : (s : Bytes) (k next : ℕ) → TableChecked s None k next None
lost s k next = record { few = omega arith; is = refl }

module _ (s : Bytes) (p : Place) (next : ℕ) where
  marks_sum : (a b c : Checked) → TableChecked s p 3 next a → TableChecked s (end_of a) 4 next b → TableChecked s (end_of b) 5 next c
      → got_at s (end_of c) (points_of a + (points_of b + points_of c)) ≡ seen mark_points (read_at (marks next) s p)
  unfolding marks limit_of record_points
  marks_sum a b c x y z =
      seen_then s (total signal_points) (λ t. total crosswalk_points t.0 + total rule_points t.1) (table (λ r. r.num) max_signals signal next)
      (table (λ r. r.num) max_crosswalks crosswalk next ⊗ table (λ r. r.num) max_rules rule next) p (end_of a) (end_of c) (points_of a) (points_of b + points_of c) x.is
      (seen_then s (total crosswalk_points) (total rule_points) (table (λ r. r.num) max_crosswalks crosswalk next) (table (λ r. r.num) max_rules rule next) (end_of a) (end_of b) (end_of c) (points_of b) (points_of c) y.is z.is)

  pub no_signals : TableChecked s p 3 next None → MarksChecked s p next None
  no_signals x = record { few = omega arith; is = marks_sum None None None x (lost s 4 next) (lost s 5 next) }

  module _ (a q : ℕ) (x : TableChecked s p 3 next (Some (a, q))) where
    pub no_crosswalks : TableChecked s (Some q) 4 next None → MarksChecked s p next None
    no_crosswalks y = record { few = omega arith; is = marks_sum (Some (a, q)) None None x y (lost s 5 next) }

    module _ (b r : ℕ) (y : TableChecked s (Some q) 4 next (Some (b, r))) where
      pub no_rules : TableChecked s (Some r) 5 next None → MarksChecked s p next None
      no_rules z = record { few = omega arith; is = marks_sum (Some (a, q)) (Some (b, r)) None x y z }

      pub marks_got : (c e : ℕ) → TableChecked s (Some r) 5 next (Some (c, e)) → MarksChecked s p next (Some (a + (b + c), e))
      marks_got c e z = record { few = omega (arith, x.few, y.few, z.few); is = marks_sum (Some (a, q)) (Some (b, r)) (Some (c, e)) x y z }

pub ruleset checking_marks = (no_signals, no_crosswalks, no_rules, marks_got)

module _ (s : Bytes) (p : Place) (next : ℕ) where
  lines_sum : (b c d : Checked) → TableChecked s p 1 next b → TableChecked s (end_of b) 2 next c → MarksChecked s (end_of c) next d
      → got_at s (end_of d) (points_of b + (points_of c + points_of d)) ≡ seen line_points (read_at (lines next) s p)
  unfolding lines limit_of record_points
  lines_sum b c d y z w =
      seen_then s (total line_string_points) (λ t. total line_string_points t.0 + mark_points t.1) (table (λ r. r.num) max_boundaries line_string next)
      (table (λ r. r.num) max_stop_lines line_string next ⊗ marks next) p (end_of b) (end_of d) (points_of b) (points_of c + points_of d) y.is
      (seen_then s (total line_string_points) mark_points (table (λ r. r.num) max_stop_lines line_string next) (marks next) (end_of b) (end_of c) (end_of d) (points_of c) (points_of d) z.is w.is)

  pub no_boundaries : TableChecked s p 1 next None → LinesChecked s p next None
  no_boundaries y = record { few = omega arith; is = lines_sum None None None y (lost s 2 next) (no_signals s None next (lost s 3 next)) }

  module _ (a q : ℕ) (y : TableChecked s p 1 next (Some (a, q))) where
    pub no_stop_lines : TableChecked s (Some q) 2 next None → LinesChecked s p next None
    no_stop_lines z = record { few = omega arith; is = lines_sum (Some (a, q)) None None y z (no_signals s None next (lost s 3 next)) }

    module _ (b r : ℕ) (z : TableChecked s (Some q) 2 next (Some (b, r))) where
      pub no_marks : MarksChecked s (Some r) next None → LinesChecked s p next None
      no_marks w = record { few = omega arith; is = lines_sum (Some (a, q)) (Some (b, r)) None y z w }

      pub lines_got : (c e : ℕ) → MarksChecked s (Some r) next (Some (c, e)) → LinesChecked s p next (Some (a + (b + c), e))
      lines_got c e w = record { few = omega (arith, y.few, z.few, w.few); is = lines_sum (Some (a, q)) (Some (b, r)) (Some (c, e)) y z w }

pub ruleset checking_lines = (no_boundaries, no_stop_lines, no_marks, lines_got)

module _ (s : Bytes) (p : Place) (next : ℕ) where
  tables_sum : (a d : Checked) → TableChecked s p 0 next a → LinesChecked s (end_of a) next d → got_at s (end_of d) (points_of a + points_of d) ≡ seen table_points (read_at (tables next) s p)
  unfolding tables lines marks limit_of record_points
  tables_sum a d x w = seen_then s (total lane_points) line_points (table (λ r. r.num) max_lanes lane next) (lines next) p (end_of a) (end_of d) (points_of a) (points_of d) x.is w.is

  pub no_lanes : TableChecked s p 0 next None → TablesChecked s p next None
  no_lanes x = record { few = omega arith; is = tables_sum None None x (no_boundaries s None next (lost s 1 next)) }

  module _ (a q : ℕ) (x : TableChecked s p 0 next (Some (a, q))) where
    pub no_lines : LinesChecked s (Some q) next None → TablesChecked s p next None
    no_lines w = record { few = omega arith; is = tables_sum (Some (a, q)) None x w }

    pub tables_got : (b e : ℕ) → LinesChecked s (Some q) next (Some (b, e)) → TablesChecked s p next (Some (a + b, e))
    tables_got b e w = record { few = omega (arith, x.few, w.few); is = tables_sum (Some (a, q)) (Some (b, e)) x w }

pub ruleset checking_tables = (no_lanes, no_lines, tables_got)

-- ---- the file

abbrev Six : Type 0
Six = List Lane × (List LineString × (List LineString × (List Signal × (List Crosswalk × List Rule))))

abbrev to_map : (n : ℕ) × Six → Map
to_map z =
    record {
      next = z.0;
      lanes = z.1.0;
      boundaries = z.1.1.0;
      stop_lines = z.1.1.1.0;
      signals = z.1.1.1.1.0;
      crosswalks = z.1.1.1.1.1.0;
      rules = z.1.1.1.1.1.1;
    }

abbrev numbered : Read ℕ → Read ((n : ℕ) × Six)
numbered r = and_then {A = ℕ} {B = (n : ℕ) × Six} r (λ n t. and_then ((tables n).read t) (λ x u. got (n, x) u))

abbrev file_read : Read ((n : ℕ) × Six) → Read Map
file_read r = and_then (and_then r (λ z t. got (to_map z) t)) (λ m t. cond (leb (points m) 1024) (got m t) fault)

same_points : (z : (n : ℕ) × Six) → points (to_map z) ≡ table_points z.1
unfolding points
same_points z = omega arith

module _ (s : Bytes) where
  second : (n : ℕ) (r : Read Six) (q : Place) (b : ℕ) → got_at s q b ≡ seen table_points r → got_at s q b ≡ seen (λ (z : (n : ℕ) × Six). table_points z.1) (and_then {A = Six} {B = (n : ℕ) × Six} r (λ x u. got (n, x) u))
  second n fault None b h = refl
  second n fault (Some k) b h = absurd (no_got (sym h))
  second n (got y u) None b h = absurd (no_got h)
  second n (got y u) (Some k) b h = h

  all_seen : (r : Read ℕ) (p q : Place) (n b : ℕ) → got_at s p n ≡ r → got_at s q b ≡ seen table_points (read_at (tables n) s p) → got_at s q b ≡ seen (λ (z : (n : ℕ) × Six). table_points z.1) (numbered r)
  all_seen fault (Some j) q n b x y = absurd (no_got (sym x))
  all_seen fault None None n b x y = refl
  all_seen fault None (Some k) n b x y = absurd (no_got (sym y))
  all_seen (got m t) None q n b x y = absurd (no_got x)
  all_seen (got m t) (Some j) q n b x y = rw (← same_value x, ← same_rest x) (second n ((tables n).read (drop j s)) q b y)

  no_read : (r : Read ((n : ℕ) × Six)) (b : ℕ) → got_at s None b ≡ seen (λ (z : (n : ℕ) × Six). table_points z.1) r → false ≡ is_there (ended map_file (file_read r))
  unfolding ended
  no_read fault b h = refl
  no_read (got z t) b h = absurd (no_got h)

  some_left : (m : Map) (c : Bool) (x : ℕ) (t : Bytes) → false ≡ is_there (ended map_file (cond c (got m (x ∷ t)) fault))
  unfolding ended
  some_left m true x t = refl
  some_left m false x t = refl

  none_left : (m : Map) (c : Bool) → c ≡ is_there (ended map_file (cond c (got m []) fault))
  unfolding ended
  none_left m true = refl
  none_left m false = refl

  left_read : (r : Read ((n : ℕ) × Six)) (e b : ℕ) → e < length s → got_at s (Some e) b ≡ seen (λ (z : (n : ℕ) × Six). table_points z.1) r → false ≡ is_there (ended map_file (file_read r))
  left_read fault e b l h = absurd (no_got (sym h))
  left_read (got z t) e b l h = rw (← same_rest h, drop-cons s e 0 l) (some_left (to_map z) (leb (points (to_map z)) 1024) (get_or s e 0) (drop (suc e) s))

  whole_read : (r : Read ((n : ℕ) × Six)) (e b : ℕ) → length s ≤ e → got_at s (Some e) b ≡ seen (λ (z : (n : ℕ) × Six). table_points z.1) r → leb b 1024 ≡ is_there (ended map_file (file_read r))
  whole_read fault e b l h = absurd (no_got (sym h))
  whole_read (got z t) e b l h = rw (← same_rest h, drop_of_length-le s l, same_value h, ← same_points z) (none_left (to_map z) (leb (points (to_map z)) 1024))

  module _ (p : Place) (old row : List ℕ) (x : Word 0 largest s (Some 0) old 0 p row) where
    seen_all : (a : Checked) → TablesChecked s p (get_or row 0 0) a → got_at s (end_of a) (points_of a) ≡ seen (λ (z : (n : ℕ) × Six). table_points z.1) (numbered (number.read s))
    seen_all a y = all_seen (number.read s) p (end_of a) (get_or row 0 0) (points_of a) (x.is ∙ range_any s (Some 0)) y.is

    pub map_none : TablesChecked s p (get_or row 0 0) None → false ≡ is_map_file s
    unfolding is_map_file file_of map_file only via tagged
    map_none y = no_read (numbered (number.read s)) 0 (seen_all None y)

    module _ (b e : ℕ) (y : TablesChecked s p (get_or row 0 0) (Some (b, e))) where
      pub map_left : e < length s → false ≡ is_map_file s
      unfolding is_map_file file_of map_file only via tagged
      map_left l = left_read (numbered (number.read s)) e b l (seen_all (Some (b, e)) y)

      pub map_whole : length s ≤ e → leb b 1024 ≡ is_map_file s
      unfolding is_map_file file_of map_file only via tagged
      map_whole l = whole_read (numbered (number.read s)) e b l (seen_all (Some (b, e)) y)

pub ruleset checking_map = (map_none, map_left, map_whole)
