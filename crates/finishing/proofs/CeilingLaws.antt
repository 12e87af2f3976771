-- Which ceilings are left to test once an edit grew a map: those of what is new, of the rules, and of all points. Assumes nothing.
use Prim.Native.Nat.{ℕ, zero, suc, ◌+◌, ◌<◌}
use mathlib.Core.Path.{◌≡◌, refl, sym, ap, ◌∙◌}
use mathlib.Core.Bool.{Bool, true, false, ◌&&◌, and_assoc}
use Rattle.std.specs.Prelude.{Option, None, Some}
use mathlib.Core.List.{List, [], ◌∷◌, ◌++◌, append-nil}
use native.Mathlib.Omega.{arith}
use lib.Dec.{leb}
use lib.ListN.{length, get_or, set, length-append}
use Rattle.rows.specs.Lists.{every, total}
use Rattle.rows.proofs.Bools.{parts, and_i}
use Rattle.rows.proofs.Tables.{every_if}
use Rattle.geometry.specs.Polyline.{Polyline}
use Rattle.codec.specs.Format.{◌⊗◌, via}
use Rattle.codec.specs.Items.{option}
use Rattle.codec.proofs.Fits.{list_few, fits_option}
use Rattle.map.specs.Record.{Lane, LineString, Signal, Crosswalk, RuleBody, Rule, Map}
use Rattle.map.specs.Ceilings.{max_lanes, max_boundaries, max_stop_lines, max_signals, max_crosswalks, max_rules, max_line_points, max_points, max_bulbs, if_there, line_within, lane_within, line_string_within, signal_within, crosswalk_within, rule_within, line_string_points, signal_points, body_points, rule_points, points, within_ceilings}
use Rattle.map.specs.MapFile.{point, polyline, lane, line_string, bulb, signal, crosswalk, is_map}
use Rattle.map.specs.Rows.{fresh, with_line, with_signal, with_rule, with_rules}
use Rattle.map.proofs.Parts.{map-parts, table_few, table_each}
use Rattle.finishing.specs.Grown.{Grown, grown_within}

-- ---- lists

module _ {A : Type 0} where
  pub every_join : (p : A → Bool) (xs ys : List A) → every p (xs ++ ys) ≡ (every p xs && every p ys)
  unfolding every
  every_join p [] ys = refl
  every_join p (x ∷ xs) ys = rw (every_join p xs ys) (sym (and_assoc (p x) (every p xs) (every p ys)))

  pub total_join : (f : A → ℕ) (xs ys : List A) → total f (xs ++ ys) ≡ total f xs + total f ys
  unfolding total
  total_join f [] ys = omega arith
  total_join f (x ∷ xs) ys = omega (arith, total_join f xs ys)

  -- one more, where all others are within
  pub every_more : (p : A → Bool) (xs : List A) (x : A) → every p xs ≡ true → every p (xs ++ (x ∷ [])) ≡ p x
  unfolding every
  every_more p xs x h = every_join p xs (x ∷ []) ∙ rw h (go (p x))
    where
      go : (b : Bool) → (b && true) ≡ b
      go true = refl
      go false = refl

  pub total_more : (f : A → ℕ) (xs : List A) (x : A) → total f (xs ++ (x ∷ [])) ≡ total f xs + f x
  unfolding total
  total_more f xs x = omega (arith, total_join f xs (x ∷ []))

  pub length_more : (xs : List A) (x : A) → length (xs ++ (x ∷ [])) ≡ length xs + 1
  length_more xs x = length-append xs (x ∷ [])

  -- one replaced, at its index
  pub every_set : (p : A → Bool) (xs : List A) (i : ℕ) (a : A) → i < length xs → every p xs ≡ true → every p (set xs i a) ≡ p a
  unfolding every
  every_set p [] i a h e = absurd (let z : ⊥ = omega arith in z)
  every_set p (x ∷ xs) zero a h e = go (p a) (every p xs) (search parts)
    where
      go : (b c : Bool) → c ≡ true → (b && c) ≡ b
      go true c k = k
      go false c k = refl
  every_set p (x ∷ xs) (suc i) a h e = go (p x) (search parts) (every_set p xs i a (omega arith) (search parts))
    where
      go : (b : Bool) → b ≡ true → every p (set xs i a) ≡ p a → (b && every p (set xs i a)) ≡ p a
      go true k q = q
      go false k q = absurd (let z : ◌≡◌ {A = ℕ} 0 1 = cc in omega arith)

  pub total-set : (f : A → ℕ) (xs : List A) (i : ℕ) (a z : A) → i < length xs → total f (set xs i a) + f (get_or xs i z) ≡ total f xs + f a
  unfolding total
  total-set f [] i a z h = absurd (let q : ⊥ = omega arith in q)
  total-set f (x ∷ xs) zero a z h = omega arith
  total-set f (x ∷ xs) (suc i) a z h = omega (arith, total-set f xs i a z (omega arith))

-- ---- what fits its format is within its ceilings

line_few : (xs : Polyline) → polyline.fits xs ≡ true → line_within xs ≡ true
unfolding polyline line_within
line_few xs h = list_few max_line_points point xs h

if_few : (o : Option Polyline) → (option polyline).fits o ≡ true → if_there line_within o ≡ true
unfolding if_there
if_few None h = refl
if_few (Some xs) h = line_few xs (fits_option polyline xs h)

lane_within_lem : (l : Lane) → lane.fits l ≡ true → lane_within l ≡ true
unfolding lane via ◌⊗◌ lane_within
lane_within_lem l h = if_few l.centerline (search parts depth 8)

string_within : (d : LineString) → line_string.fits d ≡ true → line_string_within d ≡ true
unfolding line_string via ◌⊗◌ line_string_within
string_within d h = line_few d.geometry (search parts)

signal_within_lem : (s : Signal) → signal.fits s ≡ true → signal_within s ≡ true
unfolding signal via ◌⊗◌ signal_within
signal_within_lem s h = and_i _ _ (line_few s.geometry (search parts depth 8)) (list_few max_bulbs bulb s.bulbs (search parts depth 8))

crosswalk_within_lem : (c : Crosswalk) → crosswalk.fits c ≡ true → crosswalk_within c ≡ true
unfolding crosswalk via ◌⊗◌ crosswalk_within
crosswalk_within_lem c h = and_i _ _ (and_i _ _ (line_few c.left (search parts depth 8)) (line_few c.right (search parts depth 8))) (if_few c.outline (search parts depth 8))

module _ (m : Map) (ok : is_map m ≡ true) where
  few_lanes : leb (length m.lanes) max_lanes ≡ true
  few_lanes = table_few (λ (x : Lane). x.num) max_lanes lane m.next m.lanes (map-parts m ok).lanes

  few_boundaries : leb (length m.boundaries) max_boundaries ≡ true
  few_boundaries = table_few (λ (x : LineString). x.num) max_boundaries line_string m.next m.boundaries (map-parts m ok).boundaries

  pub few_lines : leb (length m.stop_lines) max_stop_lines ≡ true
  few_lines = table_few (λ (x : LineString). x.num) max_stop_lines line_string m.next m.stop_lines (map-parts m ok).stop_lines

  pub few_signals : leb (length m.signals) max_signals ≡ true
  few_signals = table_few (λ (x : Signal). x.num) max_signals signal m.next m.signals (map-parts m ok).signals

  few_crosswalks : leb (length m.crosswalks) max_crosswalks ≡ true
  few_crosswalks = table_few (λ (x : Crosswalk). x.num) max_crosswalks crosswalk m.next m.crosswalks (map-parts m ok).crosswalks

  lanes_within : every lane_within m.lanes ≡ true
  lanes_within = every_if lane.fits lane_within m.lanes lane_within_lem (table_each (λ (x : Lane). x.num) max_lanes lane m.next m.lanes (map-parts m ok).lanes)

  boundaries_within : every line_string_within m.boundaries ≡ true
  boundaries_within = every_if line_string.fits line_string_within m.boundaries string_within (table_each (λ (x : LineString). x.num) max_boundaries line_string m.next m.boundaries (map-parts m ok).boundaries)

  lines_within : every line_string_within m.stop_lines ≡ true
  lines_within = every_if line_string.fits line_string_within m.stop_lines string_within (table_each (λ (x : LineString). x.num) max_stop_lines line_string m.next m.stop_lines (map-parts m ok).stop_lines)

  signals_within : every signal_within m.signals ≡ true
  signals_within = every_if signal.fits signal_within m.signals signal_within_lem (table_each (λ (x : Signal). x.num) max_signals signal m.next m.signals (map-parts m ok).signals)

  crosswalks_within : every crosswalk_within m.crosswalks ≡ true
  crosswalks_within = every_if crosswalk.fits crosswalk_within m.crosswalks crosswalk_within_lem (table_each (λ (x : Crosswalk). x.num) max_crosswalks crosswalk m.next m.crosswalks (map-parts m ok).crosswalks)

-- ---- a grown map

-- the tests that hold already
left_over : (a3 a4 a6 e3 e4 e6 p : Bool)
    → (true && true && a3 && a4 && true && a6 && true && true && e3 && e4 && true && e6 && p) ≡ (a3 && a4 && a6 && e3 && e4 && e6 && p)
left_over true true true true true e6 p = refl
left_over true true true true false e6 p = refl
left_over true true true false e4 e6 p = refl
left_over true true false e3 e4 e6 p = refl
left_over true false a6 e3 e4 e6 p = refl
left_over false a4 a6 e3 e4 e6 p = refl

-- and what stands for the others
left : {a1 a2 a3 a4 a5 e1 e2 e3 e4 e5 : Bool} (a6 e6 p l3 l4 x3 x4 : Bool) → a1 ≡ true → a2 ≡ true → a3 ≡ l3 → a4 ≡ l4 → a5 ≡ true → e1 ≡ true → e2 ≡ true → e3 ≡ x3 → e4 ≡ x4 → e5 ≡ true
    → (a1 && a2 && a3 && a4 && a5 && a6 && e1 && e2 && e3 && e4 && e5 && e6 && p) ≡ (l3 && l4 && a6 && x3 && x4 && e6 && p)
left a6 e6 p l3 l4 x3 x4 h1 h2 h3 h4 h5 k1 k2 k3 k4 k5 = rw (h1, h2, h3, h4, h5, k1, k2, k3, k4, k5) (left_over l3 l4 a6 x3 x4 e6 p)

-- all that were there are within
every_new : {A : Type 0} (p : A → Bool) (xs ys zs : List A) → zs ≡ xs ++ ys → every p xs ≡ true → every p zs ≡ every p ys
every_new p xs ys zs e h = ap (every p) e ∙ every_join p xs ys ∙ rw h

count_new : {A : Type 0} (k : ℕ) (xs ys zs : List A) → zs ≡ xs ++ ys → leb (length zs) k ≡ leb (length xs + length ys) k
count_new k xs ys zs e = ap (λ (n : ℕ). leb n k) (ap length e ∙ length-append xs ys)

module _ (m n : Map) (lines : List LineString) (signals : List Signal) (g : Grown m n lines signals) where
  pub within_grown : is_map m ≡ true → within_ceilings n ≡ grown_within m n lines signals
  unfolding within_ceilings grown_within
  within_grown ok =
      left (leb (length n.rules) max_rules) (every rule_within n.rules) (leb (points n) max_points) _ _ (every line_string_within lines) (every signal_within signals)
      (ap (λ (xs : List Lane). leb (length xs) max_lanes) g.same_lanes ∙ few_lanes m ok)
      (ap (λ (xs : List LineString). leb (length xs) max_boundaries) g.same_boundaries ∙ few_boundaries m ok)
      (count_new max_stop_lines m.stop_lines lines n.stop_lines g.more_lines)
      (count_new max_signals m.signals signals n.signals g.more_signals)
      (ap (λ (xs : List Crosswalk). leb (length xs) max_crosswalks) g.same_crosswalks ∙ few_crosswalks m ok)
      (ap (every lane_within) g.same_lanes ∙ lanes_within m ok)
      (ap (every line_string_within) g.same_boundaries ∙ boundaries_within m ok)
      (every_new line_string_within m.stop_lines lines n.stop_lines g.more_lines (lines_within m ok))
      (every_new signal_within m.signals signals n.signals g.more_signals (signals_within m ok))
      (ap (every crosswalk_within) g.same_crosswalks ∙ crosswalks_within m ok)

  -- points of what is new, and of the rules in place of the old ones
  pub points_grown : points n + total rule_points m.rules ≡ points m + total line_string_points lines + total signal_points signals + total rule_points n.rules
  unfolding points
  points_grown =
      rw (
        g.same_lanes,
        g.same_boundaries,
        g.more_lines,
        g.more_signals,
        g.same_crosswalks,
        total_join line_string_points m.stop_lines lines,
        total_join signal_points m.signals signals,
      )
      (omega arith)

module _ (m : Map) where
  pub points_line : (xs : Polyline) → points (with_line m xs) ≡ points m + length xs
  unfolding points line_string_points
  points_line xs = rw (total_more line_string_points m.stop_lines (record { num = fresh m; geometry = xs })) (omega arith)

  pub points_signal : (s : Signal) → points (with_signal m s) ≡ points m + length s.geometry
  unfolding points signal_points
  points_signal s = rw (total_more signal_points m.signals s) (omega arith)

  pub points_rule : (w : RuleBody) (ls : List ℕ) → points (with_rule m w ls) ≡ points m + body_points w
  unfolding points rule_points
  points_rule w ls = rw (total_more rule_points m.rules (record { num = fresh m; body = w; lanes = ls; controlled = [] })) (omega arith)

  pub points_rules : (rs : List Rule) → points (with_rules m rs) + total rule_points m.rules ≡ points m + total rule_points rs
  unfolding points
  points_rules rs = omega arith

  -- a line more, and nothing more
  pub grown_line : (xs : Polyline) → Grown m (with_line m xs) (record { num = fresh m; geometry = xs } ∷ []) []
  grown_line xs = record { same_lanes = refl; same_boundaries = refl; more_lines = refl; more_signals = sym (append-nil m.signals); same_crosswalks = refl }

  pub grown_rules : (rs : List Rule) → Grown m (with_rules m rs) [] []
  grown_rules rs = record { same_lanes = refl; same_boundaries = refl; more_lines = sym (append-nil m.stop_lines); more_signals = sym (append-nil m.signals); same_crosswalks = refl }

-- rules do not matter to it
pub grown_any : (m n o : Map) (lines : List LineString) (signals : List Signal) → Grown m n lines signals
    → o.lanes ≡ n.lanes → o.boundaries ≡ n.boundaries → o.stop_lines ≡ n.stop_lines → o.signals ≡ n.signals → o.crosswalks ≡ n.crosswalks → Grown m o lines signals
grown_any m n o lines signals g a b c d e = record {
  same_lanes = a ∙ g.same_lanes;
  same_boundaries = b ∙ g.same_boundaries;
  more_lines = c ∙ g.more_lines;
  more_signals = d ∙ g.more_signals;
  same_crosswalks = e ∙ g.same_crosswalks;
}
