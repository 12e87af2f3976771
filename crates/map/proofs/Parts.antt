-- A map, part by part: what a map file asks of each table, and when a record fits its format.
use mathlib.Core.Path.{◌≡◌, refl}
use mathlib.Core.Bool.{Bool, true, ◌&&◌}
use Rattle.std.specs.Prelude.{Option, None, Some}
use mathlib.Core.List.{List, [], ◌∷◌}
use Prim.Native.Nat.{ℕ, ◌^◌, ◌<◌, ◌≤◌}
use lib.Dec.{leb, ltb}
use lib.ListN.{length}
use lib.Ieee.{Float, nan, inf, fin, binary64, fits, is_nan}
use native.Mathlib.Omega.{arith}
use borrow.Author.Tests.{ltb-true}
use Rattle.rows.specs.Lists.{every}
use Rattle.rows.specs.Table.{rising}
use Rattle.rows.proofs.Bools.{parts, and_i, clash}
use Rattle.rows.proofs.Tables.{every_if, rising_below, rising_wider}
use Rattle.geometry.specs.declared.Point3.{Point3}
use Rattle.geometry.specs.Double.{on_map, is_finite}
use Rattle.geometry.specs.Point.{point_on_map}
use Rattle.geometry.specs.Polyline.{Polyline}
use Rattle.codec.specs.Format.{Format, ◌⊗◌, only, via, tagged, both}
use Rattle.codec.specs.Number.{number}
use Rattle.codec.specs.Double.{double}
use Rattle.codec.specs.Items.{list, option, below, from}
use Rattle.codec.proofs.Fits.{number_fits, list_each, list_few, list_fits, option_fits, fits_option, none_fits}
use Rattle.map.specs.Record.{Lane, LineString, Signal, Crosswalk, RuleBody, light, sign, marking, right_of_way, crossing, other, Rule, Map}
use Rattle.map.specs.Ceilings.{max_lanes, max_boundaries, max_stop_lines, max_signals, max_crosswalks, max_rules, max_line_points, max_points, max_bulbs, max_rule_entries, if_there, line_within, line_string_within, signal_within, body_within, rule_within, points}
use Rattle.map.specs.MapFile.{coordinate, height, point, polyline, lane, line_string, bulb, signal, crosswalk, numbers, body, rule, table, tables, map_file, is_map}

-- ---- a table

module _ {A : Type 0} (num : A → ℕ) (n : ℕ) (f : Format A) (next : ℕ) (xs : List A) where
  pub table_rises : (table num n f next).fits xs ≡ true → rising num 0 next xs ≡ true
  unfolding table only
  table_rises h = search parts

  pub table_each : (table num n f next).fits xs ≡ true → every f.fits xs ≡ true
  unfolding table only
  table_each h = list_each n f xs (search parts)

  pub table_few : (table num n f next).fits xs ≡ true → leb (length xs) n ≡ true
  unfolding table only
  table_few h = list_few n f xs (search parts)

  pub table_fits : n < 2 ^ 64 → leb (length xs) n ≡ true → every f.fits xs ≡ true → rising num 0 next xs ≡ true → (table num n f next).fits xs ≡ true
  unfolding table only
  table_fits k l e r = and_i ((list n f).fits xs) _ (list_fits n f xs k l e) r

-- the same table below a higher bound
pub table_wider : {A : Type 0} (num : A → ℕ) (n : ℕ) (f : Format A) (next next' : ℕ) (xs : List A) → next ≤ next' → (table num n f next).fits xs ≡ true → (table num n f next').fits xs ≡ true
unfolding table only
table_wider num n f next next' xs l h = and_i ((list n f).fits xs) _ (search parts) (rising_wider num 0 0 next next' xs (omega arith) l (search parts))

-- records that hold what they may and keep below their ceilings, in a table
module _ {A : Type 0} (num : A → ℕ) (f : Format A) (ok within : A → Bool) (fit : (x : A) → number.fits (num x) ≡ true → ok x ≡ true → within x ≡ true → f.fits x ≡ true) where
  each_fits : (h : ℕ) (xs : List A) → h < 2 ^ 64 → every (λ x. ltb (num x) h) xs ≡ true → every ok xs ≡ true → every within xs ≡ true → every f.fits xs ≡ true
  unfolding every
  each_fits h [] k b o w = refl
  each_fits h (x ∷ xs) k b o w =
      and_i _ _ (fit x (number_fits (num x) (small (ltb-true (num x) h (search parts)))) (search parts) (search parts)) (each_fits h xs k (search parts) (search parts) (search parts))
    where
      small : num x < h → num x < 2 ^ 64
      small u = omega arith

  pub table_of : (n h : ℕ) (xs : List A) → n < 2 ^ 64 → h < 2 ^ 64 → leb (length xs) n ≡ true → every ok xs ≡ true → every within xs ≡ true → rising num 0 h xs ≡ true → (table num n f h).fits xs ≡ true
  table_of n h xs k j l o w r = table_fits num n f h xs k l (each_fits h xs j (rising_below num 0 h xs r) o w) r

-- ---- the map

pub record Parts (m : Map) : Type 0 where
  pub next : number.fits m.next ≡ true
  pub lanes : (table (λ (x : Lane). x.num) max_lanes lane m.next).fits m.lanes ≡ true
  pub boundaries : (table (λ (x : LineString). x.num) max_boundaries line_string m.next).fits m.boundaries ≡ true
  pub stop_lines : (table (λ (x : LineString). x.num) max_stop_lines line_string m.next).fits m.stop_lines ≡ true
  pub signals : (table (λ (x : Signal). x.num) max_signals signal m.next).fits m.signals ≡ true
  pub crosswalks : (table (λ (x : Crosswalk). x.num) max_crosswalks crosswalk m.next).fits m.crosswalks ≡ true
  pub rules : (table (λ (x : Rule). x.num) max_rules rule m.next).fits m.rules ≡ true
  pub few : leb (points m) max_points ≡ true

pub map-parts : (m : Map) → is_map m ≡ true → Parts m
unfolding is_map map_file tables only via tagged ◌⊗◌
map-parts m h = record {
  next = search parts depth 12;
  lanes = search parts depth 12;
  boundaries = search parts depth 12;
  stop_lines = search parts depth 12;
  signals = search parts depth 12;
  crosswalks = search parts depth 12;
  rules = search parts depth 12;
  few = search parts depth 12;
}

pub parts-map : (m : Map) → Parts m → is_map m ≡ true
unfolding is_map map_file tables only via tagged ◌⊗◌
parts-map m p = and_i _ _ (and_i _ _ p.next (and_i _ _ p.lanes (and_i _ _ p.boundaries (and_i _ _ p.stop_lines (and_i _ _ p.signals (and_i _ _ p.crosswalks p.rules)))))) p.few

-- ---- points

finite_double : (x : Float) → is_finite x ≡ true → double.fits x ≡ true
unfolding is_finite double is_nan
finite_double nan h = clash h refl
finite_double (inf s) h = clash h refl
finite_double (fin s m e) h = and_i (fits binary64 (fin s m e)) _ h refl

pub height_fits : (x : Float) → is_finite x ≡ true → height.fits x ≡ true
unfolding height only
height_fits x h = and_i (double.fits x) _ (finite_double x h) h

coordinate_fits : (x : Float) → on_map x ≡ true → coordinate.fits x ≡ true
unfolding coordinate only on_map
coordinate_fits x h = and_i (double.fits x) _ (finite_double x (search parts)) h

pub point_fits : (p : Point3) → point_on_map p ≡ true → point.fits p ≡ true
unfolding point via ◌⊗◌ point_on_map
point_fits p h =
    and_i (coordinate.fits p.x) _ (coordinate_fits p.x (search parts))
    (and_i (coordinate.fits p.y) _ (coordinate_fits p.y (search parts)) (coordinate_fits p.z (search parts)))

-- ---- options

module _ {A : Type 0} (f : Format A) where
  pub if_option : (o : Option A) → if_there f.fits o ≡ true → (option f).fits o ≡ true
  unfolding if_there
  if_option None h = none_fits f
  if_option (Some a) h = option_fits f a h

  pub option_if : (o : Option A) → (option f).fits o ≡ true → if_there f.fits o ≡ true
  unfolding if_there
  option_if None h = refl
  option_if (Some a) h = fits_option f a h

-- ---- what a record may hold, its number and its ceilings apart

unfoldable pub line_ok_lem : Polyline → Bool
line_ok_lem xs = every point.fits xs

pub line_on_map : (xs : Polyline) → every point_on_map xs ≡ true → line_ok_lem xs ≡ true
unfolding line_ok_lem
line_on_map xs h = every_if point_on_map point.fits xs point_fits h

polyline_fits : (xs : Polyline) → line_ok_lem xs ≡ true → line_within xs ≡ true → polyline.fits xs ≡ true
unfolding polyline line_ok_lem line_within
polyline_fits xs o w = list_fits max_line_points point xs (omega arith) w o

unfoldable pub line_string_ok : LineString → Bool
line_string_ok d = line_ok_lem d.geometry

pub line_string_fits : (d : LineString) → number.fits d.num ≡ true → line_string_ok d ≡ true → line_string_within d ≡ true → line_string.fits d ≡ true
unfolding line_string via ◌⊗◌ line_string_ok line_string_within
line_string_fits d n o w = and_i _ _ n (polyline_fits d.geometry o w)

fits_line : (xs : Polyline) → polyline.fits xs ≡ true → line_ok_lem xs ≡ true
unfolding polyline line_ok_lem
fits_line xs h = list_each max_line_points point xs h

pub fits_line_string : (d : LineString) → line_string.fits d ≡ true → line_string_ok d ≡ true
unfolding line_string via ◌⊗◌ line_string_ok
fits_line_string d h = fits_line d.geometry (search parts)

unfoldable pub signal_ok : Signal → Bool
signal_ok s = (below 2).fits s.kind && line_ok_lem s.geometry && if_there height.fits s.height && every bulb.fits s.bulbs

pub signal_fits : (s : Signal) → number.fits s.num ≡ true → signal_ok s ≡ true → signal_within s ≡ true → signal.fits s ≡ true
unfolding signal via ◌⊗◌ signal_ok signal_within
signal_fits s n o w =
    and_i _ _ n
    (and_i ((below 2).fits s.kind) _ (search parts)
    (and_i _ _ (polyline_fits s.geometry (search parts) (search parts))
    (and_i ((option height).fits s.height) _ (if_option height s.height (search parts)) (list_fits max_bulbs bulb s.bulbs (omega arith) (search parts) (search parts)))))

pub fits_signal : (s : Signal) → signal.fits s ≡ true → signal_ok s ≡ true
unfolding signal via ◌⊗◌ signal_ok
fits_signal s h =
    and_i _ _ (and_i _ _ (and_i ((below 2).fits s.kind) _ (search parts) (fits_line s.geometry (search parts))) (option_if height s.height (search parts)))
    (list_each max_bulbs bulb s.bulbs (search parts))

unfoldable pub body_ok_lem : RuleBody → Bool
body_ok_lem (light signals line) = every number.fits signals && if_there number.fits line
body_ok_lem (sign type shape line) = (from 1).fits type && if_there line_ok_lem shape && if_there number.fits line
body_ok_lem (marking line) = number.fits line
body_ok_lem (right_of_way priority yielding stop_lines) = every number.fits priority && every number.fits yielding && every number.fits stop_lines
body_ok_lem (crossing c stop_lines) = number.fits c && every number.fits stop_lines
body_ok_lem (other k) = (from 1).fits k

unfoldable pub rule_ok : Rule → Bool
rule_ok r = body_ok_lem r.body && every number.fits r.lanes && every number.fits r.controlled

numbers_fit : (ns : List ℕ) → every number.fits ns ≡ true → leb (length ns) max_rule_entries ≡ true → numbers.fits ns ≡ true
unfolding numbers
numbers_fit ns o w = list_fits max_rule_entries number ns (omega arith) w o

fit_numbers : (ns : List ℕ) → numbers.fits ns ≡ true → every number.fits ns ≡ true
unfolding numbers
fit_numbers ns h = list_each max_rule_entries number ns h

few_numbers : (ns : List ℕ) → numbers.fits ns ≡ true → leb (length ns) max_rule_entries ≡ true
unfolding numbers
few_numbers ns h = list_few max_rule_entries number ns h

shape_fits : (o : Option Polyline) → if_there line_ok_lem o ≡ true → if_there line_within o ≡ true → if_there polyline.fits o ≡ true
unfolding if_there
shape_fits None o w = refl
shape_fits (Some xs) o w = polyline_fits xs o w

fits_shape : (o : Option Polyline) → if_there polyline.fits o ≡ true → if_there line_ok_lem o ≡ true
unfolding if_there
fits_shape None h = refl
fits_shape (Some xs) h = fits_line xs h

within_shape : (o : Option Polyline) → if_there polyline.fits o ≡ true → if_there line_within o ≡ true
unfolding if_there line_within polyline
within_shape None h = refl
within_shape (Some xs) h = list_few max_line_points point xs h

body_fits : (w : RuleBody) → body_ok_lem w ≡ true → body_within w ≡ true → body.fits w ≡ true
unfolding body via tagged ◌⊗◌ number body_ok_lem body_within
body_fits (light signals line) o w = and_i _ _ (numbers_fit signals (search parts) w) (if_option number line (search parts))
body_fits (sign type shape line) o w =
    and_i ((from 1).fits type) _ (search parts) (and_i _ _ (if_option polyline shape (shape_fits shape (search parts) w)) (if_option number line (search parts)))
body_fits (marking line) o w = o
body_fits (right_of_way priority yielding stop_lines) o w =
    and_i _ _ (numbers_fit priority (search parts) (search parts)) (and_i _ _ (numbers_fit yielding (search parts) (search parts)) (numbers_fit stop_lines (search parts) (search parts)))
body_fits (crossing c stop_lines) o w = and_i (number.fits c) _ (search parts) (numbers_fit stop_lines (search parts) w)
body_fits (other k) o w = o

fits_body : (w : RuleBody) → body.fits w ≡ true → body_ok_lem w ≡ true
unfolding body via tagged ◌⊗◌ number body_ok_lem
fits_body (light signals line) h = and_i _ _ (fit_numbers signals (search parts)) (option_if number line (search parts))
fits_body (sign type shape line) h =
    let p = both ((from 1).fits type) ((option polyline).fits shape && (option number).fits line) h in
    let q = both ((option polyline).fits shape) ((option number).fits line) p.1 in
    and_i _ _ (and_i _ _ p.0 (fits_shape shape (option_if polyline shape q.0))) (option_if number line q.1)
fits_body (marking line) h = h
fits_body (right_of_way priority yielding stop_lines) h =
    let p = both (numbers.fits priority) (numbers.fits yielding && numbers.fits stop_lines) h in
    let q = both (numbers.fits yielding) (numbers.fits stop_lines) p.1 in
    and_i _ _ (and_i _ _ (fit_numbers priority p.0) (fit_numbers yielding q.0)) (fit_numbers stop_lines q.1)
fits_body (crossing c stop_lines) h = let p = both (number.fits c) (numbers.fits stop_lines) h in and_i _ _ p.0 (fit_numbers stop_lines p.1)
fits_body (other k) h = h

within_body : (w : RuleBody) → body.fits w ≡ true → body_within w ≡ true
unfolding body via tagged ◌⊗◌ number body_within
within_body (light signals line) h = few_numbers signals (search parts)
within_body (sign type shape line) h =
    let p = both ((from 1).fits type) ((option polyline).fits shape && (option number).fits line) h in
    within_shape shape (option_if polyline shape (both ((option polyline).fits shape) _ p.1).0)
within_body (marking line) h = refl
within_body (right_of_way priority yielding stop_lines) h =
    let p = both (numbers.fits priority) (numbers.fits yielding && numbers.fits stop_lines) h in
    let q = both (numbers.fits yielding) (numbers.fits stop_lines) p.1 in
    and_i _ _ (and_i _ _ (few_numbers priority p.0) (few_numbers yielding q.0)) (few_numbers stop_lines q.1)
within_body (crossing c stop_lines) h = few_numbers stop_lines (both (number.fits c) (numbers.fits stop_lines) h).1
within_body (other k) h = refl

pub rule_fits : (r : Rule) → number.fits r.num ≡ true → rule_ok r ≡ true → rule_within r ≡ true → rule.fits r ≡ true
unfolding rule via ◌⊗◌ rule_ok rule_within
rule_fits r n o w =
    and_i _ _ n
    (and_i _ _ (body_fits r.body (search parts) (search parts))
    (and_i _ _ (numbers_fit r.lanes (search parts) (search parts)) (numbers_fit r.controlled (search parts) (search parts))))

pub fits_rule : (r : Rule) → rule.fits r ≡ true → rule_ok r ≡ true
unfolding rule via ◌⊗◌ rule_ok
fits_rule r h = and_i _ _ (and_i _ _ (fits_body r.body (search parts)) (fit_numbers r.lanes (search parts))) (fit_numbers r.controlled (search parts))

pub within_rule : (r : Rule) → rule.fits r ≡ true → rule_within r ≡ true
unfolding rule via ◌⊗◌ rule_within
within_rule r h = and_i _ _ (and_i _ _ (within_body r.body (search parts)) (few_numbers r.lanes (search parts))) (few_numbers r.controlled (search parts))

-- ---- what is known of a map's tables

module _ (m : Map) (ok : is_map m ≡ true) where
  pub stop_lines_ok : every line_string_ok m.stop_lines ≡ true
  stop_lines_ok = every_if line_string.fits line_string_ok m.stop_lines fits_line_string (table_each (λ (x : LineString). x.num) max_stop_lines line_string m.next m.stop_lines (map-parts m ok).stop_lines)

  pub signals_ok : every signal_ok m.signals ≡ true
  signals_ok = every_if signal.fits signal_ok m.signals fits_signal (table_each (λ (x : Signal). x.num) max_signals signal m.next m.signals (map-parts m ok).signals)

  pub rules_fit : every rule.fits m.rules ≡ true
  rules_fit = table_each (λ (x : Rule). x.num) max_rules rule m.next m.rules (map-parts m ok).rules

  pub rules_ok : every rule_ok m.rules ≡ true
  rules_ok = every_if rule.fits rule_ok m.rules fits_rule rules_fit

  pub rules_within : every rule_within m.rules ≡ true
  rules_within = every_if rule.fits rule_within m.rules within_rule rules_fit

  pub rules_few : leb (length m.rules) max_rules ≡ true
  rules_few = table_few (λ (x : Rule). x.num) max_rules rule m.next m.rules (map-parts m ok).rules
