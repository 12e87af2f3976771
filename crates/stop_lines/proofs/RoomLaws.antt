-- The room test, and that it is the ceilings of the map with the line and its rule. Assumes nothing.
use Prim.Native.Nat.{ℕ, ◌+◌, ◌-◌, ◌≤◌, ◌<◌}
use mathlib.Core.Path.{◌≡◌, refl, sym, ap, ◌∙◌}
use mathlib.Core.Bool.{Bool, true, false, not, ◌&&◌}
use Rattle.std.specs.Prelude.{None, Some}
use mathlib.Core.List.{List, [], ◌∷◌}
use native.Mathlib.Omega.{arith}
use lib.Dec.{ltb, leb}
use lib.Ieee.{Float}
use lib.ListN.{length}
use borrow.Author.Tests.{lt-ltb, le-ltb, ltb-true, le-leb, lt-leb, leb-true, not-true, not-false}
use Rattle.rows.specs.Lists.{every}
use Rattle.rows.proofs.Bools.{parts, agree, and_no}
use Rattle.store.specs.Layout.{count_of}
use Rattle.store.proofs.StoreLaws.{length_records}
use Rattle.row_tests.specs.Flat.{all_points}
use Rattle.geometry.specs.Polyline.{Polyline}
use Rattle.map.specs.Record.{RuleBody, sign, marking, Rule, Map}
use Rattle.map.specs.Ceilings.{if_there, size_of, line_within, line_string_within, body_within, rule_within, body_points, points, within_ceilings}
use Rattle.map.specs.MapFile.{is_map}
use Rattle.map.specs.Rows.{fresh, with_line, with_rule}
use Rattle.map.specs.Tables.{line_string_in, rule_in, map_of}
use Rattle.map.proofs.Parts.{rules_within, rules_few}
use Rattle.validity.proofs.Whole.{points_are}
use Rattle.edit.specs.declared.StopRule.{StopRule}
use Rattle.edit.specs.declared.StopRule.TheVariants.{StopSign, Marking, NoRule}
use Rattle.edit.specs.StopLine.{rule_at, line_draft}
use Rattle.place.specs.Place.{Placed}
use Rattle.finishing.specs.Grown.{grown_within}
use Rattle.finishing.proofs.CeilingLaws.{few_signals, within_grown, points_line, points_rule, grown_line, grown_any, every_more, length_more}
use Rattle.stop_lines.specs.Stop.{list_room, rule_room, room_for, placed_draft}

-- ---- the code's tests

module _ (n k lanes : ℕ) (e : n ≡ k) where
  pub list_free : n < 128 → leb lanes 16 ≡ list_room lanes k
  unfolding list_room
  list_free h = rw (← e, lt-ltb n 128 h)

  pub list_full : 128 ≤ n → false ≡ list_room lanes k
  unfolding list_room
  list_full h = rw (← e, le-ltb n 128 h)

module _ (rule : StopRule) (r : Bool) (lanes k : ℕ) where
  pub sign_room : rule ≡ StopSign → r ≡ list_room lanes k → r ≡ rule_room rule lanes k
  unfolding rule_room
  sign_room e h = rw e h

  pub marking_room : rule ≡ Marking → r ≡ list_room lanes k → r ≡ rule_room rule lanes k
  unfolding rule_room
  marking_room e h = rw e h

pub no_rule_room : (rule : StopRule) (lanes k : ℕ) → rule ≡ NoRule → true ≡ rule_room rule lanes k
unfolding rule_room
no_rule_room rule lanes k e = rw e

module _ (rule : StopRule) (lanes lines rules used points n : ℕ) (e : n ≡ lines) where
  pub lines_full : 64 ≤ n → false ≡ room_for rule lanes lines rules used points
  unfolding room_for
  lines_full h = rw (← e, le-ltb n 64 h)

  module _ (h : n < 64) (b : Bool) (eb : b ≡ rule_room rule lanes rules) where
    pub rules_full : not b ≡ true → false ≡ room_for rule lanes lines rules used points
    unfolding room_for
    rules_full q = rw (← e, lt-ltb n 64 h, ← eb, not-true b q)

    module _ (q : not b ≡ false) (u v : ℕ) (eu : u ≡ used) (ev : v ≡ u) where
      pub points_full : 1024 < v → false ≡ room_for rule lanes lines rules used points
      unfolding room_for
      points_full k = rw (← e, lt-ltb n 64 h, ← eb, not-false b q, lt-leb (used + points) 1024 (omega arith))

      pub points_free : v ≤ 1024 → leb points (1024 - v) ≡ room_for rule lanes lines rules used points
      unfolding room_for
      points_free k = rw (← e, lt-ltb n 64 h, ← eb, not-false b q) (agree (leb points (1024 - v)) (leb (used + points) 1024)
          (λ t. le-leb (used + points) 1024 (let w = leb-true points (1024 - v) t in omega arith)) (λ t. le-leb points (1024 - v) (let w = leb-true (used + points) 1024 t in omega arith)))

-- ---- the ceilings

and_yes : (b : Bool) → (b && true) ≡ b
and_yes true = refl
and_yes false = refl

-- of the seven tests of a grown map, those that are left: the fourth, of the line itself, comes last
left : (b1 b3 b4 b6 b7 : Bool) {a1 a2 a3 a4 a5 a6 a7 : Bool} → a1 ≡ b1 → a2 ≡ true → a3 ≡ b3 → a4 ≡ b4 → a5 ≡ true → a6 ≡ b6 → a7 ≡ b7
    → (a1 && a2 && a3 && a4 && a5 && a6 && a7) ≡ ((b1 && (b3 && b6) && b7) && b4)
left b1 b3 b4 b6 b7 h1 h2 h3 h4 h5 h6 h7 = rw (h1, h2, h3, h4, h5, h6, h7) (go b1 b3 b4 b6 b7)
  where
    go : (x y u z v : Bool) → (x && true && y && u && true && z && v) ≡ ((x && (y && z) && v) && u)
    go true true true z v = sym (and_yes (z && v))
    go true true false z v = sym (and_no (z && v))
    go true false u z v = refl
    go false y u z v = refl

one_more : (n k : ℕ) → leb (n + 1) k ≡ ltb n k
one_more n k = agree (leb (n + 1) k) (ltb n k) (λ t. lt-ltb n k (let u = leb-true (n + 1) k t in omega arith)) (λ t. le-leb (n + 1) k (let u = ltb-true n k t in omega arith))

none_more : (n k : ℕ) → leb n k ≡ true → leb (n + 0) k ≡ true
none_more n k h = let e : n + 0 ≡ n = omega arith in rw e h

module _ (m : Map) (ok : is_map m ≡ true) (xs : Polyline) where
  line_fits : every line_string_within (record { num = fresh m; geometry = xs } ∷ []) ≡ line_within xs
  unfolding every line_string_within
  line_fits = and_yes (line_within xs)

  line_room : within_ceilings (with_line m xs) ≡ ((ltb (length m.stop_lines) 64 && (true && true) && leb (points m + length xs) 1024) && line_within xs)
  unfolding grown_within every
  line_room =
      within_grown m (with_line m xs) _ [] (grown_line m xs) ok
      ∙ left (ltb (length m.stop_lines) 64) true (line_within xs) true (leb (points m + length xs) 1024) (one_more (length m.stop_lines) 64) (none_more (length m.signals) 64 (few_signals m ok)) (rules_few m ok) line_fits refl
      (rules_within m ok) (ap (λ (n : ℕ). leb n 1024) (points_line m xs))

  module _ (w : RuleBody) (lanes : List ℕ) (bw : body_within w ≡ true) (bp : body_points w ≡ 0) where
    abbrev new : Rule
    new = record { num = fresh (with_line m xs); body = w; lanes = lanes; controlled = [] }

    rule_within_lem : rule_within new ≡ leb (length lanes) 16
    unfolding rule_within
    rule_within_lem = rw bw (and_yes (leb (length lanes) 16))

    rule_line_room : within_ceilings (with_rule (with_line m xs) w lanes) ≡ ((ltb (length m.stop_lines) 64 && (ltb (length m.rules) 128 && leb (length lanes) 16) && leb (points m + length xs) 1024) && line_within xs)
    unfolding grown_within every
    rule_line_room =
        within_grown m (with_rule (with_line m xs) w lanes) _ [] (grown_any m (with_line m xs) (with_rule (with_line m xs) w lanes) _ [] (grown_line m xs) refl refl refl refl refl) ok
        ∙ left (ltb (length m.stop_lines) 64) (ltb (length m.rules) 128) (line_within xs) (leb (length lanes) 16) (leb (points m + length xs) 1024)
        (one_more (length m.stop_lines) 64) (none_more (length m.signals) 64 (few_signals m ok)) (ap (λ (n : ℕ). leb n 128) (length_more m.rules new) ∙ one_more (length m.rules) 128) line_fits refl
        (every_more rule_within m.rules new (rules_within m ok) ∙ rule_within_lem)
        (ap (λ (n : ℕ). leb n 1024) (points_rule (with_line m xs) w lanes ∙ sum))
      where
        sum : points (with_line m xs) + body_points w ≡ points m + length xs
        sum = let a = points_line m xs in omega arith

-- a placed line and its rule: room goes by the map's counts, and the line must be within its own ceiling
pub map_room : (m : Map) → is_map m ≡ true → (p : Placed) (lanes : List ℕ) (rule : StopRule)
    → within_ceilings (placed_draft rule lanes m p).map ≡ (room_for rule (length lanes) (length m.stop_lines) (length m.rules) (points m) (length p.points) && line_within p.points)
unfolding placed_draft line_draft rule_at room_for rule_room list_room body_within body_points if_there size_of
map_room m ok p lanes StopSign = rule_line_room m ok p.points (sign 1 None (Some (fresh m))) lanes refl refl
map_room m ok p lanes Marking = rule_line_room m ok p.points (marking (fresh m)) lanes refl refl
map_room m ok p lanes NoRule = line_room m ok p.points

line_count : (ws : List ℕ) (cs : List Float) → length (map_of ws cs).stop_lines ≡ count_of ws 2
unfolding map_of
line_count ws cs = length_records line_string_in ws cs 2

rule_count : (ws : List ℕ) (cs : List Float) → length (map_of ws cs).rules ≡ count_of ws 5
unfolding map_of
rule_count ws cs = length_records rule_in ws cs 5

module _ (ws : List ℕ) (cs : List Float) (ok : is_map (map_of ws cs) ≡ true) (p : Placed) (short : length p.points ≤ 64) (lanes : List ℕ) where
  of_tables : (b : ℕ → ℕ → ℕ → Bool) → b (length (map_of ws cs).stop_lines) (length (map_of ws cs).rules) (points (map_of ws cs)) ≡ b (count_of ws 2) (count_of ws 5) (all_points ws)
  of_tables b = rw (line_count ws cs, rule_count ws cs, points_are ws cs)

  pub within_room : (rule : StopRule) → within_ceilings (placed_draft rule lanes (map_of ws cs) p).map ≡ room_for rule (length lanes) (count_of ws 2) (count_of ws 5) (all_points ws) (length p.points)
  unfolding line_within
  within_room rule =
      map_room (map_of ws cs) ok p lanes rule ∙ rw (le-leb (length p.points) 64 short) (and_yes _) ∙ of_tables (λ l r u. room_for rule (length lanes) l r u (length p.points))

-- what the test gives to those who store
pub record HasRoom (k : StopRule) (n lines rules : ℕ) : Type 0 where
  pub line : lines < 64
  pub rule : rule_room k n rules ≡ true

pub has_room : (rule : StopRule) (lanes lines rules used points : ℕ) → room_for rule lanes lines rules used points ≡ true → HasRoom rule lanes lines rules
unfolding room_for
has_room rule lanes lines rules used points h = record { line = ltb-true lines 64 (search parts); rule = search parts }
