-- The map that a light leaves keeps below the ceilings exactly where there is room for it. Assumes nothing.
use Prim.Native.Nat.{ℕ, ◌+◌, ◌≤◌}
use mathlib.Core.Path.{◌≡◌, refl, sym, ap, ◌∙◌}
use mathlib.Core.Bool.{Bool, true, false, not, ◌&&◌, cond}
use Rattle.std.specs.Prelude.{Option, None, Some}
use mathlib.Core.List.{List, [], ◌∷◌, ◌++◌, append-nil}
use native.Mathlib.Omega.{arith}
use borrow.Author.Tests.{leb-true, le-leb}
use lib.Dec.{leb}
use lib.ListN.{length, length-append}
use Rattle.rows.specs.Lists.{every, total}
use Rattle.rows.specs.Table.{find, replaced}
use Rattle.rows.proofs.Bools.{agree}
use Rattle.geometry.specs.Polyline.{Polyline}
use Rattle.map.specs.Ceilings.{line_within, line_string_within, signal_within, body_within, rule_within, line_string_points, signal_points, body_points, rule_points, points, within_ceilings}
use Rattle.map.specs.MapFile.{is_map}
use Rattle.map.specs.Record.{LineString, light, Signal, Rule, Map}
use Rattle.map.specs.Rows.{fresh, with_line, with_signal}
use Rattle.map.specs.Lookup.{rule_of}
use Rattle.map.proofs.Parts.{rules_within}
use Rattle.edit.specs.Light.{extended, joined_lanes}
use Rattle.finishing.specs.Grown.{Grown, grown_within}
use Rattle.finishing.proofs.CeilingLaws.{within_grown, points_grown, every_more, total_more, length_more}
use Rattle.lifting.proofs.OrderLaws.{lifted_within}
use Rattle.light_draft.specs.Drafting.{one_if, lifted_first, group_with, with_light, Joinable}
use Rattle.light_draft.proofs.DraftLaws.{rules_rise, group_number}
use Rattle.light_store.proofs.LiftedLaws.{first_rises, first_found}
use Rattle.light_room.specs.Room.{counts_fit, room_for}
use Rattle.light_room.proofs.ListLaws.{length-replaced, every_replaced, total_replaced}

first_within : (m : Map) (o : Option ℕ) (lanes : List ℕ) → is_map m ≡ true → every rule_within (lifted_first m o lanes).rules ≡ true
unfolding lifted_first
first_within m None lanes ok = rules_within m ok
first_within m (Some s) lanes ok = lifted_within s lanes m.rules (rules_within m ok)

-- of the seven tests of a grown map, those that are left
left : (b1 b2 b3 b5 b6 b7 : Bool) {a1 a2 a3 a4 a5 a6 a7 : Bool} → a1 ≡ b1 → a2 ≡ b2 → a3 ≡ b3 → a4 ≡ true → a5 ≡ b5 → a6 ≡ b6 → a7 ≡ b7
    → (a1 && a2 && a3 && a4 && a5 && a6 && a7) ≡ ((b1 && (b2 && b3)) && (b5 && (b6 && b7)))
left b1 b2 b3 b5 b6 b7 h1 h2 h3 h4 h5 h6 h7 = rw (h1, h2, h3, h4, h5, h6, h7) (go b1 b2 b3 b5 b6)
  where
    go : (x y z u v : Bool) → (x && y && z && true && u && v && b7) ≡ ((x && (y && z)) && (u && (v && b7)))
    go true true true true true = refl
    go true true true true false = refl
    go true true true false v = refl
    go true true false u v = refl
    go true false z u v = refl
    go false y z u v = refl

-- tests of sums that are as far from their bounds
shifted : (a b c d : ℕ) → a + d ≡ c + b → leb a b ≡ leb c d
shifted a b c d e = agree (leb a b) (leb c d) (λ t. le-leb c d (let u = leb-true a b t in omega arith)) (λ t. le-leb a b (let u = leb-true c d t in omega arith))

-- what is to be known of the rules, where k are new
pub record Rules (one : Map) (rs : List Rule) (k : ℕ) (lists : Bool) : Type 0 where
  pub count : length rs ≡ length one.rules + k
  pub within : every rule_within rs ≡ lists
  pub points : total rule_points rs ≡ total rule_points one.rules

module _ (m : Map) (ok : is_map m ≡ true) (line : Option ℕ) (lanes : List ℕ) (drawn : Bool) (xs : Polyline) (short : length xs ≤ 64) (s : Signal) (small : length s.geometry ≤ 64) (n : ℕ) where
  abbrev one : Map
  one = lifted_first m line lanes

  abbrev three : Map
  three = with_signal (cond drawn (with_line one xs) one) s

  abbrev end : Option Rule → Map
  end g = with_light three lanes n line g

  abbrev new_lines : List LineString
  new_lines = cond drawn (record { num = fresh m; geometry = xs } ∷ []) []

  grown : (g : Option Rule) → Grown m (end g) new_lines (s ∷ [])
  unfolding lifted_first with_light
  grown g = go line drawn g
    where
      go : (o : Option ℕ) (b : Bool) (h : Option Rule) → Grown m (with_light (with_signal (cond b (with_line (lifted_first m o lanes) xs) (lifted_first m o lanes)) s) lanes n line h) (cond b (record { num = fresh m; geometry = xs } ∷ []) []) (s ∷ [])
      go None true None = record { same_lanes = refl; same_boundaries = refl; more_lines = refl; more_signals = refl; same_crosswalks = refl }
      go None true (Some r) = record { same_lanes = refl; same_boundaries = refl; more_lines = refl; more_signals = refl; same_crosswalks = refl }
      go None false None = record { same_lanes = refl; same_boundaries = refl; more_lines = sym (append-nil m.stop_lines); more_signals = refl; same_crosswalks = refl }
      go None false (Some r) = record { same_lanes = refl; same_boundaries = refl; more_lines = sym (append-nil m.stop_lines); more_signals = refl; same_crosswalks = refl }
      go (Some t) true None = record { same_lanes = refl; same_boundaries = refl; more_lines = refl; more_signals = refl; same_crosswalks = refl }
      go (Some t) true (Some r) = record { same_lanes = refl; same_boundaries = refl; more_lines = refl; more_signals = refl; same_crosswalks = refl }
      go (Some t) false None = record { same_lanes = refl; same_boundaries = refl; more_lines = sym (append-nil m.stop_lines); more_signals = refl; same_crosswalks = refl }
      go (Some t) false (Some r) = record { same_lanes = refl; same_boundaries = refl; more_lines = sym (append-nil m.stop_lines); more_signals = refl; same_crosswalks = refl }

  lines_count : length new_lines ≡ one_if drawn
  lines_count = go drawn
    where
      go : (b : Bool) → length {A = LineString} (cond b (record { num = fresh m; geometry = xs } ∷ []) []) ≡ one_if b
      go true = refl
      go false = refl

  lines_fit : every line_string_within new_lines ≡ true
  unfolding every line_string_within line_within
  lines_fit = go drawn
    where
      go : (b : Bool) → every line_string_within (cond b (record { num = fresh m; geometry = xs } ∷ []) []) ≡ true
      go true = rw (le-leb (length xs) 64 short)
      go false = refl

  lines_points : total line_string_points new_lines ≡ cond drawn (length xs) 0
  unfolding total line_string_points
  lines_points = go drawn
    where
      go : (b : Bool) → total line_string_points (cond b (record { num = fresh m; geometry = xs } ∷ []) []) ≡ cond b (length xs) 0
      go true = omega arith
      go false = refl

  signal_fits : every signal_within (s ∷ []) ≡ leb (length s.bulbs) 4
  unfolding every signal_within line_within
  signal_fits = rw (le-leb (length s.geometry) 64 small) (go (leb (length s.bulbs) 4))
    where
      go : (b : Bool) → (b && true) ≡ b
      go true = refl
      go false = refl

  signal_points_lem : total signal_points (s ∷ []) ≡ length s.geometry
  unfolding total signal_points
  signal_points_lem = omega arith

  three_rules : three.rules ≡ one.rules
  three_rules = go drawn
    where
      go : (b : Bool) → (with_signal (cond b (with_line one xs) one) s).rules ≡ one.rules
      go true = refl
      go false = refl

  -- a new rule
  pub new_rules : Rules one (end None).rules 1 (leb (length lanes) 16)
  unfolding with_light rule_within body_within rule_points body_points
  new_rules =
      let r : Rule = record { num = fresh three; body = light (n ∷ []) line; lanes = lanes; controlled = [] } in
      let e : (end None).rules ≡ one.rules ++ (r ∷ []) = ap (λ (rs : List Rule). rs ++ (r ∷ [])) three_rules in
      record {
        count = ap length e ∙ length_more one.rules r;
        within = ap (every rule_within) e ∙ every_more rule_within one.rules r (first_within m line lanes ok) ∙ go (leb (length lanes) 16);
        points = ap (total rule_points) e ∙ total_more rule_points one.rules r ∙ omega arith;
      }
    where
      go : (b : Bool) → ((true && b) && true) ≡ b
      go true = refl
      go false = refl

  -- the rule of the light that is joined
  module _ (g : ℕ) (j : Joinable m g) where
    abbrev put : Rule
    put = group_with j.rule n line lanes

    found : find (λ (x : Rule). x.num) put.num one.rules ≡ Some j.rule
    unfolding group_with rule_of
    found = ap (λ (k : ℕ). find (λ (x : Rule). x.num) k one.rules) (group_number m g j) ∙ first_found m line lanes g j

    no_points : rule_points put ≡ rule_points j.rule
    unfolding group_with rule_points body_points extended
    no_points = rw j.body

    put_within : rule_within put ≡ (leb (length j.signals + 1) 16 && leb (length (joined_lanes j.rule.lanes lanes)) 16)
    unfolding group_with rule_within body_within extended
    put_within = rw (j.body, j.bare, length-append j.signals (n ∷ [])) (go _)
      where
        go : (b : Bool) → (b && true) ≡ b
        go true = refl
        go false = refl

    pub joined_rules : Rules one (end (Some j.rule)).rules 0 (leb (length j.signals + 1) 16 && leb (length (joined_lanes j.rule.lanes lanes)) 16)
    unfolding with_light
    joined_rules =
        let e : (end (Some j.rule)).rules ≡ replaced (λ (x : Rule). x.num) put one.rules = ap (replaced (λ (x : Rule). x.num) put) three_rules in
        let up = first_rises m line lanes (rules_rise m ok) in
        record {
          count = ap length e ∙ length-replaced put one.rules ∙ omega arith;
          within = ap (every rule_within) e ∙ every_replaced put rule_within one.rules j.rule found (first_within m line lanes ok) ∙ put_within;
          points = ap (total rule_points) e ∙ total_replaced put 0 one.next one.rules j.rule up found no_points;
        }

  -- the ceilings, tested on the old map's counts
  pub end_room : (g : Option Rule) (joins : Bool) (lists : Bool) → Rules one (end g).rules (one_if (not joins)) lists → (fr fp : ℕ) → length m.rules ≡ length one.rules + fr → total rule_points m.rules ≡ total rule_points one.rules + fp
      → within_ceilings (end g) ≡ room_for (length m.stop_lines) (length m.signals) (length m.rules) (points m) drawn joins fr fp (cond drawn (length xs) 0 + length s.geometry) (length s.bulbs) lists
  unfolding grown_within room_for counts_fit
  end_room g joins lists h fr fp er ep =
      within_grown m (end g) new_lines (s ∷ []) (grown g) ok
      ∙ left _ _ _ _ _ _
      (ap (λ (k : ℕ). leb (length m.stop_lines + k) 64) lines_count)
      refl
      (shifted (length (end g).rules) 128 (length m.rules + one_if (not joins)) (128 + fr) (omega (arith, h.count)))
      lines_fit
      signal_fits
      h.within
      (shifted (points (end g)) 1024 (points m + (cond drawn (length xs) 0 + length s.geometry)) (1024 + fp) (omega (arith, points_grown m (end g) new_lines (s ∷ []) (grown g), h.points, lines_points, signal_points_lem)))
