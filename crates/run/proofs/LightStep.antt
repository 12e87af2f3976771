-- The light's draft has the shape.
use mathlib.Core.Path.{◌≡◌, refl, sym, ap, subst, ◌∙◌}
use mathlib.Core.Bool.{Bool, true, false, not, ◌&&◌, ◌||◌, cond}
use Rattle.std.specs.Prelude.{Option, None, Some}
use mathlib.Core.List.{List, [], ◌∷◌, ◌++◌, append-nil, append_assoc, append_cancel_left, map}
use Prim.Native.Nat.{ℕ, suc, ◌+◌, ◌<◌, ◌≤◌, ◌^◌}
use lib.Dec.{eqb, ltb}
use lib.ListN.{length, get_or, length-append}
use lib.Ieee.{Float, lt, of_bits, fits}
use native.Mathlib.Omega.{arith}
use borrow.Author.Tests.{ltb-true, eqb-true, leb-true, not-false}
use Rattle.refusal.specs.Answer.{done, present}
use Rattle.rows.specs.Lists.{list_to, or_default, every, keep, joined, same_list, member, or_else, no_entries}
use Rattle.rows.specs.Table.{find, rising, replaced}
use Rattle.rows.proofs.Bools.{parts, and_i, or_no}
use Rattle.rows.proofs.SameLists.{list_differs}
use Rattle.rows.proofs.Tables.{rising_below, holds_found, is_some, one, from_some, changed, changed_some, found_is, find-append, find_changed, rising-append, rising_changed, rising_wider, every_append}
use Rattle.geometry.specs.Double.{is_finite, f0}
use Rattle.geometry.specs.Point.{point_on_map}
use Rattle.geometry.specs.Polyline.{Polyline}
use Rattle.codec.specs.Format.{Bytes, via, ◌⊗◌, tagged, counted, only}
use Rattle.codec.specs.Items.{below, list, option}
use Rattle.codec.specs.Number.{number}
use Rattle.codec.proofs.Fits.{form_splits, number_fits}
use Rattle.map.specs.Ceilings.{rule_within, body_within, if_there, max_rules}
use Rattle.map.specs.Entity.{EntityRef, entity, listed, form_in}
use Rattle.map.specs.Lookup.{line_of, rule_of}
use Rattle.map.specs.MapFile.{rule, body, is_map, numbers, bulb}
use Rattle.map.specs.Record.{LineString, Signal, Bulb, Rule, Map, RuleBody, light, sign, marking, right_of_way, crossing, other, signal_kind_number, bulb_color_number, bulb_arrow_number}
use Rattle.map.specs.Rows.{rule_with, fresh, with_line, with_signal, with_rules}
use Rattle.map.specs.declared.BulbArrow.{BulbArrow}
use Rattle.map.specs.declared.BulbArrow.TheVariants.{NoArrow, Up, Down, Left, Right, UpLeft, UpRight, DownLeft, DownRight}
use Rattle.map.specs.declared.BulbColor.{BulbColor}
use Rattle.map.specs.declared.BulbColor.TheVariants.{Red, Yellow, Green, White}
use Rattle.map.specs.declared.SignalKind.{SignalKind}
use Rattle.map.specs.declared.SignalKind.TheVariants.{Vehicle, Pedestrian}
use Rattle.map.proofs.ByKind.{up₅, up₈}
use Rattle.map.proofs.Parts.{line_string_ok, signal_ok, rule_ok, body_ok_lem, rules_ok, point_fits, line_on_map, height_fits, rules_within, rules_few}
use Rattle.map.proofs.Presence.{held_below}
use Rattle.changes.specs.ChangeFile.{max_warnings}
use Rattle.changes.specs.ChangeSet.{Warning}
use Rattle.changes.proofs.Entries.{Warned, none_warned, both_warned, more_warned, one_warned, bare_warned}
use Rattle.changes.proofs.Refs.{listed-append, same_as}
use Rattle.edit.specs.Edit.{Draft}
use Rattle.edit.specs.Light.{lift_warning, housing_for, synthesize_signal_geometry, existing_stop_line, auto_plan, draw_plan, light_line, group_line, group_rule, bad_height, default_height, check_housing, check_choice, plan_for, anchor_for, light_plan, light_draft, light_edit, line_drawn, plan_points, plan_ends, use_line, use_none, draw, stored_bulb, bulbs_or, default_bulbs, default_bulb, colors, height_of, NewTrafficSignal, Plan, Planned, Drawing, is_stop_at, kept, lift, eased_ref, gone_ref, lift_all, signal_drawn, grouped, extended, joined_lanes, new_signal, bulbs_of, positions, Lift, eased, gone}
use Rattle.place.specs.declared.SectionNames.{SectionNames}
use Rattle.place.specs.Place.{Placed, check_lane_list, place_stop_line}
use Rattle.place.specs.declared.Placement.{Placement}
use Rattle.place.specs.declared.Placement.TheVariants.{AtLaneEnd}
use Rattle.place.proofs.Answers.{never, done_is, went, next, past, there}
use Rattle.edit.specs.declared.SignalBulb.{SignalBulb}
use Rattle.edit.specs.declared.StopLineChoice.{StopLineChoice}
use Rattle.edit.specs.declared.StopLineChoice.TheVariants.{Existing, New, NoLine, Automatic}
use Rattle.run.specs.Law.{differ}
use Rattle.run.proofs.Answers.{lanes_known, below_fits, no_fresh, is_fresh, no_ok, is_ok, none_touched, rise_one, rise_two, rise_three}
use Rattle.run.proofs.Lifts.{lift_by, lift-all, changed_append, changed_twice, is_eased, is_gone, listed_eased, listed_gone, lift_touched, lift_gone, lift_same, lift_ok, keep_every}
use Rattle.run.proofs.PlaceWarned.{first_fits, place_warned}
use Rattle.run.proofs.Rules.{every_true, body_ok, body_within_lem, rule_made, put, put_all, put_same, put_touched, rule_split}
use Rattle.run.proofs.Shape.{Shape, Fresh, new_refs, listed_created, new_ones}
use Rattle.run.proofs.Told.{gone_at, touched_at, differ_self}

-- ---- lights are not lifted

pub data IsLight : RuleBody → Type 0 where
  is_light : {signals : List ℕ} {line : Option ℕ} → IsLight (light signals line)

pub light_kept : (s : ℕ) (lanes : List ℕ) (y : Rule) → IsLight y.body → lift s lanes y ≡ kept
unfolding lift
light_kept s lanes y i = rw (go y.body i)
  where
    go : (w : RuleBody) → IsLight w → is_stop_at s w ≡ false
    go w is_light = unfold is_stop_at in refl

abbrev eased_by : Option ℕ → List ℕ → Rule → Bool
eased_by None lanes r = false
eased_by (Some s) lanes r = is_eased (lift s lanes r)

abbrev gone_by : Option ℕ → List ℕ → Rule → Bool
gone_by None lanes r = false
gone_by (Some s) lanes r = is_gone (lift s lanes r)

abbrev at : (Rule → Bool) → Option Rule → Bool
at p None = false
at p (Some x) = p x

light_stays : (l : Option ℕ) (lanes : List ℕ) (y : Rule) → IsLight y.body → lift_by l lanes y ≡ Some y
light_stays None lanes y i = refl
light_stays (Some s) lanes y i = rw (light_kept s lanes y i)

light_uneased : (l : Option ℕ) (lanes : List ℕ) (y : Rule) → IsLight y.body → eased_by l lanes y ≡ false
light_uneased None lanes y i = refl
light_uneased (Some s) lanes y i = rw (light_kept s lanes y i)

light_not_gone : (l : Option ℕ) (lanes : List ℕ) (y : Rule) → IsLight y.body → gone_by l lanes y ≡ false
light_not_gone None lanes y i = refl
light_not_gone (Some s) lanes y i = rw (light_kept s lanes y i)

-- ---- what lifting leaves of a drawing

module _ (lanes : List ℕ) (d : Drawing) where
  pub lifts_map : (l : Option ℕ) → (lift_all lanes d l).map ≡ with_rules d.map (changed (lift_by l lanes) d.map.rules)
  unfolding lift_all
  lifts_map None = ap {B = Map} (with_rules d.map) (sym (changed_some d.map.rules))
  lifts_map (Some s) = ap {B = Map} (with_rules d.map) (lift-all s lanes d.map.rules)

  lifts_created : (l : Option ℕ) → (lift_all lanes d l).created ≡ d.created
  unfolding lift_all
  lifts_created None = refl
  lifts_created (Some s) = refl

  or_and_no : (b c : Bool) → b ≡ (b || (c && false))
  or_and_no true c = refl
  or_and_no false true = refl
  or_and_no false false = refl

  lifts_modified : (l : Option ℕ) (h : ℕ) (a : EntityRef) → rising (λ r. r.num) 0 h d.map.rules ≡ true
      → listed (lift_all lanes d l).modified a ≡ (listed d.modified a || (eqb a.kind 8 && at (eased_by l lanes) (find (λ r. r.num) a.num d.map.rules)))
  unfolding lift_all
  lifts_modified None h a r = rw (never_at (find (λ r. r.num) a.num d.map.rules)) (or_and_no (listed d.modified a) (eqb a.kind 8))
    where
      never_at : (o : Option Rule) → at (λ r. false) o ≡ false
      never_at None = refl
      never_at (Some x) = refl
  lifts_modified (Some s) h a r = rw (listed-append d.modified (joined (λ r. eased_ref r (lift s lanes r)) d.map.rules) a, listed_eased s lanes 0 h d.map.rules a r)

  lifts_deleted : (l : Option ℕ) (h : ℕ) (a : EntityRef) → rising (λ r. r.num) 0 h d.map.rules ≡ true
      → listed (lift_all lanes d l).deleted a ≡ (listed d.deleted a || (eqb a.kind 8 && at (gone_by l lanes) (find (λ r. r.num) a.num d.map.rules)))
  unfolding lift_all
  lifts_deleted None h a r = rw (never_at (find (λ r. r.num) a.num d.map.rules)) (or_and_no (listed d.deleted a) (eqb a.kind 8))
    where
      never_at : (o : Option Rule) → at (λ r. false) o ≡ false
      never_at None = refl
      never_at (Some x) = refl
  lifts_deleted (Some s) h a r = rw (listed-append d.deleted (joined (λ r. gone_ref r (lift s lanes r)) d.map.rules) a, listed_gone s lanes 0 h d.map.rules a r)

-- ---- the warnings

lift_warned : (s : ℕ) (lanes : List ℕ) (h : ℕ) (t : List Rule) → h < 2 ^ 64 → every (λ r. ltb r.num h) t ≡ true → Warned (length t) (joined (λ r. lift_warning r (lift s lanes r)) t)
unfolding joined every
lift_warned s lanes h [] q e = none_warned
lift_warned s lanes h (r ∷ t) q e = more_warned (1 + length t) (suc (length t)) _ (omega arith) (both_warned (lift_warning r (lift s lanes r)) _ (go (lift s lanes r)) (lift_warned s lanes h t q (search parts)))
  where
    small : r.num < 2 ^ 64
    small = let u = ltb-true r.num h (search parts) in omega arith

    go : (k : Lift) → Warned 1 (lift_warning r k)
    go kept = unfold lift_warning in none_warned
    go (eased ks) = unfold lift_warning in one_warned 4 8 r.num refl refl small
    go gone = unfold lift_warning in one_warned 4 8 r.num refl refl small

all-warned : (lanes : List ℕ) (d : Drawing) (l : Option ℕ) (n h : ℕ) → Warned n d.warnings → h < 2 ^ 64 → every (λ r. ltb r.num h) d.map.rules ≡ true → Warned (n + length d.map.rules) (lift_all lanes d l).warnings
unfolding lift_all
all-warned lanes d None n h w q e = more_warned n _ _ (omega arith) w
all-warned lanes d (Some s) n h w q e = both_warned d.warnings _ w (lift_warned s lanes h d.map.rules q e)

length-replaced : (r : Rule) (t : List Rule) → length (replaced (λ x. x.num) r t) ≡ length t
unfolding replaced
length-replaced r [] = refl
length-replaced r (x ∷ t) = ap suc (length-replaced r t)

-- ---- before the lift: a rule is as it was, or it is the group's, a light that shows the change

data Before (x : Rule) : Option Rule → Type 0 where
  as_was : Before x (Some x)
  lit : {y : Rule} → IsLight y.body → same_list (rule.write x) (rule.write y) ≡ false → Before x (Some y)

module _ (l : Option ℕ) (lanes : List ℕ) (pre : Rule → Option Rule) where
  abbrev after : Rule → Option Rule
  after x = from_some (pre x) (lift_by l lanes)

  eased_shows : (l : Option ℕ) (x : Rule) → rule_within x ≡ true → eased_by l lanes x ≡ differ (Some (rule.write x)) (form_in rule.write (lift_by l lanes x))
  unfolding form_in
  eased_shows None x f = sym (differ_self (Some (rule.write x)))
  eased_shows (Some s) x f = lift_touched s lanes x f

  gone_shows : (l : Option ℕ) (x : Rule) → gone_by l lanes x ≡ not (is_some (lift_by l lanes x))
  gone_shows None x = refl
  gone_shows (Some s) x = lift_gone s lanes x

  touched_by : (x : Rule) → rule_within x ≡ true → Before x (pre x) → (touched_at rule.write pre (Some x) || at (eased_by l lanes) (pre x)) ≡ touched_at rule.write after (Some x)
  unfolding form_in
  touched_by x f b = go (pre x) refl b
    where
      go : (o : Option Rule) → pre x ≡ o → Before x o → (differ (Some (rule.write x)) (form_in rule.write o) || at (eased_by l lanes) o) ≡ differ (Some (rule.write x)) (form_in rule.write (from_some o (lift_by l lanes)))
      go None e b' = elim b' [ ]
      go (Some y) e as_was = rw (differ_self (Some (rule.write x))) (eased_shows l x f)
      go (Some y) e (lit i s) = rw (light_stays l lanes y i, light_uneased l lanes y i) (or_no (differ (Some (rule.write x)) (Some (rule.write y))))

  gone_by_lem : (x : Rule) → Before x (pre x) → at (gone_by l lanes) (pre x) ≡ gone_at after (Some x)
  gone_by_lem x b = go (pre x) b
    where
      go : (o : Option Rule) → Before x o → at (gone_by l lanes) o ≡ not (is_some (from_some o (lift_by l lanes)))
      go None b' = elim b' [ ]
      go (Some y) as_was = gone_shows l y
      go (Some y) (lit i s) = gone_shows l y

-- ---- the drawing with its line, its signal and its group

-- what is drawn first: a line or none, and the light's line
abbrev pub begun : Map → Option Polyline → Option ℕ → List Warning → Drawing
begun m None l ws = record { map = m; line = l; created = []; modified = []; deleted = []; warnings = ws }
begun m (Some p) l ws = record { map = with_line m p; line = l; created = entity 5 (fresh m) ∷ []; modified = []; deleted = []; warnings = ws }

abbrev pub new_points : Option Polyline → Polyline
new_points None = []
new_points (Some p) = p

-- the group's rule is there, and is a light
pub data Group (m : Map) : Option Rule → Type 0 where
  no_group : Group m None
  group : {r : Rule} → find (λ x. x.num) r.num m.rules ≡ Some r → IsLight r.body → Group m (Some r)

extended_light : (w : RuleBody) (n : ℕ) (l : Option ℕ) → IsLight w → IsLight (extended w n l)
unfolding extended
extended_light w n l is_light = is_light

-- what each step leaves of the map it starts from
pub record Same (m n : Map) : Type 0 where
  pub lanes : n.lanes ≡ m.lanes
  pub boundaries : n.boundaries ≡ m.boundaries
  pub crosswalks : n.crosswalks ≡ m.crosswalks

abbrev line' : Map → Option Polyline → Option LineString
line' m None = None
line' m (Some p) = Some (record { num = fresh m; geometry = p })

record Begun (m : Map) (o : Option Polyline) (d : Drawing) : Type 0 where
  kept : Same m d.map
  stop_lines : d.map.stop_lines ≡ m.stop_lines ++ one (line' m o)
  signals : d.map.signals ≡ m.signals
  rules : d.map.rules ≡ m.rules
  created : d.created ≡ new_refs (λ (x : LineString). x.num) 5 (line' m o)
  modified : d.modified ≡ []
  deleted : d.deleted ≡ []
  later : m.next ≤ d.map.next
  fresh_line : Fresh (λ (x : LineString). x.num) m.next d.map.next (line' m o)

begun_is : (m : Map) (o : Option Polyline) (l : Option ℕ) (ws : List Warning) → Begun m o (begun m o l ws)
begun_is m None l ws = record {
  kept = record { lanes = refl; boundaries = refl; crosswalks = refl };
  stop_lines = sym (append-nil m.stop_lines);
  signals = refl;
  rules = refl;
  created = refl;
  modified = refl;
  deleted = refl;
  later = omega arith;
  fresh_line = no_fresh (λ (x : LineString). x.num) m.next m.next;
}
begun_is m (Some p) l ws = record {
  kept = record { lanes = refl; boundaries = refl; crosswalks = refl };
  stop_lines = refl;
  signals = refl;
  rules = refl;
  created = refl;
  modified = refl;
  deleted = refl;
  later = omega arith;
  fresh_line = is_fresh (λ (x : LineString). x.num) m.next (suc (fresh m)) (record { num = fresh m; geometry = p }) (omega arith) (omega arith);
}

-- one more signal shows in writing
signals_count : (w : RuleBody) (n : ℕ) (l : Option ℕ) → IsLight w → body_within w ≡ true → (x y : Bytes) → body.write w ++ x ≡ body.write (extended w n l) ++ y → ⊥
unfolding body via tagged ◌⊗◌ numbers list counted only extended body_within
signals_count w n l (is_light {signals} {line}) h x y e =
    let c = leb-true (length signals) 16 h in
    let k : length (signals ++ (n ∷ [])) ≡ length signals + 1 = length-append signals (n ∷ []) in
    let u = append_cancel_left (number.write 1) _ _ (sym (split signals line x) ∙ e ∙ split (signals ++ (n ∷ [])) (or_else line l) y) in
    let v = (form_splits number (length signals) (length (signals ++ (n ∷ []))) _ _ (number_fits _ (omega arith)) (number_fits _ (omega arith)) u).0 in
    omega arith
  where
    split : (ns : List ℕ) (o : Option ℕ) (r : Bytes) → (number.write 1 ++ ((number.write (length ns) ++ joined number.write ns) ++ (option number).write o)) ++ r
        ≡ number.write 1 ++ (number.write (length ns) ++ (joined number.write ns ++ ((option number).write o ++ r)))
    split ns o r = simp append_assoc

extended_ok : (w : RuleBody) (n : ℕ) (l : Option ℕ) → IsLight w → body_ok_lem w ≡ true → number.fits n ≡ true → if_there number.fits l ≡ true → body_ok_lem (extended w n l) ≡ true
unfolding body_ok_lem extended every if_there
extended_ok w n l (is_light {signals} {line}) e f o = and_i _ _ (every_append number.fits signals (n ∷ []) (search parts) (and_i (number.fits n) _ f refl)) (either line l (search parts) o)
  where
    either : (x y : Option ℕ) → if_there number.fits x ≡ true → if_there number.fits y ≡ true → if_there number.fits (or_else x y) ≡ true
    either None y p q = q
    either (Some x) y p q = p

joined_ok : (ls ns : List ℕ) → every number.fits ls ≡ true → every number.fits ns ≡ true → every number.fits (joined_lanes ls ns) ≡ true
unfolding joined_lanes
joined_ok ls ns p q = every_append number.fits ls (keep (λ n. not (member n ls)) ns) p (keep_every (λ n. not (member n ls)) number.fits ns q)

lanes_ok : (r : Rule) → rule_ok r ≡ true → every number.fits r.lanes ≡ true
unfolding rule_ok
lanes_ok r e = search parts

controlled_ok : (r : Rule) → rule_ok r ≡ true → every number.fits r.controlled ≡ true
unfolding rule_ok
controlled_ok r e = search parts

module _ {A : Type 0} (p : A → Bool) where
  every_left : (s t : List A) → every p (s ++ t) ≡ true → every p s ≡ true
  unfolding every
  every_left [] t e = refl
  every_left (x ∷ s) t e = and_i (p x) _ (search parts) (every_left s t (search parts))

  every_right : (s t : List A) → every p (s ++ t) ≡ true → every p t ≡ true
  unfolding every
  every_right [] t e = e
  every_right (x ∷ s) t e = every_right s t (search parts)

-- a bulb's color and arrow
in_range : Bulb → Bool
in_range b = (below 4).fits b.color && (below 9).fits b.arrow

bulbs_ok : (bs : List Bulb) → every in_range bs ≡ true → every point_on_map (positions bs) ≡ true → every bulb.fits bs ≡ true
unfolding every in_range
bulbs_ok [] e f = refl
bulbs_ok (b ∷ bs) e f = and_i _ _ (one b (search parts) (search parts)) (bulbs_ok bs (search parts) (search parts))
  where
    one : (b : Bulb) → ((below 4).fits b.color && (below 9).fits b.arrow) ≡ true → point_on_map b.position ≡ true → bulb.fits b ≡ true
    one b e f = unfold bulb via ◌⊗◌ in and_i _ _ (point_fits b.position f) e

stored_ok : (b : SignalBulb) → in_range (stored_bulb b) ≡ true
unfolding in_range stored_bulb below only number
stored_ok b = and_i ((below 4).fits (bulb_color_number b.color)) _ (color b.color) (arrow b.arrow)
  where
    color : (c : BulbColor) → (below 4).fits (bulb_color_number c) ≡ true
    color Red = refl
    color Yellow = refl
    color Green = refl
    color White = refl

    arrow : (c : BulbArrow) → (below 9).fits (bulb_arrow_number c) ≡ true
    arrow NoArrow = refl
    arrow Up = refl
    arrow Down = refl
    arrow Left = refl
    arrow Right = refl
    arrow UpLeft = refl
    arrow UpRight = refl
    arrow DownLeft = refl
    arrow DownRight = refl

all_stored : (ns : List SignalBulb) → every in_range (map stored_bulb ns) ≡ true
unfolding every
all_stored [] = refl
all_stored (b ∷ ns) = and_i (in_range (stored_bulb b)) _ (stored_ok b) (all_stored ns)

default_ok : (k : SignalKind) (xs : Polyline) (h : Float) → every in_range (default_bulbs k xs h) ≡ true
unfolding every in_range default_bulbs default_bulb colors list_to below only number
default_ok Vehicle xs h = refl
default_ok Pedestrian xs h = refl

in_range_lem : (a : NewTrafficSignal) (xs : Polyline) → every in_range (bulbs_of a xs) ≡ true
unfolding bulbs_of
in_range_lem a xs = go a.bulbs
  where
    go : (o : Option (List SignalBulb)) → every in_range (bulbs_or o (default_bulbs a.kind xs (height_of a))) ≡ true
    go None = unfold bulbs_or in default_ok a.kind xs (height_of a)
    go (Some ns) = unfold bulbs_or in all_stored ns

sig_ok : (a : NewTrafficSignal) (n : ℕ) (xs : Polyline) → is_finite (height_of a) ≡ true → every point_on_map xs ≡ true → every point_on_map (positions (bulbs_of a xs)) ≡ true → signal_ok (new_signal a n xs) ≡ true
unfolding signal_ok new_signal if_there
sig_ok a n xs h p q = and_i _ _ (and_i _ _ (and_i _ _ (kind a.kind) (line_on_map xs p)) (height_fits (height_of a) h)) (bulbs_ok (bulbs_of a xs) (in_range_lem a xs) q)
  where
    kind : (k : SignalKind) → (below 2).fits (signal_kind_number k) ≡ true
    kind Vehicle = unfold below only number in refl
    kind Pedestrian = unfold below only number in refl

small_fits : (k h : ℕ) → k < h → h < 2 ^ 64 → number.fits k ≡ true
small_fits k h p q = number_fits k (omega arith)

-- ---- a light on a drawing d that was begun

module _ (m : Map) (ok : is_map m ≡ true) (a : NewTrafficSignal) (known : every (λ n. ltb n m.next) a.lanes ≡ true) (xs : Polyline) (ws : List Warning) (o : Option Polyline) (d : Drawing) (b : Begun m o d) where
  abbrev n : ℕ
  n = fresh d.map

  abbrev l : Option ℕ
  l = d.line

  abbrev sig : Signal
  sig = new_signal a n xs

  abbrev new_rule : Rule
  new_rule = record { num = fresh (with_signal d.map sig); body = light (n ∷ []) l; lanes = a.lanes; controlled = [] }

  abbrev more_rule : Rule → Rule
  more_rule r = rule_with r (extended r.body n l) (joined_lanes r.lanes a.lanes) r.controlled

  abbrev three : Option Rule → Drawing
  three g = grouped (signal_drawn d sig ws) a n g

  abbrev rule' : Option Rule → Option Rule
  rule' None = Some new_rule
  rule' (Some r) = None

  abbrev pre : Option Rule → Rule → Option Rule
  pre None x = Some x
  pre (Some r) x = put (more_rule r) x

  abbrev rules' : Option Rule → List Rule
  rules' None = m.rules ++ (new_rule ∷ [])
  rules' (Some r) = replaced (λ x. x.num) (more_rule r) m.rules

  abbrev next' : Option Rule → ℕ
  next' None = suc (fresh (with_signal d.map sig))
  next' (Some r) = suc n

  three_kept : (g : Option Rule) → Same m (three g).map
  unfolding grouped signal_drawn
  three_kept None = record { lanes = b.kept.lanes; boundaries = b.kept.boundaries; crosswalks = b.kept.crosswalks }
  three_kept (Some r) = record { lanes = b.kept.lanes; boundaries = b.kept.boundaries; crosswalks = b.kept.crosswalks }

  three_lines : (g : Option Rule) → (three g).map.stop_lines ≡ m.stop_lines ++ one (line' m o)
  unfolding grouped signal_drawn
  three_lines None = b.stop_lines
  three_lines (Some r) = b.stop_lines

  three_signals : (g : Option Rule) → (three g).map.signals ≡ m.signals ++ (sig ∷ [])
  unfolding grouped signal_drawn
  three_signals None = rw b.signals
  three_signals (Some r) = rw b.signals

  three_rules : (g : Option Rule) → (three g).map.rules ≡ rules' g
  unfolding grouped signal_drawn
  three_rules None = rw b.rules
  three_rules (Some r) = rw b.rules

  three_next : (g : Option Rule) → (three g).map.next ≡ next' g
  unfolding grouped signal_drawn
  three_next None = refl
  three_next (Some r) = refl

  three_created : (g : Option Rule) → (three g).created ≡ new_refs (λ (x : LineString). x.num) 5 (line' m o) ++ new_refs (λ (x : Signal). x.num) 6 (Some sig) ++ new_refs (λ (x : Rule). x.num) 8 (rule' g)
  unfolding grouped signal_drawn
  three_created None = rw b.created
  three_created (Some r) = rw (b.created, append-nil)

  next_later : (g : Option Rule) → suc n ≤ next' g
  next_later None = omega arith
  next_later (Some r) = omega arith

  -- the rules, after the lift
  lifted_rules_lem : (g : Option Rule) → Group m g → changed (lift_by l a.lanes) (rules' g) ≡ changed (after l a.lanes (pre g)) m.rules ++ one (rule' g)
  unfolding changed
  lifted_rules_lem None i = rw (changed_append (lift_by l a.lanes) m.rules (new_rule ∷ []), light_stays l a.lanes new_rule is_light)
  lifted_rules_lem (Some r) i = rw (append-nil, put_all (more_rule r) m.rules) (changed_twice (put (more_rule r)) (lift_by l a.lanes) m.rules)

  pre_same : (g : Option Rule) (x y : Rule) → pre g x ≡ Some y → y.num ≡ x.num
  pre_same None x y e = let q : x ≡ y = cc in ap (λ (r : Rule). r.num) (sym q)
  pre_same (Some r) x y e = put_same (more_rule r) x y e

  after_same : (g : Option Rule) (x y : Rule) → after l a.lanes (pre g) x ≡ Some y → y.num ≡ x.num
  after_same g x y e = go (pre g x) refl e
    where
      go : (p : Option Rule) → pre g x ≡ p → from_some p (lift_by l a.lanes) ≡ Some y → y.num ≡ x.num
      go None q e = let z : ◌≡◌ {A = ℕ} 0 1 = cc in absurd (omega arith)
      go (Some w) q e = lift_same l a.lanes w y e ∙ pre_same g x w q

  -- one more signal shows in writing
  more_shows : (r : Rule) → rule_within r ≡ true → IsLight r.body → same_list (rule.write r) (rule.write (more_rule r)) ≡ false
  more_shows r f i = list_differs _ _ (λ e. signals_count r.body n l i (body_within_lem r f) _ _ (rule_split r (more_rule r) refl e))

  before : (g : Option Rule) → Group m g → (x : Rule) → find (λ r. r.num) x.num m.rules ≡ Some x → Before x (pre g x)
  before None i x f = as_was
  before (Some r) (group q i) x f = go (eqb x.num r.num) refl
    where
      go : (c : Bool) → eqb x.num r.num ≡ c → Before x (Some (cond c (more_rule r) x))
      go true e =
          let w : find (λ y. y.num) r.num m.rules ≡ Some x = subst (λ (k : ℕ). find (λ y. y.num) k m.rules ≡ Some x) (eqb-true x.num r.num e) f in
          let z : r ≡ x = cc in
          lit (extended_light r.body n l i) (subst (λ (y : Rule). same_list (rule.write y) (rule.write (more_rule r)) ≡ false) z (more_shows r (found_is (λ (y : Rule). y.num) r.num m.rules rule_within r (rules_within m ok) q).0 i))
      go false e = as_was

  -- the rule that is found after the group was seen to
  find_three : (p : Rule → Bool) (g : Option Rule) (k : ℕ) → p new_rule ≡ false → at p (find (λ r. r.num) k (rules' g)) ≡ at p (from_some (find (λ r. r.num) k m.rules) (pre g))
  find_three p None k f = rw (find-append (λ (r : Rule). r.num) k m.rules new_rule) (go (find (λ r. r.num) k m.rules) (eqb new_rule.num k))
    where
      go : (o : Option Rule) (c : Bool) → at p (or_else o (cond c (Some new_rule) None)) ≡ at p (from_some o (λ x. Some x))
      go None true = f
      go None false = refl
      go (Some x) c = refl
  find_three p (Some r) k f = rw (put_all (more_rule r) m.rules, find_changed (λ (x : Rule). x.num) (put (more_rule r)) (put_same (more_rule r)) 0 m.next k m.rules (up₈ m ok))

  rising_three : (g : Option Rule) → rising (λ r. r.num) 0 (next' g) (rules' g) ≡ true
  rising_three None = let u = b.later in rising-append (λ (r : Rule). r.num) 0 m.next (next' None) m.rules new_rule (up₈ m ok) (omega arith) (omega arith) (omega arith)
  rising_three (Some r) = let u = b.later in rw (put_all (more_rule r) m.rules) (rising_wider (λ (r : Rule). r.num) 0 0 m.next (suc n) (changed (put (more_rule r)) m.rules) (omega arith) (omega arith)
      (rising_changed (λ (r : Rule). r.num) (put (more_rule r)) (put_same (more_rule r)) 0 m.next m.rules (up₈ m ok)))

  -- the group's rule is listed as modified, by its number
  three_modified : (g : Option Rule) → Group m g → (c : EntityRef) → listed (three g).modified c ≡ (eqb c.kind 8 && touched_at rule.write (pre g) (find (λ r. r.num) c.num m.rules))
  unfolding grouped signal_drawn listed
  three_modified None i c = ap (λ (ms : List EntityRef). listed ms c) b.modified ∙ (none_touched rule.write (eqb c.kind 8) (find (λ r. r.num) c.num m.rules))
  three_modified (Some r) (group q i) c = ap (λ (ms : List EntityRef). listed (ms ++ (entity 8 r.num ∷ [])) c) b.modified ∙ one_listed
    where
      go : (u v : Bool) → ((u && v) || false) ≡ (u && (v && true))
      go true true = refl
      go true false = refl
      go false v = refl

      one_listed : listed (entity 8 r.num ∷ []) c ≡ (eqb c.kind 8 && touched_at rule.write (pre (Some r)) (find (λ r. r.num) c.num m.rules))
      one_listed = rw (put_touched (more_rule r) r m.rules c.num q, same_as 8 r.num c, more_shows r (found_is (λ (y : Rule). y.num) r.num m.rules rule_within r (rules_within m ok) q).0 i)
          (go (eqb c.kind 8) (eqb r.num c.num))

  three_deleted : (g : Option Rule) (c : EntityRef) → listed (three g).deleted c ≡ false
  unfolding grouped signal_drawn listed
  three_deleted None c = rw b.deleted
  three_deleted (Some r) c = rw b.deleted

  -- each rule of the map, through the group and the lift
  rule_touched : (g : Option Rule) → Group m g → (k : ℕ) → (touched_at rule.write (pre g) (find (λ r. r.num) k m.rules) || at (eased_by l a.lanes) (from_some (find (λ r. r.num) k m.rules) (pre g)))
      ≡ touched_at rule.write (after l a.lanes (pre g)) (find (λ r. r.num) k m.rules)
  rule_touched g i k = go (find (λ r. r.num) k m.rules) refl
    where
      go : (p : Option Rule) → find (λ r. r.num) k m.rules ≡ p → (touched_at rule.write (pre g) p || at (eased_by l a.lanes) (from_some p (pre g))) ≡ touched_at rule.write (after l a.lanes (pre g)) p
      go None e = unfold differ form_in in refl
      go (Some x) e =
          let v = found_is (λ (y : Rule). y.num) k m.rules rule_within x (rules_within m ok) e in
          touched_by l a.lanes (pre g) x v.0 (before g i x (subst (λ (j : ℕ). find (λ r. r.num) j m.rules ≡ Some x) (sym v.1) e))

  rule_gone : (g : Option Rule) → Group m g → (k : ℕ) → at (gone_by l a.lanes) (from_some (find (λ r. r.num) k m.rules) (pre g)) ≡ gone_at (after l a.lanes (pre g)) (find (λ r. r.num) k m.rules)
  rule_gone g i k = go (find (λ r. r.num) k m.rules) refl
    where
      go : (p : Option Rule) → find (λ r. r.num) k m.rules ≡ p → at (gone_by l a.lanes) (from_some p (pre g)) ≡ gone_at (after l a.lanes (pre g)) p
      go None e = refl
      go (Some x) e =
          let v = found_is (λ (y : Rule). y.num) k m.rules rule_within x (rules_within m ok) e in
          gone_by_lem l a.lanes (pre g) x (before g i x (subst (λ (j : ℕ). find (λ r. r.num) j m.rules ≡ Some x) (sym v.1) e))

  abbrev four : Option Rule → Drawing
  four g = lift_all a.lanes (three g) l

  four_modified : (g : Option Rule) → Group m g → (c : EntityRef) → listed (four g).modified c ≡ (eqb c.kind 8 && touched_at rule.write (after l a.lanes (pre g)) (find (λ r. r.num) c.num m.rules))
  four_modified g i c =
      rw (
        lifts_modified a.lanes (three g) l (next' g) c (rw (three_rules g) (rising_three g)),
        three_modified g i c,
        three_rules g,
        find_three (eased_by l a.lanes) g c.num (light_uneased l a.lanes new_rule is_light),
        ← rule_touched g i c.num,
      )
      (go (eqb c.kind 8) (touched_at rule.write (pre g) (find (λ r. r.num) c.num m.rules)) (at (eased_by l a.lanes) (from_some (find (λ r. r.num) c.num m.rules) (pre g))))
    where
      go : (u v w : Bool) → ((u && v) || (u && w)) ≡ (u && (v || w))
      go true v w = refl
      go false v w = refl

  four_deleted : (g : Option Rule) → Group m g → (c : EntityRef) → listed (four g).deleted c ≡ (eqb c.kind 8 && gone_at (after l a.lanes (pre g)) (find (λ r. r.num) c.num m.rules))
  four_deleted g i c =
      rw (
        lifts_deleted a.lanes (three g) l (next' g) c (rw (three_rules g) (rising_three g)),
        three_deleted g c,
        three_rules g,
        find_three (gone_by l a.lanes) g c.num (light_not_gone l a.lanes new_rule is_light),
        rule_gone g i c.num,
      )

  -- ---- what is stored is in range

  three_warned : (g : Option Rule) → Warned 1 d.warnings → Warned 1 ws → Warned 2 (three g).warnings
  unfolding grouped signal_drawn
  three_warned None v w = both_warned d.warnings ws v w
  three_warned (Some r) v w = both_warned d.warnings ws v w

  few_rules : (g : Option Rule) → length (rules' g) ≤ 129
  few_rules None = let u = leb-true (length m.rules) max_rules (rules_few m ok) in let v = length-append m.rules (new_rule ∷ []) in omega arith
  few_rules (Some r) = let u = leb-true (length m.rules) max_rules (rules_few m ok) in let v = length-replaced (more_rule r) m.rules in omega arith

  four_warned : (g : Option Rule) → next' g < 2 ^ 64 → Warned 1 d.warnings → Warned 1 ws → Warned max_warnings (lift_all a.lanes (three g) l).warnings
  four_warned g h v w =
      let u = few_rules g in
      let z = ap length (three_rules g) in
      more_warned (2 + length (three g).map.rules) max_warnings _ (omega arith)
      (all-warned a.lanes (three g) l 2 (next' g) (three_warned g v w) h (rw (three_rules g) (rising_below (λ (r : Rule). r.num) 0 (next' g) (rules' g) (rising_three g))))

  module _ (bw : Warned 1 d.warnings) (ww : Warned 1 ws) (lf : d.map.next < 2 ^ 64 → if_there number.fits l ≡ true) (hf : is_finite (height_of a) ≡ true) where
    new_ok : next' None < 2 ^ 64 → rule_ok new_rule ≡ true
    unfolding body_ok_lem every
    new_ok h =
        let u = b.later in
        rule_made new_rule (light (n ∷ []) l) a.lanes [] (and_i _ _ (and_i (number.fits n) _ (small_fits n (suc n) (omega arith) (omega arith)) refl) (lf (omega arith)))
        (below_fits m.next (omega arith) a.lanes known) refl

    more_ok : (r : Rule) → suc n < 2 ^ 64 → rule_ok r ≡ true → IsLight r.body → rule_ok (more_rule r) ≡ true
    more_ok r h q i =
        let u = b.later in
        rule_made r (extended r.body n l) (joined_lanes r.lanes a.lanes) r.controlled
        (extended_ok r.body n l i (body_ok r q) (small_fits n (suc n) (omega arith) h) (lf (omega arith)))
        (joined_ok r.lanes a.lanes (lanes_ok r q) (below_fits m.next (omega arith) a.lanes known)) (controlled_ok r q)

    change_ok : (g : Option Rule) → Group m g → next' g < 2 ^ 64 → (x y : Rule) → rule_ok x ≡ true → after l a.lanes (pre g) x ≡ Some y → rule_ok y ≡ true
    change_ok None i h x y q e = lift_ok l a.lanes x y q e
    change_ok (Some r) (group f i) h x y q e = go (eqb x.num r.num) e
      where
        more : rule_ok (more_rule r) ≡ true
        more = more_ok r h (found_is (λ (z : Rule). z.num) r.num m.rules rule_ok r (rules_ok m ok) f).0 i

        go : (c : Bool) → lift_by l a.lanes (cond c (more_rule r) x) ≡ Some y → rule_ok y ≡ true
        go true e = lift_ok l a.lanes (more_rule r) y more e
        go false e = lift_ok l a.lanes x y q e

    abbrev draft : Option SectionNames → Option Rule → Draft
    draft es g = record {
      map = (four g).map;
      id = n;
      stored = new_points o ++ xs ++ positions (bulbs_of a xs);
      ends = es;
      changes = record { created = (four g).created; modified = (four g).modified; deleted = (four g).deleted; warnings = (four g).warnings };
    }

    four_next : (g : Option Rule) → (four g).map.next ≡ next' g
    four_next g = ap (λ (x : Map). x.next) (lifts_map a.lanes (three g) l) ∙ three_next g

    line_fresh : (g : Option Rule) → Fresh (λ (x : LineString). x.num) m.next (four g).map.next (line' m o)
    line_fresh g x e = let u = b.fresh_line x e in let v = four_next g in let w = next_later g in (u.0, omega arith)

    rule_fresh : (g : Option Rule) → Fresh (λ (x : Rule). x.num) m.next (four g).map.next (rule' g)
    rule_fresh None = let u = b.later in let v = four_next None in is_fresh (λ (x : Rule). x.num) m.next (four None).map.next new_rule (omega arith) (omega arith)
    rule_fresh (Some r) = no_fresh (λ (x : Rule). x.num) m.next (four (Some r)).map.next

    sig_num : sig.num ≡ n
    unfolding new_signal
    sig_num = refl

    drawn_ok : (o : Option Polyline) → every point_on_map (new_points o) ≡ true → (x : LineString) → line' m o ≡ Some x → line_string_ok x ≡ true
    unfolding line_string_ok
    drawn_ok None e = no_ok line_string_ok
    drawn_ok (Some p) e = is_ok line_string_ok (record { num = fresh m; geometry = p }) (line_on_map p e)

    new_rule_ok : (g : Option Rule) → (four g).map.next < 2 ^ 64 → (x : Rule) → rule' g ≡ Some x → rule_ok x ≡ true
    new_rule_ok None h = let v = four_next None in is_ok rule_ok new_rule (new_ok (omega arith))
    new_rule_ok (Some r) h = no_ok rule_ok

    rises : (x : Option LineString) → Fresh (λ (x : LineString). x.num) m.next d.map.next x → (g : Option Rule)
        → rising (λ k. k) m.next (four g).map.next (map (λ c. c.num) (new_ones x (Some sig) (rule' g))) ≡ true
    unfolding new_signal
    rises None f None = let u = b.later in let v = four_next None in rise_two m.next (four None).map.next n new_rule.num (omega arith) (omega arith) (omega arith)
    rises None f (Some r) = let u = b.later in let v = four_next (Some r) in rise_one m.next (four (Some r)).map.next n (omega arith) (omega arith)
    rises (Some x) f None =
        let u = f x refl in let p = u.0 in let q = u.1 in let v = four_next None in
        rise_three m.next (four None).map.next x.num n new_rule.num p (omega arith) (omega arith) (omega arith)
    rises (Some x) f (Some r) =
        let u = f x refl in let p = u.0 in let q = u.1 in let v = four_next (Some r) in
        rise_two m.next (four (Some r)).map.next x.num n p (omega arith) (omega arith)

    light_shape : (es : Option SectionNames) (g : Option Rule) → Group m g → Shape m (draft es g)
    light_shape es g i = record {
      line = line' m o;
      signal = Some sig;
      rule = rule' g;
      change = after l a.lanes (pre g);
      lanes_are = ap (λ (x : Map). x.lanes) (lifts_map a.lanes (three g) l) ∙ (three_kept g).lanes;
      boundaries_are = ap (λ (x : Map). x.boundaries) (lifts_map a.lanes (three g) l) ∙ (three_kept g).boundaries;
      stop_lines_are = ap (λ (x : Map). x.stop_lines) (lifts_map a.lanes (three g) l) ∙ three_lines g;
      signals_are = ap (λ (x : Map). x.signals) (lifts_map a.lanes (three g) l) ∙ three_signals g;
      crosswalks_are = ap (λ (x : Map). x.crosswalks) (lifts_map a.lanes (three g) l) ∙ (three_kept g).crosswalks;
      rules_are = ap (λ (x : Map). x.rules) (lifts_map a.lanes (three g) l) ∙ ap (changed (lift_by l a.lanes)) (three_rules g) ∙ lifted_rules_lem g i;
      same = after_same g;
      fresh_line = line_fresh g;
      fresh_signal = let u = b.later in let v = four_next g in let w = next_later g in let s = sig_num in is_fresh (λ (x : Signal). x.num) m.next (four g).map.next sig (omega arith) (omega arith);
      fresh_rule = rule_fresh g;
      later = let u = b.later in let v = four_next g in let w = next_later g in omega arith;
      rise = rises (line' m o) b.fresh_line g;
      created = λ c. ap (λ (rs : List EntityRef). listed rs c) (lifts_created a.lanes (three g) l ∙ three_created g) ∙ listed_created (line' m o) (Some sig) (rule' g) c;
      deleted = four_deleted g i;
      modified = λ c h. four_modified g i;
      line_ok = λ e. drawn_ok o (every_left point_on_map (new_points o) xs (every_left point_on_map (new_points o ++ xs) (positions (bulbs_of a xs)) e));
      signal_ok_is = λ e. is_ok signal_ok sig (sig_ok a n xs hf (every_right point_on_map (new_points o) xs (every_left point_on_map (new_points o ++ xs) (positions (bulbs_of a xs)) e)) (every_right point_on_map (new_points o ++ xs) (positions (bulbs_of a xs)) e));
      rule_ok_is = new_rule_ok g;
      change_ok = λ h. change_ok g i (let v = four_next g in omega arith);
      warned = λ h. four_warned g (let v = four_next g in omega arith) bw ww;
    }

-- ---- what the tests say

group_is : (m : Map) (k : Option ℕ) (g : Option ℕ) → group_line m k ≡ done g → Group m (group_rule m k)
unfolding group_line group_rule rule_of
group_is m None g e = no_group
group_is m (Some k) g e =
    let p₁ = went (present (find (λ r. r.num) k m.rules) 2 (8 ∷ k ∷ [])) _ g e in
    let r = p₁.value in
    let p₂ = past (not (no_entries r.controlled)) 7 (1 ∷ []) _ g p₁.rest in
    let f = there (find (λ x. x.num) k m.rules) 2 (8 ∷ k ∷ []) r p₁.first in
    let v = (found_is (λ (x : Rule). x.num) k m.rules (λ x. true) r (every_true m.rules) f).1 in
    rw f (group (subst (λ (j : ℕ). find (λ x. x.num) j m.rules ≡ Some r) (sym v) f) (is_one r.body p₂.rest))
  where
    is_one : (w : RuleBody) → light_line w ≡ done g → IsLight w
    is_one (light signals line) e = is_light
    is_one (sign type shape line) e = unfold light_line in never e
    is_one (marking line) e = unfold light_line in never e
    is_one (right_of_way priority yielding stop_lines) e = unfold light_line in never e
    is_one (crossing c stop_lines) e = unfold light_line in never e
    is_one (other k) e = unfold light_line in never e

height_is : (a : NewTrafficSignal) → bad_height a.height ≡ false → is_finite (height_of a) ≡ true
unfolding height_of
height_is a e = go a.height e
  where
    go : (h : Option Float) → bad_height h ≡ false → is_finite (or_default h default_height) ≡ true
    go None e = unfold or_default is_finite of_bits fits in refl
    go (Some h) e = unfold or_default bad_height in let t : (is_finite h && lt f0 h) ≡ true = not-false (is_finite h && lt f0 h) e in search parts

pub record Plans (a : NewTrafficSignal) (m : Map) (p : Planned) : Type 0 where
  pub unit : Unit {0}
  pub lanes : check_lane_list m a.lanes ≡ done unit
  pub height : bad_height a.height ≡ false
  pub own : Option ℕ
  pub own_is : group_line m a.group ≡ done own
  pub fine : Unit {0}
  pub fine_is : check_choice m own a.choice ≡ done fine
  pub plan_is : plan_for m a.lanes own a.choice a.points ≡ done p.plan
  pub anchor : Polyline
  pub anchor_is : anchor_for m a.lanes p.plan ≡ done anchor
  pub housing_is : housing_for m (get_or a.lanes 0 0) anchor a.housing ≡ done p.housing

pub plans : (a : NewTrafficSignal) (m : Map) (p : Planned) → light_plan a m ≡ done p → Plans a m p
unfolding light_plan
plans a m p e =
    let p₁ = next (check_lane_list m a.lanes) _ p e in
    let p₂ = past (bad_height a.height) 4 (1 ∷ []) _ p p₁.rest in
    let p₃ = next (check_housing a.housing) _ p p₂.rest in
    let p₄ = went (group_line m a.group) _ p p₃.rest in
    let p₅ = next (check_choice m p₄.value a.choice) _ p p₄.rest in
    let p₆ = went (plan_for m a.lanes p₄.value a.choice a.points) _ p p₅.rest in
    let p₇ = went (anchor_for m a.lanes p₆.value) _ p p₆.rest in
    let p₈ = went (housing_for m (get_or a.lanes 0 0) p₇.value a.housing) _ p p₇.rest in
    let r : p₆.value ≡ p.plan = ap (λ (x : Planned). x.plan) (done_is p₈.rest) in
    record {
      unit = p₁.value;
      lanes = p₁.first;
      height = p₂.test;
      own = p₄.value;
      own_is = p₄.first;
      fine = p₅.value;
      fine_is = p₅.first;
      plan_is = subst (λ (x : Plan). plan_for m a.lanes p₄.value a.choice a.points ≡ done x) r p₆.first;
      anchor = p₇.value;
      anchor_is = subst (λ (x : Plan). anchor_for m a.lanes x ≡ done p₇.value) r p₇.first;
      housing_is = subst (λ (x : Placed). housing_for m (get_or a.lanes 0 0) p₇.value a.housing ≡ done x) (ap (λ (x : Planned). x.housing) (done_is p₈.rest)) p₈.first;
    }

anchored : (m : Map) → is_map m ≡ true → (lanes : List ℕ) (s : ℕ) (x : Polyline) → anchor_for m lanes (use_line s) ≡ done x → s < m.next
unfolding anchor_for line_of
anchored m ok lanes s x e =
    let p = went (present (find (λ l. l.num) s m.stop_lines) 2 (5 ∷ s ∷ [])) _ x e in
    let f = there (find (λ l. l.num) s m.stop_lines) 2 (5 ∷ s ∷ []) p.value p.first in
    held_below m ok (λ (l : LineString). l.num) m.stop_lines s (up₅ m ok) (rw (holds_found (λ (l : LineString). l.num) s m.stop_lines, f))

housing_warned : (m : Map) (n : ℕ) (xs : Polyline) (o : Option (List Float)) (p : Placed) → housing_for m n xs o ≡ done p → Warned 1 p.warnings
unfolding housing_for
housing_warned m n xs (Some cs) p e = subst (λ (q : Placed). Warned 1 q.warnings) (done_is e) none_warned
housing_warned m n xs None p e = let q = went (synthesize_signal_geometry m n xs) _ p e in subst (λ (q : Placed). Warned 1 q.warnings) (done_is q.rest) (bare_warned 3 refl)

draw_warned : (m : Map) (lanes : List ℕ) (how : Placement) (cs : List Float) (p : Placed) → get_or lanes 0 0 < 2 ^ 64 → draw_plan m lanes how cs ≡ done (draw p) → Warned 1 p.warnings
unfolding draw_plan
draw_warned m lanes how cs p h e =
    let q = went (place_stop_line m lanes how cs) _ (draw p) e in
    let r = q.rest in
    same q.value (done_is r) (place_warned m lanes how cs q.value h q.first)
  where
    same : (x : Placed) → draw x ≡ draw p → Warned 1 x.warnings → Warned 1 p.warnings
    same x e w = let z : x ≡ p = cc in subst (λ (y : Placed). Warned 1 y.warnings) z w

plan_warned : (m : Map) (lanes : List ℕ) (g : Option ℕ) (c : StopLineChoice) (cs : List Float) (p : Placed) → get_or lanes 0 0 < 2 ^ 64 → plan_for m lanes g c cs ≡ done (draw p) → Warned 1 p.warnings
unfolding plan_for
plan_warned m lanes g (Existing s) cs p h e = let z : ◌≡◌ {A = ℕ} 0 1 = cc in absurd (omega arith)
plan_warned m lanes None NoLine cs p h e = let z : ◌≡◌ {A = ℕ} 0 1 = cc in absurd (omega arith)
plan_warned m lanes (Some s) NoLine cs p h e = let z : ◌≡◌ {A = ℕ} 0 1 = cc in absurd (omega arith)
plan_warned m lanes g (New how) cs p h e = draw_warned m lanes how cs p h e
plan_warned m lanes g Automatic cs p h e = go (or_else g (existing_stop_line m (get_or lanes 0 0))) e
  where
    go : (o : Option ℕ) → auto_plan m lanes o ≡ done (draw p) → Warned 1 p.warnings
    go None e = unfold auto_plan in draw_warned m lanes (AtLaneEnd f0) [] p h e
    go (Some s) e = unfold auto_plan in let z : ◌≡◌ {A = ℕ} 0 1 = cc in absurd (omega arith)

by_plan : (a : NewTrafficSignal) (m : Map) → is_map m ≡ true → (pl : Plan) (housing : Placed) → Plans a m (record { plan = pl; housing = housing }) → Shape m (light_draft a m (record { plan = pl; housing = housing }))
unfolding light_draft line_drawn plan_points plan_ends
by_plan a m ok (use_line s) housing p =
    light_shape m ok a (lanes_known m ok a.lanes p.unit p.lanes) housing.points housing.warnings None (begun m None (Some s) []) (begun_is m None (Some s) []) none_warned (housing_warned m (get_or a.lanes 0 0) p.anchor a.housing housing p.housing_is)
    (λ h. unfold if_there in small_fits s m.next (anchored m ok a.lanes s p.anchor p.anchor_is) h) (height_is a p.height) None (group_rule m a.group) (group_is m a.group p.own p.own_is)
by_plan a m ok use_none housing p =
    light_shape m ok a (lanes_known m ok a.lanes p.unit p.lanes) housing.points housing.warnings None (begun m None None []) (begun_is m None None []) none_warned (housing_warned m (get_or a.lanes 0 0) p.anchor a.housing housing p.housing_is)
    (λ h. unfold if_there in refl) (height_is a p.height) None (group_rule m a.group) (group_is m a.group p.own p.own_is)
by_plan a m ok (draw x) housing p =
    light_shape m ok a (lanes_known m ok a.lanes p.unit p.lanes) housing.points housing.warnings (Some x.points) (begun m (Some x.points) (Some (fresh m)) x.warnings)
    (begun_is m (Some x.points) (Some (fresh m)) x.warnings)
    (plan_warned m a.lanes p.own a.choice a.points x (first_fits m ok a.lanes (lanes_known m ok a.lanes p.unit p.lanes)) p.plan_is) (housing_warned m (get_or a.lanes 0 0) p.anchor a.housing housing p.housing_is)
    (λ h. unfold if_there in small_fits (fresh m) (suc (fresh m)) (omega arith) h) (height_is a p.height) x.ends (group_rule m a.group) (group_is m a.group p.own p.own_is)

pub light_step : (a : NewTrafficSignal) (m : Map) (d : Draft) → is_map m ≡ true → light_edit a m ≡ done d → Shape m d
unfolding light_edit
light_step a m d ok e =
    let q = went (light_plan a m) _ d e in
    subst (Shape m) (done_is q.rest) (by_plan a m ok q.value.plan q.value.housing (plans a m q.value q.first))
