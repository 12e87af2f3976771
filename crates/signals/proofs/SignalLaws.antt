-- From a light's plan to the whole outcome of its call. Assumes nothing.
use Prim.Native.Nat.{ℕ, suc, ◌+◌, ◌≤◌, max}
use mathlib.Core.Path.{◌≡◌, refl, sym, ap, ◌∙◌, subst}
use mathlib.Core.Bool.{Bool, true, false, not, cond}
use Rattle.std.specs.Prelude.{Option, None, Some}
use mathlib.Core.List.{List, [], ◌∷◌, ◌++◌}
use native.Mathlib.Nat.{max-eq_right, le-max_right}
use native.Mathlib.Omega.{arith}
use borrow.Author.Tests.{le-leb}
use lib.Dec.{ltb}
use lib.Ieee.{Float}
use lib.ListN.{length, get_or}
use Rattle.rows.specs.Lists.{every, joined}
use Rattle.rows.proofs.Bools.{parts, and_i}
use Rattle.rows.proofs.Tables.{every_append, rising_below, found_is}
use Rattle.geometry.specs.Polyline.{Polyline}
use Rattle.centerline.specs.declared.Line.{Line}
use Rattle.centerline.specs.Line.{points_of}
use Rattle.map.specs.Record.{Signal, Rule, Map}
use Rattle.map.specs.Entity.{EntityRef, entity, compare_refs}
use Rattle.map.specs.Lookup.{rule_of}
use Rattle.map.specs.MapFile.{is_map}
use Rattle.map.specs.Rows.{fresh, with_line, with_signal}
use Rattle.map.specs.Tables.{map_of}
use Rattle.map.specs.Updates.{signal_of_parts}
use Rattle.changes.specs.ChangeSet.{ChangeSet, normalize, fold_step}
use Rattle.changes.specs.ChangeFile.{is_before, rise_after, rising_refs}
use Rattle.changes.specs.Running.{all_below, fold_fits}
use Rattle.place.proofs.LineLaws.{line_part_lem}
use Rattle.place.proofs.Sound.{readable}
use Rattle.edit.specs.declared.SignalRequest.{SignalRequest}
use Rattle.edit.specs.Light.{NewTrafficSignal, Planned, Lift, kept, eased, gone, lift, eased_ref, gone_ref, line_drawn, new_signal, light_draft}
use Rattle.edit.specs.Request.{new_traffic_signal}
use Rattle.finishing.proofs.FreshLaws.{Below, New, FoldBelow, below_all, new_all, fresh_fits}
use Rattle.lighting.specs.declared.LinePlan.{LinePlan}
use Rattle.lighting.specs.declared.LinePlan.TheVariants.{Use, NoLine, Draw}
use Rattle.lighting.specs.Housing.{housing_of}
use Rattle.lighting.specs.Plan.{plan_of, drawn_of}
use Rattle.signal_row.specs.declared.SignalRow.{SignalRow}
use Rattle.signal_row.specs.Row.{BulbsRead, RowMade}
use Rattle.light_draft.specs.declared.Light.{Light}
use Rattle.light_draft.specs.Drafting.{line_for, one_if, spent, rule_number, joins, numbers_for, line_in, notes, light_set, lifted_first, with_light, Joinable}
use Rattle.light_draft.proofs.DraftLaws.{rules_rise, map_order}
use Rattle.light_store.specs.Storing.{coords_in, StoreAsks, group_in, light_map, LightStored}
use Rattle.light_room.specs.declared.SignalPlan.{SignalPlan}
use Rattle.light_room.proofs.PlanLaws.{stored_light}
use Rattle.signals.specs.Signal.{AsksToStore, StoredAs}
use Rattle.place.specs.declared.SectionNames.{SectionNames}

-- ---- stored

module _ (ws : List ℕ) (cs : List Float) (lanes : List ℕ) (q : SignalRequest) (p : SignalPlan) (asks : AsksToStore ws cs lanes q p) (row : SignalRow) (made : RowMade p.light.signal q p.housing.count p.bulbs row) where
  pub store_asks : StoreAsks ws cs lanes p.light p.line p.housing row p.joined
  store_asks = record {
    readable = asks.readable;
    rises = asks.rises;
    line_room = asks.line_room;
    housing_room = asks.housing_room;
    lines = asks.lines;
    signals = asks.signals;
    rules = asks.rules;
    few = asks.few;
    spare = asks.spare;
    number = asks.number;
    row_number = made.number;
    row_points_is = made.housing;
    row_lamps = omega (arith, made.lamps, asks.lamps);
    group = asks.group;
  }

  signal_is : (points housing lamps : List Float) → BulbsRead q (points_of p.housing) lamps p.bulbs
      → signal_of_parts row.words (coords_in p.housing) row.more ≡ new_signal (new_traffic_signal lanes q points housing lamps) p.light.signal (points_of p.housing)
  signal_is points housing lamps read =
      let e = line_part_lem p.housing asks.housing_room in
      made.signal lanes points housing lamps (coords_in p.housing) (subst (λ (xs : Polyline). BulbsRead q xs lamps p.bulbs) (sym e) read)
      ∙ ap (new_signal (new_traffic_signal lanes q points housing lamps) p.light.signal) e

  pub stored_as : (ws' : List ℕ) (cs' : List Float) → LightStored ws cs lanes p.light p.line p.housing row ws' cs' → StoredAs ws cs lanes q p ws' cs'
  stored_as ws' cs' h = record {
    map = λ points housing lamps read.
        h.map ∙ ap (λ (s : Signal). light_map (map_of ws cs) p.light lanes (points_of p.line) s (group_in (map_of ws cs) p.light)) (signal_is points housing lamps read);
  }

-- ---- numbers

up : (n : ℕ) → max 1 (suc n) ≡ suc n
up n = max-eq_right {n = 1} {m = suc n} (omega arith)

module _ (m : Map) (lanes : List ℕ) (xs : Polyline) (s : Signal) (n : ℕ) (line : Option ℕ) where
  abbrev end : Option ℕ → Bool → Option Rule → Map
  end o b g = with_light (with_signal (cond b (with_line (lifted_first m o lanes) xs) (lifted_first m o lanes)) s) lanes n line g

  -- the next number, with a rule of its own and without
  next_new : (o : Option ℕ) (b : Bool) → (end o b None).next ≡ fresh m + (one_if b + 2)
  unfolding lifted_first with_light
  next_new None true = rw (up (fresh m), up (suc (fresh m))) (omega arith)
  next_new None false = rw (up (fresh m)) (omega arith)
  next_new (Some t) true = rw (up (fresh m), up (suc (fresh m))) (omega arith)
  next_new (Some t) false = rw (up (fresh m)) (omega arith)

  next_joined : (o : Option ℕ) (b : Bool) (r : Rule) → (end o b (Some r)).next ≡ fresh m + (one_if b + 1)
  unfolding lifted_first with_light
  next_joined None true r = rw (up (fresh m)) (omega arith)
  next_joined None false r = omega arith
  next_joined (Some t) true r = rw (up (fresh m)) (omega arith)
  next_joined (Some t) false r = omega arith

module _ (a : NewTrafficSignal) (m : Map) (ok : is_map m ≡ true) (plan : LinePlan) (line housing : Line) (clamped made : Bool) (es : Option SectionNames) (f : (g : ℕ) → a.group ≡ Some g → Joinable m g) where
  abbrev planned_as_lem : Planned
  planned_as_lem = record { plan = plan_of plan (drawn_of (get_or a.lanes 0 0) line clamped es); housing = housing_of housing made }

  abbrev right : Light
  right = numbers_for false m.next plan a.group

  pub map_is : (light_draft a m planned_as_lem).map ≡ light_map m right a.lanes (points_of line) (new_signal a right.signal (points_of housing)) (group_in m right)
  map_is = map_order a m ok planned_as_lem f ∙ stored_light a m plan line housing clamped made es

  pub next_is : (light_draft a m planned_as_lem).map.next ≡ fresh m + spent (line_for plan (fresh m)).drawn a.group
  unfolding light_map
  next_is = ap (λ (x : Map). x.next) map_is ∙ go a.group refl
    where
      go : (o : Option ℕ) → a.group ≡ o
          → (end m a.lanes (points_of line) (new_signal a right.signal (points_of housing)) right.signal (line_in right) (line_in right) right.drawn (group_in m (numbers_for false m.next plan o))).next
          ≡ fresh m + spent (line_for plan (fresh m)).drawn o
      go None e = next_new m a.lanes (points_of line) (new_signal a right.signal (points_of housing)) right.signal (line_in right) (line_in right) right.drawn
      go (Some g) e =
          ap (λ (h : Option Rule). (end m a.lanes (points_of line) (new_signal a right.signal (points_of housing)) right.signal (line_in right) (line_in right) right.drawn h).next) (f g e).found
          ∙ next_joined m a.lanes (points_of line) (new_signal a right.signal (points_of housing)) right.signal (line_in right) (line_in right) right.drawn (f g e).rule

  pub id_is : (light_draft a m planned_as_lem).id ≡ right.signal
  unfolding light_draft line_drawn
  id_is = go plan
    where
      go : (pl : LinePlan) → fresh (line_drawn m (plan_of pl (drawn_of (get_or a.lanes 0 0) line clamped es))).map ≡ (numbers_for false m.next pl a.group).signal
      go (Use s) = omega arith
      go NoLine = omega arith
      go (Draw how) = up (fresh m) ∙ omega arith

-- ---- a fold fits, whatever the new numbers

every_joined : {A B : Type 0} (p : B → Bool) (f : A → List B) (q : A → Bool) (xs : List A) → ((x : A) → q x ≡ true → every p (f x) ≡ true) → every q xs ≡ true → every p (joined f xs) ≡ true
unfolding every joined
every_joined p f q [] h e = refl
every_joined p f q (x ∷ xs) h e = every_append p (f x) (joined f xs) (h x (search parts)) (every_joined p f q xs h (search parts))

module _ (n : ℕ) where
  abbrev below : EntityRef → Bool
  below a = ltb a.num n

  eased_below : (r : Rule) (t : Lift) → ltb r.num n ≡ true → every below (eased_ref r t) ≡ true
  unfolding every eased_ref
  eased_below r kept h = refl
  eased_below r (eased ks) h = and_i (ltb r.num n) true h refl
  eased_below r gone h = refl

  gone_below : (r : Rule) (t : Lift) → ltb r.num n ≡ true → every below (gone_ref r t) ≡ true
  unfolding every gone_ref
  gone_below r kept h = refl
  gone_below r (eased ks) h = refl
  gone_below r gone h = and_i (ltb r.num n) true h refl

  notes_below : (f : Rule → Lift → List EntityRef) → ((r : Rule) (t : Lift) → ltb r.num n ≡ true → every below (f r t) ≡ true) → (o : Option ℕ) (lanes : List ℕ) (rs : List Rule)
      → every (λ (r : Rule). ltb r.num n) rs ≡ true → every below (notes f o lanes rs) ≡ true
  unfolding every
  notes_below f h None lanes rs e = refl
  notes_below f h (Some s) lanes rs e = every_joined below (λ r. f r (lift s lanes r)) (λ (r : Rule). ltb r.num n) rs (λ r q. h r (lift s lanes r) q) e

-- a line where it is drawn, the signal, and a rule where it is new, from x, y and z on
made_of : Bool → Bool → ℕ → ℕ → ℕ → List EntityRef
made_of drawn new x y z = (cond drawn (entity 5 x ∷ []) [] ++ (entity 6 y ∷ [])) ++ cond new (entity 8 z ∷ []) []

made_new : (n : ℕ) (drawn new : Bool) (x y z : ℕ) → (drawn ≡ true → n ≤ x) → n ≤ y → (new ≡ true → n ≤ z) → New n (made_of drawn new x y z)
unfolding made_of rising_refs rise_after is_before compare_refs every
made_new n true true x y z a b d = new_all n _ refl (and_i _ _ (le-leb n x (a refl)) (and_i _ _ (le-leb n y b) (and_i _ _ (le-leb n z (d refl)) refl)))
made_new n true false x y z a b d = new_all n _ refl (and_i _ _ (le-leb n x (a refl)) (and_i _ _ (le-leb n y b) refl))
made_new n false true x y z a b d = new_all n _ refl (and_i _ _ (le-leb n y b) (and_i _ _ (le-leb n z (d refl)) refl))
made_new n false false x y z a b d = new_all n _ refl (and_i _ _ (le-leb n y b) refl)

made_count : (drawn new : Bool) (x y z x' y' z' : ℕ) → length (made_of drawn new x y z) ≡ length (made_of drawn new x' y' z')
unfolding made_of
made_count true true x y z x' y' z' = refl
made_count true false x y z x' y' z' = refl
made_count false true x y z x' y' z' = refl
made_count false false x y z x' y' z' = refl

line_first : (plan : LinePlan) (first : ℕ) → (line_for plan first).drawn ≡ true → (line_for plan first).line ≡ first
line_first (Use t) first e = absurd (let z : ◌≡◌ {A = Bool} false true = e in let y : ◌≡◌ {A = ℕ} 0 1 = cc in omega arith)
line_first NoLine first e = absurd (let z : ◌≡◌ {A = Bool} false true = e in let y : ◌≡◌ {A = ℕ} 0 1 = cc in omega arith)
line_first (Draw how) first e = refl

from_first : (n : ℕ) (late : Bool) (k : ℕ) → n ≤ cond late (max 1 n) (max 1 n + k)
from_first n true k = le-max_right 1 n
from_first n false k = omega (arith, le-max_right 1 n)

from_rule : (n : ℕ) (late drawn : Bool) (o : Option ℕ) → not (joins o) ≡ true → n ≤ rule_number (max 1 n) late drawn o
from_rule n true drawn None e = le-max_right 1 n
from_rule n false drawn None e = omega (arith, le-max_right 1 n)
from_rule n late drawn (Some g) e = absurd (let z : ◌≡◌ {A = Bool} false true = e in let y : ◌≡◌ {A = ℕ} 0 1 = cc in omega arith)

module _ (m : Map) (ok : is_map m ≡ true) (f : ChangeSet) (fb : FoldBelow m.next f) (plan : LinePlan) (clamped made : Bool) (lanes : List ℕ) where
  abbrev set_of : Option ℕ → Bool → ChangeSet
  set_of o late = light_set (numbers_for late m.next plan o) clamped made lanes m.rules

  new_of : (o : Option ℕ) (late : Bool) → New m.next (set_of o late).created
  unfolding light_set made_of
  new_of o late =
      made_new m.next (line_for plan (max 1 m.next)).drawn (not (joins o)) (line_for plan (max 1 m.next)).line (cond late (max 1 m.next) (max 1 m.next + one_if (line_for plan (max 1 m.next)).drawn)) (rule_number (max 1 m.next) late (line_for plan (max 1 m.next)).drawn o)
      (λ e. omega (arith, line_first plan (max 1 m.next) e, le-max_right 1 m.next)) (from_first m.next late (one_if (line_for plan (max 1 m.next)).drawn)) (from_rule m.next late (line_for plan (max 1 m.next)).drawn o)

  count_of : (o : Option ℕ) → length (set_of o true).created ≡ length (set_of o false).created
  unfolding light_set made_of
  count_of o = made_count (line_for plan (max 1 m.next)).drawn (not (joins o)) _ _ _ _ _ _

  same_modified : (o : Option ℕ) → (set_of o true).modified ≡ (set_of o false).modified
  unfolding light_set
  same_modified None = refl
  same_modified (Some g) = refl

  same_deleted : (o : Option ℕ) → (set_of o true).deleted ≡ (set_of o false).deleted
  unfolding light_set
  same_deleted o = refl

  rules_below : every (λ (r : Rule). ltb r.num m.next) m.rules ≡ true
  rules_below = rising_below (λ (r : Rule). r.num) 0 m.next m.rules (rules_rise m ok)

  deleted_below : (o : Option ℕ) → Below m.next (set_of o true).deleted
  unfolding light_set all_below
  deleted_below o = below_all m.next _ (notes_below m.next gone_ref (gone_below m.next) (line_in (numbers_for true m.next plan o)) lanes m.rules rules_below)

  modified_below : (o : Option ℕ) → ((g : ℕ) → o ≡ Some g → ltb g m.next ≡ true) → Below m.next (set_of o true).modified
  unfolding light_set all_below every
  modified_below None h = below_all m.next _ (notes_below m.next eased_ref (eased_below m.next) (line_in (numbers_for true m.next plan None)) lanes m.rules rules_below)
  modified_below (Some g) h =
      below_all m.next _ (and_i (ltb g m.next) _ (h g refl) (notes_below m.next eased_ref (eased_below m.next) (line_in (numbers_for true m.next plan (Some g))) lanes m.rules rules_below))

  pub fits_alike : (o : Option ℕ) → ((g : ℕ) → o ≡ Some g → ltb g m.next ≡ true) → (late : Bool) → fold_fits (fold_step f (normalize (set_of o late))) ≡ fold_fits (fold_step f (normalize (set_of o false)))
  fits_alike o h false = refl
  fits_alike o h true =
      fresh_fits m.next f fb (set_of o true) (set_of o false) (same_modified o) (same_deleted o) (modified_below o h) (deleted_below o) (new_of o true) (new_of o false) (count_of o)

  -- the group's number is one of the map's
  pub group_below : (g : ℕ) → Joinable m g → ltb g m.next ≡ true
  unfolding rule_of
  group_below g j = let w = found_is (λ (r : Rule). r.num) g m.rules (λ (r : Rule). ltb r.num m.next) j.rule rules_below j.found in ap (λ (k : ℕ). ltb k m.next) (sym w.1) ∙ w.0
