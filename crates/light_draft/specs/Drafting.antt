-- A light's draft in the order of the code: its numbers, its change set, and its map, with the lifts first.
use Rattle.std.specs.Prelude.{ℕ, zero, suc, ◌+◌, ◌^◌, ◌≤◌, ◌<◌, max, ◌≡◌, Bool, true, false, not, ◌&&◌, cond, List, [], ◌∷◌, ◌++◌, leb, Float, get_or, Option, None, Some}
use Rattle.rows.specs.Lists.{joined}
use Rattle.rows.specs.Table.{replaced}
use Rattle.map.specs.Record.{light, Rule, Map}
use Rattle.map.specs.Entity.{EntityRef, entity}
use Rattle.map.specs.Lookup.{rule_of}
use Rattle.map.specs.Rows.{fresh, with_line, with_signal, with_rule, with_rules, rule_with}
use Rattle.map.specs.Tables.{map_of}
use Rattle.changes.specs.ChangeSet.{ChangeSet, Warning, warning}
use Rattle.changes.specs.Layout.{count_in, about_of, change_set_of}
use Rattle.sets.specs.Tables.{Roomy}
use Rattle.finishing.specs.Finish.{RoomyAll}
use Rattle.edit.specs.Light.{NewTrafficSignal, Plan, use_line, use_none, draw, Planned, line_drawn, extended, joined_lanes, group_rule, Lift, lift, eased_ref, gone_ref, lift_warning, new_signal}
use Rattle.lighting.specs.declared.LinePlan.{LinePlan}
use Rattle.lighting.specs.declared.LinePlan.TheVariants.{Use, NoLine, Draw}
use Rattle.lifting.specs.Lifting.{lifted_rules}
use Rattle.lifting.specs.Noting.{with_notes}
use Rattle.light_draft.specs.declared.LineNumber.{LineNumber}
use Rattle.light_draft.specs.declared.Light.{Light}

-- ---- numbers

abbrev pub line_for : LinePlan → ℕ → LineNumber
line_for (Use s) first = record { has_line = true; line = s; drawn = false }
line_for NoLine first = record { has_line = false; line = 0; drawn = false }
line_for (Draw how) first = record { has_line = true; line = first; drawn = true }

pub record LineNumbered (plan : LinePlan) (first : ℕ) (r : LineNumber) : Type 0 where
  pub answer : r ≡ line_for plan first

abbrev pub one_if : Bool → ℕ
one_if b = cond b 1 0

-- how many numbers are handed out
abbrev pub spent : Bool → Option ℕ → ℕ
spent drawn None = one_if drawn + 2
spent drawn (Some g) = one_if drawn + 1

abbrev pub rule_number : ℕ → Bool → Bool → Option ℕ → ℕ
rule_number first late drawn None = cond late first (first + one_if drawn + 1)
rule_number first late drawn (Some g) = g

abbrev pub joins : Option ℕ → Bool
joins None = false
joins (Some g) = true

-- the numbers from the first on, or, where they are spent, the first in place of all
abbrev pub numbers_of : LineNumber → ℕ → Bool → Option ℕ → Light
numbers_of l first late group =
    record {
      has_line = l.has_line;
      line = l.line;
      drawn = l.drawn;
      signal = cond late first (first + one_if l.drawn);
      rule = rule_number first late l.drawn group;
      joins = joins group;
      late = late;
    }

abbrev pub numbers_for : Bool → ℕ → LinePlan → Option ℕ → Light
numbers_for late next plan group = numbers_of (line_for plan (max 1 next)) (max 1 next) late group

-- whether they are spent: the next number would be 2^64 or more
abbrev pub late_of : LineNumber → ℕ → Option ℕ → Bool
late_of l first group = leb (2 ^ 64) (first + spent l.drawn group)

pub record NumbersMade (l : LineNumber) (first : ℕ) (group : Option ℕ) (r : Light) : Type 0 where
  pub answer : r ≡ numbers_of l first (late_of l first group) group

abbrev pub late_for : ℕ → LinePlan → Option ℕ → Bool
late_for next plan group = late_of (line_for plan (max 1 next)) (max 1 next) group

pub record LightNumbered (next : ℕ) (plan : LinePlan) (group : Option ℕ) (r : Light) : Type 0 where
  pub answer : r ≡ numbers_for (late_for next plan group) next plan group

abbrev pub line_in : Light → Option ℕ
line_in l = cond l.has_line (Some l.line) None

-- ---- the change set

-- what is said of the rules on the line
abbrev pub notes : {B : Type 0} → (Rule → Lift → List B) → Option ℕ → List ℕ → List Rule → List B
notes f None lanes rs = []
notes f (Some s) lanes rs = joined (λ r. f r (lift s lanes r)) rs

abbrev pub created : Light → List EntityRef
created l = (cond l.drawn (entity 5 l.line ∷ []) [] ++ (entity 6 l.signal ∷ [])) ++ cond (not l.joins) (entity 8 l.rule ∷ []) []

abbrev pub modified : Light → List EntityRef
modified l = cond l.joins (entity 8 l.rule ∷ []) []

-- a line's station that was moved, and a housing that was made up
abbrev pub warned : Light → Bool → Bool → List ℕ → List Warning
warned l clamped made lanes = cond (l.drawn && clamped) (warning 1 (Some (entity 1 (get_or lanes 0 0))) ∷ []) [] ++ cond made (warning 3 None ∷ []) []

unfoldable pub light_set : Light → Bool → Bool → List ℕ → List Rule → ChangeSet
light_set l clamped made lanes rs =
    record {
      created = created l;
      modified = modified l ++ notes eased_ref (line_in l) lanes rs;
      deleted = notes gone_ref (line_in l) lanes rs;
      warnings = warned l clamped made lanes ++ notes lift_warning (line_in l) lanes rs;
    }

-- ---- the steps of its code

-- entries more in a list
abbrev pub with_entries : ChangeSet → ℕ → List EntityRef → ChangeSet
with_entries c zero xs = record { created = c.created ++ xs; modified = c.modified; deleted = c.deleted; warnings = c.warnings }
with_entries c (suc l) xs = record { created = c.created; modified = c.modified ++ xs; deleted = c.deleted; warnings = c.warnings }

pub record PushAsks (d : List ℕ) (l : ℕ) : Type 0 where
  pub room : Roomy d
  pub list : l < 2
  pub few : (k : ℕ) → k < 4 → count_in d k < 32

pub record PushedIf (d : List ℕ) (b : Bool) (l : ℕ) (a : EntityRef) (d' : List ℕ) : Type 0 where
  pub room : Roomy d'
  pub set : change_set_of d' ≡ with_entries (change_set_of d) l (cond b (a ∷ []) [])
  pub counts : (k : ℕ) → k < 4 → count_in d' k ≤ count_in d k + 1

pub record WarnAsks (d : List ℕ) : Type 0 where
  pub room : Roomy d
  pub few : (k : ℕ) → k < 4 → count_in d k < 32

abbrev pub with_warnings : ChangeSet → List Warning → ChangeSet
with_warnings c xs = record { created = c.created; modified = c.modified; deleted = c.deleted; warnings = c.warnings ++ xs }

pub record WarnedIf (d : List ℕ) (b : Bool) (c k x : ℕ) (d' : List ℕ) : Type 0 where
  pub room : Roomy d'
  pub set : change_set_of d' ≡ with_warnings (change_set_of d) (cond b (warning c (about_of k x) ∷ []) [])
  pub counts : (k : ℕ) → k < 4 → count_in d' k ≤ count_in d k + 1

pub record NotedIf (ws : List ℕ) (b : Bool) (s : ℕ) (lanes d d' : List ℕ) : Type 0 where
  pub room : Roomy d'
  pub set : (cs : List Float) → change_set_of d'
      ≡ with_notes (change_set_of d)
      (notes eased_ref (cond b (Some s) None) lanes (map_of ws cs).rules)
      (notes gone_ref (cond b (Some s) None) lanes (map_of ws cs).rules)
      (notes lift_warning (cond b (Some s) None) lanes (map_of ws cs).rules)
  pub counts : (k : ℕ) → k < 4 → count_in d' k ≤ count_in d k + 128

pub record SetDrafted (ws lanes : List ℕ) (l : Light) (clamped made : Bool) (d' : List ℕ) : Type 0 where
  pub room : RoomyAll d'
  pub set : (cs : List Float) → change_set_of d' ≡ light_set l clamped made lanes (map_of ws cs).rules

-- ---- the map

unfoldable pub lifted_first : Map → Option ℕ → List ℕ → Map
lifted_first m None lanes = m
lifted_first m (Some s) lanes = with_rules m (lifted_rules s lanes m.rules)

unfoldable pub with_plan : Map → Plan → Map
with_plan m (use_line s) = m
with_plan m use_none = m
with_plan m (draw p) = with_line m p.points

-- the rule of a light that gets a signal more
unfoldable pub group_with : Rule → ℕ → Option ℕ → List ℕ → Rule
group_with r n line lanes = rule_with r (extended r.body n line) (joined_lanes r.lanes lanes) r.controlled

unfoldable pub with_light : Map → List ℕ → ℕ → Option ℕ → Option Rule → Map
with_light m lanes n line None = with_rule m (light (n ∷ []) line) lanes
with_light m lanes n line (Some r) = with_rules m (replaced (λ x. x.num) (group_with r n line lanes) m.rules)

-- the lifts, the line, the signal, the rule
unfoldable pub stored_map : NewTrafficSignal → Map → Planned → Map
stored_map a m p =
    let line = (line_drawn m p.plan).line in
    let one = with_plan (lifted_first m line a.lanes) p.plan in
    let n = fresh one in
    with_light (with_signal one (new_signal a n p.housing.points)) a.lanes n line (group_rule m a.group)

-- the group's rule, which is a light that controls no crosswalks
pub record Joinable (m : Map) (g : ℕ) : Type 0 where
  pub rule : Rule
  pub found : rule_of m g ≡ Some rule
  pub bare : rule.controlled ≡ []
  pub signals : List ℕ
  pub line : Option ℕ
  pub body : rule.body ≡ light signals line
