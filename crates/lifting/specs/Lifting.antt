-- What the steps of lifting answer, whatever the coordinates, and what they leave.
use Rattle.std.specs.Prelude.{ℕ, ◌+◌, ◌≤◌, ◌<◌, ◌≡◌, Bool, true, false, not, ◌&&◌, cond, List, eqb, Float, length, get_or, take}
use Rattle.rows.specs.Lists.{keep, member, joined, total}
use Rattle.store.specs.Layout.{count_of, row_of}
use Rattle.map.specs.declared.Entries.{Entries}
use Rattle.map.specs.declared.RuleHead.{RuleHead}
use Rattle.map.specs.Record.{Rule}
use Rattle.map.specs.Ceilings.{rule_points}
use Rattle.map.specs.Tables.{flag_at, rule_in, map_of}
use Rattle.edit.specs.Light as light
use Rattle.edit.specs.Light.{lift, lifted}
use Rattle.lifting.specs.declared.Lift.{Lift}
use Rattle.lifting.specs.declared.Lift.TheVariants.{Kept, Eased, Gone}
use Rattle.lifting.specs.declared.Lifting.{Lifting}
use Rattle.lifting.specs.declared.Freed.{Freed}

-- ---- one rule

-- by the kind: a marking is 3, a sign 2, and a stop sign of type 1
unfoldable pub head_stops : ℕ → RuleHead → Bool
head_stops s h = cond (eqb h.kind 3) (eqb h.line s) (cond (eqb h.kind 2) (cond h.has_line (eqb h.value 1 && eqb h.line s) false) false)

unfoldable pub head_points : RuleHead → ℕ
head_points h = cond (eqb h.kind 2) (cond h.has_shape h.points 0) 0

-- those of a list that are none of the lanes
abbrev pub others : List ℕ → List ℕ → List ℕ
others lanes ls = keep (λ n. not (member n lanes)) ls

abbrev pub entries_of : Entries → List ℕ
entries_of e = take e.count e.entries

pub record Left (ls lanes : List ℕ) (r : Entries) : Type 0 where
  pub entries : entries_of r ≡ others lanes ls
  pub count : r.count ≡ length (others lanes ls)
  pub room : length r.entries ≡ 16
  pub few : r.count ≤ 16

-- what the code's answer stands for
abbrev pub lift_of : Lift → List ℕ → light.Lift
lift_of Kept ks = light.kept
lift_of Eased ks = light.eased ks
lift_of Gone ks = light.gone

pub record LiftRead (ws : List ℕ) (i s : ℕ) (lanes : List ℕ) (r : Lifting) : Type 0 where
  pub answer : (c : List Float) → lift_of r.lift (entries_of r.left) ≡ lift s lanes (rule_in (row_of ws 5 i) c)
  pub count : length (entries_of r.left) ≡ r.left.count
  pub few : r.left.count ≤ 16
  pub room : length r.left.entries ≡ 16

-- ---- all rules

-- what the rules become
abbrev pub lifted_rules : ℕ → List ℕ → List Rule → List Rule
lifted_rules s lanes rs = joined (λ r. lifted r (lift s lanes r)) rs

-- a sign's shape is within its room
pub record ShapesFew (ws : List ℕ) : Type 0 where
  pub few : (i : ℕ) → i < count_of ws 5 → get_or (row_of ws 5 i) 1 0 ≡ 2 → flag_at (row_of ws 5 i) 5 ≡ true → get_or (row_of ws 5 i) 6 0 ≤ 64

-- one rule's part: it goes with its shape, or both stay
pub record GoneAt (ws : List ℕ) (i s : ℕ) (lanes : List ℕ) (r : Freed) : Type 0 where
  pub rules : (c : List Float) → 1 ≡ length (lifted (rule_in (row_of ws 5 i) c) (lift s lanes (rule_in (row_of ws 5 i) c))) + r.rules
  pub points : (c : List Float) → rule_points (rule_in (row_of ws 5 i) c) ≡ total rule_points (lifted (rule_in (row_of ws 5 i) c) (lift s lanes (rule_in (row_of ws 5 i) c))) + r.points
  pub one : r.rules ≤ 1
  pub few : r.points ≤ 64

-- how many rules and how many points of shapes are less after the lift
pub record GoneRead (ws : List ℕ) (s : ℕ) (lanes : List ℕ) (r : Freed) : Type 0 where
  pub rules : (cs : List Float) → length (map_of ws cs).rules ≡ length (lifted_rules s lanes (map_of ws cs).rules) + r.rules
  pub points : (cs : List Float) → total rule_points (map_of ws cs).rules ≡ total rule_points (lifted_rules s lanes (map_of ws cs).rules) + r.points
