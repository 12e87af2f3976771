-- What a light's plan stands for, and the parts of its definition that one function answers.
use Rattle.std.specs.Prelude.{ℕ, ◌/◌, ◌≤◌, ◌<◌, ◌≡◌, Bool, true, false, cond, List, [], ◌∷◌, Float, length, get_or, Option, None, Some, Ok, Result}
use Rattle.refusal.specs.Answer.{Answer, done, ◌>>=◌, ◌>>◌, present}
use Rattle.geometry.specs.Double.{f0}
use Rattle.geometry.specs.Polyline.{Polyline, polyline_length}
use Rattle.centerline.specs.declared.Line.{Line}
use Rattle.centerline.specs.Line.{points_of}
use Rattle.map.specs.Record.{Map}
use Rattle.map.specs.Entity.{entity}
use Rattle.map.specs.Lookup.{line_of}
use Rattle.map.specs.Tables.{map_of}
use Rattle.changes.specs.ChangeSet.{warning}
use Rattle.place.specs.declared.MaybeLine.{MaybeLine}
use Rattle.place.specs.Place.{Placed, lane_centerline, cross_section}
use Rattle.place.specs.Values.{maybe_line, Roomy, maybe_ends}
use Rattle.placing.specs.declared.PlacedLine.{PlacedLine}
use Rattle.placing.specs.Answers.{checked, placed_answer}
use Rattle.edit.specs.declared.SignalRequest.{SignalRequest}
use Rattle.edit.specs.Light.{Plan, use_line, use_none, draw, Planned, anchor_for, housing_for, light_plan}
use Rattle.edit.specs.Request.{new_traffic_signal}
use Rattle.lighting.specs.declared.ChosenLine.{ChosenLine}
use Rattle.lighting.specs.declared.LightPlan.{LightPlan}
use Rattle.lighting.specs.declared.LinePlan.{LinePlan}
use Rattle.lighting.specs.declared.LinePlan.TheVariants.{Use, NoLine, Draw}
use Rattle.lighting.specs.Group.{chosen_plan}
use Rattle.lighting.specs.Housing.{housing_of, housing_on}
use Rattle.refusal.specs.declared.Refusal.{Refusal}
use Rattle.place.specs.declared.SectionNames.{SectionNames}

-- ---- the answer

abbrev pub plan_of : LinePlan → Placed → Plan
plan_of (Use s) p = use_line s
plan_of NoLine p = use_none
plan_of (Draw how) p = draw p

-- a line drawn along the lane n, with a warning where its station was moved, and its ends' names
abbrev pub drawn_of : ℕ → Line → Bool → Option SectionNames → Placed
drawn_of n l b es = record { points = points_of l; warnings = cond b (warning 1 (Some (entity 1 n)) ∷ []) []; ends = maybe_ends es }

abbrev pub draws : LinePlan → Bool
draws (Use s) = false
draws NoLine = false
draws (Draw how) = true

-- what is accepted tells names only of a line that it draws
pub record EndsTold (c : Result (Unit {0}) Refusal) (plan : LinePlan) (es : Option SectionNames) : Type 0 where
  pub told : c ≡ (Ok tt) → draws plan ≡ false → maybe_ends es ≡ None

abbrev pub light_answer : ℕ → LightPlan → Answer Planned
light_answer n r =
    checked r.checked >> done (record { plan = plan_of r.plan (drawn_of n r.line r.clamped r.ends); housing = housing_of r.housing r.synthesized })

abbrev pub plan_answer : List ℕ → LightPlan → Answer Planned
plan_answer lanes = light_answer (get_or lanes 0 0)

pub record LightRead (lanes : List ℕ) (x : Answer Planned) (r : LightPlan) : Type 0 where
  pub answer : plan_answer lanes r ≡ x
  pub ends : EndsTold r.checked r.plan r.ends
  pub line : Roomy r.line
  pub housing : Roomy r.housing

-- the same, with what an accepted plan says of the lanes
pub record LightPlanned (lanes : List ℕ) (x : Answer Planned) (r : LightPlan) : Type 0 where
  pub read : LightRead lanes x r
  pub some_lanes : r.checked ≡ (Ok tt) → 0 < length lanes

-- ---- the tests before the line's place

-- what follows a plan: its anchor, and the housing; and with the plan that a source leads to
unfoldable pub planned_from : Map → List ℕ → Option (List Float) → Plan → Answer Planned
planned_from m lanes given plan = do
  anchor ← anchor_for m lanes plan
  housing ← housing_for m (get_or lanes 0 0) anchor given
  done (record { plan = plan; housing = housing })

unfoldable pub planned_as : Map → List ℕ → LinePlan → List Float → Option (List Float) → Answer Planned
planned_as m lanes plan points given = chosen_plan m lanes plan points >>= planned_from m lanes given

pub record ChoiceMade (ws lanes : List ℕ) (q : SignalRequest) (housing : List Float) (r : ChosenLine) : Type 0 where
  pub answer : (cs points : List Float) → light_plan (new_traffic_signal lanes q points housing []) (map_of ws cs)
      ≡ (checked r.checked >> planned_as (map_of ws cs) lanes r.plan points (cond q.housing_given (Some housing) None))
  pub some_lanes : r.checked ≡ (Ok tt) → 0 < length lanes
  pub few : r.checked ≡ (Ok tt) → q.housing_given ≡ true → length housing / 3 ≤ 64

-- ---- the line's place

abbrev pub asks_center : LinePlan → Bool
asks_center (Use s) = false
asks_center NoLine = true
asks_center (Draw how) = true

-- the centreline of the lane n, where it is asked for
pub record CenterAt (m : Map) (n : ℕ) (asked : Bool) (c : MaybeLine) : Type 0 where
  pub answer : asked ≡ true → maybe_line c ≡ lane_centerline m n
  pub room : Roomy c.line

pub record StoredRead (m : Map) (s : ℕ) (a : PlacedLine) : Type 0 where
  pub answer : (n : ℕ) → placed_answer n a ≡ (present (line_of m s) 2 (5 ∷ s ∷ []) >>= λ l. done (record { points = l.geometry; warnings = []; ends = None }))
  pub room : Roomy a.line

-- where the first lane ends
abbrev pub end_of : Option Polyline → Float
end_of o = elim o [ None ↦ f0 | Some c ↦ polyline_length c ]

pub record EndRead (m : Map) (lanes : List ℕ) (a : PlacedLine) : Type 0 where
  pub answer : (n : ℕ) → placed_answer n a
      ≡ (cross_section m (get_or lanes 0 0) (end_of (lane_centerline m (get_or lanes 0 0))) lanes >>= λ x. done (record { points = x.points; warnings = []; ends = None }))
  pub room : Roomy a.line

-- whatever follows a plan and its anchor
pub record AnchorRead (m : Map) (lanes : List ℕ) (plan : LinePlan) (points : List Float) (a : PlacedLine) : Type 0 where
  pub answer : (f : Plan → Polyline → Answer Planned) → (placed_answer (get_or lanes 0 0) a >>= λ p. f (plan_of plan p) p.points)
      ≡ (chosen_plan m lanes plan points >>= λ x. anchor_for m lanes x >>= λ xs. f x xs)
  pub ends : EndsTold a.checked plan a.ends
  pub room : Roomy a.line

-- ---- the signal above it

pub record Anchored (center : MaybeLine) (plan : LinePlan) (a : PlacedLine) (given : Option (List Float)) (r : LightPlan) : Type 0 where
  pub answer : (n : ℕ) → light_answer n r
      ≡ (placed_answer n a >>= λ p. housing_on (maybe_line center) p.points given >>= λ h. done (record { plan = plan_of plan p; housing = h }))
  pub ends : EndsTold a.checked plan a.ends → EndsTold r.checked r.plan r.ends
  pub line : Roomy r.line
  pub housing : Roomy r.housing
