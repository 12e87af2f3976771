-- What the reader of a group and the choice of a line answer, whatever the coordinates.
use Rattle.std.specs.Prelude.{ℕ, ◌≡◌, List, [], ◌∷◌, Float, Option, Result}
use Rattle.refusal.specs.Answer.{Answer, done, refused_as, ◌>>◌, refuse_when, present}
use Rattle.refusal.specs.declared.Refusal.{Refusal}
use Rattle.rows.specs.Lists.{or_else}
use Rattle.map.specs.Record.{Map}
use Rattle.map.specs.Lookup.{line_of}
use Rattle.map.specs.Tables.{map_of}
use Rattle.placing.specs.Answers.{checked}
use Rattle.edit.specs.declared.StopLineChoice.{StopLineChoice}
use Rattle.edit.specs.Light.{group_line, differs, check_choice, existing_stop_line, Plan, use_line, use_none, draw_plan, auto_plan, own_plan, plan_for}
use Rattle.lighting.specs.declared.GroupLine.{GroupLine}
use Rattle.lighting.specs.declared.LinePlan.{LinePlan}
use Rattle.lighting.specs.declared.LinePlan.TheVariants.{Use, NoLine, Draw}

abbrev pub group_answer : GroupLine → Answer (Option ℕ)
group_answer g = checked g.checked >> done g.line

pub record GroupRefused (r : Refusal) (g : GroupLine) : Type 0 where
  pub answer : group_answer g ≡ refused_as r

pub record GroupRead (ws : List ℕ) (group : Option ℕ) (g : GroupLine) : Type 0 where
  pub answer : (cs : List Float) → group_answer g ≡ group_line (map_of ws cs) group

-- a line that is there, and no other than the group's
pub record ExistingChecked (ws : List ℕ) (group : Option ℕ) (s : ℕ) (r : Result (Unit {0}) Refusal) : Type 0 where
  pub answer : (cs : List Float) → checked r ≡ (present (line_of (map_of ws cs) s) 2 (5 ∷ s ∷ []) >> refuse_when (differs group s) 7 (3 ∷ []))

pub record ChoiceChecked (ws : List ℕ) (group : Option ℕ) (choice : StopLineChoice) (r : Result (Unit {0}) Refusal) : Type 0 where
  pub answer : (cs : List Float) → checked r ≡ check_choice (map_of ws cs) group choice

-- the plan that a source of a line leads to; the points are read for a given line only
unfoldable pub chosen_plan : Map → List ℕ → LinePlan → List Float → Answer Plan
chosen_plan m lanes (Use s) cs = done (use_line s)
chosen_plan m lanes NoLine cs = done use_none
chosen_plan m lanes (Draw how) cs = draw_plan m lanes how cs

pub record AutoChosen (ws : List ℕ) (lane : ℕ) (group : Option ℕ) (r : LinePlan) : Type 0 where
  pub answer : (cs points : List Float) (lanes : List ℕ) → chosen_plan (map_of ws cs) lanes r points ≡ auto_plan (map_of ws cs) lanes (or_else group (existing_stop_line (map_of ws cs) lane))

pub record OwnChosen (group : Option ℕ) (r : LinePlan) : Type 0 where
  pub answer : (m : Map) (lanes : List ℕ) (points : List Float) → chosen_plan m lanes r points ≡ done (own_plan group)

pub record PlanChosen (ws lanes : List ℕ) (group : Option ℕ) (choice : StopLineChoice) (r : LinePlan) : Type 0 where
  pub answer : (cs points : List Float) → chosen_plan (map_of ws cs) lanes r points ≡ plan_for (map_of ws cs) lanes group choice points
