-- What joining the group's line changes: for a group with a line a new one is turned down, and no line means the group's. All else is as before.
use Rattle.std.specs.Prelude.{ℕ, ◌≡◌, Bool, true, false, [], ◌∷◌, Option, None, Some}
use Rattle.refusal.specs.Answer.{refused, done}
use Rattle.map.specs.Record.{Map}
use Rattle.map.specs.Entity.{entity, listed}
use Rattle.changes.specs.Running.{State}
use Rattle.place.specs.declared.Placement.{Placement}
use Rattle.edit.specs.declared.StopLineChoice.{StopLineChoice}
use Rattle.edit.specs.declared.StopLineChoice.TheVariants.{Automatic, Existing, New, NoLine}
use Rattle.edit.specs.Edit.{Outcome}
use Rattle.edit.specs.Light.{NewTrafficSignal, add_traffic_signal}
use Rattle.edit.specs.GroupLine.{before_choice, choosing}
use Rattle.run.specs.Law.{groups_line, Joined, passes}
use Rattle.group_line.specs.Before as before

-- a new line, or none, where the group has one
abbrev pub new_or_none : Option ℕ → StopLineChoice → Bool
new_or_none None c = false
new_or_none (Some g) Automatic = false
new_or_none (Some g) (Existing s) = false
new_or_none (Some g) (New how) = true
new_or_none (Some g) NoLine = true

-- the calls that are no longer answered as before: no test before the choice refuses them
abbrev pub answered_anew : NewTrafficSignal → Map → Bool
answered_anew a m = elim (before_choice a m) [ refused n ds ↦ false | done group ↦ new_or_none group a.choice ]

pub record GroupLineLaw (a : NewTrafficSignal) (s : State) : Type 0 where
  -- a new line for a group with a line: 7 with detail 4, after the tests before the choice and before all of placing
  pub new : (g : ℕ) (how : Placement) → a.choice ≡ New how → passes s ≡ true → before_choice a s.map ≡ done (Some g) → add_traffic_signal a s ≡ refused 7 (4 ∷ [])
  -- no line is the group's line by its number, in every answer and refusal
  pub none_is_named : (g : ℕ) → groups_line a.group s.map.rules ≡ Some g → add_traffic_signal (choosing NoLine a) s ≡ add_traffic_signal (choosing (Existing g) a) s
  -- accepted, the light draws no stop line, leaves the group's as it was, and no stop rule of its lanes is left there
  pub joined : (g : ℕ) (o : Outcome) → groups_line a.group s.map.rules ≡ Some g → add_traffic_signal a s ≡ done o → Joined a s.map o.state.map g
  pub undrawn : (g n : ℕ) (o : Outcome) → groups_line a.group s.map.rules ≡ Some g → add_traffic_signal a s ≡ done o → listed o.changes.created (entity 5 n) ≡ false
  -- every other call is answered as before
  pub others : answered_anew a s.map ≡ false → add_traffic_signal a s ≡ before.add_traffic_signal a s
