-- Two quays, each with a map of its own: where a stop line is answered alike on both. What lies beside its lanes plays no part.
use Rattle.std.specs.Prelude.{ℕ, ◌≡◌, true, List, length, Some, Option, Result}
use Rattle.refusal.specs.Answer.{Answer, refused, done, ◌>>◌}
use Rattle.rows.specs.Lists.{member}
use Rattle.map.specs.Record.{Lane, Map}
use Rattle.map.specs.Lookup.{lane_of, boundary_of, line_of}
use Rattle.map.specs.Ceilings.{points}
use Rattle.map.specs.MapFile.{is_map}
use Rattle.changes.specs.Running.{State, opening}
use Rattle.place.specs.Place.{Placed, check_lane_list, place_stop_line}
use Rattle.edit.specs.Edit.{Outcome}
use Rattle.edit.specs.Lent.{Lent, state_of, answered, CallLeft}
use Rattle.edit.specs.StopLine.{NewStopLine, add_stop_line}
use Rattle.finishing.specs.Finish.{lent_checks}
use Rattle.run.specs.Run.{Edit, run_all}
use Rattle.run.specs.Law.{passes}
use Rattle.refusal.specs.declared.Refusal.{Refusal}
use Rattle.place.specs.declared.SectionNames.{SectionNames}

-- ---- what two maps agree on

-- each requested lane is the same record in both, or absent in both
abbrev pub same_lanes : List ℕ → Map → Map → Type 0
same_lanes ls m n = (l : ℕ) → member l ls ≡ true → lane_of m l ≡ lane_of n l

-- so are the two boundaries that a requested lane names
abbrev pub same_boundaries : List ℕ → Map → Map → Type 0
same_boundaries ls m n = (l : ℕ) (r : Lane) → member l ls ≡ true → lane_of m l ≡ Some r
    → (boundary_of m r.left.boundary ≡ boundary_of n r.left.boundary) × (boundary_of m r.right.boundary ≡ boundary_of n r.right.boundary)

-- one series of numbers serves all kinds: the next of it is the same
abbrev pub same_next : Map → Map → Type 0
same_next m n = m.next ≡ n.next

-- as many stop lines, rules and points in all: whether there is room for more goes by these
abbrev pub same_lines : Map → Map → Type 0
same_lines m n = length m.stop_lines ≡ length n.stop_lines

abbrev pub same_rules : Map → Map → Type 0
same_rules m n = length m.rules ≡ length n.rules

abbrev pub same_points : Map → Map → Type 0
same_points m n = points m ≡ points n

-- the requested lanes and what bounds them
pub record SameQuay (ls : List ℕ) (m n : Map) : Type 0 where
  pub lanes : same_lanes ls m n
  pub boundaries : same_boundaries ls m n

-- the number and the room that a new line finds
pub record SameRoom (m n : Map) : Type 0 where
  pub next : same_next m n
  pub lines : same_lines m n
  pub rules : same_rules m n
  pub used : same_points m n

-- ---- the same answer

-- what a caller is told of two accepted calls is the same; the rest of the two maps, their folds and tallies differ by nature
pub record SameOutcome (o p : Outcome) : Type 0 where
  -- the new line's number, the change set with its warnings, the names of the line's ends
  pub number : o.id ≡ p.id
  pub changes : o.changes ≡ p.changes
  pub ends : o.ends ≡ p.ends
  -- the next number after the call
  pub next : o.state.map.next ≡ p.state.map.next
  -- the new line as it stands on the map, with its points
  pub line : line_of o.state.map o.id ≡ line_of p.state.map p.id

-- the same refusal with the same details, or the same outcome
abbrev pub SameAnswer : Answer Outcome → Answer Outcome → Type 0
SameAnswer (refused n ds) (refused k es) = (n ≡ k) × (ds ≡ es)
SameAnswer (refused n ds) (done p) = ⊥
SameAnswer (done o) (refused k es) = ⊥
SameAnswer (done o) (done p) = SameOutcome o p

-- a stop line is answered alike on both
abbrev pub Alike : NewStopLine → State → State → Type 0
Alike a s t = SameAnswer (add_stop_line a s) (add_stop_line a t)

-- ---- the line that is placed

-- the points, the warnings and the names of the ends, or the first refusal on the way to them
abbrev pub placed_for : NewStopLine → Map → Answer Placed
placed_for a m = check_lane_list m a.lanes >> place_stop_line m a.lanes a.placement a.points

-- an accepted call has put the placed points on the map, under the number that it answers
pub record Stored (a : NewStopLine) (m : Map) (o : Outcome) : Type 0 where
  pub placed : Placed
  pub placed_is : placed_for a m ≡ done placed
  pub line : line_of o.state.map o.id ≡ Some (record { num = o.id; geometry = placed.points })

-- ---- of the code

-- two calls returned the same value, and the memory that each left holds the same answer
pub record SameReturn (r u : Result (ℕ × Option SectionNames) Refusal) (x y : Lent) : Type 0 where
  pub returned : r ≡ u
  pub answer : SameAnswer (answered r x) (answered u y)

-- where both memories pass 12 and 13 and their maps agree on these lanes and have the same room, the two calls return alike
abbrev pub ReturnAlike : List ℕ → Lent → Lent → Result (ℕ × Option SectionNames) Refusal → Result (ℕ × Option SectionNames) Refusal → Lent → Lent → Type 0
ReturnAlike ls x y r u x' y' = lent_checks x ≡ done tt → lent_checks y ≡ done tt → SameQuay ls (state_of x).map (state_of y).map → SameRoom (state_of x).map (state_of y).map → SameReturn r u x' y'

-- what two calls of `add_stop_line` for the same line leave: each what its contract says, and both alike
pub record BothLeft (a : NewStopLine) (x y : Lent) (r u : Result (ℕ × Option SectionNames) Refusal) (x' y' : Lent) : Type 0 where
  pub first : CallLeft (add_stop_line a) x r x'
  pub second : CallLeft (add_stop_line a) y u y'
  pub alike : ReturnAlike a.lanes x y r u x' y'

-- ---- the promise, for every stop line that can be asked for

pub record TwoQuays (a : NewStopLine) : Type 0 where
  -- where the line goes depends on the requested lanes, their boundaries and the specification alone
  pub placed : (m n : Map) → SameQuay a.lanes m n → placed_for a m ≡ placed_for a n
  pub stored : (s : State) (o : Outcome) → add_stop_line a s ≡ done o → Stored a s.map o
  -- any two states that pass 12 and 13
  pub answers : (s t : State) → passes s ≡ true → passes t ≡ true → SameQuay a.lanes s.map t.map → SameRoom s.map t.map → Alike a s t
  -- so two opened maps, each after a run of its own and with that run's fold
  pub runs : (m n : Map) → is_map m ≡ true → is_map n ≡ true → (es fs : List Edit)
      → SameQuay a.lanes (run_all es (opening m)).map (run_all fs (opening n)).map → SameRoom (run_all es (opening m)).map (run_all fs (opening n)).map
      → Alike a (run_all es (opening m)) (run_all fs (opening n))
  -- so two lent memories, by the contract of `add_stop_line`
  pub calls : (x y : Lent) (r u : Result (ℕ × Option SectionNames) Refusal) (x' y' : Lent) → CallLeft (add_stop_line a) x r x' → CallLeft (add_stop_line a) y u y' → ReturnAlike a.lanes x y r u x' y'
