-- Calls by numbers: which call they are, by the tests that the code makes, and what it leaves. Assumes nothing.
use Prim.Native.Nat.{ℕ, ◌≤◌, ◌<◌}
use mathlib.Core.Path.{◌≡◌, refl}
use mathlib.Core.Bool.{Bool, true, false, not}
use Rattle.std.specs.Prelude.{None, Some, Option, Result}
use mathlib.Core.List.{List}
use lib.Dec.{ltb}
use lib.Ieee.{Float}
use borrow.Author.Tests.{not-true, not-false}
use Rattle.rows.proofs.Bools.{and_no}
use Rattle.changes.specs.declared.Tally.{Tally}
use Rattle.place.specs.declared.Placement.{Placement}
use Rattle.edit.specs.declared.StopRule.{StopRule}
use Rattle.edit.specs.declared.SignalRequest.{SignalRequest}
use Rattle.edit.specs.StopLine.{add_stop_line}
use Rattle.edit.specs.Light.{add_traffic_signal}
use Rattle.edit.specs.Links.{set_regulatory_links}
use Rattle.edit.specs.Request.{lamp_count, new_traffic_signal}
use Rattle.edit.specs.Lent.{Lent, CallLeft}
use Rattle.boundary.specs.Numbers.{placement_of, stop_rule_of, request_of, signal_cases}
use Rattle.boundary.specs.Plain.{stop_line_by, signal_by}
use Rattle.boundary.proofs.Cases.{above, below}
use Rattle.run.specs.Run.{line, signal, run_one}
use Rattle.call_list.specs.declared.Reply.{Reply}
use Rattle.call_list.specs.Reply.{Replied}
use Rattle.call_list.specs.Step.{StepLeft}
use Rattle.call_list.specs.Rows.{line_by, light_by, links_by}
use Rattle.call_list.proofs.Steps.{lent, none_called, was_called}
use Rattle.refusal.specs.declared.Refusal.{Refusal}
use Rattle.place.specs.declared.SectionNames.{SectionNames}

-- ---- what is no call

module _ (old : Lent) (r : Reply) (new : Lent) (h : StepLeft None old r new) where
  module _ (lanes : List ℕ) (p : ℕ) (x : Float) (given : List Float) (rule : ℕ) where
    pub no_placement : 2 < p → StepLeft (line_by lanes p x given rule) old r new
    unfolding line_by stop_line_by
    no_placement q = none_called _ old r new (rw (above 2 p q)) h

    pub no_rule : 2 < rule → StepLeft (line_by lanes p x given rule) old r new
    unfolding line_by stop_line_by
    no_rule q = none_called _ old r new (rw (above 2 rule q, and_no (ltb p 3))) h

  pub no_signal : (lanes ns : List ℕ) (x y : Float) (points housing lamps : List Float) (n : ℕ) (b : Bool) → n ≡ lamp_count lamps → b ≡ signal_cases ns n → not b ≡ true
      → StepLeft (light_by lanes ns x y points housing lamps) old r new
  unfolding light_by signal_by
  no_signal lanes ns x y points housing lamps n b c e q = none_called _ old r new (rw (← c, ← e, not-true b q)) h

-- ---- what is called: a and t are its answer and its tally, r and u the words of the answer and the tally that is answered

module _ (old : Lent) (a : Result (ℕ × Option SectionNames) Refusal) (ws : List ℕ) (cs : List Float) (f : List ℕ) (t : Tally) (s : List ℕ) (r : Reply) (u : Tally) (w : (Replied a r) × (u ≡ t)) where
  pub line_called : (lanes : List ℕ) (p : ℕ) (x : Float) (given : List Float) (rule : ℕ) → p ≤ 2 → rule ≤ 2 → (how : Placement) (made : StopRule) → how ≡ placement_of p x → made ≡ stop_rule_of rule
      → CallLeft (add_stop_line (record { lanes = lanes; placement = how; points = given; rule = made })) old a (lent ws cs f t s) → StepLeft (line_by lanes p x given rule) old r (lent ws cs f u s)
  unfolding line_by stop_line_by run_one
  line_called lanes p x given rule h k how made c d l =
      was_called _ (line (record { lanes = lanes; placement = how; points = given; rule = made })) old a ws cs f t s r u (rw (below 2 p h, below 2 rule k, c, d)) l w.0 w.1

  pub signal_called : (lanes ns : List ℕ) (x y : Float) (points housing lamps : List Float) (n : ℕ) (b : Bool) → n ≡ lamp_count lamps → b ≡ signal_cases ns n → not b ≡ false
      → (q : SignalRequest) → q ≡ request_of ns x y → CallLeft (add_traffic_signal (new_traffic_signal lanes q points housing lamps)) old a (lent ws cs f t s)
      → StepLeft (light_by lanes ns x y points housing lamps) old r (lent ws cs f u s)
  unfolding light_by signal_by run_one
  signal_called lanes ns x y points housing lamps n b c e p q d l =
      was_called _ (signal (new_traffic_signal lanes q points housing lamps)) old a ws cs f t s r u (rw (← c, ← e, not-false b p, d)) l w.0 w.1

  pub links_called : (rule : ℕ) (lanes crosswalks stop_lines : List ℕ)
      → CallLeft (set_regulatory_links (record { rule = rule; lanes = lanes; crosswalks = crosswalks; stop_lines = stop_lines })) old a (lent ws cs f t s)
      → StepLeft (Some (links_by rule lanes crosswalks stop_lines)) old r (lent ws cs f u s)
  unfolding run_one
  links_called rule lanes crosswalks stop_lines l = was_called _ (links_by rule lanes crosswalks stop_lines) old a ws cs f t s r u refl l w.0 w.1
