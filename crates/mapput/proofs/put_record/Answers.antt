use mathlib.Core.Path.{◌≡◌}
use mathlib.Core.Logic.{⊎_elim}
use Rattle.store.specs.declared.Kind.TheVariants.{Boundary, StopLine}
use Rattle.mapput.proofs.put_record.Goals as goal

pub returns-in-Lane : goal.returns-in-Lane
returns-in-Lane c = rw c.in-Lane.is c.put_lane.ensures

pub returns-in-Boundary : goal.returns-in-Boundary
returns-in-Boundary c = ⊎_elim (λ (e : c.args.k ≡ Boundary). rw e c.put_line_string.ensures) (λ (e : c.args.k ≡ StopLine). rw e c.put_line_string.ensures) c.in-Boundary.is

pub returns-in-Signal : goal.returns-in-Signal
returns-in-Signal c = rw c.in-Signal.is c.put_signal.ensures

pub returns-in-Crosswalk : goal.returns-in-Crosswalk
returns-in-Crosswalk c = rw c.in-Crosswalk.is c.put_crosswalk.ensures

pub returns-in-Rule : goal.returns-in-Rule
returns-in-Rule c = rw c.in-Rule.is c.put_rule.ensures
