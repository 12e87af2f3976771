-- `set_regulatory_links`.
use Rattle.std.specs.Prelude.{ℕ, Bool, true, false, not, ◌&&◌, ◌||◌, List, [], ◌∷◌, eqb, ltb, length, Option, None, Some}
use Rattle.refusal.specs.Answer.{Answer, refused, done, ◌>>=◌, ◌>>◌, refuse_when, present}
use Rattle.rows.specs.Lists.{no_entries, twice, sorted, same_list}
use Rattle.rows.specs.Table.{replaced}
use Rattle.map.specs.Record.{RuleBody, light, sign, marking, right_of_way, crossing, other, Rule, Map}
use Rattle.map.specs.Entity.{entity}
use Rattle.map.specs.Lookup.{signal_of, rule_of, unknown_in}
use Rattle.map.specs.Rows.{with_rules, rule_with}
use Rattle.changes.specs.ChangeSet.{ChangeSet, no_changes}
use Rattle.changes.specs.Running.{State}
use Rattle.place.specs.Place.{refuse_found, open_place}
use Rattle.edit.specs.Edit.{Draft, Outcome, call, open_edit}

pub record RegulatoryLinks : Type 0 where
  pub rule : ℕ
  pub lanes : List ℕ
  pub crosswalks : List ℕ
  pub stop_lines : List ℕ

-- which kinds the signals have
pub record SignalKinds : Type 0 where
  pub vehicle : Bool
  pub pedestrian : Bool

unfoldable pub is_vehicle : ℕ → Bool
is_vehicle k = eqb k 0

-- the first signal of the rule that is not there is refused
unfoldable pub kinds_of : Map → List ℕ → Answer SignalKinds
kinds_of m [] = done (record { vehicle = false; pedestrian = false })
kinds_of m (n ∷ ns) =
    present (signal_of m n) 2 (6 ∷ n ∷ []) >>= λ s.
    kinds_of m ns >>= λ k.
    done (record { vehicle = is_vehicle s.kind || k.vehicle; pedestrian = not (is_vehicle s.kind) || k.pedestrian })

unfoldable pub first_entry : List ℕ → Option ℕ
first_entry [] = None
first_entry (x ∷ xs) = Some x

-- the rule with its new lines, for links that are sorted
unfoldable pub relinked : Map → RegulatoryLinks → RuleBody → Answer RuleBody
relinked m a (light signals line) = do
  refuse_when (no_entries signals) 8 (1 ∷ [])
  k ← kinds_of m signals
  refuse_when (k.pedestrian && k.vehicle) 8 (2 ∷ [])
  refuse_when (k.pedestrian && not (no_entries a.lanes && no_entries a.stop_lines)) 8 (3 ∷ [])
  refuse_when (k.vehicle && not (no_entries a.crosswalks)) 8 (4 ∷ [])
  refuse_when (ltb 1 (length a.stop_lines)) 8 (5 ∷ [])
  done (light signals (first_entry a.stop_lines))
relinked m a (crossing c stop_lines) = do
  refuse_when (not (no_entries a.crosswalks)) 8 (6 ∷ [])
  done (crossing c a.stop_lines)
relinked m a (marking line) = do
  refuse_when (not (no_entries a.crosswalks && same_list a.stop_lines (line ∷ []))) 8 (7 ∷ [])
  done (marking line)
relinked m a (sign type shape line) = refused 8 (8 ∷ [])
relinked m a (right_of_way priority yielding stop_lines) = refused 8 (8 ∷ [])
relinked m a (other k) = refused 8 (8 ∷ [])

-- the links of a rule: an optional line is a list of none or one
unfoldable pub to_list : Option ℕ → List ℕ
to_list None = []
to_list (Some n) = n ∷ []

unfoldable pub stop_lines_of : RuleBody → List ℕ
stop_lines_of (light signals line) = to_list line
stop_lines_of (sign type shape line) = to_list line
stop_lines_of (marking line) = line ∷ []
stop_lines_of (right_of_way priority yielding stop_lines) = stop_lines
stop_lines_of (crossing c stop_lines) = stop_lines
stop_lines_of (other k) = []

unfoldable pub same_links : Rule → Rule → Bool
same_links r s = same_list r.lanes s.lanes && same_list r.controlled s.controlled && same_list (stop_lines_of r.body) (stop_lines_of s.body)

unfoldable pub link_changes : Bool → ℕ → ChangeSet
link_changes true n = no_changes
link_changes false n = record { created = []; modified = entity 8 n ∷ []; deleted = []; warnings = [] }

unfoldable pub links_edit : RegulatoryLinks → Map → Answer Draft
links_edit a m = do
  r ← present (rule_of m a.rule) 2 (8 ∷ a.rule ∷ [])
  refuse_when (twice a.lanes) 3 (1 ∷ [])
  refuse_when (twice a.crosswalks) 3 (2 ∷ [])
  refuse_when (twice a.stop_lines) 3 (3 ∷ [])
  let b : RegulatoryLinks = record { rule = a.rule; lanes = sorted a.lanes; crosswalks = sorted a.crosswalks; stop_lines = sorted a.stop_lines }
  refuse_found (unknown_in (λ l. l.num) m.lanes b.lanes) 1
  refuse_found (unknown_in (λ c. c.num) m.crosswalks b.crosswalks) 7
  refuse_found (unknown_in (λ l. l.num) m.stop_lines b.stop_lines) 5
  w ← relinked m b r.body
  let s = rule_with r w b.lanes b.crosswalks
  done (record { map = with_rules m (replaced (λ x. x.num) s m.rules); id = r.num; stored = []; ends = None; changes = link_changes (same_links r s) r.num })

unfoldable pub set_regulatory_links : RegulatoryLinks → State → Answer Outcome
set_regulatory_links a = call (links_edit a)

unfoldable pub open_links : Unit {0}
unfolding open_place open_edit is_vehicle kinds_of first_entry relinked to_list stop_lines_of same_links link_changes links_edit set_regulatory_links
open_links = tt
