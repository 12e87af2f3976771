-- `add_stop_line`.
use Rattle.std.specs.Prelude.{ℕ, List, [], ◌∷◌, ◌++◌, Float, Option, None, Some}
use Rattle.refusal.specs.Answer.{Answer, done, ◌>>=◌, ◌>>◌}
use Rattle.map.specs.Record.{RuleBody, sign, marking, Map}
use Rattle.map.specs.Entity.{entity}
use Rattle.map.specs.Rows.{fresh, with_line, with_rule}
use Rattle.changes.specs.ChangeSet.{warning}
use Rattle.changes.specs.Running.{State}
use Rattle.place.specs.declared.Placement.{Placement}
use Rattle.edit.specs.declared.StopRule.{StopRule}
use Rattle.edit.specs.declared.StopRule.TheVariants.{StopSign, Marking, NoRule}
use Rattle.place.specs.Place.{check_lane_list, place_stop_line, open_place}
use Rattle.edit.specs.Edit.{Draft, Outcome, call, open_edit}

pub record NewStopLine : Type 0 where
  pub lanes : List ℕ
  pub placement : Placement
  -- the coordinates of a given line
  pub points : List Float
  pub rule : StopRule

-- the rule that makes vehicles stop at the line n
unfoldable pub rule_at : StopRule → ℕ → Option RuleBody
rule_at StopSign n = Some (sign 1 None (Some n))
rule_at Marking n = Some (marking n)
rule_at NoRule n = None

unfoldable pub line_draft : NewStopLine → Draft → Option RuleBody → Draft
line_draft a d None = record {
  map = d.map;
  id = d.id;
  stored = d.stored;
  ends = d.ends;
  changes = record { created = d.changes.created; modified = []; deleted = []; warnings = d.changes.warnings ++ (warning 2 (Some (entity 5 d.id)) ∷ []) };
}
line_draft a d (Some w) = record {
  map = with_rule d.map w a.lanes;
  id = d.id;
  stored = d.stored;
  ends = d.ends;
  changes = record { created = d.changes.created ++ (entity 8 (fresh d.map) ∷ []); modified = []; deleted = []; warnings = d.changes.warnings };
}

unfoldable pub stop_line_edit : NewStopLine → Map → Answer Draft
stop_line_edit a m = do
  check_lane_list m a.lanes
  p ← place_stop_line m a.lanes a.placement a.points
  let n = fresh m
  let drawn : Draft = record {
    map = with_line m p.points;
    id = n;
    stored = p.points;
    ends = p.ends;
    changes = record { created = entity 5 n ∷ []; modified = []; deleted = []; warnings = p.warnings };
  }
  done (line_draft a drawn (rule_at a.rule n))

unfoldable pub add_stop_line : NewStopLine → State → Answer Outcome
add_stop_line a = call (stop_line_edit a)

unfoldable pub open_stop_line : Unit {0}
unfolding open_place open_edit rule_at line_draft stop_line_edit add_stop_line
open_stop_line = tt
