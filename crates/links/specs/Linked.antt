-- `set_regulatory_links` in the steps of its code.
use Rattle.std.specs.Prelude.{ℕ, ◌≡◌, Bool, not, List, [], ◌∷◌, Float, length, get_or, None, Result, Option}
use Rattle.refusal.specs.Answer.{Answer, done, ◌>>=◌, ◌>>◌, refuse_when, present}
use Rattle.rows.specs.Lists.{sorted}
use Rattle.rows.specs.Table.{replaced}
use Rattle.store.specs.Layout.{row_of}
use Rattle.map.specs.Record.{Rule, Map}
use Rattle.map.specs.Lookup.{rule_of}
use Rattle.map.specs.Rows.{with_rules}
use Rattle.map.specs.Tables.{map_of}
use Rattle.changes.specs.Layout.{change_set_of}
use Rattle.placing.specs.Answers.{checked}
use Rattle.edit.specs.Edit.{Draft, call}
use Rattle.edit.specs.Lent.{Lent, CallLeft}
use Rattle.edit.specs.Links.{RegulatoryLinks, same_links, link_changes}
use Rattle.finishing.specs.Finish.{RoomyAll, planned}
use Rattle.linking.specs.Linking.{list_checks}
use Rattle.link_plan.specs.LinkPlan.{rule_at, linked_rule, rule_checks, links_fit}
use Rattle.refusal.specs.declared.Refusal.{Refusal}
use Rattle.place.specs.declared.SectionNames.{SectionNames}

abbrev pub rule_links : ℕ → List ℕ → List ℕ → List ℕ → RegulatoryLinks
rule_links rule lanes crosswalks lines = record { rule = rule; lanes = lanes; crosswalks = crosswalks; stop_lines = lines }

abbrev pub sorted_links : RegulatoryLinks → RegulatoryLinks
sorted_links a = rule_links a.rule (sorted a.lanes) (sorted a.crosswalks) (sorted a.stop_lines)

-- ---- the checks

unfoldable pub links_checks : RegulatoryLinks → Map → Answer (Unit {0})
links_checks a m = present (rule_of m a.rule) 2 (8 ∷ a.rule ∷ []) >> list_checks m a.lanes a.crosswalks a.stop_lines

pub record LinksChecked (ws : List ℕ) (a : RegulatoryLinks) (r : Result (Unit {0}) Refusal) : Type 0 where
  pub answer : (cs : List Float) → checked r ≡ links_checks a (map_of ws cs)

-- what is left to do for lists that are known and in rising order
unfoldable pub draft_for : RegulatoryLinks → Map → Rule → Draft
draft_for b m r =
    let s = linked_rule r b.lanes b.crosswalks b.stop_lines in
    record { map = with_rules m (replaced (λ x. x.num) s m.rules); id = r.num; stored = []; ends = None; changes = link_changes (same_links r s) r.num }

unfoldable pub rising_edit : RegulatoryLinks → Map → Answer Draft
rising_edit b m = do
  r ← present (rule_of m b.rule) 2 (8 ∷ b.rule ∷ [])
  rule_checks m r.body (length b.lanes) (length b.crosswalks) b.stop_lines
  done (draft_for b m r)

pub record RulePlanned (ws : List ℕ) (i l c : ℕ) (lines : List ℕ) (r : Result (Unit {0}) Refusal) : Type 0 where
  pub answer : (cs : List Float) → checked r ≡ (rule_checks (map_of ws cs) (rule_at ws cs i).body l c lines >> refuse_when (not (links_fit (get_or (row_of ws 5 i) 1 0) l c (length lines))) 10 [])

-- ---- what is left

pub record SetDrafted (same : Bool) (n : ℕ) (s : List ℕ) : Type 0 where
  pub set : change_set_of s ≡ link_changes same n
  pub room : RoomyAll s

-- what a call leaves whose draft links rule i, however it came to it
pub record LinksEnd (old : Lent) (i : ℕ) (b : RegulatoryLinks) (r : Result (ℕ × Option SectionNames) Refusal) (new : Lent) : Type 0 where
  pub left : (edit : Map → Answer Draft) → planned edit (map_of old.words old.coords) ≡ done (draft_for b (map_of old.words old.coords) (rule_at old.words old.coords i)) → CallLeft (call edit) old r new

-- what a call leaves that comes to the edit of rising lists
pub record RuleEnds (old : Lent) (b : RegulatoryLinks) (r : Result (ℕ × Option SectionNames) Refusal) (new : Lent) : Type 0 where
  pub left : (edit : Map → Answer Draft) → edit (map_of old.words old.coords) ≡ rising_edit b (map_of old.words old.coords) → CallLeft (call edit) old r new
