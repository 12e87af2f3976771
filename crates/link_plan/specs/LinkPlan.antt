-- The rule of `set_regulatory_links` in the parts that one function answers: its checks, whether it changes, and its row.
use Rattle.std.specs.Prelude.{ℕ, ◌≤◌, ◌<◌, ◌≡◌, Bool, true, not, ◌&&◌, cond, List, [], ◌∷◌, eqb, leb, Float, length, get_or, set, None, Some, Result}
use Rattle.refusal.specs.Answer.{Answer, refused, refuse_when}
use Rattle.rows.specs.Lists.{same_list}
use Rattle.store.specs.Layout.{SizedWords, count_of, row_of, coords_of, all_coords}
use Rattle.map.specs.declared.RuleHead.{RuleHead}
use Rattle.map.specs.Record.{RuleBody, light, sign, marking, right_of_way, crossing, other, Rule, Map}
use Rattle.map.specs.Rows.{rule_with, with_rules}
use Rattle.map.specs.Tables.{rule_in, map_of}
use Rattle.map.specs.Updates.{RulePut}
use Rattle.edit.specs.Links.{first_entry, to_list, stop_lines_of, same_links}
use Rattle.placing.specs.Answers.{checked}
use Rattle.linking.specs.LightLinks.{light_checks}
use Rattle.refusal.specs.declared.Refusal.{Refusal}

-- rule i is there, and its lists are short
pub record LinkWords (ws : List ℕ) (i : ℕ) : Type 0 where
  pub sized : SizedWords ws
  pub here : i < count_of ws 5
  pub lanes : get_or (row_of ws 5 i) 7 0 ≤ 16
  pub controlled : get_or (row_of ws 5 i) 24 0 ≤ 16
  pub signals : get_or (row_of ws 5 i) 1 0 ≡ 1 → get_or (row_of ws 5 i) 41 0 ≤ 16
  pub lines : get_or (row_of ws 5 i) 1 0 ≡ 5 → get_or (row_of ws 5 i) 75 0 ≤ 16

-- ---- the checks, by how many lanes and crosswalks there are to be, and the lines

unfoldable pub rule_checks : Map → RuleBody → ℕ → ℕ → List ℕ → Answer (Unit {0})
rule_checks m (light signals line) l c lines = light_checks m signals l c (length lines)
rule_checks m (crossing k own) l c lines = refuse_when (not (eqb c 0)) 8 (6 ∷ [])
rule_checks m (marking line) l c lines = refuse_when (not (eqb c 0 && same_list lines (line ∷ []))) 8 (7 ∷ [])
rule_checks m (sign type shape line) l c lines = refused 8 (8 ∷ [])
rule_checks m (right_of_way priority yielding own) l c lines = refused 8 (8 ∷ [])
rule_checks m (other k) l c lines = refused 8 (8 ∷ [])

-- the rule with the lines; one that cannot get others stays
unfoldable pub linked_body : RuleBody → List ℕ → RuleBody
linked_body (light signals line) lines = light signals (first_entry lines)
linked_body (crossing k own) lines = crossing k lines
linked_body (marking line) lines = marking line
linked_body (sign type shape line) lines = sign type shape line
linked_body (right_of_way priority yielding own) lines = right_of_way priority yielding own
linked_body (other k) lines = other k

abbrev pub linked_rule : Rule → List ℕ → List ℕ → List ℕ → Rule
linked_rule r lanes crosswalks lines = rule_with r (linked_body r.body lines) lanes crosswalks

abbrev pub rule_at : List ℕ → List Float → ℕ → Rule
rule_at ws cs i = rule_in (row_of ws 5 i) (coords_of cs 5 i)

pub record RuleChecked (ws : List ℕ) (i l c : ℕ) (lines : List ℕ) (r : Result (Unit {0}) Refusal) : Type 0 where
  pub answer : (cs : List Float) → checked r ≡ rule_checks (map_of ws cs) (rule_at ws cs i).body l c lines

-- room for so many lanes, crosswalks and lines, by the rule's kind
unfoldable pub links_fit : ℕ → ℕ → ℕ → ℕ → Bool
links_fit kind l c s = leb l 16 && leb c 16 && cond (eqb kind 5) (leb s 16) true

-- ---- whether it changes

unfoldable pub same_head_line : RuleHead → List ℕ → Bool
same_head_line h lines = same_list (to_list (cond h.has_line (Some h.line) None)) (to_list (first_entry lines))

pub record SameLines (ws : List ℕ) (i : ℕ) (lines : List ℕ) (r : Bool) : Type 0 where
  pub answer : (cs : List Float) → r ≡ same_list (stop_lines_of (rule_at ws cs i).body) (stop_lines_of (linked_body (rule_at ws cs i).body lines))

pub record SameRead (ws : List ℕ) (i : ℕ) (lanes crosswalks lines : List ℕ) (r : Bool) : Type 0 where
  pub answer : (cs : List Float) → r ≡ same_links (rule_at ws cs i) (linked_rule (rule_at ws cs i) lanes crosswalks lines)

-- ---- the row

-- another row may be put over this one
pub record LinesPut (ws : List ℕ) (i : ℕ) (lines ws' : List ℕ) : Type 0 where
  pub then : (r ws'' : List ℕ) → RulePut ws' i r ws'' → RulePut ws i r ws''
  pub rule : (c : List Float) → rule_in (row_of ws' 5 i) c ≡ rule_with (rule_in (row_of ws 5 i) c) (linked_body (rule_in (row_of ws 5 i) c).body lines) (rule_in (row_of ws 5 i) c).lanes (rule_in (row_of ws 5 i) c).controlled
  pub sized : SizedWords ws'
  pub here : i < count_of ws' 5
  pub lanes : get_or (row_of ws' 5 i) 7 0 ≤ 16

pub record LinksPut (ws : List ℕ) (i : ℕ) (lanes crosswalks lines ws' : List ℕ) : Type 0 where
  pub map : (cs : List Float) → length cs ≡ all_coords → map_of ws' cs ≡ with_rules (map_of ws cs) (set (map_of ws cs).rules i (linked_rule (rule_at ws cs i) lanes crosswalks lines))
