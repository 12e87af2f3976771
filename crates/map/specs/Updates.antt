-- What the row edits leave. They cannot refuse: room and number are asked for before.
use Rattle.std.specs.Prelude.{ℕ, zero, suc, ◌+◌, ◌-◌, ◌*◌, ◌≡◌, not, cond, List, [], ◌∷◌, eqb, Float, length, get_or, set, Some, None}
use Rattle.std.specs.Float.{nan}
use Rattle.geometry.specs.Polyline.{polyline_of}
use Rattle.rows.specs.Lists.{list_to}
use Rattle.rows.specs.Rows.{pasted, without}
use Rattle.store.specs.Layout.{count_of, row_of, coords_of, all_coords, Kept}
use Rattle.map.specs.declared.NewRule.{NewRule}
use Rattle.map.specs.declared.NewRule.TheVariants.{Light, Sign, Marking}
use Rattle.map.specs.Record.{Signal, RuleBody, light, sign, marking, other}
use Rattle.map.specs.Rows.{with_line, with_signal, with_rule, with_rules}
use Rattle.map.specs.Tables.{option_at, point_from, rule_in, map_of}

-- ---- a record more

pub record LinePushed (ws : List ℕ) (cs pts : List Float) (ws' : List ℕ) (cs' : List Float) : Type 0 where
  pub map : map_of ws' cs' ≡ with_line (map_of ws cs) (polyline_of pts)
  pub kept : Kept ws cs 2 ws' cs'

-- a signal of a row of words, the points of its housing, and its height and its bulbs' positions
unfoldable pub signal_of_parts : List ℕ → List Float → List Float → Signal
signal_of_parts r pts more =
    record {
      num = get_or r 0 0;
      kind = get_or r 1 0;
      geometry = polyline_of pts;
      height = option_at r 3 (get_or more 0 nan);
      bulbs = list_to (λ i. record { position = point_from more (1 + i * 3); color = get_or r (5 + i * 2) 0; arrow = get_or r (6 + i * 2) 0 }) (get_or r 4 0);
    }

pub record SignalPushed (ws : List ℕ) (cs : List Float) (row : List ℕ) (pts more : List Float) (ws' : List ℕ) (cs' : List Float) : Type 0 where
  pub map : map_of ws' cs' ≡ with_signal (map_of ws cs) (signal_of_parts row pts more)
  pub kept : Kept ws cs 3 ws' cs'

-- the bodies of new rules, by kind: a light, a sign that is not drawn, a marking
abbrev pub new_body : ℕ → ℕ → ℕ → ℕ → List ℕ → RuleBody
new_body zero value flag line signals = other 0
new_body (suc zero) value flag line signals = light signals (cond (not (eqb flag 0)) (Some line) None)
new_body (suc (suc zero)) value flag line signals = sign value None (cond (not (eqb flag 0)) (Some line) None)
new_body (suc (suc (suc zero))) value flag line signals = marking line
new_body (suc (suc (suc (suc k)))) value flag line signals = other 0

-- the words of a new rule's row that tell its kind: the kind, a sign's type, whether there is a line, and the line
abbrev pub rule_words : NewRule → List ℕ
rule_words (Light None) = 1 ∷ 0 ∷ 0 ∷ 0 ∷ []
rule_words (Light (Some line)) = 1 ∷ 0 ∷ 1 ∷ line ∷ []
rule_words (Sign value None) = 2 ∷ value ∷ 0 ∷ 0 ∷ []
rule_words (Sign value (Some line)) = 2 ∷ value ∷ 1 ∷ line ∷ []
rule_words (Marking line) = 3 ∷ 0 ∷ 1 ∷ line ∷ []

-- the body that these words stand for
abbrev pub body_of_new : NewRule → List ℕ → RuleBody
body_of_new (Light None) signals = new_body 1 0 0 0 signals
body_of_new (Light (Some line)) signals = new_body 1 0 1 line signals
body_of_new (Sign value None) signals = new_body 2 value 0 0 signals
body_of_new (Sign value (Some line)) signals = new_body 2 value 1 line signals
body_of_new (Marking line) signals = new_body 3 0 1 line signals

pub record RulePushed (ws : List ℕ) (w : RuleBody) (lanes ws' : List ℕ) : Type 0 where
  pub map : (cs : List Float) → length cs ≡ all_coords → map_of ws' cs ≡ with_rule (map_of ws cs) w lanes
  pub kept : (cs : List Float) → length cs ≡ all_coords → Kept ws cs 5 ws' cs

-- ---- a rule changed

-- a rule's row with the list xs at word o, or with another line
unfoldable pub with_list : List ℕ → ℕ → List ℕ → List ℕ
with_list r o xs = pasted r o (length xs ∷ xs) (suc (length xs))

unfoldable pub with_rule_line : List ℕ → ℕ → ℕ → List ℕ
with_rule_line r flag line = pasted r 3 (flag ∷ line ∷ []) 2

pub record RulePut (ws : List ℕ) (i : ℕ) (r ws' : List ℕ) : Type 0 where
  pub map : (cs : List Float) → length cs ≡ all_coords → map_of ws' cs ≡ with_rules (map_of ws cs) (set (map_of ws cs).rules i (rule_in r (coords_of cs 5 i)))
  pub row : row_of ws' 5 i ≡ r
  pub count : count_of ws' 5 ≡ count_of ws 5
  pub kept : (cs : List Float) → length cs ≡ all_coords → Kept ws cs 5 ws' cs

-- ---- a rule less

pub record RuleDropped (ws : List ℕ) (cs : List Float) (j : ℕ) (ws' : List ℕ) (cs' : List Float) : Type 0 where
  pub map : map_of ws' cs' ≡ with_rules (map_of ws cs) (without j (map_of ws cs).rules)
  pub count : count_of ws' 5 ≡ count_of ws 5 - 1
  pub kept : Kept ws cs 5 ws' cs'
