-- What the readers of the rules' lines answer, whatever the coordinates.
use Rattle.std.specs.Prelude.{ℕ, ◌≡◌, cond, List, eqb, Float, Option, None, Some}
use Rattle.rows.specs.Lists.{member}
use Rattle.store.specs.Layout.{row_of}
use Rattle.map.specs.declared.RuleHead.{RuleHead}
use Rattle.map.specs.Record.{Rule}
use Rattle.map.specs.Tables.{rule_in, map_of}
use Rattle.edit.specs.Light.{stops_at, existing_stop_line}

-- by the kind: 1 light, 2 sign, 3 marking
unfoldable pub head_line : RuleHead → Option ℕ
head_line h =
    let given = cond h.has_line (Some h.line) None in
    cond (eqb h.kind 3) (Some h.line) (cond (eqb h.kind 1) given (cond (eqb h.kind 2) given None))

unfoldable pub line_of : ℕ → Rule → Option ℕ
line_of n r = cond (member n r.lanes) (stops_at r.body) None

pub record LineOn (ws : List ℕ) (i n : ℕ) (r : Option ℕ) : Type 0 where
  pub answer : (c : List Float) → r ≡ line_of n (rule_in (row_of ws 5 i) c)

pub record LineFound (ws : List ℕ) (n : ℕ) (r : Option ℕ) : Type 0 where
  pub answer : (cs : List Float) → r ≡ existing_stop_line (map_of ws cs) n
