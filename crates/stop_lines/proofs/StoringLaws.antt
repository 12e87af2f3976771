-- The line and its rule stored. Assumes nothing.
use Prim.Native.Nat.{ℕ, suc, ◌-◌, ◌^◌, ◌≤◌, ◌<◌, max}
use mathlib.Core.Path.{◌≡◌, refl, sym, ap, ◌∙◌}
use mathlib.Core.Bool.{true, ◌&&◌}
use mathlib.Core.List.{List, []}
use native.Mathlib.Omega.{arith}
use lib.Dec.{ltb, leb}
use lib.Ieee.{Float}
use borrow.Author.Tests.{ltb-true, leb-true}
use Rattle.rows.proofs.Bools.{parts}
use Rattle.store.specs.Layout.{SizedWords, count_of, next_of}
use Rattle.geometry.specs.Polyline.{polyline_of}
use Rattle.map.specs.Record.{Map}
use Rattle.map.specs.Rows.{with_line}
use Rattle.map.specs.Tables.{map_of}
use Rattle.map.specs.Updates.{new_body, LinePushed, RulePushed}
use Rattle.edit.specs.declared.StopRule.{StopRule}
use Rattle.edit.specs.declared.StopRule.TheVariants.{StopSign, Marking, NoRule}
use Rattle.edit.specs.StopLine.{rule_at}
use Rattle.stop_lines.specs.Stop.{list_room, rule_room, next_after, ruled, RuleAdded}

-- ---- the rule

pub record Asks (rules lanes next : ℕ) : Type 0 where
  pub free : rules < 128
  pub short : lanes ≤ 16
  pub left : next < 2 ^ 64 - 1

module _ (rule : StopRule) (rules lanes next : ℕ) (room : rule_room rule lanes rules ≡ true) (few : next_after rule next ≤ 2 ^ 64) where
  asks_of : (ltb rules 128 && leb lanes 16) ≡ true → suc (suc next) ≤ 2 ^ 64 → Asks rules lanes next
  asks_of h k = record { free = ltb-true rules 128 (search parts); short = leb-true lanes 16 (search parts); left = omega arith }

  pub sign_asks : rule ≡ StopSign → Asks rules lanes next
  unfolding rule_room list_room next_after
  sign_asks e = asks_of (rw e at room) (rw e at few)

  pub marking_asks : rule ≡ Marking → Asks rules lanes next
  unfolding rule_room list_room next_after
  marking_asks e = asks_of (rw e at room) (rw e at few)

module _ (ws : List ℕ) (rule : StopRule) (n : ℕ) (lanes ws' : List ℕ) where
  pub sign_added : rule ≡ StopSign → RulePushed ws (new_body 2 1 1 n []) lanes ws' → RuleAdded ws rule n lanes ws'
  unfolding rule_at
  sign_added e h = record { map = λ cs k. h.map cs k ∙ rw e }

  pub marking_added : rule ≡ Marking → RulePushed ws (new_body 3 0 1 n []) lanes ws' → RuleAdded ws rule n lanes ws'
  unfolding rule_at
  marking_added e h = record { map = λ cs k. h.map cs k ∙ rw e }

pub none_added : (ws : List ℕ) (rule : StopRule) (n : ℕ) (lanes : List ℕ) → rule ≡ NoRule → RuleAdded ws rule n lanes ws
unfolding rule_at
none_added ws rule n lanes e = record { map = λ cs k. rw e }

-- ---- the line before it

next_of_lem : (ws : List ℕ) (cs : List Float) → (map_of ws cs).next ≡ next_of ws
unfolding map_of
next_of_lem ws cs = refl

one_left : (rule : StopRule) (n : ℕ) → next_after rule n < 2 ^ 64 → suc n < 2 ^ 64
unfolding next_after
one_left StopSign n h = omega arith
one_left Marking n h = omega arith
one_left NoRule n h = h

pub line_left : (rule : StopRule) (n : ℕ) → next_after rule (max 1 n) < 2 ^ 64 → n < 2 ^ 64 - 1
line_left rule n h = let u = one_left rule (max 1 n) h in omega arith

after_more : (rule : StopRule) (n : ℕ) → next_after rule n < 2 ^ 64 → next_after rule (suc n) ≤ 2 ^ 64
unfolding next_after
after_more StopSign n h = omega arith
after_more Marking n h = omega arith
after_more NoRule n h = omega arith

module _ (ws : List ℕ) (cs pts : List Float) (ws' : List ℕ) (cs' : List Float) (h : LinePushed ws cs pts ws' cs') (rule : StopRule) where
  pub line_sized : SizedWords ws'
  line_sized = h.kept.sized.words

  pub rules_kept : (lanes : ℕ) → rule_room rule lanes (count_of ws 5) ≡ true → rule_room rule lanes (count_of ws' 5) ≡ true
  rules_kept lanes r = rw (h.kept.others 5 (omega arith) (λ e. omega arith)).count r

  pub next_moved : next_after rule (max 1 (next_of ws)) < 2 ^ 64 → next_after rule (next_of ws') ≤ 2 ^ 64
  next_moved k =
      let e : next_of ws' ≡ suc (max 1 (next_of ws)) = sym (next_of_lem ws' cs') ∙ ap (λ (m : Map). m.next) h.map ∙ ap (λ (n : ℕ). suc (max 1 n)) (next_of_lem ws cs) in
      rw e (after_more rule (max 1 (next_of ws)) k)

  pub both_stored : (n : ℕ) (lanes ws'' : List ℕ) → RuleAdded ws' rule n lanes ws'' → map_of ws'' cs' ≡ ruled (rule_at rule n) (with_line (map_of ws cs) (polyline_of pts)) lanes
  both_stored n lanes ws'' g = g.map cs' h.kept.sized.coords ∙ ap (λ (m : Map). ruled (rule_at rule n) m lanes) h.map
