-- The rule of `set_regulatory_links`: each refusal, what has passed, room, and whether the links are its own.
use Prim.Native.Nat.{ℕ, zero, suc, ◌<◌}
use mathlib.Core.Path.{◌≡◌, refl, sym, ap, ◌∙◌}
use mathlib.Core.Bool.{Bool, true, false, not, ◌&&◌, cond}
use Rattle.std.specs.Prelude.{None, Some, Err, Ok, Result}
use mathlib.Core.List.{List, [], ◌∷◌}
use native.Mathlib.Omega.{arith}
use lib.Dec.{eqb}
use lib.Ieee.{Float}
use lib.ListN.{length, get_or}
use lib.Pointwise.{pointwise}
use borrow.Author.Tests.{eq-eqb, ne_eqb}
use Rattle.refusal.specs.Answer.{refused}
use Rattle.refusal.specs.declared.Refusal.TheVariants.{WrongLink}
use Rattle.refusal.specs.declared.LinkFault.TheVariants as link_fault
use Rattle.rows.specs.Lists.{same_list}
use Rattle.rows.proofs.SameLists.{list_same}
use Rattle.store.specs.Layout.{count_of, row_of, coords_of}
use Rattle.map.specs.declared.RuleHead.{RuleHead}
use Rattle.map.specs.Record.{Map}
use Rattle.map.specs.Tables.{list_at, body_of, rule_in, map_of}
use Rattle.map.specs.Access.{HeadRead}
use Rattle.map.proofs.SoundLaws.{Sound, lanes_few, controlled_few, signals_few, lines_few}
use Rattle.map.proofs.UpdateLaws.{rule_limit}
use Rattle.edit.specs.Links.{first_entry, to_list, stop_lines_of, same_links}
use Rattle.linking.specs.LightLinks.{LightChecked}
use Rattle.link_plan.specs.LinkPlan.{LinkWords, rule_checks, linked_body, RuleChecked, same_head_line, SameLines, SameRead}
use Rattle.refusal.specs.declared.Refusal.{Refusal}

pub link_words : (ws : List ℕ) (cs : List Float) → Sound ws cs → (i : ℕ) → i < count_of ws 5 → LinkWords ws i
link_words ws cs ok i here = record {
  sized = ok.sized.words;
  here = here;
  lanes = lanes_few ws cs ok i here;
  controlled = controlled_few ws cs ok i here;
  signals = signals_few ws cs ok i here;
  lines = lines_few ws cs ok i here;
}

pub below : (ws : List ℕ) (i : ℕ) → LinkWords ws i → i < 128
below ws i ok = omega (arith, ok.here, ok.sized.counts 5 (omega arith), rule_limit)

-- ---- the one line of a marking

and_yes : (b : Bool) → b ≡ (b && true)
and_yes true = refl
and_yes false = refl

and_not : (b : Bool) → false ≡ (b && false)
and_not true = refl
and_not false = refl

pub one_line : (lines : List ℕ) (x : ℕ) → length lines ≡ 1 → eqb (get_or lines 0 0) x ≡ same_list lines (x ∷ [])
unfolding same_list
one_line [] x h = absurd (let z : ⊥ = omega arith in z)
one_line (y ∷ []) x h = and_yes (eqb y x)
one_line (y ∷ z ∷ ys) x h = absurd (let q : ⊥ = omega arith in q)

pub more_lines : (lines : List ℕ) (x : ℕ) → (length lines ≡ 1 → ⊥) → false ≡ same_list lines (x ∷ [])
unfolding same_list
more_lines [] x h = refl
more_lines (y ∷ []) x h = absurd (h refl)
more_lines (y ∷ z ∷ ys) x h = and_not (eqb y x)

-- ---- the checks, by the rule's kind

module _ (ws : List ℕ) (i l c : ℕ) (lines : List ℕ) (h : RuleHead) (read : HeadRead (row_of ws 5 i) h) where
  kind_is : (k : ℕ) → h.kind ≡ k → get_or (row_of ws 5 i) 1 0 ≡ k
  kind_is k e = sym read.kind ∙ e

  pub light_checked : h.kind ≡ 1 → (signals : List ℕ) → signals ≡ list_at (row_of ws 5 i) 41 → (r : Result (Unit {0}) Refusal) → LightChecked ws signals l c (length lines) r → RuleChecked ws i l c lines r
  unfolding rule_in rule_checks
  light_checked k signals e r f = record { answer = λ cs. rw (kind_is 1 k, ← e) (f.answer cs) }

  module _ (k : h.kind ≡ 5) where
    pub crossing_linked : (c ≡ 0 → ⊥) → RuleChecked ws i l c lines (Err (WrongLink link_fault.CrossingWithCrosswalks))
    unfolding rule_in rule_checks
    crossing_linked n = record { answer = λ cs. rw (kind_is 5 k, ne_eqb c 0 n) }

    pub crossing_fine : c ≡ 0 → RuleChecked ws i l c lines (Ok tt)
    unfolding rule_in rule_checks
    crossing_fine z = record { answer = λ cs. rw (kind_is 5 k, eq-eqb c 0 z) }

  module _ (k : h.kind ≡ 3) where
    pub marking_linked : (c ≡ 0 → ⊥) → RuleChecked ws i l c lines (Err (WrongLink link_fault.MarkingWithOthers))
    unfolding rule_in rule_checks
    marking_linked n = record { answer = λ cs. rw (kind_is 3 k, ne_eqb c 0 n) }

    module _ (z : c ≡ 0) (b : Bool) (e : b ≡ same_list lines (h.line ∷ [])) where
      its_line : same_list lines (get_or (row_of ws 5 i) 4 0 ∷ []) ≡ b
      its_line = ap (λ (x : ℕ). same_list lines (x ∷ [])) (sym read.line) ∙ sym e

      pub marking_moved : b ≡ false → RuleChecked ws i l c lines (Err (WrongLink link_fault.MarkingWithOthers))
      unfolding rule_in rule_checks
      marking_moved t = record { answer = λ cs. rw (kind_is 3 k, eq-eqb c 0 z, its_line, t) }

      pub marking_fine : b ≡ true → RuleChecked ws i l c lines (Ok tt)
      unfolding rule_in rule_checks
      marking_fine t = record { answer = λ cs. rw (kind_is 3 k, eq-eqb c 0 z, its_line, t) }

  by_kind : (m : Map) (k : ℕ) (r : List ℕ) (d : List Float) → (k ≡ 1 → ⊥) → (k ≡ 5 → ⊥) → (k ≡ 3 → ⊥) → refused 8 (8 ∷ []) ≡ rule_checks m (body_of k r d) l c lines
  unfolding rule_checks
  by_kind m zero r d a b e = refl
  by_kind m (suc zero) r d a b e = absurd (a refl)
  by_kind m (suc (suc zero)) r d a b e = refl
  by_kind m (suc (suc (suc zero))) r d a b e = absurd (e refl)
  by_kind m (suc (suc (suc (suc zero)))) r d a b e = refl
  by_kind m (suc (suc (suc (suc (suc zero))))) r d a b e = absurd (b refl)
  by_kind m (suc (suc (suc (suc (suc (suc zero)))))) r d a b e = refl
  by_kind m (suc (suc (suc (suc (suc (suc (suc k))))))) r d a b e = refl

  pub others_refused : (h.kind ≡ 1 → ⊥) → (h.kind ≡ 5 → ⊥) → (h.kind ≡ 3 → ⊥) → RuleChecked ws i l c lines (Err (WrongLink link_fault.OtherRule))
  unfolding rule_in
  others_refused a b e = record {
    answer = λ cs. by_kind (map_of ws cs) (get_or (row_of ws 5 i) 1 0) (row_of ws 5 i) (coords_of cs 5 i) (λ q. a (read.kind ∙ q)) (λ q. b (read.kind ∙ q)) (λ q. e (read.kind ∙ q));
  }

-- ---- lists compared

pub lists_same : (a b : List ℕ) → pointwise eqb a b ≡ same_list a b
unfolding same_list
lists_same [] [] = refl
lists_same [] (y ∷ b) = refl
lists_same (x ∷ a) [] = refl
lists_same (x ∷ a) (y ∷ b) = rw (lists_same a b)

-- ---- a light's line

module _ (h : RuleHead) where
  pub no_line : (lines : List ℕ) → length lines ≡ 0 → not h.has_line ≡ same_head_line h lines
  unfolding same_head_line same_list to_list first_entry
  no_line [] e = go h.has_line
    where
      go : (b : Bool) → not b ≡ same_list (to_list (cond b (Some h.line) None)) []
      go true = refl
      go false = refl
  no_line (x ∷ xs) e = absurd (let z : ⊥ = omega arith in z)

  pub its_line_same : (lines : List ℕ) → (length lines ≡ 0 → ⊥) → h.has_line ≡ true → eqb h.line (get_or lines 0 0) ≡ same_head_line h lines
  unfolding same_head_line same_list to_list first_entry
  its_line_same [] n t = absurd (n refl)
  its_line_same (x ∷ xs) n t = rw t (and_yes (eqb h.line x))

  pub line_new : (lines : List ℕ) → (length lines ≡ 0 → ⊥) → h.has_line ≡ false → false ≡ same_head_line h lines
  unfolding same_head_line same_list to_list first_entry
  line_new [] n t = absurd (n refl)
  line_new (x ∷ xs) n t = rw t

-- ---- the links

module _ (ws : List ℕ) (i : ℕ) (lines : List ℕ) (h : RuleHead) (read : HeadRead (row_of ws 5 i) h) (r : Bool) where
  pub light_same : h.kind ≡ 1 → r ≡ same_head_line h lines → SameLines ws i lines r
  unfolding rule_in stop_lines_of linked_body same_head_line
  light_same k e = record { answer = λ cs. rw (sym read.kind ∙ k, ← read.has_line, ← read.line) e }

  pub crossing_same : h.kind ≡ 5 → (own : List ℕ) → own ≡ list_at (row_of ws 5 i) 75 → r ≡ same_list own lines → SameLines ws i lines r
  unfolding rule_in stop_lines_of linked_body
  crossing_same k own q e = record { answer = λ cs. rw (sym read.kind ∙ k, ← q) e }

  by_kind_same : (k : ℕ) (row : List ℕ) (d : List Float) → (k ≡ 1 → ⊥) → (k ≡ 5 → ⊥) → true ≡ same_list (stop_lines_of (body_of k row d)) (stop_lines_of (linked_body (body_of k row d) lines))
  unfolding linked_body
  by_kind_same zero row d a b = sym (list_same _)
  by_kind_same (suc zero) row d a b = absurd (a refl)
  by_kind_same (suc (suc zero)) row d a b = sym (list_same _)
  by_kind_same (suc (suc (suc zero))) row d a b = sym (list_same _)
  by_kind_same (suc (suc (suc (suc zero)))) row d a b = sym (list_same _)
  by_kind_same (suc (suc (suc (suc (suc zero))))) row d a b = absurd (b refl)
  by_kind_same (suc (suc (suc (suc (suc (suc zero)))))) row d a b = sym (list_same _)
  by_kind_same (suc (suc (suc (suc (suc (suc (suc k))))))) row d a b = sym (list_same _)

  pub others_same : (h.kind ≡ 1 → ⊥) → (h.kind ≡ 5 → ⊥) → SameLines ws i lines true
  unfolding rule_in
  others_same a b = record { answer = λ cs. by_kind_same (get_or (row_of ws 5 i) 1 0) (row_of ws 5 i) (coords_of cs 5 i) (λ q. a (read.kind ∙ q)) (λ q. b (read.kind ∙ q)) }

module _ (ws : List ℕ) (i : ℕ) (lanes crosswalks lines own : List ℕ) (eo : own ≡ list_at (row_of ws 5 i) 7) (b : Bool) (eb : b ≡ same_list own lanes) where
  lanes_are : same_list (list_at (row_of ws 5 i) 7) lanes ≡ b
  lanes_are = ap (λ (x : List ℕ). same_list x lanes) (sym eo) ∙ sym eb

  pub lanes_differ : b ≡ false → SameRead ws i lanes crosswalks lines false
  unfolding rule_in same_links
  lanes_differ t = record { answer = λ cs. rw (lanes_are, t) }

  module _ (t : b ≡ true) (held : List ℕ) (eh : held ≡ list_at (row_of ws 5 i) 24) (d : Bool) (ed : d ≡ same_list held crosswalks) where
    crosswalks_are : same_list (list_at (row_of ws 5 i) 24) crosswalks ≡ d
    crosswalks_are = ap (λ (x : List ℕ). same_list x crosswalks) (sym eh) ∙ sym ed

    pub crosswalks_differ : d ≡ false → SameRead ws i lanes crosswalks lines false
    unfolding rule_in same_links
    crosswalks_differ u = record { answer = λ cs. rw (lanes_are, t, crosswalks_are, u) }

    pub links_same : d ≡ true → (r : Bool) → SameLines ws i lines r → SameRead ws i lanes crosswalks lines r
    unfolding rule_in same_links
    links_same u r s = record { answer = λ cs. rw (lanes_are, t, crosswalks_are, u) (s.answer cs) }
