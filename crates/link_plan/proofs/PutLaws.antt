-- The rule's row with its new links is the definition's rule.
use Prim.Native.Nat.{ℕ, zero, suc, ◌+◌, ◌≤◌, ◌<◌}
use mathlib.Core.Path.{◌≡◌, refl, sym, ap, ◌∙◌}
use mathlib.Core.Bool.{not, cond}
use Rattle.std.specs.Prelude.{Option, None, Some}
use mathlib.Core.List.{List, [], ◌∷◌}
use native.Mathlib.Omega.{arith}
use lib.Dec.{eqb}
use lib.Ieee.{Float, nan}
use lib.ListN.{length, get_or, set, replicate, length-replicate}
use Rattle.rows.proofs.Indexed.{length-list_to}
use Rattle.store.specs.Layout.{SizedWords, count_of, row_of, coords_of, all_coords}
use Rattle.map.specs.declared.RuleHead.{RuleHead}
use Rattle.map.specs.Record.{RuleBody, light, crossing, Rule}
use Rattle.map.specs.Rows.{rule_with, with_rules}
use Rattle.map.specs.Tables.{list_at, body_of, rule_in, map_of}
use Rattle.map.specs.Access.{HeadRead}
use Rattle.map.specs.Updates.{with_list, with_rule_line, RulePut}
use Rattle.map.proofs.UpdateLaws.{row_long, put_then, with_lanes_lem, with_controlled, with_lines_lem, with_line_lem}
use Rattle.edit.specs.Links.{first_entry}
use Rattle.link_plan.specs.LinkPlan.{LinkWords, linked_body, linked_rule, LinesPut, LinksPut}

put_sized : (ws : List ℕ) (i : ℕ) (r ws' : List ℕ) → RulePut ws i r ws' → SizedWords ws'
put_sized ws i r ws' p = (p.kept (replicate all_coords nan) (length-replicate all_coords nan)).sized.words

-- ---- the lines

same_lanes : (r s : List ℕ) → list_at r 7 ≡ list_at s 7 → get_or r 7 0 ≡ get_or s 7 0
unfolding list_at
same_lanes r s e = sym (length-list_to (λ i. get_or r (7 + 1 + i) 0) (get_or r 7 0)) ∙ ap length e ∙ length-list_to (λ i. get_or s (7 + 1 + i) 0) (get_or s 7 0)

rule_lanes : (r : List ℕ) (c : List Float) → (rule_in r c).lanes ≡ list_at r 7
unfolding rule_in
rule_lanes r c = refl

module _ (ws : List ℕ) (i : ℕ) (ok : LinkWords ws i) (lines : List ℕ) where
  abbrev lined : List Float → Rule
  lined c = rule_with (rule_in (row_of ws 5 i) c) (linked_body (rule_in (row_of ws 5 i) c).body lines) (rule_in (row_of ws 5 i) c).lanes (rule_in (row_of ws 5 i) c).controlled

  long : length (row_of ws 5 i) ≡ 92
  long = row_long ws ok.sized i ok.here

  lines_put : (r ws' : List ℕ) → RulePut ws i r ws' → ((c : List Float) → rule_in r c ≡ lined c) → LinesPut ws i lines ws'
  lines_put r ws' p e =
      let n : get_or r 7 0 ≡ get_or (row_of ws 5 i) 7 0 = same_lanes r (row_of ws 5 i) (sym (rule_lanes r []) ∙ ap (λ (x : Rule). x.lanes) (e []) ∙ rule_lanes (row_of ws 5 i) []) in
      record {
        then = λ s ws'' q. put_then ws i r ws' s ws'' p q;
        rule = λ c. ap (λ (x : List ℕ). rule_in x c) p.row ∙ e c;
        sized = put_sized ws i r ws' p;
        here = omega (arith, ok.here, p.count);
        lanes = rw p.row (omega (arith, n, ok.lanes));
      }

  module _ (h : RuleHead) (read : HeadRead (row_of ws 5 i) h) where
    module _ (k : h.kind ≡ 1) where
      light_kind : get_or (row_of ws 5 i) 1 0 ≡ 1
      light_kind = sym read.kind ∙ k

      light_body : (c : List Float) (o : Option ℕ) → o ≡ first_entry lines
          → rule_with (rule_in (row_of ws 5 i) c) (light (list_at (row_of ws 5 i) 41) o) (rule_in (row_of ws 5 i) c).lanes (rule_in (row_of ws 5 i) c).controlled ≡ lined c
      unfolding rule_in linked_body
      light_body c o e = rw (light_kind, e)

      light_lined : (flag line : ℕ) → cond (not (eqb flag 0)) (Some line) None ≡ first_entry lines → (c : List Float) → rule_in (with_rule_line (row_of ws 5 i) flag line) c ≡ lined c
      light_lined flag line e c = with_line_lem (row_of ws 5 i) long c flag line light_kind ∙ light_body c _ e

      first_is : (xs : List ℕ) → (length xs ≡ 0 → ⊥) → Some (get_or xs 0 0) ≡ first_entry xs
      unfolding first_entry
      first_is [] n = absurd (n refl)
      first_is (x ∷ xs) n = refl

      none_is : (xs : List ℕ) → length xs ≡ 0 → None ≡ first_entry xs
      unfolding first_entry
      none_is [] e = refl
      none_is (x ∷ xs) e = absurd (let z : ⊥ = omega arith in z)

      pub light_none : length lines ≡ 0 → (ws' : List ℕ) → RulePut ws i (with_rule_line (row_of ws 5 i) 0 0) ws' → LinesPut ws i lines ws'
      light_none z ws' p = lines_put _ ws' p (light_lined 0 0 (none_is lines z))

      pub light_first : (length lines ≡ 0 → ⊥) → (ws' : List ℕ) → RulePut ws i (with_rule_line (row_of ws 5 i) 1 (get_or lines 0 0)) ws' → LinesPut ws i lines ws'
      light_first n ws' p = lines_put _ ws' p (light_lined 1 (get_or lines 0 0) (first_is lines n))

    module _ (k : h.kind ≡ 5) (few : get_or (row_of ws 5 i) 1 0 ≡ 5 → length lines ≤ 16) where
      crossing_kind : get_or (row_of ws 5 i) 1 0 ≡ 5
      crossing_kind = sym read.kind ∙ k

      pub lines_ready : SizedWords ws × (i < count_of ws 5) × (75 + 1 + length lines ≤ 92)
      lines_ready = (ok.sized, ok.here, omega (arith, few crossing_kind))

      crossing_body : (c : List Float) → rule_with (rule_in (row_of ws 5 i) c) (crossing (get_or (row_of ws 5 i) 2 0) lines) (rule_in (row_of ws 5 i) c).lanes (rule_in (row_of ws 5 i) c).controlled ≡ lined c
      unfolding rule_in linked_body
      crossing_body c = rw crossing_kind

      crossing_lined : (c : List Float) → rule_in (with_list (row_of ws 5 i) 75 lines) c ≡ lined c
      crossing_lined c = with_lines_lem (row_of ws 5 i) long c lines (few crossing_kind) crossing_kind ok.lanes ok.controlled ∙ crossing_body c

      pub crossing_put : (ws' : List ℕ) → RulePut ws i (with_list (row_of ws 5 i) 75 lines) ws' → LinesPut ws i lines ws'
      crossing_put ws' p = lines_put _ ws' p crossing_lined

    by_kind : (k : ℕ) (row : List ℕ) (d : List Float) → (k ≡ 1 → ⊥) → (k ≡ 5 → ⊥) → body_of k row d ≡ linked_body (body_of k row d) lines
    unfolding linked_body
    by_kind zero row d a b = refl
    by_kind (suc zero) row d a b = absurd (a refl)
    by_kind (suc (suc zero)) row d a b = refl
    by_kind (suc (suc (suc zero))) row d a b = refl
    by_kind (suc (suc (suc (suc zero)))) row d a b = refl
    by_kind (suc (suc (suc (suc (suc zero))))) row d a b = absurd (b refl)
    by_kind (suc (suc (suc (suc (suc (suc zero)))))) row d a b = refl
    by_kind (suc (suc (suc (suc (suc (suc (suc k))))))) row d a b = refl

    stays : (c : List Float) → (h.kind ≡ 1 → ⊥) → (h.kind ≡ 5 → ⊥) → rule_in (row_of ws 5 i) c ≡ lined c
    unfolding rule_in
    stays c a b =
        ap (λ (w : RuleBody). rule_with (rule_in (row_of ws 5 i) c) w (rule_in (row_of ws 5 i) c).lanes (rule_in (row_of ws 5 i) c).controlled)
        (by_kind (get_or (row_of ws 5 i) 1 0) (row_of ws 5 i) c (λ q. a (read.kind ∙ q)) (λ q. b (read.kind ∙ q)))

    pub others_stay : (h.kind ≡ 1 → ⊥) → (h.kind ≡ 5 → ⊥) → LinesPut ws i lines ws
    others_stay a b = record {
      then = λ r ws'' q. q;
      rule = λ c. stays c a b;
      sized = ok.sized;
      here = ok.here;
      lanes = ok.lanes;
    }

-- ---- and the lists

module _ (ws : List ℕ) (i : ℕ) (lines ws₁ : List ℕ) (a : LinesPut ws i lines ws₁) (crosswalks : List ℕ) (few : length crosswalks ≤ 16) (ws₂ : List ℕ)
    (b : RulePut ws₁ i (with_list (row_of ws₁ 5 i) 24 crosswalks) ws₂) (lanes : List ℕ) (short : length lanes ≤ 16) where
  pub lanes_ready : SizedWords ws₂ × (i < count_of ws₂ 5) × (7 + 1 + length lanes ≤ 92)
  lanes_ready = (put_sized ws₁ i _ ws₂ b, omega (arith, a.here, b.count), omega arith)

  rule_is : (c : List Float) → rule_in (with_list (row_of ws₂ 5 i) 7 lanes) c ≡ linked_rule (rule_in (row_of ws 5 i) c) lanes crosswalks lines
  rule_is c =
      with_lanes_lem (row_of ws₂ 5 i) (row_long ws₂ lanes_ready.0 i lanes_ready.1) lanes short c
      ∙ ap (λ (r : Rule). rule_with r r.body lanes r.controlled)
      (ap (λ (r : List ℕ). rule_in r c) b.row ∙ with_controlled (row_of ws₁ 5 i) (row_long ws₁ a.sized i a.here) crosswalks few c a.lanes)
      ∙ ap (λ (r : Rule). rule_with r r.body lanes crosswalks) (a.rule c)

  pub links_put : (ws₃ : List ℕ) → RulePut ws₂ i (with_list (row_of ws₂ 5 i) 7 lanes) ws₃ → LinksPut ws i lanes crosswalks lines ws₃
  links_put ws₃ d =
      let p = a.then _ ws₃ (put_then ws₁ i _ ws₂ _ ws₃ b d) in
      record { map = λ cs l. p.map cs l ∙ ap (λ (r : Rule). with_rules (map_of ws cs) (set (map_of ws cs).rules i r)) (rule_is (coords_of cs 5 i)) }
