-- The lines that rules name: by a rule's kind, and the first that is found.
use Prim.Native.Nat.{ℕ, zero, suc, ◌+◌, ◌-◌, ◌≤◌, ◌<◌}
use mathlib.Core.Path.{◌≡◌, refl, sym, ap, ◌∙◌}
use mathlib.Core.Bool.{Bool, true, false, cond}
use Rattle.std.specs.Prelude.{Option, None, Some}
use mathlib.Core.List.{List}
use native.Mathlib.Omega.{arith}
use lib.Dec.{eqb}
use lib.Ieee.{Float}
use lib.ListN.{get_or, drop}
use borrow.Author.Tests.{eq-eqb, ne_eqb}
use Rattle.rows.specs.Lists.{first_of, member}
use Rattle.rows.proofs.Indexed.{tab, list_to_tab, tab_step, tab_none}
use Rattle.store.specs.Layout.{SizedWords, limit_of, count_of, row_of, coords_of, records_of}
use Rattle.map.specs.declared.RuleHead.{RuleHead}
use Rattle.map.specs.Tables.{flag_at, list_at, body_of, rule_in, map_of}
use Rattle.map.specs.Access.{HeadRead}
use Rattle.place.specs.Readable.{ReadableWords}
use Rattle.edit.specs.Light.{stops_at, existing_stop_line}
use Rattle.lighting.specs.RuleLines.{head_line, line_of, LineOn, LineFound}

-- ---- by kind

module _ (b : Bool) (l : ℕ) (o : Option ℕ) (e : cond b (Some l) None ≡ o) where
  pub with_line_lem : b ≡ true → Some l ≡ o
  with_line_lem t = rw t at e

  pub without_line : b ≡ false → None ≡ o
  without_line t = rw t at e

module _ (h : RuleHead) where
  pub head_marking : h.kind ≡ 3 → Some h.line ≡ head_line h
  unfolding head_line
  head_marking e = rw (eq-eqb h.kind 3 e)

  module _ (n3 : h.kind ≡ 3 → ⊥) where
    pub head_light : h.kind ≡ 1 → cond h.has_line (Some h.line) None ≡ head_line h
    unfolding head_line
    head_light e = rw (ne_eqb h.kind 3 n3, eq-eqb h.kind 1 e)

    module _ (n1 : h.kind ≡ 1 → ⊥) where
      pub head_sign : h.kind ≡ 2 → cond h.has_line (Some h.line) None ≡ head_line h
      unfolding head_line
      head_sign e = rw (ne_eqb h.kind 3 n3, ne_eqb h.kind 1 n1, eq-eqb h.kind 2 e)

      pub head_none : (h.kind ≡ 2 → ⊥) → None ≡ head_line h
      unfolding head_line
      head_none n2 = rw (ne_eqb h.kind 3 n3, ne_eqb h.kind 1 n1, ne_eqb h.kind 2 n2)

by_kind : (k : ℕ) (r : List ℕ) (c : List Float)
    → cond (eqb k 3) (Some (get_or r 4 0)) (cond (eqb k 1) (cond (flag_at r 3) (Some (get_or r 4 0)) None) (cond (eqb k 2) (cond (flag_at r 3) (Some (get_or r 4 0)) None) None)) ≡ stops_at (body_of k r c)
unfolding stops_at
by_kind zero r c = refl
by_kind (suc zero) r c = refl
by_kind (suc (suc zero)) r c = refl
by_kind (suc (suc (suc zero))) r c = refl
by_kind (suc (suc (suc (suc zero)))) r c = refl
by_kind (suc (suc (suc (suc (suc zero))))) r c = refl
by_kind (suc (suc (suc (suc (suc (suc zero)))))) r c = refl
by_kind (suc (suc (suc (suc (suc (suc (suc k))))))) r c =
    let j : ℕ = suc (suc (suc (suc (suc (suc (suc k)))))) in
    rw (ne_eqb j 3 (λ e. let z : ⊥ = omega arith in z), ne_eqb j 1 (λ e. let z : ⊥ = omega arith in z), ne_eqb j 2 (λ e. let z : ⊥ = omega arith in z))

pub head_is : (r : List ℕ) (h : RuleHead) → HeadRead r h → (c : List Float) → head_line h ≡ stops_at (body_of (get_or r 1 0) r c)
unfolding head_line
head_is r h e c = rw (e.kind, e.has_line, e.line) (by_kind (get_or r 1 0) r c)

-- ---- one rule

rule_many : limit_of 5 ≡ 128
unfolding limit_of
rule_many = refl

module _ (ws : List ℕ) (ok : ReadableWords ws) (i n : ℕ) (hi : i < count_of ws 5) where
  pub rule_there : SizedWords ws × (i < 128)
  rule_there = let k = ok.sized.counts 5 (omega arith) in (ok.sized, omega (arith, rule_many))

  pub rule_lanes : SizedWords ws × (i < 128) × (7 + 1 + get_or (row_of ws 5 i) 7 0 ≤ 92)
  rule_lanes = let k = ok.lanes i hi in (ok.sized, rule_there.1, omega arith)

  module _ (ls : List ℕ) (el : ls ≡ list_at (row_of ws 5 i) 7) (b : Bool) (eb : b ≡ member n (drop 0 ls)) where
    pub line_listed : (h : RuleHead) (r : Option ℕ) → b ≡ true → HeadRead (row_of ws 5 i) h → r ≡ head_line h → LineOn ws i n r
    unfolding line_of rule_in
    line_listed h r t e q = record { answer = λ c. rw (← el, ← eb, t) (q ∙ head_is (row_of ws 5 i) h e c) }

    pub line_unlisted : b ≡ false → LineOn ws i n None
    unfolding line_of rule_in
    line_unlisted t = record { answer = λ c. rw (← el, ← eb, t) }

-- ---- all rules

-- the rules before i name no line for the lane n
pub record Lineless (ws : List ℕ) (n m i : ℕ) : Type 0 where
  pub within : i ≤ m
  pub goes : (cs : List Float) → existing_stop_line (map_of ws cs) n ≡ first_of (line_of n) (tab (λ j. rule_in (row_of ws 5 j) (coords_of cs 5 j)) i (m - i))

pub lineless_start : (ws : List ℕ) (n m : ℕ) → m ≡ count_of ws 5 → Lineless ws n m 0
unfolding existing_stop_line map_of records_of line_of
lineless_start ws n m e =
    let z : m - 0 ≡ m = omega arith in
    record { within = omega arith; goes = λ cs. rw (z, ← e) (ap (first_of (line_of n)) (list_to_tab (λ j. rule_in (row_of ws 5 j) (coords_of cs 5 j)) m)) }

module _ (ws : List ℕ) (n m i : ℕ) (inv : Lineless ws n m i) where
  pub lineless_end : m ≤ i → LineFound ws n None
  unfolding first_of
  lineless_end h = record { answer = λ cs. sym (inv.goes cs ∙ rw (tab_none (λ j. rule_in (row_of ws 5 j) (coords_of cs 5 j)) m i h)) }

  module _ (h : i < m) (r : Option ℕ) (e : LineOn ws i n r) where
    pub lineless_found : (x : ℕ) → r ≡ Some x → LineFound ws n (Some x)
    unfolding first_of
    lineless_found x q = record { answer = λ cs. sym (inv.goes cs ∙ rw (tab_step (λ j. rule_in (row_of ws 5 j) (coords_of cs 5 j)) m i h, ← e.answer (coords_of cs 5 i), q)) }

    pub lineless_next : r ≡ None → Lineless ws n m (i + 1)
    unfolding first_of
    lineless_next q =
        record {
          within = omega arith;
          goes = λ cs. inv.goes cs ∙ rw (tab_step (λ j. rule_in (row_of ws 5 j) (coords_of cs 5 j)) m i h, ← e.answer (coords_of cs 5 i), q);
        }
