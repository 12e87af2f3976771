-- A light that joins another: its lanes, and its rule put.
use Prim.Native.Nat.{ℕ, ◌+◌, ◌≤◌, ◌<◌}
use mathlib.Core.Path.{◌≡◌, sym, ap, ap₂, ◌∙◌}
use mathlib.Core.Bool.{Bool, true, false, not, cond}
use mathlib.Core.List.{List, [], ◌∷◌, ◌++◌, append_assoc, append-nil}
use native.Mathlib.Numerals.{add-one}
use native.Mathlib.Omega.{arith}
use lib.Ieee.{Float, nan}
use lib.ListN.{length, get_or, take, drop, set, replicate, length-replicate, length-append, length-take, length-set, drop_of_length-le}
use lib.Seq.{drop-cons, take-suc-set}
use Rattle.rows.specs.Lists.{keep, member, or_else}
use Rattle.rows.specs.Table.{replaced, rising}
use Rattle.rows.proofs.Indexed.{length-list_to}
use Rattle.store.specs.Layout.{SizedWords, count_of, row_of, coords_of, all_coords}
use Rattle.map.specs.declared.Entries.{Entries}
use Rattle.std.specs.Prelude.{Some, Option, None}
use Rattle.map.specs.declared.RuleHead.{RuleHead}
use Rattle.map.specs.Record.{RuleBody, light, Rule}
use Rattle.map.specs.Rows.{rule_with, with_rules}
use Rattle.map.specs.Tables.{flag_at, list_at, rule_in, map_of}
use Rattle.map.specs.Access.{lookup, HeadRead, ListRead}
use Rattle.map.specs.Updates.{with_list, with_rule_line, RulePut}
use Rattle.map.proofs.UpdateLaws.{row_long, put_then, word_stays, list_there, with_lanes_lem, with_signals, with_line_lem}
use Rattle.map.proofs.ReplaceLaws.{found_number, rule_replaced}
use Rattle.place.specs.Readable.{ReadableWords}
use Rattle.edit.specs.Light.{extended, joined_lanes}
use Rattle.grouping.specs.declared.LineWords.{LineWords}
use Rattle.grouping.specs.Group.{JoinedRead, line_words, LineKept, joined_rule, GroupPut}

-- ---- the lanes

abbrev lacks : List ℕ → ℕ → Bool
lacks ls x = not (member x ls)

-- the lanes given before k have been joined
pub record Joining (ls lanes : List ℕ) (count : ℕ) (entries : List ℕ) (k : ℕ) : Type 0 where
  pub few : count ≤ 16
  pub room : length entries ≡ 16
  pub goes : take count entries ++ keep (lacks ls) (drop k lanes) ≡ joined_lanes ls lanes

pub join_start : (row lanes : List ℕ) (e : Entries) → ListRead row 7 e → get_or row 7 0 ≤ 16 → Joining (list_at row 7) lanes e.count e.entries 0
unfolding joined_lanes
join_start row lanes e r h = record { few = omega (arith, r.count); room = r.room; goes = rw r.entries }

module _ (ls lanes : List ℕ) (count : ℕ) (entries : List ℕ) (k : ℕ) (inv : Joining ls lanes count entries k) where
  pub join_end : length lanes ≤ k → JoinedRead ls lanes (record { count = count; entries = entries })
  unfolding keep
  join_end h =
      let e : drop k lanes ≡ [] = drop_of_length-le lanes h in
      record {
        room = inv.room;
        fits = λ _. sym (append-nil (take count entries)) ∙ (rw e at inv.goes);
        full = λ g. absurd (let z : ⊥ = omega (arith, inv.few) in z);
      }

  module _ (h : k < length lanes) (listed : List ℕ) (el : listed ≡ ls) (b : Bool) (eb : b ≡ member (get_or lanes k 0) (drop 0 listed)) where
    here : member (get_or lanes k 0) ls ≡ b
    here = ap (member (get_or lanes k 0)) (sym el) ∙ sym eb

    rest : drop k lanes ≡ get_or lanes k 0 ∷ drop (k + 1) lanes
    rest = drop-cons lanes k 0 h ∙ ap (λ (j : ℕ). get_or lanes k 0 ∷ drop j lanes) (sym (add-one k))

    stays : b ≡ true → keep (lacks ls) (drop k lanes) ≡ keep (lacks ls) (drop (k + 1) lanes)
    unfolding keep
    stays t = rw (rest, here, t)

    comes : b ≡ false → keep (lacks ls) (drop k lanes) ≡ get_or lanes k 0 ∷ keep (lacks ls) (drop (k + 1) lanes)
    unfolding keep
    comes t = rw (rest, here, t)

    pub join_skip : b ≡ true → Joining ls lanes count entries (k + 1)
    join_skip t = record { few = inv.few; room = inv.room; goes = ap (λ (r : List ℕ). take count entries ++ r) (sym (stays t)) ∙ inv.goes }

    pub join_full : b ≡ false → 16 ≤ count → JoinedRead ls lanes (record { count = 17; entries = entries })
    join_full t g =
        let e = ap length (sym inv.goes) in
        let l = ap (λ (r : List ℕ). length (take count entries ++ r)) (comes t) in
        record {
          room = inv.room;
          fits = λ z. absurd (let y : ⊥ = omega arith in y);
          full = λ z. omega (arith, e, l, inv.few, inv.room, length-append (take count entries) (get_or lanes k 0 ∷ keep (lacks ls) (drop (k + 1) lanes)), length-take count entries);
        }

    pub join_more : b ≡ false → count < 16 → Joining ls lanes (count + 1) (set entries count (get_or lanes k 0)) (k + 1)
    join_more t g =
        let e : take (count + 1) (set entries count (get_or lanes k 0)) ≡ take count entries ++ (get_or lanes k 0 ∷ []) = rw (add-one count) (take-suc-set entries count (get_or lanes k 0) (omega (arith, inv.room))) in
        record {
          few = omega arith;
          room = length-set entries count (get_or lanes k 0) ∙ inv.room;
          goes = rw (e, append_assoc) (ap (λ (r : List ℕ). take count entries ++ r) (sym (comes t)) ∙ inv.goes);
        }

-- ---- the rule put

pub put_sized : (ws : List ℕ) (i : ℕ) (r ws' : List ℕ) → RulePut ws i r ws' → SizedWords ws'
put_sized ws i r ws' p = (p.kept (replicate all_coords nan) (length-replicate all_coords nan)).sized.words

module _ (ws : List ℕ) (ok : ReadableWords ws) (i : ℕ) (here : i < count_of ws 5) (kind : get_or (row_of ws 5 i) 1 0 ≡ 1) (few : get_or (row_of ws 5 i) 41 0 < 16) (h : RuleHead)
    (read : HeadRead (row_of ws 5 i) h) (line : Option ℕ) (w : LineWords) (ew : LineKept h line w) (x : ℕ) (ws₁ : List ℕ)
    (a : RulePut ws i (with_list (row_of ws 5 i) 41 (list_at (row_of ws 5 i) 41 ++ (x ∷ []))) ws₁) where
  pub line_ready : SizedWords ws₁ × (i < count_of ws₁ 5)
  line_ready = (put_sized ws i _ ws₁ a, omega (arith, a.count))

  long : length (row_of ws 5 i) ≡ 92
  long = row_long ws ok.sized i here

  long₁ : length (row_of ws₁ 5 i) ≡ 92
  long₁ = row_long ws₁ line_ready.0 i line_ready.1

  signals_short : length (list_at (row_of ws 5 i) 41 ++ (x ∷ [])) ≤ 16
  unfolding list_at
  signals_short = omega (arith, length-append (list_at (row_of ws 5 i) 41) (x ∷ []), length-list_to (λ j. get_or (row_of ws 5 i) (41 + 1 + j) 0) (get_or (row_of ws 5 i) 41 0))

  kind₁ : get_or (row_of ws₁ 5 i) 1 0 ≡ 1
  kind₁ = ap (λ (r : List ℕ). get_or r 1 0) a.row ∙ word_stays (row_of ws 5 i) long 41 _ (omega (arith, signals_short)) 1 (omega arith) ∙ kind

  list₁ : list_at (row_of ws₁ 5 i) 41 ≡ list_at (row_of ws 5 i) 41 ++ (x ∷ [])
  list₁ = ap (λ (r : List ℕ). list_at r 41) a.row ∙ list_there (row_of ws 5 i) long 41 _ (omega (arith, signals_short))

  own : Option ℕ
  own = cond (flag_at (row_of ws 5 i) 3) (Some (get_or (row_of ws 5 i) 4 0)) None

  rule₁ : (c : List Float) → rule_in (row_of ws₁ 5 i) c ≡ rule_with (rule_in (row_of ws 5 i) c) (light (list_at (row_of ws 5 i) 41 ++ (x ∷ [])) own) (rule_in (row_of ws 5 i) c).lanes (rule_in (row_of ws 5 i) c).controlled
  unfolding own
  rule₁ c = ap (λ (r : List ℕ). rule_in r c) a.row ∙ with_signals (row_of ws 5 i) long c _ signals_short kind (ok.lanes i here) (ok.controlled i here)

  lines : line_words w ≡ or_else own line
  unfolding own
  lines = ew.answer ∙ rw (read.has_line, read.line)

  body : (c : List Float) → light (list_at (row_of ws 5 i) 41 ++ (x ∷ [])) (or_else own line) ≡ extended (rule_in (row_of ws 5 i) c).body x line
  unfolding rule_in extended own
  body c = rw kind

  module _ (ws₂ : List ℕ) (b : RulePut ws₁ i (with_rule_line (row_of ws₁ 5 i) w.flag w.number) ws₂) (lanes : List ℕ) (short : length lanes ≤ 16) where
    pub lanes_ready : SizedWords ws₂ × (i < count_of ws₂ 5) × (7 + 1 + length lanes ≤ 92)
    lanes_ready = (put_sized ws₁ i _ ws₂ b, omega (arith, a.count, b.count), omega arith)

    rule_is : (c : List Float) → rule_in (with_list (row_of ws₂ 5 i) 7 lanes) c ≡ joined_rule (rule_in (row_of ws 5 i) c) x line lanes
    rule_is c =
        with_lanes_lem (row_of ws₂ 5 i) (row_long ws₂ lanes_ready.0 i lanes_ready.1) lanes short c
        ∙ ap (λ (r : Rule). rule_with r r.body lanes r.controlled)
        (ap (λ (r : List ℕ). rule_in r c) b.row ∙ with_line_lem (row_of ws₁ 5 i) long₁ c w.flag w.number kind₁)
        ∙ ap (λ (r : Rule). rule_with r (light (list_at (row_of ws₁ 5 i) 41) (line_words w)) lanes r.controlled) (rule₁ c)
        ∙ ap₂ (λ (ys : List ℕ) (o : Option ℕ). rule_with (rule_in (row_of ws 5 i) c) (light ys o) lanes (rule_in (row_of ws 5 i) c).controlled) list₁ lines
        ∙ ap (λ (y : RuleBody). rule_with (rule_in (row_of ws 5 i) c) y lanes (rule_in (row_of ws 5 i) c).controlled) (body c)

    pub group_put : (ws₃ : List ℕ) → RulePut ws₂ i (with_list (row_of ws₂ 5 i) 7 lanes) ws₃ → GroupPut ws i x line lanes ws₃
    group_put ws₃ d =
        let p = put_then ws i _ ws₂ _ ws₃ (put_then ws i _ ws₁ _ ws₂ a b) d in
        record {
          map = λ cs l. p.map cs l ∙ ap (λ (r : Rule). with_rules (map_of ws cs) (set (map_of ws cs).rules i r)) (rule_is (coords_of cs 5 i));
          count = p.count;
          kept = p.kept;
        }

-- what is put is what the definition replaces
pub group_replaced : (ws : List ℕ) (cs : List Float) (g i x : ℕ) (line : Option ℕ) (lanes ws' : List ℕ) → lookup ws 5 g ≡ Some i
    → rising (λ (r : Rule). r.num) 0 (map_of ws cs).next (map_of ws cs).rules ≡ true → length cs ≡ all_coords → GroupPut ws i x line lanes ws'
    → map_of ws' cs ≡ with_rules (map_of ws cs) (replaced (λ (r : Rule). r.num) (joined_rule (rule_in (row_of ws 5 i) (coords_of cs 5 i)) x line lanes) (map_of ws cs).rules)
group_replaced ws cs g i x line lanes ws' e up l p =
    p.map cs l ∙ ap (with_rules (map_of ws cs)) (sym (rule_replaced ws cs g i e up _ (found_number ws cs g i e)))
