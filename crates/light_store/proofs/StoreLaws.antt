-- The steps of storing a light, and all of them. Assumes nothing.
use Prim.Native.Nat.{◌-◌, ℕ, zero, suc, ◌+◌, ◌/◌, ◌^◌, ◌≤◌, ◌<◌, max}
use mathlib.Core.Path.{◌≡◌, refl, sym, ap, ◌∙◌}
use mathlib.Core.Bool.{Bool, true, false, not, cond}
use mathlib.Core.List.{List, [], ◌∷◌}
use native.Mathlib.Nat.{max-eq_right, le-max_right}
use native.Mathlib.Omega.{arith}
use lib.Ieee.{Float}
use lib.ListN.{length, get_or, length-take}
use Rattle.rows.specs.Lists.{list_to}
use Rattle.rows.specs.Table.{rising, replaced}
use Rattle.rows.proofs.Indexed.{length-list_to}
use Rattle.geometry.specs.Polyline.{Polyline}
use Rattle.centerline.specs.declared.Line.{Line}
use Rattle.centerline.specs.Line.{points_of}
use Rattle.store.specs.Layout.{Sized, count_of, next_of, row_of, coords_of}
use Rattle.store.proofs.StoreLaws.{length_records}
use Rattle.map.specs.declared.Entries.{Entries}
use Rattle.map.specs.Access.{Found}
use Rattle.std.specs.Prelude.{Some, None, Option}
use Rattle.map.specs.Record.{RuleBody, light, Signal, Rule, Map}
use Rattle.map.specs.Rows.{with_line, with_signal, with_rule, with_rules}
use Rattle.map.specs.Lookup.{rule_of}
use Rattle.map.specs.Tables.{list_at, body_of, line_string_in, signal_in, rule_in, map_of}
use Rattle.map.specs.Access.{lookup}
use Rattle.map.specs.Updates.{signal_of_parts, LinePushed, SignalPushed, RulePushed, body_of_new}
use Rattle.map.specs.declared.NewRule.TheVariants as n
use Rattle.std.specs.Bool.{then_some}
use Rattle.map.proofs.ReadLaws.{rule_number_lem, found_index, rule_found, no_rule}
use Rattle.place.specs.Readable.{ReadableWords, Readable}
use Rattle.place.specs.Values.{Roomy}
use Rattle.place.proofs.LineLaws.{line_part_lem}
use Rattle.lifting.specs.Applying.{LiftsApplied}
use Rattle.lifting.specs.Lifting.{entries_of}
use Rattle.signal_row.specs.declared.SignalRow.{SignalRow}
use Rattle.grouping.specs.Group.{joined_rule, GroupPut}
use Rattle.grouping.proofs.JoinLaws.{group_replaced}
use Rattle.light_draft.specs.declared.Light.{Light}
use Rattle.light_draft.specs.Drafting.{one_if, line_in, lifted_first, group_with, with_light}
use Rattle.light_store.specs.Storing.{LiftStored, line_maybe, RowReady, GroupStored, LineAsks, LineStored, coords_in, SignalAsks, SignalStored, RuleAsks, RuleStored, GroupAsks, StoreAsks, group_in, light_map, LightStored}
use Rattle.light_store.proofs.LiftedLaws.{first_rises, first_found}

-- ---- the tables' counts are the map's

pub lines_are : (ws : List ℕ) (cs : List Float) → count_of ws 2 ≡ length (map_of ws cs).stop_lines
unfolding map_of
lines_are ws cs = sym (length_records line_string_in ws cs 2)

pub signals_are : (ws : List ℕ) (cs : List Float) → count_of ws 3 ≡ length (map_of ws cs).signals
unfolding map_of
signals_are ws cs = sym (length_records signal_in ws cs 3)

pub rules_are : (ws : List ℕ) (cs : List Float) → count_of ws 5 ≡ length (map_of ws cs).rules
unfolding map_of
rules_are ws cs = sym (length_records rule_in ws cs 5)

pub next_are : (ws : List ℕ) (cs : List Float) → next_of ws ≡ (map_of ws cs).next
unfolding map_of
next_are ws cs = refl

-- ---- the lifts

pub lift_none : (ws : List ℕ) (cs : List Float) (l : Light) (lanes : List ℕ) → Readable ws cs → l.has_line ≡ false → LiftStored ws cs l lanes ws cs
unfolding lifted_first
lift_none ws cs l lanes h e = record { map = rw e; readable = h }

pub lift_some : (ws : List ℕ) (cs : List Float) (l : Light) (lanes ws' : List ℕ) (cs' : List Float) → l.has_line ≡ true → LiftsApplied ws cs l.line lanes ws' cs' → LiftStored ws cs l lanes ws' cs'
unfolding lifted_first
lift_some ws cs l lanes ws' cs' e p = record { map = rw e p.map; readable = p.readable }

-- ---- the group

pub line_there : (l : Light) → l.has_line ≡ true → Some l.line ≡ line_maybe l
line_there l e = rw e

pub line_missing : (l : Light) → l.has_line ≡ false → None ≡ line_maybe l
line_missing l e = rw e

pub line_is : (l : Light) → (line_maybe l) ≡ line_in l
line_is l = go l.has_line
  where
    go : (b : Bool) → (cond b (Some l.line) None) ≡ cond b (Some l.line) None
    go true = refl
    go false = refl

pub not_joined : (ws : List ℕ) (l : Light) (joined : Entries) → l.joins ≡ false → GroupStored ws l joined ws
not_joined ws l joined e = record { kept = λ _. refl; put = λ q. absurd (let z : ◌≡◌ {A = Bool} true false = sym q ∙ e in let y : ◌≡◌ {A = ℕ} 0 1 = cc in omega arith) }

pub never_lost : (ws : List ℕ) (l : Light) (joined : Entries) (f : Found) → (l.joins ≡ true → RowReady ws l.rule joined) → l.joins ≡ true → f ≡ lookup ws 5 l.rule → f ≡ None → GroupStored ws l joined ws
never_lost ws l joined f h j e q = absurd ((h j).there (sym e ∙ q))

pub joined_put : (ws : List ℕ) (l : Light) (joined : Entries) (f : Found) (i : ℕ) (line : Option ℕ) (ws' : List ℕ) → l.joins ≡ true → f ≡ lookup ws 5 l.rule → f ≡ Some i → line ≡ line_maybe l
    → GroupPut ws i l.signal line (entries_of joined) ws' → GroupStored ws l joined ws'
joined_put ws l joined f i line ws' j e q el p = record {
  kept = λ r. absurd (let z : ◌≡◌ {A = Bool} true false = sym j ∙ r in let y : ◌≡◌ {A = ℕ} 0 1 = cc in omega arith);
  put = λ _ k ek. let s : i ≡ k = cc in rw (← s, ← el) p;
}

pub put_asks : (ws : List ℕ) (l : Light) (joined : Entries) (f : Found) (i : ℕ) → ReadableWords ws → (l.joins ≡ true → RowReady ws l.rule joined) → l.joins ≡ true → f ≡ lookup ws 5 l.rule → f ≡ Some i
    → ReadableWords ws × (i < count_of ws 5) × (get_or (row_of ws 5 i) 1 0 ≡ 1) × (get_or (row_of ws 5 i) 41 0 < 16) × (length (entries_of joined) ≤ 16)
put_asks ws l joined f i ok h j e q =
    let at = sym e ∙ q in
    let r = h j in (
      ok,
      (found_index (λ (x : Rule). x.num) rule_in rule_number_lem ws [] 5 (omega arith) l.rule i at).1,
      r.kind i at,
      r.signals i at,
      simp length-take (omega (arith, r.few, r.room)),
    )

-- ---- the line, the signal, the rule

pub line_none : (ws : List ℕ) (cs : List Float) (drawn : Bool) (line : Line) → LineAsks ws cs drawn line → drawn ≡ false → LineStored ws cs drawn line ws cs
line_none ws cs drawn line h e = record { map = rw e; sized = h.sized }

pub line_some : (ws : List ℕ) (cs : List Float) (drawn : Bool) (line : Line) (ws' : List ℕ) (cs' : List Float) → LineAsks ws cs drawn line → drawn ≡ true → LinePushed ws cs (coords_in line) ws' cs' → LineStored ws cs drawn line ws' cs'
line_some ws cs drawn line ws' cs' h e p = record { map = rw e (p.map ∙ ap (with_line (map_of ws cs)) (line_part_lem line h.room)); sized = p.kept.sized }

pub coords_few : (l : Line) → Roomy l → length (coords_in l) ≤ 192
coords_few l h = let a = h.few in let b = h.long in simp length-take (omega arith)

pub coords_count : (l : Line) → Roomy l → length (coords_in l) / 3 ≡ l.count
coords_count l h = let a = h.few in let b = h.long in simp length-take (omega arith)

pub signal_asks : (ws : List ℕ) (cs : List Float) (row : SignalRow) (housing : Line) → length row.words ≡ 13 → length row.more ≡ 13 → SignalAsks ws cs row housing
    → Sized ws cs × (count_of ws 3 < 64) × (next_of ws < 2 ^ 64 - 1) × (length row.words ≡ 13) × (get_or row.words 0 0 ≡ max 1 (next_of ws)) × (get_or row.words 2 0 ≡ length (coords_in housing) / 3) × (get_or row.words 4 0 ≤ 4) × (length (coords_in housing) ≤ 192) × (length row.more ≡ 13)
signal_asks ws cs row housing a b h =
    (h.sized, h.free, h.next, a, h.number, h.points ∙ sym (coords_count housing h.room), h.lamps, coords_few housing h.room, b)

pub signal_done : (ws : List ℕ) (cs : List Float) (row : SignalRow) (housing : Line) (ws' : List ℕ) (cs' : List Float) → SignalPushed ws cs row.words (coords_in housing) row.more ws' cs' → SignalStored ws cs row housing ws' cs'
signal_done ws cs row housing ws' cs' p = record { map = p.map; sized = p.kept.sized }

pub rule_none : (ws : List ℕ) (l : Light) (lanes : List ℕ) → l.joins ≡ true → RuleStored ws l lanes ws
rule_none ws l lanes e = record { map = λ cs k. rw e }

pub rule_some : (ws : List ℕ) (l : Light) (lanes : List ℕ) (line : Found) (ws' : List ℕ) → l.joins ≡ false → line ≡ then_some l.has_line l.line → RulePushed ws (body_of_new (n.Light line) (l.signal ∷ [])) lanes ws' → RuleStored ws l lanes ws'
rule_some ws l lanes line ws' e f p = record { map = λ cs k. rw e (p.map cs k ∙ ap (λ (w : RuleBody). with_rule (map_of ws cs) w lanes) (body l.has_line line f)) }
  where
    body : (b : Bool) (o : Found) → o ≡ then_some b l.line → body_of_new (n.Light o) (l.signal ∷ []) ≡ light (l.signal ∷ []) (cond b (Some l.line) None)
    body true o q = rw q
    body false o q = rw q

-- ---- all of them

-- a body that is a light's is of kind 1
pub body_kind : (k : ℕ) (r : List ℕ) (c : List Float) (signals : List ℕ) (line : Option ℕ) → body_of k r c ≡ light signals line → k ≡ 1
body_kind zero r c signals line e = absurd (let z : ◌≡◌ {A = ℕ} 0 1 = cc in omega arith)
body_kind (suc zero) r c signals line e = refl
body_kind (suc (suc zero)) r c signals line e = absurd (let z : ◌≡◌ {A = ℕ} 0 1 = cc in omega arith)
body_kind (suc (suc (suc zero))) r c signals line e = absurd (let z : ◌≡◌ {A = ℕ} 0 1 = cc in omega arith)
body_kind (suc (suc (suc (suc zero)))) r c signals line e = absurd (let z : ◌≡◌ {A = ℕ} 0 1 = cc in omega arith)
body_kind (suc (suc (suc (suc (suc zero))))) r c signals line e = absurd (let z : ◌≡◌ {A = ℕ} 0 1 = cc in omega arith)
body_kind (suc (suc (suc (suc (suc (suc zero)))))) r c signals line e = absurd (let z : ◌≡◌ {A = ℕ} 0 1 = cc in omega arith)
body_kind (suc (suc (suc (suc (suc (suc (suc k))))))) r c signals line e = absurd (let z : ◌≡◌ {A = ℕ} 0 1 = cc in omega arith)

pub body_signals : (k : ℕ) (r : List ℕ) (c : List Float) (signals : List ℕ) (line : Option ℕ) → k ≡ 1 → body_of k r c ≡ light signals line → get_or r 41 0 ≡ length signals
unfolding list_at
body_signals k r c signals line e h =
    let q : body_of 1 r c ≡ light signals line = rw e at h in
    let s : list_to (λ i. get_or r (41 + 1 + i) 0) (get_or r 41 0) ≡ signals = cc in
    sym (length-list_to (λ i. get_or r (41 + 1 + i) 0) (get_or r 41 0)) ∙ ap length s

pub rule_body : (r : List ℕ) (c : List Float) → (rule_in r c).body ≡ body_of (get_or r 1 0) r c
unfolding rule_in
rule_body r c = refl

-- the map with the group's rule put
abbrev two_of : Map → ℕ → Option ℕ → List ℕ → Option Rule → Map
two_of one n line lanes None = one
two_of one n line lanes (Some r) = with_rules one (replaced (λ x. x.num) (group_with r n line lanes) one.rules)

two_lines : (m : Map) (n : ℕ) (line : Option ℕ) (lanes : List ℕ) (g : Option Rule) → (two_of (lifted_first m line lanes) n line lanes g).stop_lines ≡ m.stop_lines
unfolding lifted_first
two_lines m n None lanes None = refl
two_lines m n None lanes (Some r) = refl
two_lines m n (Some s) lanes None = refl
two_lines m n (Some s) lanes (Some r) = refl

two_signals : (m : Map) (n : ℕ) (line : Option ℕ) (lanes : List ℕ) (g : Option Rule) → (two_of (lifted_first m line lanes) n line lanes g).signals ≡ m.signals
unfolding lifted_first
two_signals m n None lanes None = refl
two_signals m n None lanes (Some r) = refl
two_signals m n (Some s) lanes None = refl
two_signals m n (Some s) lanes (Some r) = refl

two_next : (m : Map) (n : ℕ) (line : Option ℕ) (lanes : List ℕ) (g : Option Rule) → (two_of (lifted_first m line lanes) n line lanes g).next ≡ m.next
unfolding lifted_first
two_next m n None lanes None = refl
two_next m n None lanes (Some r) = refl
two_next m n (Some s) lanes None = refl
two_next m n (Some s) lanes (Some r) = refl

-- with a line where one is drawn, and the signal
abbrev three_of : Map → Bool → Polyline → Map
three_of two drawn xs = cond drawn (with_line two xs) two

three_signals : (two : Map) (drawn : Bool) (xs : Polyline) → (three_of two drawn xs).signals ≡ two.signals
three_signals two true xs = refl
three_signals two false xs = refl

three_rules : (two : Map) (drawn : Bool) (xs : Polyline) → (three_of two drawn xs).rules ≡ two.rules
three_rules two true xs = refl
three_rules two false xs = refl

-- the number that is next
three_fresh : (two : Map) (drawn : Bool) (xs : Polyline) → max 1 (three_of two drawn xs).next ≡ max 1 two.next + one_if drawn
three_fresh two true xs = max-eq_right {n = 1} {m = suc (max 1 two.next)} (omega arith) ∙ omega arith
three_fresh two false xs = omega arith

whole_new : (one : Map) (n : ℕ) (line : Option ℕ) (lanes : List ℕ) (drawn : Bool) (xs : Polyline) (s : Signal)
    → with_rule (with_signal (three_of (two_of one n line lanes None) drawn xs) s) (light (n ∷ []) line) lanes ≡ with_light (with_signal (three_of one drawn xs) s) lanes n line None
unfolding with_light
whole_new one n line lanes drawn xs s = refl

whole_joined : (one : Map) (n : ℕ) (line : Option ℕ) (lanes : List ℕ) (drawn : Bool) (xs : Polyline) (s : Signal) (r : Rule)
    → with_signal (three_of (two_of one n line lanes (Some r)) drawn xs) s ≡ with_light (with_signal (three_of one drawn xs) s) lanes n line (Some r)
unfolding with_light
whole_joined one n line lanes true xs s r = refl
whole_joined one n line lanes false xs s r = refl

group_in_lem : (m : Map) (l : Light) (b : Bool) → l.joins ≡ b → group_in m l ≡ cond b (rule_of m l.rule) None
group_in_lem m l b e = ap (λ (t : Bool). cond t (rule_of m l.rule) None) e

module _ (ws : List ℕ) (cs : List Float) (lanes : List ℕ) (l : Light) (line housing : Line) (row : SignalRow) (joined : Entries) (asks : StoreAsks ws cs lanes l line housing row joined)
    (ws1 : List ℕ) (cs1 : List Float) (h1 : LiftStored ws cs l lanes ws1 cs1) where
  module _ (j : l.joins ≡ true) where
    group : GroupAsks (map_of ws cs) l.rule lanes joined
    group = asks.group j

    still : rule_of (map_of ws1 cs1) l.rule ≡ Some group.joins.rule
    still = ap (λ (x : Map). rule_of x l.rule) h1.map ∙ first_found (map_of ws cs) (line_in l) lanes l.rule group.joins

    its_rule : (i : ℕ) → lookup ws1 5 l.rule ≡ Some i → rule_in (row_of ws1 5 i) (coords_of cs1 5 i) ≡ group.joins.rule
    its_rule i e = let a = rule_found ws1 cs1 l.rule i e in let b = still in cc

    its_body : (i : ℕ) → lookup ws1 5 l.rule ≡ Some i → body_of (get_or (row_of ws1 5 i) 1 0) (row_of ws1 5 i) (coords_of cs1 5 i) ≡ light group.joins.signals group.joins.line
    its_body i e = sym (rule_body (row_of ws1 5 i) (coords_of cs1 5 i)) ∙ ap (λ (r : Rule). r.body) (its_rule i e) ∙ group.joins.body

    its_kind : (i : ℕ) → lookup ws1 5 l.rule ≡ Some i → get_or (row_of ws1 5 i) 1 0 ≡ 1
    its_kind i e = body_kind (get_or (row_of ws1 5 i) 1 0) (row_of ws1 5 i) (coords_of cs1 5 i) _ _ (its_body i e)

    row_ready : RowReady ws1 l.rule joined
    row_ready = record {
      there = λ e. let a = no_rule ws1 cs1 l.rule e in let b = still in let z : ◌≡◌ {A = ℕ} 0 1 = cc in omega arith;
      kind = its_kind;
      signals = λ i e. omega (arith, body_signals (get_or (row_of ws1 5 i) 1 0) (row_of ws1 5 i) (coords_of cs1 5 i) _ _ (its_kind i e) (its_body i e), group.free);
      room = group.room;
      few = group.few;
    }

  pub group_asks : ReadableWords ws1 × (l.joins ≡ true → RowReady ws1 l.rule joined)
  group_asks = (h1.readable.words, row_ready)

  module _ (ws2 : List ℕ) (h2 : GroupStored ws1 l joined ws2) where
    -- the second map, and the sizes
    abbrev Two : Type 0
    Two = (map_of ws2 cs1 ≡ two_of (lifted_first (map_of ws cs) (line_in l) lanes) l.signal (line_in l) lanes (group_in (map_of ws cs) l)) × Sized ws2 cs1

    two_none : l.joins ≡ false → Two
    two_none e = (
      ap (λ (w : List ℕ). map_of w cs1) (h2.kept e) ∙ h1.map
          ∙ sym (ap (two_of (lifted_first (map_of ws cs) (line_in l) lanes) l.signal (line_in l) lanes) (group_in_lem (map_of ws cs) l false e)),
      rw (h2.kept e) (record { words = h1.readable.words.sized; coords = h1.readable.coords }),
    )

    module _ (j : l.joins ≡ true) where
      at_index : (i : ℕ) → lookup ws1 5 l.rule ≡ Some i → Two
      unfolding group_with
      at_index i e =
          let one = lifted_first (map_of ws cs) (line_in l) lanes in
          let p = h2.put j i e in
          let up : rising (λ (r : Rule). r.num) 0 (map_of ws1 cs1).next (map_of ws1 cs1).rules ≡ true = rw h1.map (first_rises (map_of ws cs) (line_in l) lanes asks.rises) in (
            group_replaced ws1 cs1 l.rule i l.signal (line_maybe l) (entries_of joined) ws2 e up h1.readable.coords p
                ∙ ap (λ (x : Map). with_rules x (replaced (λ (y : Rule). y.num) (joined_rule (rule_in (row_of ws1 5 i) (coords_of cs1 5 i)) l.signal ((line_maybe l)) (entries_of joined)) x.rules)) h1.map
                ∙ ap (λ (r : Rule). with_rules one (replaced (λ (y : Rule). y.num) (joined_rule r l.signal ((line_maybe l)) (entries_of joined)) one.rules)) (its_rule j i e)
                ∙ ap (λ (o : Option ℕ). with_rules one (replaced (λ (y : Rule). y.num) (joined_rule (group j).joins.rule l.signal o (entries_of joined)) one.rules)) (line_is l)
                ∙ ap (λ (ls : List ℕ). with_rules one (replaced (λ (y : Rule). y.num) (joined_rule (group j).joins.rule l.signal (line_in l) ls) one.rules)) (group j).all
                ∙ sym (ap (two_of one l.signal (line_in l) lanes) (group_in_lem (map_of ws cs) l true j ∙ (group j).joins.found)),
            (p.kept cs1 h1.readable.coords).sized,
          )

      two_some : (f : Found) → lookup ws1 5 l.rule ≡ f → Two
      two_some (Some i) e = at_index i e
      two_some None e = absurd ((row_ready j).there e)

    two_is : (b : Bool) → l.joins ≡ b → Two
    two_is true e = two_some e (lookup ws1 5 l.rule) refl
    two_is false e = two_none e

    second : Two
    second = two_is l.joins refl

    -- ---- the line

    next_stays : next_of ws2 ≡ next_of ws
    next_stays = next_are ws2 cs1 ∙ ap (λ (x : Map). x.next) second.0 ∙ two_next (map_of ws cs) l.signal (line_in l) lanes (group_in (map_of ws cs) l) ∙ sym (next_are ws cs)

    lines_stay : count_of ws2 2 ≡ count_of ws 2
    lines_stay = lines_are ws2 cs1 ∙ ap (λ (x : Map). length x.stop_lines) second.0 ∙ ap length (two_lines (map_of ws cs) l.signal (line_in l) lanes (group_in (map_of ws cs) l)) ∙ sym (lines_are ws cs)

    pub line_asks : LineAsks ws2 cs1 l.drawn line
    line_asks = record {
      sized = second.1;
      room = asks.line_room;
      free = λ e. omega (arith, lines_stay, asks.lines e);
      next = λ e. omega (arith, next_stays, asks.spare, le-max_right 1 (next_of ws));
    }

    module _ (ws3 : List ℕ) (cs3 : List Float) (h3 : LineStored ws2 cs1 l.drawn line ws3 cs3) where
      third : map_of ws3 cs3 ≡ three_of (two_of (lifted_first (map_of ws cs) (line_in l) lanes) l.signal (line_in l) lanes (group_in (map_of ws cs) l)) l.drawn (points_of line)
      third = h3.map ∙ ap (λ (x : Map). three_of x l.drawn (points_of line)) second.0

      -- ---- the signal

      signals_stay : count_of ws3 3 ≡ count_of ws 3
      signals_stay =
          signals_are ws3 cs3 ∙ ap (λ (x : Map). length x.signals) h3.map ∙ ap length (three_signals (map_of ws2 cs1) l.drawn (points_of line))
          ∙ ap (λ (x : Map). length x.signals) second.0 ∙ ap length (two_signals (map_of ws cs) l.signal (line_in l) lanes (group_in (map_of ws cs) l)) ∙ sym (signals_are ws cs)

      fresh_is : max 1 (next_of ws3) ≡ max 1 (next_of ws) + one_if l.drawn
      fresh_is =
          ap (max 1) (next_are ws3 cs3 ∙ ap (λ (x : Map). x.next) h3.map) ∙ three_fresh (map_of ws2 cs1) l.drawn (points_of line)
          ∙ ap (λ (n : ℕ). max 1 n + one_if l.drawn) (sym (next_are ws2 cs1) ∙ next_stays)

      pub signal_needs : SignalAsks ws3 cs3 row housing
      signal_needs = record {
        sized = h3.sized;
        room = asks.housing_room;
        free = omega (arith, signals_stay, asks.signals);
        next = omega (arith, fresh_is, asks.spare, le-max_right 1 (next_of ws3));
        number = asks.row_number ∙ asks.number ∙ sym fresh_is;
        points = asks.row_points_is;
        lamps = asks.row_lamps;
      }

      module _ (ws4 : List ℕ) (cs4 : List Float) (h4 : SignalStored ws3 cs3 row housing ws4 cs4) where
        -- ---- the rule

        rules_stay : l.joins ≡ false → count_of ws4 5 ≡ length (lifted_first (map_of ws cs) (line_in l) lanes).rules
        rules_stay e =
            rules_are ws4 cs4 ∙ ap (λ (x : Map). length x.rules) (h4.map ∙ ap (λ (x : Map). with_signal x (signal_of_parts row.words (coords_in housing) row.more)) h3.map)
            ∙ ap length (three_rules (map_of ws2 cs1) l.drawn (points_of line)) ∙ ap (λ (x : Map). length x.rules) (two_is false e).0
            ∙ ap (λ (g : Option Rule). length (two_of (lifted_first (map_of ws cs) (line_in l) lanes) l.signal (line_in l) lanes g).rules) (group_in_lem (map_of ws cs) l false e)

        next_after_lem : next_of ws4 ≡ max 1 (next_of ws) + one_if l.drawn + 1
        next_after_lem = let q : next_of ws4 ≡ suc (max 1 (next_of ws3)) = next_are ws4 cs4 ∙ ap (λ (x : Map). x.next) h4.map ∙ ap (λ (n : ℕ). suc (max 1 n)) (sym (next_are ws3 cs3)) in omega (arith, q, fresh_is)

        alone : l.joins ≡ false → one_if (not l.joins) ≡ 1
        alone e = ap (λ (b : Bool). one_if (not b)) e

        pub rule_asks : RuleAsks ws4 l lanes
        rule_asks = record {
          sized = h4.sized.words;
          free = λ e. omega (arith, rules_stay e, asks.rules e);
          next = λ e. omega (arith, next_after_lem, alone e, asks.spare);
          few = asks.few;
        }

        -- ---- the whole

        module _ (ws5 : List ℕ) (h5 : RuleStored ws4 l lanes ws5) where
          abbrev sig : Signal
          sig = signal_of_parts row.words (coords_in housing) row.more

          fourth : map_of ws4 cs4 ≡ with_signal (three_of (two_of (lifted_first (map_of ws cs) (line_in l) lanes) l.signal (line_in l) lanes (group_in (map_of ws cs) l)) l.drawn (points_of line)) sig
          fourth = h4.map ∙ ap (λ (x : Map). with_signal x sig) third

          fifth : (b : Bool) → l.joins ≡ b → map_of ws5 cs4 ≡ light_map (map_of ws cs) l lanes (points_of line) sig (group_in (map_of ws cs) l)
          unfolding light_map
          fifth true e =
              let one = lifted_first (map_of ws cs) (line_in l) lanes in
              let g = group_in_lem (map_of ws cs) l true e ∙ (group e).joins.found in
              h5.map cs4 h4.sized.coords ∙ ap (λ (b : Bool). cond b (map_of ws4 cs4) (with_rule (map_of ws4 cs4) (light (l.signal ∷ []) (line_in l)) lanes)) e ∙ fourth
              ∙ ap (λ (o : Option Rule). with_signal (three_of (two_of one l.signal (line_in l) lanes o) l.drawn (points_of line)) sig) g
              ∙ whole_joined one l.signal (line_in l) lanes l.drawn (points_of line) sig (group e).joins.rule
              ∙ sym (ap (with_light (with_signal (three_of one l.drawn (points_of line)) sig) lanes l.signal (line_in l)) g)
          fifth false e =
              let one = lifted_first (map_of ws cs) (line_in l) lanes in
              let g = group_in_lem (map_of ws cs) l false e in
              h5.map cs4 h4.sized.coords ∙ ap (λ (b : Bool). cond b (map_of ws4 cs4) (with_rule (map_of ws4 cs4) (light (l.signal ∷ []) (line_in l)) lanes)) e
              ∙ ap (λ (x : Map). with_rule x (light (l.signal ∷ []) (line_in l)) lanes) fourth
              ∙ ap (λ (o : Option Rule). with_rule (with_signal (three_of (two_of one l.signal (line_in l) lanes o) l.drawn (points_of line)) sig) (light (l.signal ∷ []) (line_in l)) lanes) g
              ∙ whole_new one l.signal (line_in l) lanes l.drawn (points_of line) sig
              ∙ sym (ap (with_light (with_signal (three_of one l.drawn (points_of line)) sig) lanes l.signal (line_in l)) g)

          pub light_stored : LightStored ws cs lanes l line housing row ws5 cs4
          light_stored = record { map = fifth l.joins refl }
