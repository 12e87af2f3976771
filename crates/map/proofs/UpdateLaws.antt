-- Row edits against the definitions, over plain lists and numbers. Assumes nothing.
use Prim.Native.Nat.{ℕ, zero, suc, ◌+◌, ◌*◌, ◌/◌, ◌≤◌, ◌<◌, max}
use mathlib.Core.Path.{◌≡◌, refl, sym, ap, ◌∙◌, subst}
use mathlib.Core.Bool.{not, cond}
use mathlib.Core.List.{List, [], ◌∷◌}
use native.Mathlib.Nat.{add-zero, zero-add, le_refl, max-eq_right}
use native.Mathlib.Numerals.{add-one}
use native.Mathlib.Omega.{arith}
use lib.Dec.{eqb}
use lib.Ieee.{Float, nan}
use lib.ListN.{length, get_or, set}
use lib.Seq.{set-set}
use Rattle.geometry.specs.Polyline.{point_in, polyline_of}
use Rattle.rows.specs.Lists.{list_to}
use Rattle.rows.specs.Rows.{pasted}
use Rattle.rows.proofs.RowLaws.{get_or_in, get_or_before, get_d_past, length-pasted, cut_whole, pasted_cons, set-pasted}
use Rattle.rows.proofs.Indexed.{list_to_same, list_to-cut}
use Rattle.store.specs.Layout.{width_of, limit_of, coord_width_of, next_of, count_of, row_of, coords_of, records_of, SizedWords, Sized, Kept, set_next, push_row, put_part, put_coords, drop_row, drop_coords, all_coords}
use Rattle.store.proofs.StoreLaws.{Filled, filled_none, filled_more, coord_here, coord_long, records_same, push_kept, pushed_kept, pushed_records, pushed_next, put_kept, put_all_kept, put_records, put_row, put_next, put_count, drop_all_kept, drop_records, drop_next, drop_count}
use Rattle.map.specs.Record.{light, crossing, Rule, Map}
use Rattle.map.specs.Rows.{with_rules, rule_with}
use Rattle.map.specs.Tables.{flag_at, list_at, point_from, line_at, lane_in, line_string_in, bulb_at, signal_in, crosswalk_in, body_of, rule_in, map_of}
use Rattle.map.specs.Updates.{LinePushed, signal_of_parts, SignalPushed, new_body, rule_words, body_of_new, RulePushed, with_list, with_rule_line, RulePut, RuleDropped}
use Rattle.map.specs.declared.NewRule.{NewRule}
use Rattle.map.specs.declared.NewRule.TheVariants.{Light, Sign, Marking}
use Rattle.std.specs.Prelude.{Some, None}
use Rattle.map.proofs.ReadLaws.{length_row, length_coords}

-- ---- the sizes of the kinds

pub line_wide : width_of 2 ≡ 2
unfolding width_of
line_wide = refl

pub signal_wide : width_of 3 ≡ 13
unfolding width_of
signal_wide = refl

pub rule_wide : width_of 5 ≡ 92
unfolding width_of
rule_wide = refl

pub line_room : coord_width_of 2 ≡ 192
unfolding coord_width_of
line_room = refl

pub signal_room : coord_width_of 3 ≡ 205
unfolding coord_width_of
signal_room = refl

pub line_limit : limit_of 2 ≡ 64
unfolding limit_of
line_limit = refl

pub signal_limit : limit_of 3 ≡ 64
unfolding limit_of
signal_limit = refl

pub rule_limit : limit_of 5 ≡ 128
unfolding limit_of
rule_limit = refl

-- the words after a push are sized for what comes next
pub push_sized : (ws : List ℕ) → SizedWords ws → (k : ℕ) → k < 6 → (row : List ℕ) → length row ≡ width_of k → count_of ws k < limit_of k → (l : List ℕ) → l ≡ push_row ws k row → SizedWords l
push_sized ws ok k hk row long free l e = rw e (push_kept ws ok k hk row long free).sized

-- ---- the fresh number

pub fresh_one : (n next : ℕ) → n ≡ next → n ≡ 0 → 1 ≡ max 1 next
fresh_one n next e z = rw (← e, z)

pub fresh_next : (n next : ℕ) → n ≡ next → (n ≡ 0 → ⊥) → n ≡ max 1 next
fresh_next n next e h = rw (← e) (sym (max-eq_right {n = 1} {m = n} (omega arith)))

-- ---- an edit of one kind gives the map with another list of that kind

module _ (ws : List ℕ) (cs : List Float) (ws' : List ℕ) (cs' : List Float) where
  same : {A : Type 0} (f : List ℕ → List Float → A) (k m : ℕ) → Kept ws cs k ws' cs' → m < 6 → (m ≡ k → ⊥) → records_of f ws' cs' m ≡ records_of f ws cs m
  same f k m kept h ne = records_same f ws cs m ws' cs' (kept.others m h ne)

  map-lines : Kept ws cs 2 ws' cs'
      → map_of ws' cs'
      ≡ record {
        next = next_of ws';
        lanes = (map_of ws cs).lanes;
        boundaries = (map_of ws cs).boundaries;
        stop_lines = records_of line_string_in ws' cs' 2;
        signals = (map_of ws cs).signals;
        crosswalks = (map_of ws cs).crosswalks;
        rules = (map_of ws cs).rules;
      }
  unfolding map_of
  map-lines k =
      rw (
        same lane_in 2 0 k (omega arith) (omega arith),
        same line_string_in 2 1 k (omega arith) (omega arith),
        same signal_in 2 3 k (omega arith) (omega arith),
        same crosswalk_in 2 4 k (omega arith) (omega arith),
        same rule_in 2 5 k (omega arith) (omega arith),
      )

  map_signals : Kept ws cs 3 ws' cs'
      → map_of ws' cs'
      ≡ record {
        next = next_of ws';
        lanes = (map_of ws cs).lanes;
        boundaries = (map_of ws cs).boundaries;
        stop_lines = (map_of ws cs).stop_lines;
        signals = records_of signal_in ws' cs' 3;
        crosswalks = (map_of ws cs).crosswalks;
        rules = (map_of ws cs).rules;
      }
  unfolding map_of
  map_signals k =
      rw (
        same lane_in 3 0 k (omega arith) (omega arith),
        same line_string_in 3 1 k (omega arith) (omega arith),
        same line_string_in 3 2 k (omega arith) (omega arith),
        same crosswalk_in 3 4 k (omega arith) (omega arith),
        same rule_in 3 5 k (omega arith) (omega arith),
      )

  map_rules : Kept ws cs 5 ws' cs'
      → map_of ws' cs'
      ≡ record {
        next = next_of ws';
        lanes = (map_of ws cs).lanes;
        boundaries = (map_of ws cs).boundaries;
        stop_lines = (map_of ws cs).stop_lines;
        signals = (map_of ws cs).signals;
        crosswalks = (map_of ws cs).crosswalks;
        rules = records_of rule_in ws' cs' 5;
      }
  unfolding map_of
  map_rules k =
      rw (
        same lane_in 5 0 k (omega arith) (omega arith),
        same line_string_in 5 1 k (omega arith) (omega arith),
        same line_string_in 5 2 k (omega arith) (omega arith),
        same signal_in 5 3 k (omega arith) (omega arith),
        same crosswalk_in 5 4 k (omega arith) (omega arith),
      )

-- ---- points that are written are read back

module _ (c : List Float) (o : ℕ) (pts : List Float) (h : o + length pts ≤ length c) where
  written : (j : ℕ) → j < length pts → get_or (pasted c o pts (length pts)) (o + j) nan ≡ get_or pts j nan
  written j hj = get_or_in c o pts (length pts) j nan hj (omega arith) (le_refl _)

  written_point : (j : ℕ) → j < length pts / 3 → point_from (pasted c o pts (length pts)) (o + j * 3) ≡ point_in pts j
  unfolding point_from point_in
  written_point j hj =
      let a : o + j * 3 + 1 ≡ o + (j * 3 + 1) = omega arith in
      let b : o + j * 3 + 2 ≡ o + (j * 3 + 2) = omega arith in
      rw (a, b, written (j * 3) (omega arith), written (j * 3 + 1) (omega arith), written (j * 3 + 2) (omega arith))

  pub line_written : line_at (pasted c o pts (length pts)) o (length pts / 3) ≡ polyline_of pts
  unfolding line_at polyline_of
  line_written = list_to_same _ _ (length pts / 3) written_point

line_written_open : (c pts : List Float) → length c ≡ 205 → length pts ≤ 192
    → list_to (λ i. point_from (pasted c 0 pts (length pts)) (0 + i * 3)) (length pts / 3) ≡ polyline_of pts
unfolding line_at
line_written_open c pts long short = line_written c 0 pts (omega arith)

-- ---- a new stop line

suc_one : (n m : ℕ) → n ≡ m → n + 1 ≡ suc m
suc_one n m e = add-one n ∙ ap suc e

open_line : (r : List ℕ) (c : List Float) → line_string_in r c ≡ record { num = get_or r 0 0; geometry = line_at c 0 (get_or r 1 0) }
unfolding line_string_in
open_line r c = refl

map_next : (ws : List ℕ) (cs : List Float) → (map_of ws cs).next ≡ next_of ws
unfolding map_of
map_next ws cs = refl

map_lines_are : (ws : List ℕ) (cs : List Float) → (map_of ws cs).stop_lines ≡ records_of line_string_in ws cs 2
unfolding map_of
map_lines_are ws cs = refl

map_signals_are : (ws : List ℕ) (cs : List Float) → (map_of ws cs).signals ≡ records_of signal_in ws cs 3
unfolding map_of
map_signals_are ws cs = refl

pub map_rules_are : (ws : List ℕ) (cs : List Float) → (map_of ws cs).rules ≡ records_of rule_in ws cs 5
unfolding map_of
map_rules_are ws cs = refl

module _ (ws : List ℕ) (cs : List Float) (ok : Sized ws cs) (pts : List Float) (num n : ℕ) (few : count_of ws 2 < 64) (short : length pts ≤ 192)
    (en : n ≡ count_of ws 2) (eu : num ≡ max 1 (next_of ws)) where
  line_filled : Filled cs 2 (count_of ws 2) (put_coords cs 2 (count_of ws 2) 0 pts)
  line_filled = filled_more cs 2 (count_of ws 2) cs (filled_none cs 2 (count_of ws 2) ok.coords) (omega arith) (omega (arith, line_limit)) 0 pts (omega (arith, line_room))

  line_here : line_string_in (num ∷ length pts / 3 ∷ []) (coords_of (put_coords cs 2 (count_of ws 2) 0 pts) 2 (count_of ws 2)) ≡ record { num = num; geometry = polyline_of pts }
  line_here =
      let i : count_of ws 2 < limit_of 2 = omega (arith, line_limit) in
      let c = coord_here cs ok.coords 2 (omega arith) (count_of ws 2) i 0 pts (omega (arith, line_room)) in
      let l = length_coords cs ok.coords 2 (count_of ws 2) (omega arith) i in
      open_line _ _ ∙ rw (c, line_written (coords_of cs 2 (count_of ws 2)) 0 pts (omega (arith, line_room)))

  pub line_pushed : LinePushed ws cs pts (set_next (push_row ws 2 (num ∷ length pts / 3 ∷ [])) (num + 1)) (put_coords cs 2 n 0 pts)
  line_pushed =
      let free : count_of ws 2 < limit_of 2 = omega (arith, line_limit) in
      let row : List ℕ = num ∷ length pts / 3 ∷ [] in
      let long : length row ≡ width_of 2 = sym line_wide in
      let cs' : List Float = put_coords cs 2 (count_of ws 2) 0 pts in
      let kept = pushed_kept ws ok.words 2 (omega arith) row long free cs cs' line_filled (num + 1) in
      rw en
      record {
        map = map-lines ws cs _ cs' kept
            ∙ rw (
              pushed_next ws ok.words 2 (omega arith) row long free cs cs' line_filled (num + 1),
              pushed_records ws ok.words 2 (omega arith) row long free cs cs' line_filled (num + 1) line_string_in,
              line_here,
              map_lines_are ws cs,
              map_next ws cs,
              add-one num,
              eu,
            );
        kept = kept;
      }

-- ---- a rule less

module _ (ws : List ℕ) (cs : List Float) (ok : Sized ws cs) (j n : ℕ) (here : j < count_of ws 5) (en : n ≡ count_of ws 5) where
  pub rule_dropped : RuleDropped ws cs j (drop_row ws 5 j) (drop_coords cs 5 n j)
  rule_dropped =
      let kept = drop_all_kept ws cs ok 5 (omega arith) j here in
      rw en
      record {
        map = map_rules ws cs _ _ kept ∙ rw (drop_next ws ok.words 5 (omega arith) j here, drop_records ws cs ok 5 (omega arith) j here rule_in, map_rules_are ws cs, map_next ws cs);
        count = drop_count ws ok.words 5 (omega arith) j here;
        kept = kept;
      }

-- ---- a part of a rule's row written over

pub put_part_lem : (ws : List ℕ) → SizedWords ws → (i : ℕ) → i < count_of ws 5 → (o : ℕ) (s : List ℕ) → o + length s ≤ 92
    → RulePut ws i (pasted (row_of ws 5 i) o s (length s)) (put_part ws 5 i o s)
put_part_lem ws ok i here o s fits =
    let inside : o + length s ≤ width_of 5 = omega (arith, rule_wide) in
    let kept : (cs : List Float) → length cs ≡ all_coords → Kept ws cs 5 (put_part ws 5 i o s) cs = λ cs h. put_all_kept ws cs (record { words = ok; coords = h }) 5 (omega arith) i here o s inside in
    record {
      map = λ cs h. map_rules ws cs _ cs (kept cs h)
          ∙ rw (put_next ws ok 5 (omega arith) i here o s inside, put_records ws ok 5 (omega arith) i here o s inside rule_in cs, map_rules_are ws cs, map_next ws cs);
      row = put_row ws ok 5 (omega arith) i here o s inside;
      count = put_count ws ok 5 (omega arith) i here o s inside 5 (omega arith);
      kept = kept;
    }

-- one edit after the other, by what each keeps
pub kept_then : (ws : List ℕ) (cs : List Float) (k : ℕ) (ws₁ : List ℕ) (cs₁ : List Float) (ws₂ : List ℕ) (cs₂ : List Float)
    → Kept ws cs k ws₁ cs₁ → Kept ws₁ cs₁ k ws₂ cs₂ → Kept ws cs k ws₂ cs₂
kept_then ws cs k ws₁ cs₁ ws₂ cs₂ a b =
    record {
      others = λ m hm ne.
          let p = a.others m hm ne in
          let q = b.others m hm ne in
          record {
            count = q.count ∙ p.count;
            rows = λ i h. q.rows i (rw p.count h) ∙ p.rows i h;
            coords = λ i h. q.coords i (rw p.count h) ∙ p.coords i h;
          };
      sized = b.sized;
    }

rules_again : (m : Map) (i : ℕ) (r s : Rule) → with_rules (with_rules m (set m.rules i r)) (set (set m.rules i r) i s) ≡ with_rules m (set m.rules i s)
rules_again m i r s = rw (set-set m.rules i r s)

pub put_then : (ws : List ℕ) (i : ℕ) (r₁ ws₁ r₂ ws₂ : List ℕ) → RulePut ws i r₁ ws₁ → RulePut ws₁ i r₂ ws₂ → RulePut ws i r₂ ws₂
put_then ws i r₁ ws₁ r₂ ws₂ a b =
    record {
      map = λ cs h. b.map cs h ∙ rw (a.map cs h) (rules_again (map_of ws cs) i _ _);
      row = b.row;
      count = b.count ∙ a.count;
      kept = λ cs h. kept_then ws cs 5 ws₁ cs ws₂ cs (a.kept cs h) (b.kept cs h);
    }

pub row_long : (ws : List ℕ) → SizedWords ws → (i : ℕ) → i < count_of ws 5 → length (row_of ws 5 i) ≡ 92
row_long ws ok i here = length_row ws ok 5 i (omega arith) (omega (arith, ok.counts 5 (omega arith))) ∙ rule_wide

part_then : (r : List ℕ) (o : ℕ) (xs : List ℕ) → o < length r → pasted (pasted r o (length xs ∷ []) 1) (o + 1) xs (length xs) ≡ with_list r o xs
unfolding with_list
part_then r o xs h = rw (← set-pasted r o (length xs) h) (pasted_cons r o (length xs) xs (length xs) h)

-- the words after a list's count is stored are sized for its entries
pub count_ready : (ws : List ℕ) → SizedWords ws → (i : ℕ) → i < count_of ws 5 → (o x : ℕ) → o + 1 ≤ 92 → (l : List ℕ) → l ≡ put_part ws 5 i o (x ∷ []) → SizedWords l × (i < count_of l 5)
count_ready ws ok i here o x h l e =
    rw e (
      (put_kept ws ok 5 (omega arith) i here o (x ∷ []) (omega (arith, rule_wide))).sized,
      omega (arith, put_count ws ok 5 (omega arith) i here o (x ∷ []) (omega (arith, rule_wide)) 5 (omega arith)),
    )

pub list_put : (ws : List ℕ) → SizedWords ws → (i : ℕ) → i < count_of ws 5 → (o : ℕ) (xs ws₁ ws₂ : List ℕ) → o + 1 + length xs ≤ 92
    → ws₁ ≡ put_part ws 5 i o (length xs ∷ []) → ws₂ ≡ put_part ws₁ 5 i (o + 1) xs → RulePut ws i (with_list (row_of ws 5 i) o xs) ws₂
list_put ws ok i here o xs ws₁ ws₂ fits e₁ e₂ =
    let a : RulePut ws i (pasted (row_of ws 5 i) o (length xs ∷ []) 1) ws₁ = rw e₁ (put_part_lem ws ok i here o (length xs ∷ []) (omega arith)) in
    let s₁ : SizedWords ws₁ = rw e₁ (put_kept ws ok 5 (omega arith) i here o (length xs ∷ []) (omega (arith, rule_wide))).sized in
    let b : RulePut ws₁ i (pasted (row_of ws₁ 5 i) (o + 1) xs (length xs)) ws₂ = rw e₂ (put_part_lem ws₁ s₁ i (omega (arith, a.count)) (o + 1) xs fits) in
    let l = row_long ws ok i here in
    put_then ws i _ ws₁ _ ws₂ a (rw (a.row, part_then (row_of ws 5 i) o xs (omega arith)) at b)

pub line_put : (ws : List ℕ) → SizedWords ws → (i : ℕ) → i < count_of ws 5 → (flag line : ℕ) → RulePut ws i (with_rule_line (row_of ws 5 i) flag line) (put_part ws 5 i 3 (flag ∷ line ∷ []))
unfolding with_rule_line
line_put ws ok i here flag line = put_part_lem ws ok i here 3 (flag ∷ line ∷ []) (omega arith)

-- the coordinates after the housing is written are as many
pub housing_long : (cs : List Float) → length cs ≡ all_coords → (n : ℕ) → n < 64 → (pts : List Float) → length pts ≤ 192 → (l : List Float) → l ≡ put_coords cs 3 n 0 pts → length l ≡ all_coords
housing_long cs ok n h pts short l e = rw e (coord_long cs ok 3 (omega arith) n (omega (arith, signal_limit)) 0 pts (omega (arith, signal_room)))

-- ---- a new signal

module _ (c pts more : List Float) (long : length c ≡ 205) (short : length pts ≤ 192) (thirteen : length more ≡ 13) where
  both : List Float
  both = pasted (pasted c 0 pts (length pts)) 192 more (length more)

  under : (j : ℕ) → j < 192 → get_or both j nan ≡ get_or (pasted c 0 pts (length pts)) j nan
  unfolding both
  under j h = get_or_before (pasted c 0 pts (length pts)) 192 more (length more) j nan h (omega (arith, length-pasted c 0 pts (length pts) (omega arith) (le_refl _)))

  above : (j : ℕ) → j < 13 → get_or both (192 + j) nan ≡ get_or more j nan
  unfolding both
  above j h = get_or_in (pasted c 0 pts (length pts)) 192 more (length more) j nan (omega arith) (omega (arith, length-pasted c 0 pts (length pts) (omega arith) (le_refl _))) (le_refl _)

  housing_point : (j : ℕ) → j < length pts / 3 → point_from both (0 + j * 3) ≡ point_from (pasted c 0 pts (length pts)) (0 + j * 3)
  unfolding point_from
  housing_point j h = rw (under (0 + j * 3) (omega arith), under (0 + j * 3 + 1) (omega arith), under (0 + j * 3 + 2) (omega arith))

  housing : line_at both 0 (length pts / 3) ≡ polyline_of pts
  unfolding line_at
  housing = list_to_same _ _ (length pts / 3) housing_point ∙ opened
    where
      opened : list_to (λ i. point_from (pasted c 0 pts (length pts)) (0 + i * 3)) (length pts / 3) ≡ polyline_of pts
      opened = line_written_open c pts long short

  bulb_point : (j : ℕ) → j < 4 → point_from both (193 + j * 3) ≡ point_from more (1 + j * 3)
  unfolding point_from
  bulb_point j h =
      let a : 193 + j * 3 ≡ 192 + (1 + j * 3) = omega arith in
      let b : 193 + j * 3 + 1 ≡ 192 + (1 + j * 3 + 1) = omega arith in
      let d : 193 + j * 3 + 2 ≡ 192 + (1 + j * 3 + 2) = omega arith in
      rw (b, d, a, above (1 + j * 3) (omega arith), above (1 + j * 3 + 1) (omega arith), above (1 + j * 3 + 2) (omega arith))

  bulbs_here : (row : List ℕ) → get_or row 4 0 ≤ 4
      → list_to (bulb_at row both) (get_or row 4 0)
      ≡ list_to (λ i. record { position = point_from more (1 + i * 3); color = get_or row (5 + i * 2) 0; arrow = get_or row (6 + i * 2) 0 }) (get_or row 4 0)
  unfolding bulb_at
  bulbs_here row h = list_to_same _ _ (get_or row 4 0) (λ i g. rw (bulb_point i (omega arith)))

  signal_here : (row : List ℕ) → get_or row 2 0 ≡ length pts / 3 → get_or row 4 0 ≤ 4 → signal_in row both ≡ signal_of_parts row pts more
  unfolding signal_in signal_of_parts
  signal_here row e h =
      let a : get_or both 192 nan ≡ get_or more 0 nan = above 0 (omega arith) in
      rw (e, housing, a, bulbs_here row h)

  opened : both ≡ pasted (pasted c 0 pts (length pts)) 192 more (length more)
  unfolding both
  opened = refl

module _ (ws : List ℕ) (cs : List Float) (ok : Sized ws cs) (row : List ℕ) (pts more : List Float) (few : count_of ws 3 < 64) (long : length row ≡ 13)
    (number : get_or row 0 0 ≡ max 1 (next_of ws)) (points : get_or row 2 0 ≡ length pts / 3) (bulbs : get_or row 4 0 ≤ 4) (short : length pts ≤ 192) (thirteen : length more ≡ 13)
    (n : ℕ) (en : n ≡ count_of ws 3) where
  free : count_of ws 3 < limit_of 3
  free = omega (arith, signal_limit)

  wide : length row ≡ width_of 3
  wide = long ∙ sym signal_wide

  first : List Float
  first = put_coords cs 3 (count_of ws 3) 0 pts

  first_long : length first ≡ all_coords
  unfolding first
  first_long = coord_long cs ok.coords 3 (omega arith) (count_of ws 3) free 0 pts (omega (arith, signal_room))

  second : List Float
  second = put_coords first 3 (count_of ws 3) 192 more

  filled : Filled cs 3 (count_of ws 3) second
  unfolding first second
  filled =
      filled_more cs 3 (count_of ws 3) first
      (filled_more cs 3 (count_of ws 3) cs (filled_none cs 3 (count_of ws 3) ok.coords) (omega arith) free 0 pts (omega (arith, signal_room)))
      (omega arith) free 192 more (omega (arith, signal_room))

  its_coords : coords_of second 3 (count_of ws 3) ≡ pasted (pasted (coords_of cs 3 (count_of ws 3)) 0 pts (length pts)) 192 more (length more)
  unfolding first second
  its_coords =
      coord_here first first_long 3 (omega arith) (count_of ws 3) free 192 more (omega (arith, signal_room))
      ∙ rw (coord_here cs ok.coords 3 (omega arith) (count_of ws 3) free 0 pts (omega (arith, signal_room)))

  its_signal : signal_in row (coords_of second 3 (count_of ws 3)) ≡ signal_of_parts row pts more
  its_signal =
      let l : length (coords_of cs 3 (count_of ws 3)) ≡ 205 = length_coords cs ok.coords 3 (count_of ws 3) (omega arith) free ∙ signal_room in
      rw (its_coords, ← opened (coords_of cs 3 (count_of ws 3)) pts more l short thirteen)
      (signal_here (coords_of cs 3 (count_of ws 3)) pts more l short thirteen row points bulbs)

  pushed_second : SignalPushed ws cs row pts more (set_next (push_row ws 3 row) (get_or row 0 0 + 1)) second
  pushed_second =
      let kept = pushed_kept ws ok.words 3 (omega arith) row wide free cs second filled (get_or row 0 0 + 1) in
      record {
        map = map_signals ws cs _ second kept
            ∙ rw (
              pushed_next ws ok.words 3 (omega arith) row wide free cs second filled (get_or row 0 0 + 1),
              pushed_records ws ok.words 3 (omega arith) row wide free cs second filled (get_or row 0 0 + 1) signal_in,
              its_signal,
              map_signals_are ws cs,
              map_next ws cs,
              add-one (get_or row 0 0),
              number,
            );
        kept = kept;
      }

  pub signal_pushed : SignalPushed ws cs row pts more (set_next (push_row ws 3 row) (get_or row 0 0 + 1)) (put_coords (put_coords cs 3 n 0 pts) 3 n 192 more)
  unfolding first second
  signal_pushed = rw en pushed_second

-- ---- a new rule: its row d, into which the lanes and the signals are written

whole : (xs : List ℕ) → list_to (λ i. get_or xs i 0) (length xs) ≡ xs
whole xs = list_to_same (λ i. get_or xs (0 + i) 0) (λ i. get_or xs i 0) (length xs) (λ i h. rw zero-add) ∙ list_to-cut xs 0 (length xs) 0 (omega arith) ∙ cut_whole xs (length xs) refl

list_is : (r : List ℕ) (o : ℕ) (xs : List ℕ) → get_or r o 0 ≡ length xs → ((i : ℕ) → i < length xs → get_or r (o + 1 + i) 0 ≡ get_or xs i 0) → list_at r o ≡ xs
unfolding list_at
list_is r o xs e h = rw e (list_to_same (λ i. get_or xs i 0) (λ i. get_or r (o + 1 + i) 0) (length xs) h ∙ whole xs)

list_none : (r : List ℕ) (o : ℕ) → get_or r o 0 ≡ 0 → list_at r o ≡ []
unfolding list_at list_to
list_none r o e = rw e

module _ (d lanes signals : List ℕ) (long : length d ≡ 92) (few : length lanes ≤ 16) (less : length signals ≤ 16) where
  filled_row : List ℕ
  filled_row = pasted (pasted d 8 lanes (length lanes)) 42 signals (length signals)

  one_long : length (pasted d 8 lanes (length lanes)) ≡ 92
  one_long = length-pasted d 8 lanes (length lanes) (omega arith) (le_refl _) ∙ long

  pub row_filled_long : length (pasted (pasted d 8 lanes (length lanes)) 42 signals (length signals)) ≡ 92
  row_filled_long = length-pasted (pasted d 8 lanes (length lanes)) 42 signals (length signals) (omega (arith, one_long)) (le_refl _) ∙ one_long

  low : (j : ℕ) → j < 42 → get_or filled_row j 0 ≡ get_or (pasted d 8 lanes (length lanes)) j 0
  unfolding filled_row
  low j h = get_or_before (pasted d 8 lanes (length lanes)) 42 signals (length signals) j 0 h (omega (arith, one_long))

  word_before : (j : ℕ) → j < 8 → get_or filled_row j 0 ≡ get_or d j 0
  word_before j h = low j (omega arith) ∙ get_or_before d 8 lanes (length lanes) j 0 h (omega arith)

  word_between : (j : ℕ) → 24 ≤ j → j < 42 → get_or filled_row j 0 ≡ get_or d j 0
  word_between j h g = low j g ∙ get_d_past d 8 lanes (length lanes) j 0 (omega arith) (omega arith) (le_refl _)

  lane_entry : (i : ℕ) → i < length lanes → get_or filled_row (8 + i) 0 ≡ get_or lanes i 0
  lane_entry i h = low (8 + i) (omega arith) ∙ get_or_in d 8 lanes (length lanes) i 0 h (omega arith) (le_refl _)

  signal_entry : (i : ℕ) → i < length signals → get_or filled_row (42 + i) 0 ≡ get_or signals i 0
  unfolding filled_row
  signal_entry i h = get_or_in (pasted d 8 lanes (length lanes)) 42 signals (length signals) i 0 h (omega (arith, one_long)) (le_refl _)

  module _ (num kind value flag line : ℕ) (e0 : get_or d 0 0 ≡ num) (e1 : get_or d 1 0 ≡ kind) (e2 : get_or d 2 0 ≡ value) (e3 : get_or d 3 0 ≡ flag) (e4 : get_or d 4 0 ≡ line)
      (e5 : get_or d 5 0 ≡ 0) (e7 : get_or d 7 0 ≡ length lanes) (e24 : get_or d 24 0 ≡ 0) (e41 : get_or d 41 0 ≡ length signals) where
    its_lanes : list_at filled_row 7 ≡ lanes
    its_lanes = list_is filled_row 7 lanes (word_before 7 (omega arith) ∙ e7) lane_entry

    its_signals : list_at filled_row 41 ≡ signals
    its_signals = list_is filled_row 41 signals (word_between 41 (omega arith) (omega arith) ∙ e41) signal_entry

    its_controlled : list_at filled_row 24 ≡ []
    its_controlled = list_none filled_row 24 (word_between 24 (omega arith) (omega arith) ∙ e24)

    light_body : (c : List Float) → body_of 1 filled_row c ≡ new_body 1 value flag line signals
    unfolding flag_at
    light_body c = rw (its_signals, word_before 3 (omega arith), e3, word_before 4 (omega arith), e4)

    sign_body : (c : List Float) → body_of 2 filled_row c ≡ new_body 2 value flag line signals
    unfolding flag_at
    sign_body c = rw (word_before 2 (omega arith), e2, word_before 5 (omega arith), e5, word_before 3 (omega arith), e3, word_before 4 (omega arith), e4)

    marking_body : (c : List Float) → body_of 3 filled_row c ≡ new_body 3 value flag line signals
    marking_body c = rw (word_before 4 (omega arith), e4)

    its_body : (c : List Float) → kind ≤ 3 → 0 < kind → body_of kind filled_row c ≡ new_body kind value flag line signals
    its_body c h g = go kind h g
      where
        go : (k : ℕ) → k ≤ 3 → 0 < k → body_of k filled_row c ≡ new_body k value flag line signals
        go zero h g = absurd (let q : ⊥ = omega arith in q)
        go (suc zero) h g = light_body c
        go (suc (suc zero)) h g = sign_body c
        go (suc (suc (suc zero))) h g = marking_body c
        go (suc (suc (suc (suc k)))) h g = absurd (let q : ⊥ = omega arith in q)

    its_rule : (c : List Float) → kind ≤ 3 → 0 < kind → rule_in filled_row c ≡ record { num = num; body = new_body kind value flag line signals; lanes = lanes; controlled = [] }
    unfolding rule_in
    its_rule c h g = rw (word_before 0 (omega arith), e0, word_before 1 (omega arith), e1, its_body c h g, its_lanes, its_controlled)

    pub rule_pushed : (ws : List ℕ) → SizedWords ws → count_of ws 5 < 128 → num ≡ max 1 (next_of ws) → kind ≤ 3 → 0 < kind
        → RulePushed ws (new_body kind value flag line signals) lanes (set_next (push_row ws 5 (pasted (pasted d 8 lanes (length lanes)) 42 signals (length signals))) (num + 1))
    unfolding filled_row
    rule_pushed ws ok room eu h g =
        let free : count_of ws 5 < limit_of 5 = omega (arith, rule_limit) in
        let wide : length filled_row ≡ width_of 5 = row_filled_long ∙ sym rule_wide in
        let kept : (cs : List Float) → length cs ≡ all_coords → Kept ws cs 5 (set_next (push_row ws 5 filled_row) (num + 1)) cs =
        λ cs l. pushed_kept ws ok 5 (omega arith) filled_row wide free cs cs (filled_none cs 5 (count_of ws 5) l) (num + 1) in
        record {
          map = λ cs l. map_rules ws cs _ cs (kept cs l)
              ∙ rw (
                pushed_next ws ok 5 (omega arith) filled_row wide free cs cs (filled_none cs 5 (count_of ws 5) l) (num + 1),
                pushed_records ws ok 5 (omega arith) filled_row wide free cs cs (filled_none cs 5 (count_of ws 5) l) (num + 1) rule_in,
                its_rule (coords_of cs 5 (count_of ws 5)) h g,
                map_rules_are ws cs,
                map_next ws cs,
                add-one num,
                eu,
              );
          kept = kept;
        }

-- the same, of what the stores and copies left
pub row_long_is : (d lanes signals one two : List ℕ) → length d ≡ 92 → length lanes ≤ 16 → length signals ≤ 16
    → one ≡ pasted d 8 lanes (length lanes) → two ≡ pasted one 42 signals (length signals) → length two ≡ width_of 5
row_long_is d lanes signals one two long few less e₁ e₂ = rw (e₂, e₁) (row_filled_long d lanes signals long few less ∙ sym rule_wide)

pub rule_pushed_is : (d lanes signals one two ws ws₁ ws₂ : List ℕ) → length d ≡ 92 → length lanes ≤ 16 → length signals ≤ 16
    → one ≡ pasted d 8 lanes (length lanes) → two ≡ pasted one 42 signals (length signals) → ws₁ ≡ push_row ws 5 two
    → (num kind value flag line : ℕ) → ws₂ ≡ set_next ws₁ (num + 1) → get_or d 0 0 ≡ num → get_or d 1 0 ≡ kind → get_or d 2 0 ≡ value → get_or d 3 0 ≡ flag → get_or d 4 0 ≡ line
    → get_or d 5 0 ≡ 0 → get_or d 7 0 ≡ length lanes → get_or d 24 0 ≡ 0 → get_or d 41 0 ≡ length signals
    → SizedWords ws → count_of ws 5 < 128 → num ≡ max 1 (next_of ws) → kind ≤ 3 → 0 < kind → RulePushed ws (new_body kind value flag line signals) lanes ws₂
rule_pushed_is d lanes signals one two ws ws₁ ws₂ long few less a b e num kind value flag line f e0 e1 e2 e3 e4 e5 e7 e24 e41 ok room eu h g =
    rw (f, e, b, a) (rule_pushed d lanes signals long few less num kind value flag line e0 e1 e2 e3 e4 e5 e7 e24 e41 ws ok room eu h g)

-- a new rule's words are those of its body, and its kind is one of the three
module _ (w : List ℕ) (signals : List ℕ) where
  pub told_body : (r : NewRule) → w ≡ rule_words r → new_body (get_or w 0 0) (get_or w 1 0) (get_or w 2 0) (get_or w 3 0) signals ≡ body_of_new r signals
  told_body (Light None) e = rw e
  told_body (Light (Some line)) e = rw e
  told_body (Sign value None) e = rw e
  told_body (Sign value (Some line)) e = rw e
  told_body (Marking line) e = rw e

  pub told_kind : (r : NewRule) → w ≡ rule_words r → (get_or w 0 0 ≤ 3) × (0 < get_or w 0 0)
  told_kind (Light None) e = rw e (omega arith, omega arith)
  told_kind (Light (Some line)) e = rw e (omega arith, omega arith)
  told_kind (Sign value None) e = rw e (omega arith, omega arith)
  told_kind (Sign value (Some line)) e = rw e (omega arith, omega arith)
  told_kind (Marking line) e = rw e (omega arith, omega arith)

-- ---- what a changed row says: for who puts a rule's lists or line

module _ (r : List ℕ) (long : length r ≡ 92) (o : ℕ) (xs : List ℕ) (fits : o + 1 + length xs ≤ 92) where
  entries : length xs ≤ length xs
  entries = le_refl _

  before_list : (j : ℕ) → j < o → get_or (with_list r o xs) j 0 ≡ get_or r j 0
  unfolding with_list
  before_list j h = get_or_before r o (length xs ∷ xs) (suc (length xs)) j 0 h (omega arith)

  past_list : (j : ℕ) → o + 1 + length xs ≤ j → get_or (with_list r o xs) j 0 ≡ get_or r j 0
  unfolding with_list
  past_list j h = get_d_past r o (length xs ∷ xs) (suc (length xs)) j 0 (omega arith) (omega arith) (omega arith)

  its_count : get_or (with_list r o xs) o 0 ≡ length xs
  unfolding with_list
  its_count = subst (λ (p : ℕ). get_or (pasted r o (length xs ∷ xs) (suc (length xs))) p 0 ≡ length xs) (add-zero o)
      (get_or_in r o (length xs ∷ xs) (suc (length xs)) 0 0 (omega arith) (omega arith) (omega arith))

  its_entry : (i : ℕ) → i < length xs → get_or (with_list r o xs) (o + 1 + i) 0 ≡ get_or xs i 0
  unfolding with_list
  its_entry i h =
      let e : o + 1 + i ≡ o + suc i = omega arith in
      rw e (get_or_in r o (length xs ∷ xs) (suc (length xs)) (suc i) 0 (omega arith) (omega arith) (omega arith))

  pub list_there : list_at (with_list r o xs) o ≡ xs
  list_there = list_is (with_list r o xs) o xs its_count its_entry

  -- a list that lies past it, and one that lies before it
  pub list_past : (p : ℕ) → o + 1 + length xs ≤ p → list_at (with_list r o xs) p ≡ list_at r p
  unfolding list_at
  list_past p h = rw (past_list p h) (list_to_same _ _ (get_or r p 0) (λ i g. past_list (p + 1 + i) (omega arith)))

  pub list_before : (p : ℕ) → p + 1 + get_or r p 0 ≤ o → p < o → list_at (with_list r o xs) p ≡ list_at r p
  unfolding list_at
  list_before p h g = rw (before_list p g) (list_to_same _ _ (get_or r p 0) (λ i k. before_list (p + 1 + i) (omega arith)))

  pub word_stays : (j : ℕ) → j < o → get_or (with_list r o xs) j 0 ≡ get_or r j 0
  word_stays = before_list

-- a rule with other lanes, or with other controlled crosswalks, is the definition's
module _ (r : List ℕ) (long : length r ≡ 92) (xs : List ℕ) (short : length xs ≤ 16) where
  lanes_body : (k : ℕ) (c : List Float) → body_of k (with_list r 7 xs) c ≡ body_of k r c
  unfolding flag_at
  lanes_body zero c = refl
  lanes_body (suc zero) c = rw (list_past r long 7 xs (omega arith) 41 (omega arith), word_stays r long 7 xs (omega arith) 3 (omega arith), word_stays r long 7 xs (omega arith) 4 (omega arith))
  lanes_body (suc (suc zero)) c =
      rw (
        word_stays r long 7 xs (omega arith) 2 (omega arith),
        word_stays r long 7 xs (omega arith) 5 (omega arith),
        word_stays r long 7 xs (omega arith) 6 (omega arith),
        word_stays r long 7 xs (omega arith) 3 (omega arith),
        word_stays r long 7 xs (omega arith) 4 (omega arith),
      )
  lanes_body (suc (suc (suc zero))) c = rw (word_stays r long 7 xs (omega arith) 4 (omega arith))
  lanes_body (suc (suc (suc (suc zero)))) c =
      rw (list_past r long 7 xs (omega arith) 41 (omega arith), list_past r long 7 xs (omega arith) 58 (omega arith), list_past r long 7 xs (omega arith) 75 (omega arith))
  lanes_body (suc (suc (suc (suc (suc zero))))) c = rw (word_stays r long 7 xs (omega arith) 2 (omega arith), list_past r long 7 xs (omega arith) 75 (omega arith))
  lanes_body (suc (suc (suc (suc (suc (suc zero)))))) c = rw (word_stays r long 7 xs (omega arith) 2 (omega arith))
  lanes_body (suc (suc (suc (suc (suc (suc (suc k))))))) c = refl

  pub with_lanes_lem : (c : List Float) → rule_in (with_list r 7 xs) c ≡ rule_with (rule_in r c) (rule_in r c).body xs (rule_in r c).controlled
  unfolding rule_in
  with_lanes_lem c =
      rw (
        word_stays r long 7 xs (omega arith) 0 (omega arith),
        word_stays r long 7 xs (omega arith) 1 (omega arith),
        lanes_body (get_or r 1 0) c,
        list_there r long 7 xs (omega arith),
        list_past r long 7 xs (omega arith) 24 (omega arith),
      )

  controlled_body : (k : ℕ) (c : List Float) → body_of k (with_list r 24 xs) c ≡ body_of k r c
  unfolding flag_at
  controlled_body zero c = refl
  controlled_body (suc zero) c = rw (list_past r long 24 xs (omega arith) 41 (omega arith), word_stays r long 24 xs (omega arith) 3 (omega arith), word_stays r long 24 xs (omega arith) 4 (omega arith))
  controlled_body (suc (suc zero)) c =
      rw (
        word_stays r long 24 xs (omega arith) 2 (omega arith),
        word_stays r long 24 xs (omega arith) 5 (omega arith),
        word_stays r long 24 xs (omega arith) 6 (omega arith),
        word_stays r long 24 xs (omega arith) 3 (omega arith),
        word_stays r long 24 xs (omega arith) 4 (omega arith),
      )
  controlled_body (suc (suc (suc zero))) c = rw (word_stays r long 24 xs (omega arith) 4 (omega arith))
  controlled_body (suc (suc (suc (suc zero)))) c =
      rw (list_past r long 24 xs (omega arith) 41 (omega arith), list_past r long 24 xs (omega arith) 58 (omega arith), list_past r long 24 xs (omega arith) 75 (omega arith))
  controlled_body (suc (suc (suc (suc (suc zero))))) c = rw (word_stays r long 24 xs (omega arith) 2 (omega arith), list_past r long 24 xs (omega arith) 75 (omega arith))
  controlled_body (suc (suc (suc (suc (suc (suc zero)))))) c = rw (word_stays r long 24 xs (omega arith) 2 (omega arith))
  controlled_body (suc (suc (suc (suc (suc (suc (suc k))))))) c = refl

  pub with_controlled : (c : List Float) → get_or r 7 0 ≤ 16 → rule_in (with_list r 24 xs) c ≡ rule_with (rule_in r c) (rule_in r c).body (rule_in r c).lanes xs
  unfolding rule_in
  with_controlled c h =
      rw (
        word_stays r long 24 xs (omega arith) 0 (omega arith),
        word_stays r long 24 xs (omega arith) 1 (omega arith),
        controlled_body (get_or r 1 0) c,
        list_before r long 24 xs (omega arith) 7 (omega arith) (omega arith),
        list_there r long 24 xs (omega arith),
      )

-- a light with other signals, a crossing with other lines, a light with another line
module _ (r : List ℕ) (long : length r ≡ 92) (c : List Float) where
  pub with_signals : (xs : List ℕ) → length xs ≤ 16 → get_or r 1 0 ≡ 1 → get_or r 7 0 ≤ 16 → get_or r 24 0 ≤ 16
      → rule_in (with_list r 41 xs) c ≡ rule_with (rule_in r c) (light xs (cond (flag_at r 3) (Some (get_or r 4 0)) None)) (rule_in r c).lanes (rule_in r c).controlled
  unfolding rule_in flag_at
  with_signals xs short k l d =
      rw (
        word_stays r long 41 xs (omega arith) 0 (omega arith),
        word_stays r long 41 xs (omega arith) 1 (omega arith),
        k,
        list_there r long 41 xs (omega arith),
        word_stays r long 41 xs (omega arith) 3 (omega arith),
        word_stays r long 41 xs (omega arith) 4 (omega arith),
        list_before r long 41 xs (omega arith) 7 (omega arith) (omega arith),
        list_before r long 41 xs (omega arith) 24 (omega arith) (omega arith),
      )

  pub with_lines_lem : (xs : List ℕ) → length xs ≤ 16 → get_or r 1 0 ≡ 5 → get_or r 7 0 ≤ 16 → get_or r 24 0 ≤ 16
      → rule_in (with_list r 75 xs) c ≡ rule_with (rule_in r c) (crossing (get_or r 2 0) xs) (rule_in r c).lanes (rule_in r c).controlled
  unfolding rule_in
  with_lines_lem xs short k l d =
      rw (
        word_stays r long 75 xs (omega arith) 0 (omega arith),
        word_stays r long 75 xs (omega arith) 1 (omega arith),
        k,
        list_there r long 75 xs (omega arith),
        word_stays r long 75 xs (omega arith) 2 (omega arith),
        list_before r long 75 xs (omega arith) 7 (omega arith) (omega arith),
        list_before r long 75 xs (omega arith) 24 (omega arith) (omega arith),
      )

  module _ (flag line : ℕ) where
    line_before : (j : ℕ) → j < 3 → get_or (with_rule_line r flag line) j 0 ≡ get_or r j 0
    unfolding with_rule_line
    line_before j h = get_or_before r 3 (flag ∷ line ∷ []) 2 j 0 h (omega arith)

    line_past : (j : ℕ) → 5 ≤ j → get_or (with_rule_line r flag line) j 0 ≡ get_or r j 0
    unfolding with_rule_line
    line_past j h = get_d_past r 3 (flag ∷ line ∷ []) 2 j 0 h (omega arith) (omega arith)

    line_flag : get_or (with_rule_line r flag line) 3 0 ≡ flag
    unfolding with_rule_line
    line_flag = get_or_in r 3 (flag ∷ line ∷ []) 2 0 0 (omega arith) (omega arith) (omega arith)

    line_number : get_or (with_rule_line r flag line) 4 0 ≡ line
    unfolding with_rule_line
    line_number = get_or_in r 3 (flag ∷ line ∷ []) 2 1 0 (omega arith) (omega arith) (omega arith)

    line_list : (p : ℕ) → 5 ≤ p → list_at (with_rule_line r flag line) p ≡ list_at r p
    unfolding list_at
    line_list p h = rw (line_past p h) (list_to_same _ _ (get_or r p 0) (λ i g. line_past (p + 1 + i) (omega arith)))

    pub with_line_lem : get_or r 1 0 ≡ 1
        → rule_in (with_rule_line r flag line) c ≡ rule_with (rule_in r c) (light (list_at r 41) (cond (not (eqb flag 0)) (Some line) None)) (rule_in r c).lanes (rule_in r c).controlled
    unfolding rule_in flag_at
    with_line_lem k =
        rw (
          line_before 0 (omega arith),
          line_before 1 (omega arith),
          k,
          line_list 41 (omega arith),
          line_flag,
          line_number,
          line_list 7 (omega arith),
          line_list 24 (omega arith),
        )
