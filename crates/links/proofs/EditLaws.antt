-- The definition of `set_regulatory_links` in the steps of the code, and its ceilings.
use Prim.Native.Nat.{ℕ, zero, suc, ◌+◌, ◌^◌, ◌<◌}
use mathlib.Core.Path.{◌≡◌, refl, sym, ap, ◌∙◌}
use mathlib.Core.Bool.{Bool, true, false, ◌&&◌, cond}
use mathlib.Core.List.{List, [], ◌∷◌}
use native.Mathlib.Omega.{arith}
use lib.Dec.{eqb, leb}
use lib.Ieee.{Float}
use lib.ListN.{length, get_or, set, length-set}
use borrow.Author.Tests.{ne_eqb, le-leb, lt-leb, leb-true}
use Rattle.refusal.specs.Answer.{Answer, refused, done, ◌>>=◌, ◌>>◌, refuse_when, present}
use Rattle.rows.specs.Lists.{every, twice}
use Rattle.rows.specs.Table.{replaced}
use Rattle.rows.proofs.Indexed.{get_or-list_to}
use Rattle.codec.proofs.Fits.{number_below}
use Rattle.store.specs.Layout.{count_of, row_of, coords_of, records_of}
use Rattle.store.proofs.StoreLaws.{length_records}
use Rattle.std.specs.Prelude.{Some, Option, None}
use Rattle.map.specs.Record.{RuleBody, light, sign, marking, right_of_way, crossing, other, Lane, LineString, Crosswalk, Rule, Map}
use Rattle.map.specs.Ceilings.{max_stop_lines, max_signals, max_rules, max_points, body_within, rule_within, body_points, rule_points, points, within_ceilings}
use Rattle.map.specs.Lookup.{rule_of, unknown_in}
use Rattle.map.specs.Rows.{with_rules}
use Rattle.map.specs.Tables.{body_of, rule_in, map_of}
use Rattle.map.specs.Access.{lookup}
use Rattle.map.proofs.ByKind.{up₈}
use Rattle.map.proofs.Parts.{map-parts, rules_within}
use Rattle.map.proofs.ReadLaws.{found_index, rule_number_lem}
use Rattle.map.proofs.ReplaceLaws.{found_number, rule_replaced}
use Rattle.map.proofs.SoundLaws.{Sound, record_at}
use Rattle.map.proofs.UpdateLaws.{rule_limit}
use Rattle.place.specs.Place.{refuse_found}
use Rattle.edit.specs.Edit.{Draft}
use Rattle.edit.specs.Links.{RegulatoryLinks, relinked, same_links, link_changes, links_edit}
use Rattle.finishing.specs.Grown.{grown_within}
use Rattle.finishing.proofs.CeilingLaws.{every_set, total-set, few_lines, few_signals, within_grown, grown_rules, points_rules}
use Rattle.linking.specs.Linking.{twice_checks, list_checks}
use Rattle.linking.proofs.LightLaws.{empty_is, light_relinked}
use Rattle.link_plan.specs.LinkPlan.{rule_checks, linked_body, linked_rule, rule_at, links_fit}
use Rattle.links.specs.Linked.{sorted_links, links_checks, draft_for, rising_edit}

-- ---- the steps

pub relinked_is : (m : Map) (a : RegulatoryLinks) (w : RuleBody)
    → relinked m a w ≡ (rule_checks m w (length a.lanes) (length a.crosswalks) a.stop_lines >> done (linked_body w a.stop_lines))
unfolding relinked rule_checks linked_body
relinked_is m a (light signals line) = light_relinked m a signals line
relinked_is m a (crossing k own) = rw (empty_is a.crosswalks)
relinked_is m a (marking line) = rw (empty_is a.crosswalks)
relinked_is m a (sign type shape line) = refl
relinked_is m a (right_of_way priority yielding own) = refl
relinked_is m a (other k) = refl

regroup : {B : Type 0} (t₁ t₂ t₃ f₁ f₂ f₃ : Answer (Unit {0})) (x : Answer B)
    → (t₁ >> (t₂ >> (t₃ >> (f₁ >> (f₂ >> (f₃ >> x)))))) ≡ (((t₁ >> (t₂ >> t₃)) >> (f₁ >> (f₂ >> f₃))) >> x)
regroup (refused n ds) t₂ t₃ f₁ f₂ f₃ x = refl
regroup (done u) (refused n ds) t₃ f₁ f₂ f₃ x = refl
regroup (done u) (done v) (refused n ds) f₁ f₂ f₃ x = refl
regroup (done u) (done v) (done w) (refused n ds) f₂ f₃ x = refl
regroup (done u) (done v) (done w) (done y) (refused n ds) f₃ x = refl
regroup (done u) (done v) (done w) (done y) (done z) (refused n ds) x = refl
regroup (done u) (done v) (done w) (done y) (done z) (done q) x = refl

then_bind : {A B : Type 0} (u : Answer (Unit {0})) (w : A) (f : A → Answer B) → ((u >> done w) >>= f) ≡ (u >> f w)
then_bind (refused n ds) w f = refl
then_bind (done u) w f = refl

pub edit_is : (a : RegulatoryLinks) (m : Map) → links_edit a m ≡ (links_checks a m >> rising_edit (sorted_links a) m)
unfolding links_edit links_checks rising_edit list_checks twice_checks draft_for
edit_is a m = go (rule_of m a.rule)
  where
    b : RegulatoryLinks
    b = sorted_links a

    draft : Rule → RuleBody → Draft
    draft r w =
        let s : Rule = record { num = r.num; body = w; lanes = b.lanes; controlled = b.crosswalks } in
        record { map = with_rules m (replaced (λ x. x.num) s m.rules); id = r.num; stored = []; ends = None; changes = link_changes (same_links r s) r.num }

    go : (o : Option Rule) → (present o 2 (8 ∷ a.rule ∷ []) >>= λ r.
        refuse_when (twice a.lanes) 3 (1 ∷ []) >> (refuse_when (twice a.crosswalks) 3 (2 ∷ []) >> (refuse_when (twice a.stop_lines) 3 (3 ∷ [])
        >> (refuse_found (unknown_in (λ (l : Lane). l.num) m.lanes b.lanes) 1 >> (refuse_found (unknown_in (λ (c : Crosswalk). c.num) m.crosswalks b.crosswalks) 7
        >> (refuse_found (unknown_in (λ (l : LineString). l.num) m.stop_lines b.stop_lines) 5 >> (relinked m b r.body >>= λ w. done (draft r w))))))))
        ≡ ((present o 2 (8 ∷ a.rule ∷ []) >> list_checks m a.lanes a.crosswalks a.stop_lines)
        >> (present o 2 (8 ∷ a.rule ∷ []) >>= λ r. rule_checks m r.body (length b.lanes) (length b.crosswalks) b.stop_lines >> done (draft r (linked_body r.body b.stop_lines))))
    go None = refl
    go (Some r) =
        regroup (refuse_when (twice a.lanes) 3 (1 ∷ [])) (refuse_when (twice a.crosswalks) 3 (2 ∷ [])) (refuse_when (twice a.stop_lines) 3 (3 ∷ []))
        (refuse_found (unknown_in (λ (l : Lane). l.num) m.lanes b.lanes) 1) (refuse_found (unknown_in (λ (c : Crosswalk). c.num) m.crosswalks b.crosswalks) 7)
        (refuse_found (unknown_in (λ (l : LineString). l.num) m.stop_lines b.stop_lines) 5) (relinked m b r.body >>= λ w. done (draft r w))
        ∙ ap (λ (x : Answer Draft). list_checks m a.lanes a.crosswalks a.stop_lines >> x)
        (ap (λ (x : Answer RuleBody). x >>= λ w. done (draft r w)) (relinked_is m b r.body)
        ∙ then_bind (rule_checks m r.body (length b.lanes) (length b.crosswalks) b.stop_lines) (linked_body r.body b.stop_lines) (λ w. done (draft r w)))

-- ---- the ceilings

module _ (lines : List ℕ) (row : List ℕ) (d : List Float) where
  body_within_lem : (k : ℕ) → body_within (body_of k row d) ≡ true → body_within (linked_body (body_of k row d) lines) ≡ cond (eqb k 5) (leb (length lines) 16) true
  unfolding body_within linked_body
  body_within_lem zero h = refl
  body_within_lem (suc zero) h = h
  body_within_lem (suc (suc zero)) h = h
  body_within_lem (suc (suc (suc zero))) h = refl
  body_within_lem (suc (suc (suc (suc zero)))) h = h
  body_within_lem (suc (suc (suc (suc (suc zero))))) h = refl
  body_within_lem (suc (suc (suc (suc (suc (suc zero)))))) h = refl
  body_within_lem (suc (suc (suc (suc (suc (suc (suc k))))))) h = rw (ne_eqb (suc (suc (suc (suc (suc (suc (suc k))))))) 5 (λ e. let z : ⊥ = omega arith in z))

body_points_lem : (w : RuleBody) (lines : List ℕ) → body_points (linked_body w lines) ≡ body_points w
unfolding body_points linked_body
body_points_lem (light signals line) lines = refl
body_points_lem (crossing k own) lines = refl
body_points_lem (marking line) lines = refl
body_points_lem (sign type shape line) lines = refl
body_points_lem (right_of_way priority yielding own) lines = refl
body_points_lem (other k) lines = refl

turn : (w l c : Bool) → ((w && l) && c) ≡ ((l && c) && w)
turn true true true = refl
turn true true false = refl
turn true false c = refl
turn false true true = refl
turn false true false = refl
turn false false c = refl

first_of : (a b : Bool) → (a && b) ≡ true → a ≡ true
first_of true b e = refl
first_of false b e = e

only_rules : (x y z w p : Bool) → x ≡ true → y ≡ true → z ≡ true → p ≡ true → (x && y && z && true && true && w && p) ≡ w
only_rules x y z true p a b c d = rw (a, b, c, d)
only_rules x y z false p a b c d = rw (a, b, c)

module _ (ws : List ℕ) (cs : List Float) (ok : Sound ws cs) (n i : ℕ) (found : lookup ws 5 n ≡ Some i) (b : RegulatoryLinks) where
  pub here : i < count_of ws 5
  here = (found_index (λ (r : Rule). r.num) rule_in rule_number_lem ws cs 5 (omega arith) n i found).1

  abbrev m : Map
  m = map_of ws cs

  abbrev new : Rule
  new = linked_rule (rule_at ws cs i) b.lanes b.crosswalks b.stop_lines

  rules_long : length (map_of ws cs).rules ≡ count_of ws 5
  unfolding map_of
  rules_long = length_records rule_in ws cs 5

  rule_there : (z : Rule) → get_or (map_of ws cs).rules i z ≡ rule_at ws cs i
  unfolding map_of records_of
  rule_there z = get_or-list_to (λ j. rule_in (row_of ws 5 j) (coords_of cs 5 j)) (count_of ws 5) i z here

  its_rule : rule_within (rule_at ws cs i) ≡ true
  unfolding map_of
  its_rule = record_at rule_within rule_in ws cs 5 (rules_within (map_of ws cs) ok.map) i here

  its_body : body_within (body_of (get_or (row_of ws 5 i) 1 0) (row_of ws 5 i) (coords_of cs 5 i)) ≡ true
  unfolding rule_within rule_in
  its_body = first_of _ _ (first_of _ _ its_rule)

  new_within : rule_within new ≡ links_fit (get_or (row_of ws 5 i) 1 0) (length b.lanes) (length b.crosswalks) (length b.stop_lines)
  unfolding rule_within rule_in links_fit
  new_within =
      turn _ (leb (length b.lanes) 16) (leb (length b.crosswalks) 16)
      ∙ ap (λ (w : Bool). leb (length b.lanes) 16 && leb (length b.crosswalks) 16 && w) (body_within_lem b.stop_lines (row_of ws 5 i) (coords_of cs 5 i) (get_or (row_of ws 5 i) 1 0) its_body)

  same_points : rule_points new ≡ rule_points (rule_at ws cs i)
  unfolding rule_points
  same_points = body_points_lem (rule_at ws cs i).body b.stop_lines

  points_stay : points (with_rules m (set m.rules i new)) ≡ points m
  points_stay =
      omega (arith, points_rules m (set m.rules i new), total-set rule_points m.rules i new new (omega (arith, rules_long, here)), same_points, ap rule_points (rule_there new))

  set-within : within_ceilings (with_rules m (set m.rules i new)) ≡ links_fit (get_or (row_of ws 5 i) 1 0) (length b.lanes) (length b.crosswalks) (length b.stop_lines)
  unfolding grown_within every
  set-within =
      within_grown m (with_rules m (set m.rules i new)) [] [] (grown_rules m (set m.rules i new)) ok.map
      ∙ only_rules (leb (length m.stop_lines + 0) max_stop_lines) (leb (length m.signals + 0) max_signals) (leb (length (set m.rules i new)) max_rules) (every rule_within (set m.rules i new)) (leb (points (with_rules m (set m.rules i new))) max_points)
      (le-leb (length m.stop_lines + 0) max_stop_lines (let z = leb-true (length m.stop_lines) max_stop_lines (few_lines m ok.map) in omega arith))
      (le-leb (length m.signals + 0) max_signals (let z = leb-true (length m.signals) max_signals (few_signals m ok.map) in omega arith))
      (le-leb (length (set m.rules i new)) max_rules (let z = ok.sized.words.counts 5 (omega arith) in omega (arith, length-set m.rules i new, rules_long, rule_limit)))
      (ap (λ (p : ℕ). leb p max_points) points_stay ∙ (map-parts m ok.map).few)
      ∙ every_set rule_within m.rules i new (omega (arith, rules_long, here)) (rules_within m ok.map)
      ∙ new_within

  -- ---- the draft

  abbrev pub draft : Draft
  draft = draft_for b m (rule_at ws cs i)

  pub draft_set : set m.rules i new ≡ replaced (λ (r : Rule). r.num) new m.rules
  draft_set = sym (rule_replaced ws cs n i found (up₈ m ok.map) new (found_number ws cs n i found))

  pub draft_map : draft.map ≡ with_rules m (set m.rules i new)
  unfolding draft_for
  draft_map = ap (with_rules m) (sym draft_set)

  pub draft_changes : draft.changes ≡ link_changes (same_links (rule_at ws cs i) new) n
  unfolding draft_for
  draft_changes = ap (link_changes (same_links (rule_at ws cs i) new)) (found_number ws cs n i found)

  pub draft_id : draft.id ≡ n
  unfolding draft_for
  draft_id = found_number ws cs n i found

  pub draft_stored : draft.stored ≡ []
  unfolding draft_for
  draft_stored = refl

  pub draft_ends : draft.ends ≡ None
  unfolding draft_for
  draft_ends = refl

  pub draft_within : within_ceilings draft.map ≡ links_fit (get_or (row_of ws 5 i) 1 0) (length b.lanes) (length b.crosswalks) (length b.stop_lines)
  draft_within = ap within_ceilings draft_map ∙ set-within

  pub draft_early : false ≡ leb (2 ^ 64) draft.map.next
  draft_early = sym (ap (λ (x : Map). leb (2 ^ 64) x.next) draft_map ∙ lt-leb (2 ^ 64) m.next (number_below m.next (map-parts m ok.map).next))
