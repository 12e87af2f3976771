-- The draft of the links has the shape.
use mathlib.Core.Path.{◌≡◌, refl, sym, ap, subst}
use mathlib.Core.Bool.{Bool, true, false, not, ◌&&◌, ◌||◌, cond}
use Rattle.std.specs.Prelude.{Option, None, Some}
use mathlib.Core.List.{List, [], ◌∷◌, append-nil}
use Prim.Native.Nat.{ℕ}
use lib.Dec.{eqb, ltb}
use lib.ListN.{length}
use native.Mathlib.Omega.{arith}
use borrow.Author.Tests.{eq-eqb}
use Rattle.refusal.specs.Answer.{done, present}
use Rattle.rows.specs.Lists.{every, same_list, twice, sorted, no_entries}
use Rattle.rows.specs.Table.{find, replaced, rising}
use Rattle.rows.proofs.Bools.{parts, and_i, agree, and_no}
use Rattle.rows.proofs.SameLists.{same_list_lem, list_same}
use Rattle.rows.proofs.Tables.{found_is, find_changed}
use Rattle.codec.specs.Format.{same_form_lem, via, ◌⊗◌}
use Rattle.codec.specs.Number.{number}
use Rattle.map.specs.Ceilings.{within_ceilings, if_there, rule_within}
use Rattle.map.specs.Entity.{EntityRef, listed}
use Rattle.map.specs.Lookup.{unknown_in, rule_of}
use Rattle.map.specs.MapFile.{rule, body, is_map}
use Rattle.map.specs.Record.{Lane, LineString, Signal, Crosswalk, Rule, Map, RuleBody, light, sign, marking, right_of_way, crossing, other}
use Rattle.map.specs.Rows.{rule_with, with_rules}
use Rattle.map.proofs.ByKind.{up₁, up₅, up₇, up₈}
use Rattle.map.proofs.Parts.{line_string_ok, signal_ok, rule_ok, body_ok_lem, rules_ok, rule_fits, rules_fit}
use Rattle.map.proofs.Presence.{next_fits}
use Rattle.changes.specs.ChangeFile.{max_warnings}
use Rattle.changes.proofs.Entries.{Warned, none_warned}
use Rattle.changes.proofs.Refs.{same_as}
use Rattle.edit.specs.Edit.{Draft}
use Rattle.edit.specs.Links.{RegulatoryLinks, kinds_of, first_entry, relinked, to_list, stop_lines_of, same_links, link_changes, links_edit}
use Rattle.place.specs.Place.{refuse_found}
use Rattle.place.proofs.Answers.{never, done_is, went, next, past, there}
use Rattle.run.proofs.Answers.{unfound, known, below_fits, no_fresh, no_ok}
use Rattle.run.proofs.Rules.{body_ok, rule_made, put, put_all, put_same, put_gone, put_touched}
use Rattle.run.proofs.Shape.{Shape, listed_created}

data Relinked (ls : List ℕ) : RuleBody → RuleBody → Type 0 where
  of_light : {signals : List ℕ} {line : Option ℕ} → Relinked ls (light signals line) (light signals (first_entry ls))
  of_crossing : {c : ℕ} {stop_lines : List ℕ} → Relinked ls (crossing c stop_lines) (crossing c ls)
  of_marking : {line : ℕ} → Relinked ls (marking line) (marking line)

relinked_is : (m : Map) (a : RegulatoryLinks) (v w : RuleBody) → relinked m a v ≡ done w → Relinked a.stop_lines v w
unfolding relinked
relinked_is m a (light signals line) w e =
    let p₁ = past (no_entries signals) 8 (1 ∷ []) _ w e in
    let p₂ = went (kinds_of m signals) _ w p₁.rest in
    let k = p₂.value in
    let p₃ = past (k.pedestrian && k.vehicle) 8 (2 ∷ []) _ w p₂.rest in
    let p₄ = past (k.pedestrian && not (no_entries a.lanes && no_entries a.stop_lines)) 8 (3 ∷ []) _ w p₃.rest in
    let p₅ = past (k.vehicle && not (no_entries a.crosswalks)) 8 (4 ∷ []) _ w p₄.rest in
    let p₆ = past (ltb 1 (length a.stop_lines)) 8 (5 ∷ []) _ w p₅.rest in
    subst (Relinked a.stop_lines (light signals line)) (done_is p₆.rest) of_light
relinked_is m a (crossing c stop_lines) w e =
    let p = past (not (no_entries a.crosswalks)) 8 (6 ∷ []) _ w e in
    subst (Relinked a.stop_lines (crossing c stop_lines)) (done_is p.rest) of_crossing
relinked_is m a (marking line) w e =
    let p = past (not (no_entries a.crosswalks && same_list a.stop_lines (line ∷ []))) 8 (7 ∷ []) _ w e in
    subst (Relinked a.stop_lines (marking line)) (done_is p.rest) of_marking
relinked_is m a (sign type shape line) w e = never e
relinked_is m a (right_of_way priority yielding stop_lines) w e = never e
relinked_is m a (other k) w e = never e

first_ok : (ls : List ℕ) → every number.fits ls ≡ true → if_there number.fits (first_entry ls) ≡ true
unfolding first_entry if_there every
first_ok [] e = refl
first_ok (x ∷ xs) e = search parts

relinked_ok : (ls : List ℕ) (v w : RuleBody) → every number.fits ls ≡ true → body_ok_lem v ≡ true → Relinked ls v w → body_ok_lem w ≡ true
unfolding body_ok_lem
relinked_ok ls v w f o (of_light {signals} {line}) = and_i (every number.fits signals) _ (search parts) (first_ok ls f)
relinked_ok ls v w f o (of_crossing {c} {stop_lines}) = and_i (number.fits c) _ (search parts) f
relinked_ok ls v w f o of_marking = o

to_list_lem : (a b : Option ℕ) → to_list a ≡ to_list b → a ≡ b
unfolding to_list
to_list_lem None None e = refl
to_list_lem None (Some b) e = let z : ◌≡◌ {A = ℕ} 0 1 = cc in absurd (omega arith)
to_list_lem (Some a) None e = let z : ◌≡◌ {A = ℕ} 0 1 = cc in absurd (omega arith)
to_list_lem (Some a) (Some b) e = let q : a ≡ b = cc in ap {B = Option ℕ} Some q

relinked_same : (ls : List ℕ) (v w : RuleBody) → Relinked ls v w → stop_lines_of v ≡ stop_lines_of w → v ≡ w
unfolding stop_lines_of
relinked_same ls v w (of_light {signals} {line}) e = ap {B = RuleBody} (light signals) (to_list_lem line (first_entry ls) e)
relinked_same ls v w (of_crossing {c} {stop_lines}) e = ap {B = RuleBody} (crossing c) e
relinked_same ls v w of_marking e = refl

-- the edit's test of the links, and the written forms
links_show : (r s : Rule) (ls : List ℕ) → r.num ≡ s.num → Relinked ls r.body s.body → rule.fits r ≡ true → rule.fits s ≡ true → same_links r s ≡ same_list (rule.write r) (rule.write s)
unfolding same_links
links_show r s ls n l rf sf = agree (same_links r s) (same_list (rule.write r) (rule.write s)) there' back
  where
    rule_eq : (r s : Rule) → r.num ≡ s.num → r.body ≡ s.body → r.lanes ≡ s.lanes → r.controlled ≡ s.controlled → r ≡ s
    rule_eq r s a b c d i = record { num = a i; body = b i; lanes = c i; controlled = d i }

    there' : same_links r s ≡ true → same_list (rule.write r) (rule.write s) ≡ true
    there' e =
        let a = same_list_lem r.lanes s.lanes (search parts) in
        let b = same_list_lem r.controlled s.controlled (search parts) in
        let c = same_list_lem (stop_lines_of r.body) (stop_lines_of s.body) (search parts) in
        rw (rule_eq r s n (relinked_same ls r.body s.body l c) a b) (list_same (rule.write s))

    self : (r : Rule) → same_links r r ≡ true
    self r = and_i _ _ (and_i _ _ (list_same r.lanes) (list_same r.controlled)) (list_same (stop_lines_of r.body))

    back : same_list (rule.write r) (rule.write s) ≡ true → same_links r s ≡ true
    back e = subst (λ (z : Rule). same_links r z ≡ true) (same_form_lem rule r s rf sf (same_list_lem (rule.write r) (rule.write s) e)) (self r)

-- ---- the shape

links_warned : (b : Bool) (n : ℕ) → Warned max_warnings (link_changes b n).warnings
unfolding link_changes
links_warned true n = none_warned
links_warned false n = none_warned

module _ (m : Map) (ok : is_map m ≡ true) (r s : Rule) (ls : List ℕ) (found : find (λ x. x.num) s.num m.rules ≡ Some r) (n : r.num ≡ s.num)
    (l : Relinked ls r.body s.body) (so : rule_ok s ≡ true) where
  abbrev draft : Draft
  draft = record { map = with_rules m (replaced (λ x. x.num) s m.rules); id = r.num; stored = []; ends = None; changes = link_changes (same_links r s) r.num }

  no_created : (b : Bool) (k : ℕ) (a : EntityRef) → listed (link_changes b k).created a ≡ false
  unfolding link_changes listed
  no_created true k a = refl
  no_created false k a = refl

  no_deleted : (b : Bool) (k : ℕ) (a : EntityRef) → listed (link_changes b k).deleted a ≡ false
  unfolding link_changes listed
  no_deleted true k a = refl
  no_deleted false k a = refl

  one_modified : (b : Bool) (k : ℕ) (a : EntityRef) → listed (link_changes b k).modified a ≡ (eqb a.kind 8 && (eqb k a.num && not b))
  unfolding link_changes listed
  one_modified true k a = none (eqb a.kind 8) (eqb k a.num)
    where
      none : (b c : Bool) → false ≡ (b && (c && false))
      none true true = refl
      none true false = refl
      none false c = refl
  one_modified false k a = rw (same_as 8 k a) (some (eqb a.kind 8) (eqb k a.num))
    where
      some : (b c : Bool) → ((b && c) || false) ≡ (b && (c && true))
      some true true = refl
      some true false = refl
      some false c = refl

  rule_fitted : rule.fits r ≡ true
  rule_fitted = (found_is (λ (x : Rule). x.num) s.num m.rules rule.fits r (rules_fit m ok) found).0

  num_fits : number.fits r.num ≡ true
  unfolding rule via ◌⊗◌
  num_fits = let h = rule_fitted in search parts

  within : within_ceilings draft.map ≡ true → rule_within s ≡ true
  unfolding within_ceilings
  within c = (found_is (λ (x : Rule). x.num) s.num (replaced (λ x. x.num) s m.rules) rule_within s (search parts depth 16)
      (rw (put_all s m.rules, find_changed (λ (x : Rule). x.num) (put s) (put_same s) 0 m.next s.num m.rules (up₈ m ok), found, eq-eqb r.num s.num n))).0

  now_fits : within_ceilings draft.map ≡ true → rule.fits s ≡ true
  now_fits c = rule_fits s (rw (← n) num_fits) so (within c)

  put_ok : (x y : Rule) → rule_ok x ≡ true → put s x ≡ Some y → rule_ok y ≡ true
  put_ok x y h e = go (eqb x.num s.num) e
    where
      go : (b : Bool) → Some (cond b s x) ≡ Some y → rule_ok y ≡ true
      go true e = let q : s ≡ y = cc in subst (λ (z : Rule). rule_ok z ≡ true) q so
      go false e = let q : x ≡ y = cc in subst (λ (z : Rule). rule_ok z ≡ true) q h

  shape : Shape m draft
  unfolding listed
  shape = record {
    line = None;
    signal = None;
    rule = None;
    change = put s;
    lanes_are = refl;
    boundaries_are = refl;
    stop_lines_are = sym (append-nil m.stop_lines);
    signals_are = sym (append-nil m.signals);
    crosswalks_are = refl;
    rules_are = rw append-nil (put_all s m.rules);
    same = put_same s;
    fresh_line = no_fresh (λ (x : LineString). x.num) m.next m.next;
    fresh_signal = no_fresh (λ (x : Signal). x.num) m.next m.next;
    fresh_rule = no_fresh (λ (x : Rule). x.num) m.next m.next;
    later = omega arith;
    rise = unfold rising in refl;
    created = λ a. rw (no_created (same_links r s) r.num a) (listed_created None None None a);
    deleted = λ a. rw (no_deleted (same_links r s) r.num a, put_gone s) (sym (and_no (eqb a.kind 8)));
    modified = λ c h a. rw (one_modified (same_links r s) r.num a, put_touched s r m.rules a.num found, links_show r s ls n l rule_fitted (now_fits c), n);
    line_ok = λ e. no_ok line_string_ok;
    signal_ok_is = λ e. no_ok signal_ok;
    rule_ok_is = λ e. no_ok rule_ok;
    change_ok = λ e. put_ok;
    warned = λ h. links_warned (same_links r s) r.num;
  }

pub links_shape : (a : RegulatoryLinks) (m : Map) (d : Draft) → is_map m ≡ true → links_edit a m ≡ done d → Shape m d
unfolding links_edit rule_of
links_shape a m d ok e =
    let p₁ = went (present (find (λ x. x.num) a.rule m.rules) 2 (8 ∷ a.rule ∷ [])) _ d e in
    let p₂ = past (twice a.lanes) 3 (1 ∷ []) _ d p₁.rest in
    let p₃ = past (twice a.crosswalks) 3 (2 ∷ []) _ d p₂.rest in
    let p₄ = past (twice a.stop_lines) 3 (3 ∷ []) _ d p₃.rest in
    let p₅ = next (refuse_found (unknown_in (λ l. l.num) m.lanes (sorted a.lanes)) 1) _ d p₄.rest in
    let p₆ = next (refuse_found (unknown_in (λ c. c.num) m.crosswalks (sorted a.crosswalks)) 7) _ d p₅.rest in
    let p₇ = next (refuse_found (unknown_in (λ l. l.num) m.stop_lines (sorted a.stop_lines)) 5) _ d p₆.rest in
    let p₈ = went (relinked m (record { rule = a.rule; lanes = sorted a.lanes; crosswalks = sorted a.crosswalks; stop_lines = sorted a.stop_lines }) p₁.value.body) _ d p₇.rest in
    let r = p₁.value in
    let f = there (find (λ x. x.num) a.rule m.rules) 2 (8 ∷ a.rule ∷ []) r p₁.first in
    let v = found_is (λ (x : Rule). x.num) a.rule m.rules rule_ok r (rules_ok m ok) f in
    let h = next_fits m ok in
    let l = relinked_is m _ r.body p₈.value p₈.first in
    let k₁ = below_fits m.next h (sorted a.lanes) (known m ok (λ (x : Lane). x.num) m.lanes (up₁ m ok) (sorted a.lanes) (unfound _ 1 p₅.first)) in
    let k₇ = below_fits m.next h (sorted a.crosswalks) (known m ok (λ (x : Crosswalk). x.num) m.crosswalks (up₇ m ok) (sorted a.crosswalks) (unfound _ 7 p₆.first)) in
    let k₅ = below_fits m.next h (sorted a.stop_lines) (known m ok (λ (x : LineString). x.num) m.stop_lines (up₅ m ok) (sorted a.stop_lines) (unfound _ 5 p₇.first)) in
    let s = rule_with r p₈.value (sorted a.lanes) (sorted a.crosswalks) in
    subst (Shape m) (done_is p₈.rest)
    (shape m ok r s (sorted a.stop_lines) (subst (λ (k : ℕ). find (λ x. x.num) k m.rules ≡ Some r) (sym v.1) f) refl l (rule_made r p₈.value (sorted a.lanes) (sorted a.crosswalks) (relinked_ok (sorted a.stop_lines) r.body p₈.value k₅ (body_ok r v.0) l) k₁ k₇))
