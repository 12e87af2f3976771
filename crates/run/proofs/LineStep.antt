-- The stop line's draft has the shape.
use mathlib.Core.Path.{◌≡◌, refl, sym, subst}
use mathlib.Core.Bool.{true}
use Rattle.std.specs.Prelude.{Option, None, Some}
use mathlib.Core.List.{[], ◌∷◌, append-nil}
use Prim.Native.Nat.{ℕ, suc, ◌<◌, ◌^◌}
use lib.Dec.{eqb, ltb}
use native.Mathlib.Omega.{arith}
use borrow.Author.Tests.{lt-ltb}
use Rattle.refusal.specs.Answer.{done}
use Rattle.rows.specs.Lists.{every}
use Rattle.rows.specs.Table.{find}
use Rattle.rows.proofs.Bools.{and_i}
use Rattle.rows.proofs.Tables.{one, changed_some}
use Rattle.codec.specs.Format.{only}
use Rattle.codec.specs.Number.{number}
use Rattle.codec.specs.Items.{from}
use Rattle.map.specs.Ceilings.{if_there}
use Rattle.map.specs.Entity.{entity, listed}
use Rattle.map.specs.MapFile.{is_map}
use Rattle.map.specs.Record.{LineString, Signal, Rule, Map, RuleBody, sign, marking}
use Rattle.map.specs.Rows.{fresh, with_line}
use Rattle.map.proofs.Parts.{line_string_ok, signal_ok, rule_ok, body_ok_lem, line_on_map}
use Rattle.changes.specs.ChangeFile.{max_warnings}
use Rattle.changes.proofs.Entries.{Warned, more_warned, both_warned, one_warned}
use Rattle.edit.specs.Edit.{Draft}
use Rattle.place.specs.Place.{Placed, check_lane_list, place_stop_line}
use Rattle.place.proofs.Answers.{done_is, went, next}
use Rattle.edit.specs.StopLine.{NewStopLine, rule_at, line_draft, stop_line_edit}
use Rattle.edit.specs.declared.StopRule.{StopRule}
use Rattle.edit.specs.declared.StopRule.TheVariants.{StopSign, Marking, NoRule}
use Rattle.run.proofs.Answers.{lanes_known, below_fits, no_fresh, is_fresh, no_ok, is_ok, kept_same, kept_ok, none_gone, none_touched, rise_one, rise_two}
use Rattle.run.proofs.PlaceWarned.{first_fits, place_warned}
use Rattle.run.proofs.Shape.{Shape, listed_created}

rule_of_lem : (k : StopRule) (n : ℕ) (w : RuleBody) → n < 2 ^ 64 → rule_at k n ≡ Some w → body_ok_lem w ≡ true
unfolding rule_at body_ok_lem number if_there from only
rule_of_lem StopSign n w h e = let q : sign 1 None (Some n) ≡ w = cc in subst (λ (v : RuleBody). body_ok_lem v ≡ true) q (lt-ltb n (2 ^ 64) h)
rule_of_lem Marking n w h e = let q : marking n ≡ w = cc in subst (λ (v : RuleBody). body_ok_lem v ≡ true) q (lt-ltb n (2 ^ 64) h)
rule_of_lem NoRule n w h e = let z : ◌≡◌ {A = ℕ} 0 1 = cc in absurd (omega arith)

module _ (a : NewStopLine) (m : Map) (ok : is_map m ≡ true) (known : every (λ n. ltb n m.next) a.lanes ≡ true) (p : Placed) (pw : Warned 1 p.warnings) where
  abbrev drawn : Draft
  drawn = record { map = with_line m p.points; id = fresh m; stored = p.points; ends = p.ends; changes = record { created = entity 5 (fresh m) ∷ []; modified = []; deleted = []; warnings = p.warnings } }

  abbrev new_line : LineString
  new_line = record { num = fresh m; geometry = p.points }

  abbrev new_rule : RuleBody → Rule
  new_rule w = record { num = fresh (with_line m p.points); body = w; lanes = a.lanes; controlled = [] }

  shape : (o : Option RuleBody) → ((w : RuleBody) → o ≡ Some w → fresh m < 2 ^ 64 → body_ok_lem w ≡ true) → Shape m (line_draft a drawn o)
  unfolding line_draft line_string_ok rule_ok every listed
  shape None f = record {
    line = Some new_line;
    signal = None;
    rule = None;
    change = Some;
    lanes_are = refl;
    boundaries_are = refl;
    stop_lines_are = refl;
    signals_are = sym (append-nil m.signals);
    crosswalks_are = refl;
    rules_are = rw (append-nil, changed_some m.rules);
    same = kept_same (λ (x : Rule). x.num);
    fresh_line = is_fresh (λ (x : LineString). x.num) m.next (suc (fresh m)) new_line (omega arith) (omega arith);
    fresh_signal = no_fresh (λ (x : Signal). x.num) m.next (suc (fresh m));
    fresh_rule = no_fresh (λ (x : Rule). x.num) m.next (suc (fresh m));
    later = omega arith;
    rise = rise_one m.next (suc (fresh m)) (fresh m) (omega arith) (omega arith);
    created = listed_created (Some new_line) None None;
    deleted = λ a. none_gone (eqb a.kind 8) (find (λ r. r.num) a.num m.rules);
    modified = λ c h a. none_touched (Rattle.map.specs.MapFile.rule).write (eqb a.kind 8) (find (λ r. r.num) a.num m.rules);
    line_ok = λ e. is_ok line_string_ok new_line (line_on_map p.points e);
    signal_ok_is = λ e. no_ok signal_ok;
    rule_ok_is = λ e. no_ok rule_ok;
    change_ok = λ e. kept_ok rule_ok;
    warned = λ h. more_warned 2 max_warnings _ (omega arith) (both_warned p.warnings _ pw (one_warned 2 5 (fresh m) refl refl (omega arith)));
  }
  shape (Some w) f = record {
    line = Some new_line;
    signal = None;
    rule = Some (new_rule w);
    change = Some;
    lanes_are = refl;
    boundaries_are = refl;
    stop_lines_are = refl;
    signals_are = sym (append-nil m.signals);
    crosswalks_are = refl;
    rules_are = rw (changed_some m.rules);
    same = kept_same (λ (x : Rule). x.num);
    fresh_line = is_fresh (λ (x : LineString). x.num) m.next (suc (fresh (with_line m p.points))) new_line (omega arith) (omega arith);
    fresh_signal = no_fresh (λ (x : Signal). x.num) m.next (suc (fresh (with_line m p.points)));
    fresh_rule = is_fresh (λ (x : Rule). x.num) m.next (suc (fresh (with_line m p.points))) (new_rule w) (omega arith) (omega arith);
    later = omega arith;
    rise = rise_two m.next (suc (fresh (with_line m p.points))) (fresh m) (fresh (with_line m p.points)) (omega arith) (omega arith) (omega arith);
    created = listed_created (Some new_line) None (Some (new_rule w));
    deleted = λ a. none_gone (eqb a.kind 8) (find (λ r. r.num) a.num m.rules);
    modified = λ c h a. none_touched (Rattle.map.specs.MapFile.rule).write (eqb a.kind 8) (find (λ r. r.num) a.num m.rules);
    line_ok = λ e. is_ok line_string_ok new_line (line_on_map p.points e);
    signal_ok_is = λ e. no_ok signal_ok;
    rule_ok_is = λ h. is_ok rule_ok (new_rule w) (and_i _ _ (and_i _ _ (f w refl (omega arith)) (below_fits m.next (omega arith) a.lanes known)) refl);
    change_ok = λ e. kept_ok rule_ok;
    warned = λ h. more_warned 1 max_warnings _ (omega arith) pw;
  }

pub line_shape : (a : NewStopLine) (m : Map) (d : Draft) → is_map m ≡ true → stop_line_edit a m ≡ done d → Shape m d
unfolding stop_line_edit
line_shape a m d ok e =
    let one = next (check_lane_list m a.lanes) _ d e in
    let two = went (place_stop_line m a.lanes a.placement a.points) _ d one.rest in
    let k = lanes_known m ok a.lanes one.value one.first in
    subst (Shape m) (done_is two.rest)
    (shape a m ok k two.value (place_warned m a.lanes a.placement a.points two.value (first_fits m ok a.lanes k) two.first) (rule_at a.rule (fresh m)) (λ w q h. rule_of_lem a.rule (fresh m) w h q))
