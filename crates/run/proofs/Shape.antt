-- The shape that every edit gives a map: at most one new line, signal and rule each, and rules changed or gone. From it, all that the fold needs.
use mathlib.Core.Path.{◌≡◌, refl, sym}
use mathlib.Core.Bool.{Bool, true, false, not, ◌&&◌, ◌||◌}
use Rattle.std.specs.Prelude.{Option, None, Some}
use mathlib.Core.List.{List, [], ◌∷◌, ◌++◌, append-nil, map}
use Prim.Native.Nat.{ℕ, ◌^◌, ◌<◌, ◌≤◌}
use lib.Dec.{eqb}
use native.Mathlib.Omega.{arith}
use borrow.Author.Tests.{eqb-true}
use Rattle.rows.specs.Lists.{every}
use Rattle.rows.specs.Table.{find, rising}
use Rattle.rows.proofs.Bools.{parts, and_i, clash, or_no, and_no}
use Rattle.rows.proofs.Tables.{is_some, one, changed, rising_wider, rising-append, rising_changed, every_append, every_changed}
use Rattle.geometry.specs.Point.{point_on_map}
use Rattle.codec.specs.Format.{Bytes}
use Rattle.codec.proofs.Fits.{number_fits}
use Rattle.map.specs.Ceilings.{within_ceilings, line_string_within, signal_within, rule_within, max_lanes, max_boundaries, max_stop_lines, max_signals, max_crosswalks, max_rules}
use Rattle.map.specs.Entity.{EntityRef, entity, listed, form_in, form_of, same_ref, has, compare_refs}
use Rattle.map.specs.MapFile.{lane, line_string, signal, crosswalk, rule, is_map}
use Rattle.map.specs.Record.{Lane, LineString, Signal, Crosswalk, Rule, Map}
use Rattle.map.proofs.ByKind.{Kind, lanes, boundaries, stop_lines, signals, crosswalks, rules, others, kind_of, up₅, up₆, up₈}
use Rattle.map.proofs.Parts.{line_string_ok, signal_ok, rule_ok, map-parts, parts-map, table_wider, table_of, line_string_fits, signal_fits, rule_fits, stop_lines_ok, signals_ok, rules_ok}
use Rattle.map.proofs.Presence.{has_form}
use Rattle.changes.specs.ChangeFile.{max_warnings, rising_refs, rise_after, is_before}
use Rattle.changes.specs.ChangeSet.{normalize}
use Rattle.changes.proofs.Entries.{Warned}
use Rattle.changes.proofs.Refs.{listed-append, same_as, rising_same}
use Rattle.edit.specs.Edit.{Draft}
use Rattle.run.specs.Law.{differ, alters, handed}
use Rattle.run.proofs.Fold.{StepLaw, normal_rises, normal_created, step_none}
use Rattle.run.proofs.Told.{told_kept, new_num, gone_at, touched_at, told, kept_not_gone, kept_untouched, differ_self}

-- ---- the shape

abbrev pub new_in : {A : Type 0} → (A → ℕ) → ℕ → Option A → EntityRef → Bool
new_in num k o a = eqb a.kind k && new_num num o a.num

abbrev pub new_refs : {A : Type 0} → (A → ℕ) → ℕ → Option A → List EntityRef
new_refs num k None = []
new_refs num k (Some x) = entity k (num x) ∷ []

pub listed_new : {A : Type 0} (num : A → ℕ) (k : ℕ) (o : Option A) (a : EntityRef) → listed (new_refs num k o) a ≡ new_in num k o a
unfolding listed
listed_new num k None a = sym (and_no (eqb a.kind k))
listed_new num k (Some x) a = rw (or_no (same_ref (entity k (num x)) a)) (same_as k (num x) a)

-- the new references, in the order of their kinds
abbrev pub new_ones : Option LineString → Option Signal → Option Rule → List EntityRef
new_ones l s r = new_refs (λ (x : LineString). x.num) 5 l ++ new_refs (λ (x : Signal). x.num) 6 s ++ new_refs (λ (x : Rule). x.num) 8 r

pub listed_created : (l : Option LineString) (s : Option Signal) (r : Option Rule) (a : EntityRef)
    → listed (new_ones l s r) a
    ≡ (new_in (λ (x : LineString). x.num) 5 l a || new_in (λ (x : Signal). x.num) 6 s a || new_in (λ (x : Rule). x.num) 8 r a)
listed_created l s r a = rw (
  listed-append (new_refs (λ (x : LineString). x.num) 5 l ++ new_refs (λ (x : Signal). x.num) 6 s) (new_refs (λ (x : Rule). x.num) 8 r) a,
  listed-append (new_refs (λ (x : LineString). x.num) 5 l) (new_refs (λ (x : Signal). x.num) 6 s) a,
  listed_new (λ (x : LineString). x.num) 5 l a,
  listed_new (λ (x : Signal). x.num) 6 s a,
  listed_new (λ (x : Rule). x.num) 8 r a,
)

ones_rise : (l : Option LineString) (s : Option Signal) (r : Option Rule) → rising_refs (new_ones l s r) ≡ true
unfolding rising_refs rise_after compare_refs is_before
ones_rise None None None = refl
ones_rise None None (Some z) = refl
ones_rise None (Some y) None = refl
ones_rise None (Some y) (Some z) = refl
ones_rise (Some x) None None = refl
ones_rise (Some x) None (Some z) = refl
ones_rise (Some x) (Some y) None = refl
ones_rise (Some x) (Some y) (Some z) = refl

-- a new record's number is fresh
abbrev pub Fresh : {A : Type 0} → (A → ℕ) → ℕ → ℕ → Option A → Type 0
Fresh num low high o = (x : _) → o ≡ Some x → (low ≤ num x) × (num x < high)

pub record Shape (m : Map) (d : Draft) : Type 0 where
  pub line : Option LineString
  pub signal : Option Signal
  pub rule : Option Rule
  pub change : Rule → Option Rule
  pub lanes_are : d.map.lanes ≡ m.lanes
  pub boundaries_are : d.map.boundaries ≡ m.boundaries
  pub stop_lines_are : d.map.stop_lines ≡ m.stop_lines ++ one line
  pub signals_are : d.map.signals ≡ m.signals ++ one signal
  pub crosswalks_are : d.map.crosswalks ≡ m.crosswalks
  pub rules_are : d.map.rules ≡ changed change m.rules ++ one rule
  pub same : (x y : Rule) → change x ≡ Some y → y.num ≡ x.num
  pub fresh_line : Fresh (λ (x : LineString). x.num) m.next d.map.next line
  pub fresh_signal : Fresh (λ (x : Signal). x.num) m.next d.map.next signal
  pub fresh_rule : Fresh (λ (x : Rule). x.num) m.next d.map.next rule
  pub later : m.next ≤ d.map.next
  pub rise : rising (λ n. n) m.next d.map.next (map (λ a. a.num) (new_ones line signal rule)) ≡ true
  pub created : (a : EntityRef) → listed d.changes.created a ≡ (new_in (λ (x : LineString). x.num) 5 line a || new_in (λ (x : Signal). x.num) 6 signal a || new_in (λ (x : Rule). x.num) 8 rule a)
  pub deleted : (a : EntityRef) → listed d.changes.deleted a ≡ (eqb a.kind 8 && gone_at change (find (λ r. r.num) a.num m.rules))
  pub modified : within_ceilings d.map ≡ true → d.map.next < 2 ^ 64 → (a : EntityRef) → listed d.changes.modified a ≡ (eqb a.kind 8 && touched_at (Rattle.map.specs.MapFile.rule).write change (find (λ r. r.num) a.num m.rules))
  pub line_ok : every point_on_map d.stored ≡ true → (x : LineString) → line ≡ Some x → line_string_ok x ≡ true
  pub signal_ok_is : every point_on_map d.stored ≡ true → (x : Signal) → signal ≡ Some x → signal_ok x ≡ true
  pub rule_ok_is : d.map.next < 2 ^ 64 → (x : Rule) → rule ≡ Some x → rule_ok x ≡ true
  pub change_ok : d.map.next < 2 ^ 64 → (x y : Rule) → rule_ok x ≡ true → change x ≡ Some y → rule_ok y ≡ true
  pub warned : d.map.next < 2 ^ 64 → Warned max_warnings d.changes.warnings

-- ---- the law from the shape

-- what the law says of one record, by the forms before and after
pub record Says (c d o : Bool) (f g : Option Bytes) : Type 0 where
  pub created : c ≡ (is_some g && not (is_some f))
  pub deleted : d ≡ (is_some f && not (is_some g))
  pub modified : o ≡ differ f g

unchanged : (f : Option Bytes) → Says false false false f f
unchanged f = record { created = sym (no f); deleted = sym (no f); modified = sym (differ_self f) }
  where
    no : (f : Option Bytes) → (is_some f && not (is_some f)) ≡ false
    no None = refl
    no (Some x) = refl

module _ {A : Type 0} (num : A → ℕ) (w : A → Bytes) (h : ℕ) (t : List A) (r : rising num 0 h t ≡ true) where
  grown : (o : Option A) → ((x : A) → o ≡ Some x → h ≤ num x) → (n : ℕ) → Says (new_num num o n) false false (form_in w (find num n t)) (form_in w (find num n (t ++ one o)))
  grown o f n =
      let k = told_kept num w h t r o f n in
      record {
        created = k.created;
        deleted = rw (kept_not_gone (find num n t)) at k.deleted;
        modified = rw (kept_untouched w (find num n t)) at k.modified;
      }

module _ (m : Map) (ok : is_map m ≡ true) (d : Draft) (s : Shape m d) where
  abbrev new_here : ℕ → ℕ → Bool
  new_here k n = new_in (λ (x : LineString). x.num) 5 s.line (entity k n) || new_in (λ (x : Signal). x.num) 6 s.signal (entity k n) || new_in (λ (x : Rule). x.num) 8 s.rule (entity k n)

  abbrev gone_here : ℕ → ℕ → Bool
  gone_here k n = eqb k 8 && gone_at s.change (find (λ r. r.num) n m.rules)

  abbrev touched_here : ℕ → ℕ → Bool
  touched_here k n = eqb k 8 && touched_at rule.write s.change (find (λ r. r.num) n m.rules)

  says : (k n : ℕ) → Kind k → Says (new_here k n) (gone_here k n) (touched_here k n) (form_of m (entity k n)) (form_of d.map (entity k n))
  unfolding form_of
  says k n lanes = rw s.lanes_are (unchanged (form_in lane.write (find (λ r. r.num) n m.lanes)))
  says k n boundaries = rw s.boundaries_are (unchanged (form_in line_string.write (find (λ r. r.num) n m.boundaries)))
  says k n stop_lines = rw (s.stop_lines_are, or_no, or_no) (grown (λ (x : LineString). x.num) line_string.write m.next m.stop_lines (up₅ m ok) s.line (λ x e. (s.fresh_line x e).0) n)
  says k n signals = rw (s.signals_are, or_no) (grown (λ (x : Signal). x.num) signal.write m.next m.signals (up₆ m ok) s.signal (λ x e. (s.fresh_signal x e).0) n)
  says k n crosswalks = rw s.crosswalks_are (unchanged (form_in crosswalk.write (find (λ r. r.num) n m.crosswalks)))
  says k n rules =
      let t = told (λ (x : Rule). x.num) rule.write m.next m.rules (up₈ m ok) s.change s.same s.rule (λ x e. (s.fresh_rule x e).0) n in
      rw s.rules_are (record { created = t.created; deleted = t.deleted; modified = t.modified })
  says k n (others e₁ e₂ e₅ e₆ e₇ e₈) = rw (e₁, e₂, e₅, e₆, e₇, e₈) (unchanged None)

  wide : {A : Type 0} (num : A → ℕ) (t : List A) → rising num 0 m.next t ≡ true → rising num 0 d.map.next t ≡ true
  wide num t r = let l = s.later in rising_wider num 0 0 m.next d.map.next t (omega arith) (omega arith) r

  valid : every point_on_map d.stored ≡ true → within_ceilings d.map ≡ true → d.map.next < 2 ^ 64 → is_map d.map ≡ true
  unfolding within_ceilings
  valid p c n =
      let q = map-parts m ok in
      let l = s.later in
      parts-map d.map (record {
        next = number_fits d.map.next n;
        lanes = rw s.lanes_are (table_wider (λ (x : Lane). x.num) max_lanes lane m.next d.map.next m.lanes l q.lanes);
        boundaries = rw s.boundaries_are (table_wider (λ (x : LineString). x.num) max_boundaries line_string m.next d.map.next m.boundaries l q.boundaries);
        stop_lines =
            table_of (λ (x : LineString). x.num) line_string line_string_ok line_string_within line_string_fits max_stop_lines d.map.next d.map.stop_lines (omega arith) n (search parts depth 16)
            (rw s.stop_lines_are (every_append line_string_ok m.stop_lines (one s.line) (stop_lines_ok m ok) (each line_string_ok s.line (s.line_ok p)))) (search parts depth 16)
            (rw s.stop_lines_are (up (λ (x : LineString). x.num) m.stop_lines (up₅ m ok) s.line s.fresh_line));
        signals =
            table_of (λ (x : Signal). x.num) signal signal_ok signal_within signal_fits max_signals d.map.next d.map.signals (omega arith) n (search parts depth 16)
            (rw s.signals_are (every_append signal_ok m.signals (one s.signal) (signals_ok m ok) (each signal_ok s.signal (s.signal_ok_is p)))) (search parts depth 16)
            (rw s.signals_are (up (λ (x : Signal). x.num) m.signals (up₆ m ok) s.signal s.fresh_signal));
        crosswalks = rw s.crosswalks_are (table_wider (λ (x : Crosswalk). x.num) max_crosswalks crosswalk m.next d.map.next m.crosswalks l q.crosswalks);
        rules =
            table_of (λ (x : Rule). x.num) rule rule_ok rule_within rule_fits max_rules d.map.next d.map.rules (omega arith) n (search parts depth 16)
            (rw s.rules_are (every_append rule_ok (changed s.change m.rules) (one s.rule) (every_changed s.change rule_ok m.rules (s.change_ok n) (rules_ok m ok)) (each rule_ok s.rule (s.rule_ok_is n)))) (search parts depth 16)
            (rw s.rules_are (up (λ (x : Rule). x.num) (changed s.change m.rules) (rising_changed (λ (x : Rule). x.num) s.change s.same 0 m.next m.rules (up₈ m ok)) s.rule s.fresh_rule));
        few = search parts depth 16;
      })
    where
      up : {A : Type 0} (num : A → ℕ) (t : List A) → rising num 0 m.next t ≡ true → (o : Option A) → Fresh num m.next d.map.next o → rising num 0 d.map.next (t ++ one o) ≡ true
      up num t r None f = rw append-nil (wide num t r)
      up num t r (Some x) f = rising-append num 0 m.next d.map.next t x r (omega arith) (f x refl).0 (f x refl).1

      each : {A : Type 0} (p : A → Bool) (o : Option A) → ((x : A) → o ≡ Some x → p x ≡ true) → every p (one o) ≡ true
      each p None f = unfold every in refl
      each p (Some x) f = unfold every in and_i _ _ (f x refl) refl

  born : (a : EntityRef) → listed d.changes.created a ≡ true → m.next ≤ a.num
  born a t = go (eqb a.kind 5 && new_num (λ (x : LineString). x.num) s.line a.num) (eqb a.kind 6 && new_num (λ (x : Signal). x.num) s.signal a.num) (eqb a.kind 8 && new_num (λ (x : Rule). x.num) s.rule a.num)
      refl refl refl (rw (s.created a) at t)
    where
      low : {A : Type 0} (num : A → ℕ) (k : ℕ) (o : Option A) → Fresh num m.next d.map.next o → (eqb a.kind k && new_num num o a.num) ≡ true → m.next ≤ a.num
      low num k o f e = at o f (second (eqb a.kind k) (new_num num o a.num) e)
        where
          second : (b c : Bool) → (b && c) ≡ true → c ≡ true
          second b c e = search parts

          at : (o : Option _) → Fresh num m.next d.map.next o → new_num num o a.num ≡ true → m.next ≤ a.num
          at None f e = clash e refl
          at (Some x) f e = let u = (f x refl).0 in let v = eqb-true (num x) a.num e in omega arith

      go : (b c e : Bool) → (eqb a.kind 5 && new_num (λ (x : LineString). x.num) s.line a.num) ≡ b → (eqb a.kind 6 && new_num (λ (x : Signal). x.num) s.signal a.num) ≡ c
          → (eqb a.kind 8 && new_num (λ (x : Rule). x.num) s.rule a.num) ≡ e → (b || c || e) ≡ true → m.next ≤ a.num
      go true c e p q r t = low (λ (x : LineString). x.num) 5 s.line s.fresh_line p
      go false true e p q r t = low (λ (x : Signal). x.num) 6 s.signal s.fresh_signal q
      go false false true p q r t = low (λ (x : Rule). x.num) 8 s.rule s.fresh_rule r
      go false false false p q r t = clash t refl

  made : (a : EntityRef) → listed d.changes.created a ≡ (has d.map a && not (has m a))
  made a = rw (s.created a, has_form m a, has_form d.map a) (says a.kind a.num (kind_of a.kind)).created

  lost : (a : EntityRef) → listed d.changes.deleted a ≡ (has m a && not (has d.map a))
  lost a = rw (s.deleted a, has_form m a, has_form d.map a) (says a.kind a.num (kind_of a.kind)).deleted

  -- put in order, the new references stand in the order of their kinds
  in_order : (normalize d.changes).created ≡ new_ones s.line s.signal s.rule
  in_order = rising_same _ _ (normal_rises d.changes).0 (ones_rise s.line s.signal s.rule)
      (λ a. rw (normal_created d.changes a, made a, lost a, step_none (has m a) (has d.map a), ← made a, s.created a, listed_created s.line s.signal s.rule a))

  pub law : StepLaw m d
  unfolding alters handed
  law = record {
    created = made;
    deleted = lost;
    modified = λ c h a. rw (s.modified c h a) (says a.kind a.num (kind_of a.kind)).modified;
    born = born;
    later = s.later;
    rise = rw in_order s.rise;
    valid = valid;
    warned = s.warned;
  }
