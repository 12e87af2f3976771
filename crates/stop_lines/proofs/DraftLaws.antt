-- The change set that is built, and that it is the draft's. Assumes nothing.
use Prim.Native.Nat.{ℕ, suc, ◌+◌, ◌^◌, ◌≤◌, ◌<◌, max}
use mathlib.Core.Path.{◌≡◌, refl, sym, ap, ◌∙◌}
use mathlib.Core.Bool.{Bool, true, false}
use Rattle.std.specs.Prelude.{None, Ok, Result}
use mathlib.Core.List.{List, [], ◌∷◌}
use native.Mathlib.Omega.{arith}
use lib.Dec.{leb}
use borrow.Author.Tests.{le-leb, leb-true}
use Rattle.rows.specs.Lists.{every}
use Rattle.rows.proofs.Bools.{agree, and_i}
use Rattle.map.specs.Entity.{EntityRef, entity, compare_refs, listed}
use Rattle.map.specs.Record.{Map}
use Rattle.map.specs.Rows.{fresh, with_line}
use Rattle.changes.specs.ChangeFile.{max_entries, max_warnings, is_before, rise_after, rising_refs}
use Rattle.changes.specs.ChangeSet.{ChangeSet, Warning, normalize, fold_step}
use Rattle.changes.specs.Layout.{count_in, change_set_of}
use Rattle.changes.specs.Running.{fold_fits}
use Rattle.building.specs.Build.{Cleared, EntryAdded, WarningAdded}
use Rattle.place.specs.Place.{Placed}
use Rattle.edit.specs.declared.StopRule.{StopRule}
use Rattle.edit.specs.declared.StopRule.TheVariants.{StopSign, Marking, NoRule}
use Rattle.edit.specs.StopLine.{rule_at, line_draft}
use Rattle.finishing.specs.Finish.{Few, FoldRoom, Settles}
use Rattle.finishing.proofs.EndLaws.{room_settles}
use Rattle.finishing.proofs.FreshLaws.{New, new_all, FoldBelow, fresh_fits}
use Rattle.stop_lines.specs.Stop.{placed_draft, clamped_by, line_changes, Following, Holds, SetDrafted, LineSettles, next_after, ruled}
use Rattle.refusal.specs.declared.Refusal.{Refusal}

-- ---- numbers

module _ (n : ℕ) where
  pub late_one : leb 18446744073709551615 n ≡ leb (2 ^ 64) (suc n)
  late_one = agree _ _ (λ t. le-leb (2 ^ 64) (suc n) (let u = leb-true 18446744073709551615 n t in omega arith)) (λ t. le-leb 18446744073709551615 n (let u = leb-true (2 ^ 64) (suc n) t in omega arith))

  pub late_two : leb 18446744073709551614 n ≡ leb (2 ^ 64) (suc (suc n))
  late_two = agree _ _ (λ t. le-leb (2 ^ 64) (suc (suc n)) (let u = leb-true 18446744073709551614 n t in omega arith)) (λ t. le-leb 18446744073709551614 n (let u = leb-true (2 ^ 64) (suc (suc n)) t in omega arith))

module _ (rule : StopRule) (n : ℕ) where
  pub late_sign : rule ≡ StopSign → leb 18446744073709551614 n ≡ leb (2 ^ 64) (next_after rule n)
  unfolding next_after
  late_sign e = rw e (late_two n)

  pub late_marking : rule ≡ Marking → leb 18446744073709551614 n ≡ leb (2 ^ 64) (next_after rule n)
  unfolding next_after
  late_marking e = rw e (late_two n)

  pub late_bare : rule ≡ NoRule → leb 18446744073709551615 n ≡ leb (2 ^ 64) (next_after rule n)
  unfolding next_after
  late_bare e = rw e (late_one n)

-- ---- the set, step by step

pub cleared_few : (s : List ℕ) → Cleared s → count_in s 0 < max_entries
cleared_few s h = let a = h.none 0 (omega arith) in omega arith

pub entry_unwarned : (s s' : List ℕ) (a : EntityRef) → Cleared s → EntryAdded s 0 a s' → count_in s' 3 < max_warnings
entry_unwarned s s' a h e = let x = h.none 3 (omega arith) in let y = e.others 3 (omega arith) (λ q. omega arith) in omega arith

module _ (s1 s2 : List ℕ) (n lane : ℕ) (h1 : Cleared s1) (h2 : EntryAdded s1 0 (entity 5 n) s2) (clamped : Bool) where
  pub started : clamped ≡ false → Holds s2 (record { created = entity 5 n ∷ []; modified = []; deleted = []; warnings = clamped_by clamped lane }) 1 1
  started e = record {
    set = h2.set ∙ rw (h1.set, e);
    room = h2.room;
    few = let x = h1.none 0 (omega arith) in let y = h2.count in omega arith;
    warned = let x = h1.none 3 (omega arith) in let y = h2.others 3 (omega arith) (λ q. omega arith) in omega arith;
  }

  pub started_warned : clamped ≡ true → (s3 : List ℕ) → WarningAdded s2 1 1 lane s3 → Holds s3 (record { created = entity 5 n ∷ []; modified = []; deleted = []; warnings = clamped_by clamped lane }) 1 1
  started_warned e s3 h3 = record {
    set = h3.set ∙ rw (h2.set, h1.set, e);
    room = h3.room;
    few = let x = h1.none 0 (omega arith) in let y = h2.count in let z = h3.others 0 (omega arith) in omega arith;
    warned = let x = h1.none 3 (omega arith) in let y = h2.others 3 (omega arith) (λ q. omega arith) in let z = h3.count in omega arith;
  }

module _ (rule : StopRule) (n : ℕ) (w : List Warning) (s : List ℕ) (h : Holds s (record { created = entity 5 n ∷ []; modified = []; deleted = []; warnings = w }) 1 1) (x : ℕ) (f : Following n x) (s' : List ℕ) where
  with_rule_lem : EntryAdded s 0 (entity 8 x) s' → line_changes rule n x w ≡ record { created = entity 5 n ∷ entity 8 x ∷ []; modified = []; deleted = []; warnings = w } → SetDrafted rule n w s'
  with_rule_lem g q = record {
    second = x;
    follows = f;
    set = g.set ∙ rw h.set (sym q);
    room = record { lists = g.room; warnings = let y = g.others 3 (omega arith) (λ z. omega arith) in let v = h.warned in omega arith };
  }

  pub drafted_sign : rule ≡ StopSign → EntryAdded s 0 (entity 8 x) s' → SetDrafted rule n w s'
  drafted_sign e g = with_rule_lem g (rw e)

  pub drafted_marking : rule ≡ Marking → EntryAdded s 0 (entity 8 x) s' → SetDrafted rule n w s'
  drafted_marking e g = with_rule_lem g (rw e)

  pub drafted_bare : rule ≡ NoRule → WarningAdded s 2 5 n s' → SetDrafted rule n w s'
  drafted_bare e g = record {
    second = x;
    follows = f;
    set = g.set ∙ rw (h.set, e);
    room = record { lists = g.room; warnings = let y = g.count in let v = h.warned in omega arith };
  }

-- ---- the fold

few_entries : (rule : StopRule) (n x : ℕ) (w : List Warning) → Few (line_changes rule n x w)
few_entries StopSign n x w = record { created = omega arith; modified = omega arith; deleted = omega arith }
few_entries Marking n x w = record { created = omega arith; modified = omega arith; deleted = omega arith }
few_entries NoRule n x w = record { created = omega arith; modified = omega arith; deleted = omega arith }

module _ (f : List ℕ) (rule : StopRule) (n : ℕ) (w : List Warning) (late : Bool) where
  pub fold_takes : (b : Bool) → FoldRoom f late b → b ≡ true → LineSettles f rule n w late (Ok tt)
  fold_takes b h q = record {
    second = n + 1;
    follows = record { from = omega arith; next = λ _. refl };
    settles = room_settles f late b h q (line_changes rule n (n + 1) w) (few_entries rule n (n + 1) w);
  }

  pub fold_tried : (d : List ℕ) → SetDrafted rule n w d → (r : Result (Unit {0}) Refusal) → Settles f (change_set_of d) late r → LineSettles f rule n w late r
  fold_tried d ht r h = record { second = ht.second; follows = ht.follows; settles = rw ht.set at h }

-- ---- the draft's parts

module _ (lanes : List ℕ) (m : Map) (p : Placed) where
  pub draft_changes : (rule : StopRule) → (placed_draft rule lanes m p).changes ≡ line_changes rule (fresh m) (suc (fresh m)) p.warnings
  unfolding placed_draft line_draft rule_at
  draft_changes StopSign = ap (λ (n : ℕ). record { created = entity 5 (fresh m) ∷ entity 8 n ∷ []; modified = []; deleted = []; warnings = p.warnings }) (let e : max 1 (suc (fresh m)) ≡ suc (fresh m) = omega arith in e)
  draft_changes Marking = ap (λ (n : ℕ). record { created = entity 5 (fresh m) ∷ entity 8 n ∷ []; modified = []; deleted = []; warnings = p.warnings }) (let e : max 1 (suc (fresh m)) ≡ suc (fresh m) = omega arith in e)
  draft_changes NoRule = refl

  pub draft_next : (rule : StopRule) → (placed_draft rule lanes m p).map.next ≡ next_after rule (fresh m)
  unfolding placed_draft line_draft rule_at next_after
  draft_next StopSign = omega arith
  draft_next Marking = omega arith
  draft_next NoRule = refl

  pub draft_map : (rule : StopRule) → (placed_draft rule lanes m p).map ≡ ruled (rule_at rule (fresh m)) (with_line m p.points) lanes
  unfolding placed_draft line_draft rule_at
  draft_map StopSign = refl
  draft_map Marking = refl
  draft_map NoRule = refl

  pub draft_id : (rule : StopRule) → (placed_draft rule lanes m p).id ≡ fresh m
  unfolding placed_draft line_draft rule_at
  draft_id StopSign = refl
  draft_id Marking = refl
  draft_id NoRule = refl

  pub draft_ends : (rule : StopRule) → (placed_draft rule lanes m p).ends ≡ p.ends
  unfolding placed_draft line_draft rule_at
  draft_ends StopSign = refl
  draft_ends Marking = refl
  draft_ends NoRule = refl

-- where the numbers are there, the set is the draft's
pub exact : (rule : StopRule) (n x : ℕ) (w : List Warning) → Following n x → next_after rule n < 2 ^ 64 → line_changes rule n x w ≡ line_changes rule n (suc n) w
unfolding next_after
exact StopSign n x w f h = let e : x ≡ suc n = (let u = f.next (omega arith) in omega arith) in rw e
exact Marking n x w f h = let e : x ≡ suc n = (let u = f.next (omega arith) in omega arith) in rw e
exact NoRule n x w f h = refl

-- and the fold fits alike, be they there or not
module _ (f : ChangeSet) (low n x : ℕ) (ok : FoldBelow low f) (from : low ≤ n) (w : List Warning) (h : n ≤ x) where
  nothing : (a : EntityRef) → listed [] a ≡ true → a.num < low
  unfolding listed
  nothing a e = absurd (let y : ◌≡◌ {A = ℕ} 0 1 = cc in omega arith)

  two_new : (y : ℕ) → n ≤ y → New low (entity 5 n ∷ entity 8 y ∷ [])
  unfolding rising_refs rise_after compare_refs is_before every
  two_new y k = new_all low _ refl (and_i _ _ (le-leb low n from) (and_i _ _ (le-leb low y (omega arith)) refl))

  pub fits_alike : (rule : StopRule) → fold_fits (fold_step f (normalize (line_changes rule n x w))) ≡ fold_fits (fold_step f (normalize (line_changes rule n (suc n) w)))
  fits_alike StopSign = fresh_fits low f ok (line_changes StopSign n x w) (line_changes StopSign n (suc n) w) refl refl nothing nothing (two_new x h) (two_new (suc n) (omega arith)) refl
  fits_alike Marking = fresh_fits low f ok (line_changes Marking n x w) (line_changes Marking n (suc n) w) refl refl nothing nothing (two_new x h) (two_new (suc n) (omega arith)) refl
  fits_alike NoRule = refl
