-- The fold over a run: what each step must bring, and what is kept by it.
use mathlib.Core.Path.{◌≡◌, refl, ap}
use mathlib.Core.Bool.{Bool, true, false, not, ◌&&◌, ◌||◌}
use mathlib.Core.List.{List, []}
use Prim.Native.Nat.{ℕ, ◌^◌, ◌<◌, ◌≤◌}
use lib.Dec.{ltb, leb}
use native.Mathlib.Omega.{arith}
use borrow.Author.Tests.{eq-eqb, leb-false, lt-ltb}
use Rattle.refusal.specs.Answer.{done, ◌>>◌, refuse_when}
use Rattle.rows.specs.Lists.{every, keep, no_entries}
use Rattle.rows.specs.Table.{rising}
use Rattle.rows.proofs.Bools.{and_i, clash}
use Rattle.geometry.specs.Point.{point_on_map}
use Rattle.map.specs.Ceilings.{within_ceilings}
use Rattle.map.specs.Entity.{EntityRef, listed, has}
use Rattle.map.specs.MapFile.{is_map}
use Rattle.map.specs.Record.{Map}
use Rattle.map.proofs.Presence.{has_below}
use Rattle.changes.specs.ChangeFile.{lists_ok, rising_refs, max_warnings}
use Rattle.changes.specs.ChangeSet.{ChangeSet, normalize, fold_step, without, sort_refs, tally_of}
use Rattle.changes.specs.declared.Tally.{Tally}
use Rattle.changes.specs.Running.{State, same_tally, fold_ok, fold_fits, all_below}
use Rattle.changes.proofs.Entries.{Warned}
use Rattle.changes.proofs.Refs.{listed-append, listed_keep, listed_sort, every_listed, sort_rising, keep_rising}
use Rattle.edit.specs.Edit.{Draft, Outcome, finish}
use Rattle.run.specs.Law.{alters, handed}
use Rattle.run.proofs.Counts.{Named, named_lists, now_created, now_modified, then_deleted, gone_deleted}
use Rattle.run.proofs.Told.{alters_has}

-- ---- what is listed after `normalize`, and in the fold

listed_without : (xs ys : List EntityRef) (a : EntityRef) → listed (without xs ys) a ≡ (listed xs a && not (listed ys a))
unfolding without
listed_without xs ys a = listed_keep (λ b. not (listed ys b)) xs a

module _ (c : ChangeSet) (a : EntityRef) where
  pub normal_created : listed (normalize c).created a ≡ (listed c.created a && not (listed c.deleted a))
  unfolding normalize
  normal_created = rw (listed_without (sort_refs c.created) c.deleted a, listed_sort c.created a)

  pub normal_deleted : listed (normalize c).deleted a ≡ (listed c.deleted a && not (listed c.created a))
  unfolding normalize
  normal_deleted = rw (listed_without (sort_refs c.deleted) c.created a, listed_sort c.deleted a)

  pub normal_modified : listed (normalize c).modified a ≡ (listed c.modified a && not (listed c.created a) && not (listed c.deleted a))
  unfolding normalize
  normal_modified = rw (listed_without (without (sort_refs c.modified) c.created) c.deleted a, listed_without (sort_refs c.modified) c.created a, listed_sort c.modified a)

module _ (f c : ChangeSet) (a : EntityRef) where
  pub fold_created : listed (fold_step f c).created a ≡ ((listed f.created a || listed c.created a) && not (listed f.deleted a || listed c.deleted a))
  unfolding fold_step
  fold_created = rw (← listed-append f.created c.created a, ← listed-append f.deleted c.deleted a) (normal_created _ a)

  pub fold_deleted : listed (fold_step f c).deleted a ≡ ((listed f.deleted a || listed c.deleted a) && not (listed f.created a || listed c.created a))
  unfolding fold_step
  fold_deleted = rw (← listed-append f.created c.created a, ← listed-append f.deleted c.deleted a) (normal_deleted _ a)

  pub fold_modified : listed (fold_step f c).modified a
      ≡ ((listed f.modified a || listed c.modified a) && not (listed f.created a || listed c.created a) && not (listed f.deleted a || listed c.deleted a))
  unfolding fold_step
  fold_modified = rw (← listed-append f.created c.created a, ← listed-append f.deleted c.deleted a, ← listed-append f.modified c.modified a) (normal_modified _ a)

pub normal_rises : (c : ChangeSet) → (rising_refs (normalize c).created ≡ true) × (rising_refs (normalize c).modified ≡ true) × (rising_refs (normalize c).deleted ≡ true)
unfolding normalize without
normal_rises c = (
  keep_rising _ (sort_refs c.created) (sort_rising c.created),
  keep_rising _ (keep _ (sort_refs c.modified)) (keep_rising _ (sort_refs c.modified) (sort_rising c.modified)),
  keep_rising _ (sort_refs c.deleted) (sort_rising c.deleted),
)

pub fold_rises : (f c : ChangeSet) → (rising_refs (fold_step f c).created ≡ true) × (rising_refs (fold_step f c).modified ≡ true) × (rising_refs (fold_step f c).deleted ≡ true)
unfolding fold_step
fold_rises f c = normal_rises _

pub fold_quiet : (f c : ChangeSet) → no_entries (fold_step f c).warnings ≡ true
unfolding fold_step normalize no_entries
fold_quiet f c = refl

-- ---- one record through one step: z present at the opening, p before the call, q after it; w altered before, v by the call

step_created : (z p q : Bool)
    → ((p && not z || (q && not p) && not (p && not q)) && not (z && not p || (p && not q) && not (q && not p))) ≡ (q && not z)
step_created true true true = refl
step_created true true false = refl
step_created true false true = refl
step_created true false false = refl
step_created false true true = refl
step_created false true false = refl
step_created false false true = refl
step_created false false false = refl

step_deleted : (z p q : Bool)
    → ((z && not p || (p && not q) && not (q && not p)) && not (p && not z || (q && not p) && not (p && not q))) ≡ (z && not q)
step_deleted true true true = refl
step_deleted true true false = refl
step_deleted true false true = refl
step_deleted true false false = refl
step_deleted false true true = refl
step_deleted false true false = refl
step_deleted false false true = refl
step_deleted false false false = refl

-- what was there at the opening and is gone does not come back
step_modified : (z p q w v : Bool) → (v ≡ true → (p && q) ≡ true) → (z ≡ true → q ≡ true → p ≡ true)
    → ((z && p && w || v && not (q && not p) && not (p && not q)) && not (p && not z || (q && not p) && not (p && not q)) && not (z && not p || (p && not q) && not (q && not p)))
    ≡ (z && q && (w || v))
step_modified true true true true v f g = refl
step_modified true true true false true f g = refl
step_modified true true true false false f g = refl
step_modified true true false true v f g = refl
step_modified true true false false true f g = refl
step_modified true true false false false f g = refl
step_modified true false true w v f g = clash (g refl refl) refl
step_modified true false false w true f g = clash (f refl) refl
step_modified true false false w false f g = refl
step_modified false true true w true f g = refl
step_modified false true true w false f g = refl
step_modified false true false w true f g = refl
step_modified false true false w false f g = refl
step_modified false false true w true f g = clash (f refl) refl
step_modified false false true w false f g = refl
step_modified false false false w true f g = clash (f refl) refl
step_modified false false false w false f g = refl

-- ---- what an edit's draft must bring

pub record StepLaw (m : Map) (d : Draft) : Type 0 where
  pub created : (a : EntityRef) → listed d.changes.created a ≡ (has d.map a && not (has m a))
  pub deleted : (a : EntityRef) → listed d.changes.deleted a ≡ (has m a && not (has d.map a))
  pub modified : within_ceilings d.map ≡ true → d.map.next < 2 ^ 64 → (a : EntityRef) → listed d.changes.modified a ≡ alters m d.map a
  pub born : (a : EntityRef) → listed d.changes.created a ≡ true → m.next ≤ a.num
  pub later : m.next ≤ d.map.next
  pub rise : rising (λ n. n) m.next d.map.next (handed (normalize d.changes)) ≡ true
  pub valid : every point_on_map d.stored ≡ true → within_ceilings d.map ≡ true → d.map.next < 2 ^ 64 → is_map d.map ≡ true
  pub warned : d.map.next < 2 ^ 64 → Warned max_warnings d.changes.warnings

-- ---- what a run keeps: m is the opening's map, alt what the calls so far altered

pub record Kept (m : Map) (alt : EntityRef → Bool) (s : State) : Type 0 where
  pub named : Named m s.map alt s.fold
  pub quiet : no_entries s.fold.warnings ≡ true
  pub tally : s.tally ≡ tally_of s.fold
  pub map : is_map s.map ≡ true
  pub grown : m.next ≤ s.map.next
  pub opened : is_map m ≡ true

pub same_tally_lem : (t : Tally) → same_tally t t ≡ true
unfolding same_tally
same_tally_lem t = and_i _ _ (and_i _ _ (eq-eqb t.created t.created refl) (eq-eqb t.modified t.modified refl)) (eq-eqb t.deleted t.deleted refl)

-- what is kept is a state that no call refuses with 12 or 13
module _ (m : Map) (alt : EntityRef → Bool) (s : State) (k : Kept m alt s) where
  pub kept_lists : lists_ok s.fold ≡ true
  kept_lists = named_lists m s.map alt s.fold k.opened k.map k.named

  pub kept_fold : fold_ok s ≡ true
  unfolding fold_ok all_below
  kept_fold =
      and_i _ _ (and_i _ _ (and_i _ _ (and_i _ _ (and_i _ _ (and_i _ _ (and_i _ _ k.quiet
      (every_listed (λ a. ltb a.num s.map.next) s.fold.created (λ a t. lt-ltb _ _ (has_below s.map k.map a (made a t)))))
      (every_listed (λ a. ltb a.num s.map.next) s.fold.modified (λ a t. lt-ltb _ _ (has_below s.map k.map a (touched a t)))))
      (every_listed (λ a. ltb a.num s.map.next) s.fold.deleted (λ a t. lt-ltb _ _ (wide a (has_below m k.opened a (lost a t)) k.grown))))
      (every_listed (has s.map) s.fold.created made))
      (every_listed (has s.map) s.fold.modified touched))
      (every_listed (λ a. not (has s.map a)) s.fold.deleted (gone_deleted m s.map alt s.fold k.opened k.map k.named)))
      (rw k.tally (same_tally_lem (tally_of s.fold)))
    where
      made : (a : EntityRef) → listed s.fold.created a ≡ true → has s.map a ≡ true
      made = now_created m s.map alt s.fold k.opened k.map k.named

      touched : (a : EntityRef) → listed s.fold.modified a ≡ true → has s.map a ≡ true
      touched = now_modified m s.map alt s.fold k.opened k.map k.named

      lost : (a : EntityRef) → listed s.fold.deleted a ≡ true → has m a ≡ true
      lost = then_deleted m s.map alt s.fold k.opened k.map k.named

      wide : (a : EntityRef) → a.num < m.next → m.next ≤ s.map.next → a.num < s.map.next
      wide a p q = omega arith

-- ---- an edit that is finished keeps it

-- what a finished call says
pub record Finished (s : State) (d : Draft) (o : Outcome) : Type 0 where
  pub stored : every point_on_map d.stored ≡ true
  pub ceilings : within_ceilings d.map ≡ true
  pub fits : fold_fits (fold_step s.fold (normalize d.changes)) ≡ true
  pub spent : d.map.next < 2 ^ 64
  pub number : o.id ≡ d.id
  pub state : o.state ≡ record { map = d.map; fold = fold_step s.fold (normalize d.changes); tally = tally_of (fold_step s.fold (normalize d.changes)) }
  pub changes : o.changes ≡ normalize d.changes
  pub ends : o.ends ≡ d.ends

pub finished : (s : State) (d : Draft) (o : Outcome) → finish s d ≡ done o → Finished s d o
unfolding finish
finished s d o e = go (every point_on_map d.stored) (within_ceilings d.map) (fold_fits (fold_step s.fold (normalize d.changes))) (leb (2 ^ 64) d.map.next) refl refl refl refl e
  where
    end : Outcome
    end = record { state = record { map = d.map; fold = fold_step s.fold (normalize d.changes); tally = tally_of (fold_step s.fold (normalize d.changes)) }; id = d.id; changes = normalize d.changes; ends = d.ends }

    go : (p q r t : Bool) → every point_on_map d.stored ≡ p → within_ceilings d.map ≡ q → fold_fits (fold_step s.fold (normalize d.changes)) ≡ r → leb (2 ^ 64) d.map.next ≡ t
        → (refuse_when (not p) 9 [] >> (refuse_when (not (q && r)) 10 [] >> (refuse_when t 11 [] >> done end))) ≡ done o → Finished s d o
    go false q r t pe qe re te e = let z : ◌≡◌ {A = ℕ} 0 1 = cc in absurd (omega arith)
    go true false r t pe qe re te e = let z : ◌≡◌ {A = ℕ} 0 1 = cc in absurd (omega arith)
    go true true false t pe qe re te e = let z : ◌≡◌ {A = ℕ} 0 1 = cc in absurd (omega arith)
    go true true true true pe qe re te e = let z : ◌≡◌ {A = ℕ} 0 1 = cc in absurd (omega arith)
    go true true true false pe qe re te e =
        let q : o ≡ end = cc in
        record { stored = pe; ceilings = qe; fits = re; spent = leb-false (2 ^ 64) d.map.next te; number = ap (λ (x : Outcome). x.id) q; state = ap (λ (x : Outcome). x.state) q; changes = ap (λ (x : Outcome). x.changes) q; ends = ap (λ (x : Outcome). x.ends) q }

pub kept_step : (m : Map) (alt : EntityRef → Bool) (s : State) (d : Draft) (o : Outcome) → Kept m alt s → StepLaw s.map d → Finished s d o
    → Kept m (λ a. alt a || alters s.map o.state.map a) o.state
kept_step m alt s d o k l f = go f
  where
    set : ChangeSet
    set = normalize d.changes

    made : (a : EntityRef) → listed (fold_step s.fold set).created a ≡ (has d.map a && not (has m a))
    made a = rw (fold_created s.fold set a, normal_created d.changes a, normal_deleted d.changes a, k.named.created a, k.named.deleted a, l.created a, l.deleted a)
        (step_created (has m a) (has s.map a) (has d.map a))

    lost : (a : EntityRef) → listed (fold_step s.fold set).deleted a ≡ (has m a && not (has d.map a))
    lost a = rw (fold_deleted s.fold set a, normal_created d.changes a, normal_deleted d.changes a, k.named.created a, k.named.deleted a, l.created a, l.deleted a)
        (step_deleted (has m a) (has s.map a) (has d.map a))

    touched : Finished s d o → (a : EntityRef) → listed (fold_step s.fold set).modified a ≡ (has m a && has d.map a && (alt a || alters s.map d.map a))
    touched f a = rw (fold_modified s.fold set a, normal_created d.changes a, normal_deleted d.changes a, normal_modified d.changes a, k.named.created a, k.named.deleted a, k.named.modified a, l.created a, l.deleted a, l.modified f.ceilings f.spent a)
        (step_modified (has m a) (has s.map a) (has d.map a) (alt a) (alters s.map d.map a) (alters_has s.map d.map a) stays)
      where
        stays : has m a ≡ true → has d.map a ≡ true → has s.map a ≡ true
        stays p q = yet (has s.map a) refl
          where
            yet : (b : Bool) → has s.map a ≡ b → b ≡ true
            yet true e = refl
            yet false e =
                let u = has_below m k.opened a p in
                let v = l.born a (rw (l.created a, q, e)) in
                let w = k.grown in absurd (omega arith)

    go : Finished s d o → Kept m (λ a. alt a || alters s.map o.state.map a) o.state
    go f = rw f.state (record {
      named = record { created = made; deleted = lost; modified = touched f; rises = fold_rises s.fold set };
      quiet = fold_quiet s.fold set;
      tally = refl;
      map = l.valid f.stored f.ceilings f.spent;
      grown = let u = k.grown in let v = l.later in omega arith;
      opened = k.opened;
    })

-- ---- the set that a call answers names what that call did

step_one : (z q v : Bool) → (v ≡ true → (z && q) ≡ true) → (v && not (q && not z) && not (z && not q)) ≡ (z && q && v)
step_one true true true f = refl
step_one true true false f = refl
step_one true false true f = clash (f refl) refl
step_one true false false f = refl
step_one false true true f = clash (f refl) refl
step_one false true false f = refl
step_one false false true f = clash (f refl) refl
step_one false false false f = refl

pub step_none : (z q : Bool) → ((q && not z) && not (z && not q)) ≡ (q && not z)
step_none true true = refl
step_none true false = refl
step_none false true = refl
step_none false false = refl

pub set_named : (s : State) (d : Draft) (o : Outcome) → StepLaw s.map d → Finished s d o → Named s.map d.map (alters s.map d.map) (normalize d.changes)
set_named s d o l f = record {
  created = λ a. rw (normal_created d.changes a, l.created a, l.deleted a) (step_none (has s.map a) (has d.map a));
  deleted = λ a. rw (normal_deleted d.changes a, l.created a, l.deleted a) (step_none (has d.map a) (has s.map a));
  modified = λ a. rw (normal_modified d.changes a, l.created a, l.deleted a, l.modified f.ceilings f.spent a) (step_one (has s.map a) (has d.map a) (alters s.map d.map a) (alters_has s.map d.map a));
  rises = normal_rises d.changes;
}
