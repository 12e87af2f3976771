-- From the steps of a call to its whole outcome: one law for a refusal at any step, one for a call that is carried out. Assumes nothing.
use Rattle.std.specs.Prelude.{Option, Err, Ok, Result}
use Prim.Native.Nat.{ℕ, ◌^◌}
use mathlib.Core.Path.{◌≡◌, refl, sym, ap, ◌∙◌}
use mathlib.Core.Bool.{Bool, true, false, not, ◌&&◌}
use mathlib.Core.List.{List, []}
use native.Mathlib.Omega.{arith}
use borrow.Author.Tests.{eqb-true}
use lib.Dec.{eqb, leb}
use lib.Ieee.{Float}
use lib.ListN.{length}
use Rattle.rows.specs.Lists.{every}
use Rattle.rows.proofs.Bools.{parts, and_i}
use Rattle.refusal.specs.Answer.{Answer, refused, done, refused_as, ◌>>=◌, ◌>>◌, refuse_when}
use Rattle.refusal.specs.declared.Refusal.{Refusal}
use Rattle.refusal.specs.declared.Refusal.TheVariants as e
use Rattle.geometry.specs.Point.{point_on_map}
use Rattle.map.specs.Record.{Map}
use Rattle.map.specs.Ceilings.{within_ceilings}
use Rattle.map.specs.MapFile.{is_map}
use Rattle.map.specs.Tables.{map_of, is_map_tables}
use Rattle.map.proofs.SoundLaws.{Sound, sound}
use Rattle.changes.specs.declared.Tally.{Tally}
use Rattle.changes.specs.ChangeSet.{normalize, fold_step, tally_of}
use Rattle.changes.specs.ChangeFile.{lists_ok}
use Rattle.changes.specs.Layout.{set_words, change_set_of, lists_ok_in}
use Rattle.changes.specs.Running.{State, fold_ok, fold_fits}
use Rattle.edit.specs.Edit.{Draft, Outcome, finish, call}
use Rattle.place.specs.Values.{maybe_ends}
use Rattle.edit.specs.Lent.{Lent, state_of, lent_call, CallLeft}
use Rattle.finishing.proofs.FreshLaws.{FoldBelow, fold_below}
use Rattle.finishing.specs.Finish.{lent_checks, planned, settled, steps}
use Rattle.place.specs.declared.SectionNames.{SectionNames}

-- what a call that is carried out answers
abbrev pub outcome_of : State → Draft → Outcome
outcome_of s d =
    let set = normalize d.changes in
    let fold = fold_step s.fold set in
    record { state = record { map = d.map; fold = fold; tally = tally_of fold }; id = d.id; changes = set; ends = d.ends }

finish_is : (s : State) (d : Draft) → finish s d
    ≡ (refuse_when (not (every point_on_map d.stored)) 9 [] >> (refuse_when (not (within_ceilings d.map)) 10 []
    >> (settled s.fold (normalize d.changes) (leb (2 ^ 64) d.map.next) >> done (outcome_of s d))))
unfolding finish settled
finish_is s d = go (every point_on_map d.stored) (within_ceilings d.map) (fold_fits (fold_step s.fold (normalize d.changes))) (leb (2 ^ 64) d.map.next)
  where
    go : (p w f t : Bool) → (refuse_when (not p) 9 [] >> (refuse_when (not (w && f)) 10 [] >> (refuse_when t 11 [] >> done (outcome_of s d))))
        ≡ (refuse_when (not p) 9 [] >> (refuse_when (not w) 10 [] >> ((refuse_when (not f) 10 [] >> refuse_when t 11 []) >> done (outcome_of s d))))
    go false w f t = refl
    go true false f t = refl
    go true true false t = refl
    go true true true true = refl
    go true true true false = refl

-- the refusals first, and then the outcome
tail_is : (s : State) (a : Answer Draft) → (a >>= finish s)
    ≡ (((a >>= λ d. refuse_when (not (every point_on_map d.stored)) 9 [] >> (refuse_when (not (within_ceilings d.map)) 10 [] >> done d))
    >>= λ d. settled s.fold (normalize d.changes) (leb (2 ^ 64) d.map.next) >> done d) >>= λ d. done (outcome_of s d))
tail_is s (refused n ds) = refl
tail_is s (done d) = finish_is s d ∙ go (refuse_when (not (every point_on_map d.stored)) 9 []) (refuse_when (not (within_ceilings d.map)) 10 [])
  where
    last : (z : Answer (Unit {0})) → (z >> done (outcome_of s d)) ≡ ((z >> done d) >>= λ e. done (outcome_of s e))
    last (refused n ds) = refl
    last (done u) = refl

    go : (x y : Answer (Unit {0})) → (x >> (y >> (settled s.fold (normalize d.changes) (leb (2 ^ 64) d.map.next) >> done (outcome_of s d))))
        ≡ (((x >> (y >> done d)) >>= λ e. settled s.fold (normalize e.changes) (leb (2 ^ 64) e.map.next) >> done e) >>= λ e. done (outcome_of s e))
    go (refused n ds) y = refl
    go (done u) (refused n ds) = refl
    go (done u) (done v) = last (settled s.fold (normalize d.changes) (leb (2 ^ 64) d.map.next))

-- 12 and 13, tested in one place
checks_are : {A : Type 0} (t i u v : Bool) (x : Answer A) → (t ≡ true → i ≡ true)
    → (refuse_when (not t) 12 [] >> (refuse_when (not u) 13 [] >> (refuse_when (not i) 12 [] >> (refuse_when (not v) 13 [] >> x))))
    ≡ ((refuse_when (not t) 12 [] >> refuse_when (not (u && v)) 13 []) >> x)
checks_are false i u v x f = refl
checks_are true i false v x f = refl
checks_are true i true false x f = rw (f refl)
checks_are true i true true x f = rw (f refl)

pub bind_then : {A B C : Type 0} (a : Answer A) (b : Answer B) (f : B → Answer C) → (a >> (b >>= f)) ≡ ((a >> b) >>= f)
bind_then (refused n ds) b f = refl
bind_then (done x) b f = refl

pub tables-map : (ws : List ℕ) (cs : List Float) → is_map_tables ws cs ≡ true → is_map (map_of ws cs) ≡ true
unfolding is_map_tables
tables-map ws cs h = search parts

-- both tests of what is lent, once they are past
pub lent_past : (l : Lent) → lent_checks l ≡ done tt
    → (is_map_tables l.words l.coords ≡ true) × ((eqb (length l.fold) set_words && eqb (length l.set) set_words && (lists_ok (change_set_of l.fold) && fold_ok (state_of l))) ≡ true)
unfolding lent_checks
lent_past l h = go _ _ h
  where
    go : (t u : Bool) → (refuse_when (not t) 12 [] >> refuse_when (not u) 13 []) ≡ done tt → (t ≡ true) × (u ≡ true)
    go true true e = (refl, refl)
    go true false e = absurd (let y : ◌≡◌ {A = ℕ} 0 1 = cc in omega arith)
    go false u e = absurd (let y : ◌≡◌ {A = ℕ} 0 1 = cc in omega arith)

-- what is known then
pub record LentFine (l : Lent) : Type 0 where
  pub tables : is_map_tables l.words l.coords ≡ true
  pub fold : lists_ok_in l.fold ≡ true
  pub sound : Sound l.words l.coords
  pub fold_size : length l.fold ≡ set_words
  pub set : length l.set ≡ set_words
  pub below : FoldBelow (map_of l.words l.coords).next (change_set_of l.fold)

pub lent_fine : (l : Lent) → lent_checks l ≡ done tt → LentFine l
unfolding lists_ok_in
lent_fine l h =
    let a = lent_past l h in
    let b = a.1 in
    record {
      tables = a.0;
      sound = sound l.words l.coords a.0;
      fold_size = eqb-true (length l.fold) set_words (search parts);
      fold = and_i (eqb (length l.fold) set_words) (lists_ok (change_set_of l.fold)) (search parts) (search parts);
      set = eqb-true (length l.set) set_words (search parts);
      below = fold_below (state_of l) (search parts) (search parts);
    }

module _ (edit : Map → Answer Draft) (l : Lent) where
  pub call_is : lent_call (call edit) l ≡ (steps edit l >>= λ d. done (outcome_of (state_of l) d))
  unfolding lent_call call steps lent_checks planned
  call_is =
      checks_are (is_map_tables l.words l.coords) (is_map (map_of l.words l.coords)) (eqb (length l.fold) set_words && eqb (length l.set) set_words)
      (lists_ok (change_set_of l.fold) && fold_ok (state_of l)) (edit (map_of l.words l.coords) >>= finish (state_of l)) (tables-map l.words l.coords)
      ∙ ap (λ (x : Answer Outcome). lent_checks l >> x) (tail_is (state_of l) (edit (map_of l.words l.coords)))
      ∙ bind_then (lent_checks l) _ (λ d. done (outcome_of (state_of l) d))

  -- ---- where a call ends

  pub lent_refused : (x : Refusal) → lent_checks l ≡ refused_as x → steps edit l ≡ refused_as x
  unfolding steps
  lent_refused x h = rw h

  module _ (fine : lent_checks l ≡ done tt) where
    pub plan_refused : (x : Refusal) → planned edit (map_of l.words l.coords) ≡ refused_as x → steps edit l ≡ refused_as x
    unfolding steps
    plan_refused x h = rw (fine, h)

    module _ (d : Draft) (plan : planned edit (map_of l.words l.coords) ≡ done d) where
      pub settle_refused : (x : Refusal) → settled (change_set_of l.fold) (normalize d.changes) (leb (2 ^ 64) d.map.next) ≡ refused_as x → steps edit l ≡ refused_as x
      unfolding steps
      settle_refused x h = rw (fine, plan, h)

      pub carried_out : settled (change_set_of l.fold) (normalize d.changes) (leb (2 ^ 64) d.map.next) ≡ done tt → steps edit l ≡ done d
      unfolding steps
      carried_out h = rw (fine, plan, h)

  -- ---- and what it leaves: r and u are the answer and the tally of the code

  pub call_refused : (x : Refusal) → steps edit l ≡ refused_as x → (f' : List ℕ) → f' ≡ l.fold → (r : Result (ℕ × Option SectionNames) Refusal) (u : Tally) → (r ≡ Err x) × (u ≡ l.tally)
      → CallLeft (call edit) l r (record { words = l.words; coords = l.coords; fold = f'; tally = u; set = l.set })
  call_refused x h f' ef r u e = rw (ef, e.0, e.1) (record { answer = sym (call_is ∙ rw h); kept = λ _. refl })

  pub call_done : (d : Draft) → steps edit l ≡ done d → (new : Lent) (n : ℕ) (es : Option SectionNames) → map_of new.words new.coords ≡ d.map
      → change_set_of new.fold ≡ fold_step (change_set_of l.fold) (normalize d.changes) → new.tally ≡ tally_of (change_set_of new.fold)
      → change_set_of new.set ≡ normalize d.changes → n ≡ d.id → maybe_ends es ≡ d.ends → CallLeft (call edit) l (Ok (n, es)) new
  call_done d h new n es a b t s i w = record {
    answer = rw (a, t, b, s, i, w) (sym (call_is ∙ rw h));
    kept = λ q. absurd (let y : ◌≡◌ {A = ℕ} 0 1 = cc in omega arith);
  }

-- ---- a plan

module _ (edit : Map → Answer Draft) (m : Map) where
  pub edit_refused : (x : Refusal) → edit m ≡ refused_as x → planned edit m ≡ refused_as x
  unfolding planned
  edit_refused x h = rw h

  module _ (d : Draft) (h : edit m ≡ done d) where
    -- its two tests, as the code answers them
    pub plan_tests : (p w : Bool) → every point_on_map d.stored ≡ p → within_ceilings d.map ≡ w → planned edit m ≡ ((refuse_when (not p) 9 [] >> refuse_when (not w) 10 []) >> done d)
    unfolding planned
    plan_tests p w ep ew = rw (h, ep, ew) (go p w)
      where
        go : (u v : Bool) → (refuse_when (not u) 9 [] >> (refuse_when (not v) 10 [] >> done d)) ≡ ((refuse_when (not u) 9 [] >> refuse_when (not v) 10 []) >> done d)
        go false v = refl
        go true false = refl
        go true true = refl

    pub plan_off : every point_on_map d.stored ≡ false → planned edit m ≡ refused_as e.OffTheMap
    unfolding planned
    plan_off p = rw (h, p)

    pub plan_full : every point_on_map d.stored ≡ true → within_ceilings d.map ≡ false → planned edit m ≡ refused_as e.Full
    unfolding planned
    plan_full p w = rw (h, p, w)

  -- the end map of a plan is within its ceilings
  pub plan_within : (d : Draft) → planned edit m ≡ done d → within_ceilings d.map ≡ true
  unfolding planned
  plan_within d h = go (edit m) h
    where
      test : (p w : Bool) (a : Draft) → (refuse_when (not p) 9 [] >> (refuse_when (not w) 10 [] >> done a)) ≡ done d → (w ≡ true) × (a ≡ d)
      test true true a e = (refl, cc)
      test true false a e = absurd (let y : ◌≡◌ {A = ℕ} 0 1 = cc in omega arith)
      test false w a e = absurd (let y : ◌≡◌ {A = ℕ} 0 1 = cc in omega arith)

      go : (a : Answer Draft) → (a >>= λ x. refuse_when (not (every point_on_map x.stored)) 9 [] >> (refuse_when (not (within_ceilings x.map)) 10 [] >> done x)) ≡ done d → within_ceilings d.map ≡ true
      go (refused n ds) e = absurd (let y : ◌≡◌ {A = ℕ} 0 1 = cc in omega arith)
      go (done x) e = let t = test (every point_on_map x.stored) (within_ceilings x.map) x e in rw t.1 at t.0
