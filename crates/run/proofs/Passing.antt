-- A state that passes 12 and 13 passes again after a step whose set names what became of its map.
use mathlib.Core.Path.{◌≡◌, refl}
use mathlib.Core.Bool.{Bool, true, false, not, ◌&&◌, ◌||◌}
use Prim.Native.Nat.{◌<◌, ◌≤◌}
use lib.Dec.{ltb}
use native.Mathlib.Omega.{arith}
use borrow.Author.Tests.{lt-ltb, ltb-true}
use Rattle.rows.proofs.Bools.{and_i, clash, parts}
use Rattle.map.specs.Entity.{EntityRef, listed, has}
use Rattle.map.specs.MapFile.{is_map}
use Rattle.map.specs.Record.{Map}
use Rattle.map.proofs.Presence.{has_below}
use Rattle.changes.specs.ChangeFile.{entry, lists_ok}
use Rattle.changes.specs.ChangeSet.{ChangeSet, fold_step, tally_of}
use Rattle.changes.specs.Running.{State, fold_ok, fold_fits, all_below}
use Rattle.changes.proofs.Entries.{has_fits}
use Rattle.changes.proofs.EntryLaws.{entries_each}
use Rattle.changes.proofs.FoldLaws.{fold_apart}
use Rattle.changes.proofs.Refs.{every_listed, listed_every}
use Rattle.run.specs.Law.{passes}
use Rattle.run.proofs.Counts.{Named, set-list, then_deleted}
use Rattle.run.proofs.Fold.{fold_created, fold_modified, fold_deleted, fold_rises, fold_quiet, same_tally_lem}

-- ---- one record through one step: p present before it, q after it; i, j and k named by the fold as created, modified and deleted; v altered by the step

still_created : (i k p q : Bool) → (i ≡ true → p ≡ true) → ((i || q && not p) && not (k || p && not q)) ≡ true → q ≡ true
still_created i k p true f e = refl
still_created true true p false f e = clash e refl
still_created true false true false f e = clash e refl
still_created true false false false f e = clash (f refl) refl
still_created false k p false f e = clash e refl

still_modified : (j i k p q v : Bool) → (j ≡ true → p ≡ true) → ((j || p && q && v) && not (i || q && not p) && not (k || p && not q)) ≡ true → q ≡ true
still_modified j i k p true v f e = refl
still_modified true i k false false v f e = clash (f refl) refl
still_modified true true k true false v f e = clash e refl
still_modified true false true true false v f e = clash e refl
still_modified true false false true false v f e = clash e refl
still_modified false i k true false v f e = clash e refl
still_modified false i k false false v f e = clash e refl

still_gone : (k i p q : Bool) → (k ≡ true → not p ≡ true) → ((k || p && not q) && not (i || q && not p)) ≡ true → not q ≡ true
still_gone k i p false f e = refl
still_gone true i true true f e = clash (f refl) refl
still_gone false i true true f e = clash e refl
still_gone true true false true f e = clash e refl
still_gone true false false true f e = clash e refl
still_gone false i false true f e = clash e refl

one_of : {A : Type 0} (x y z : Bool) → ((x || y) && z) ≡ true → (x ≡ true → A) → (y ≡ true → A) → A
one_of true y z e f g = f refl
one_of false true z e f g = g refl
one_of false false z e f g = clash e refl

-- ---- what a fold that passes says of its entries

module _ (s : State) (ok : (lists_ok s.fold && fold_ok s) ≡ true) where
  created_here : (a : EntityRef) → listed s.fold.created a ≡ true → has s.map a ≡ true
  unfolding fold_ok
  created_here a t = listed_every (has s.map) s.fold.created a (search parts depth 12) t

  modified_here : (a : EntityRef) → listed s.fold.modified a ≡ true → has s.map a ≡ true
  unfolding fold_ok
  modified_here a t = listed_every (has s.map) s.fold.modified a (search parts depth 12) t

  deleted_gone : (a : EntityRef) → listed s.fold.deleted a ≡ true → not (has s.map a) ≡ true
  unfolding fold_ok
  deleted_gone a t = listed_every (λ b. not (has s.map b)) s.fold.deleted a (search parts depth 12) t

  deleted_below : (a : EntityRef) → listed s.fold.deleted a ≡ true → a.num < s.map.next
  unfolding fold_ok all_below
  deleted_below a t = ltb-true a.num s.map.next (listed_every (λ b. ltb b.num s.map.next) s.fold.deleted a (search parts depth 12) t)

  deleted_fits : (a : EntityRef) → listed s.fold.deleted a ≡ true → entry.fits a ≡ true
  unfolding lists_ok
  deleted_fits a t = listed_every entry.fits s.fold.deleted a (entries_each s.fold.deleted (search parts depth 12)) t

-- ---- the step

module _ (s : State) (ok : (lists_ok s.fold && fold_ok s) ≡ true) (was : is_map s.map ≡ true) (n : Map) (now : is_map n ≡ true) (later : s.map.next ≤ n.next)
    (alt : EntityRef → Bool) (c : ChangeSet) (k : Named s.map n alt c) where
  abbrev stepped : ChangeSet
  stepped = fold_step s.fold c

  made : (a : EntityRef) → listed stepped.created a ≡ true → has n a ≡ true
  made a t = still_created (listed s.fold.created a) (listed s.fold.deleted a) (has s.map a) (has n a) (created_here s ok a)
      (rw (fold_created s.fold c a, k.created a, k.deleted a) at t)

  touched : (a : EntityRef) → listed stepped.modified a ≡ true → has n a ≡ true
  touched a t = still_modified (listed s.fold.modified a) (listed s.fold.created a) (listed s.fold.deleted a) (has s.map a) (has n a) (alt a) (modified_here s ok a)
      (rw (fold_modified s.fold c a, k.created a, k.deleted a, k.modified a) at t)

  lost : (a : EntityRef) → listed stepped.deleted a ≡ true → not (has n a) ≡ true
  lost a t = still_gone (listed s.fold.deleted a) (listed s.fold.created a) (has s.map a) (has n a) (deleted_gone s ok a)
      (rw (fold_deleted s.fold c a, k.created a, k.deleted a) at t)

  -- a deleted record was named by the fold, or was there
  lost_below : (a : EntityRef) → listed stepped.deleted a ≡ true → a.num < n.next
  lost_below a t = one_of (listed s.fold.deleted a) (listed c.deleted a) _ (rw (fold_deleted s.fold c a) at t)
      (λ u. let v = deleted_below s ok a u in omega arith)
      (λ u. let v = has_below s.map was a (then_deleted s.map n alt c was now k a u) in omega arith)

  lost_fits : (a : EntityRef) → listed stepped.deleted a ≡ true → entry.fits a ≡ true
  lost_fits a t = one_of (listed s.fold.deleted a) (listed c.deleted a) _ (rw (fold_deleted s.fold c a) at t)
      (deleted_fits s ok a)
      (λ u. has_fits s.map was a (then_deleted s.map n alt c was now k a u))

  lists_again : fold_fits stepped ≡ true → lists_ok stepped ≡ true
  unfolding fold_fits lists_ok
  lists_again few =
      let x = set-list stepped.created (fold_rises s.fold c).0 (λ a t. has_fits n now a (made a t)) (search parts depth 6) in
      let y = set-list stepped.modified (fold_rises s.fold c).1 (λ a t. has_fits n now a (touched a t)) (search parts depth 6) in
      let z = set-list stepped.deleted (fold_rises s.fold c).2 lost_fits (search parts depth 6) in
      and_i _ _ (and_i _ _ (and_i _ _ x y) z) (fold_apart s.fold c)

  fold_again : fold_ok (record { map = n; fold = stepped; tally = tally_of stepped }) ≡ true
  unfolding fold_ok all_below
  fold_again =
      and_i _ _ (and_i _ _ (and_i _ _ (and_i _ _ (and_i _ _ (and_i _ _ (and_i _ _ (fold_quiet s.fold c)
      (every_listed (λ a. ltb a.num n.next) stepped.created (λ a t. lt-ltb _ _ (has_below n now a (made a t)))))
      (every_listed (λ a. ltb a.num n.next) stepped.modified (λ a t. lt-ltb _ _ (has_below n now a (touched a t)))))
      (every_listed (λ a. ltb a.num n.next) stepped.deleted (λ a t. lt-ltb _ _ (lost_below a t))))
      (every_listed (has n) stepped.created made))
      (every_listed (has n) stepped.modified touched))
      (every_listed (λ a. not (has n a)) stepped.deleted lost))
      (same_tally_lem (tally_of stepped))

  pub passes_again : fold_fits stepped ≡ true → passes (record { map = n; fold = stepped; tally = tally_of stepped }) ≡ true
  unfolding passes
  passes_again few = and_i _ _ (and_i _ _ now (lists_again few)) fold_again
