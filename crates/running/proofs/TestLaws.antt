-- The running fold against a map: entry by entry, list by list, and the whole.
use mathlib.Core.Path.{◌≡◌, refl, sym, ap, ◌∙◌}
use mathlib.Core.Bool.{Bool, true, false, not, ◌&&◌}
use mathlib.Core.List.{List, [], ◌∷◌}
use Prim.Native.Nat.{ℕ, zero, suc, ◌+◌, ◌-◌, ◌*◌, ◌≤◌, ◌<◌}
use native.Mathlib.Omega.{arith}
use lib.Dec.{eqb, ltb}
use lib.Ieee.{Float}
use lib.ListN.{length, get_or}
use borrow.Author.Tests.{lt-ltb, le-ltb, not-true, not-false}
use Rattle.rows.specs.Lists.{every, no_entries}
use Rattle.rows.proofs.Bools.{parts, and_i, agree}
use Rattle.rows.proofs.Tables.{every_if}
use Rattle.store.specs.Layout.{next_of}
use Rattle.map.specs.Record.{Map}
use Rattle.map.specs.Entity.{EntityRef, entity, has}
use Rattle.map.specs.Access.{HasRead}
use Rattle.map.specs.Tables.{map_of}
use Rattle.changes.specs.declared.Tally.{Tally}
use Rattle.changes.specs.ChangeSet.{ChangeSet, tally_of}
use Rattle.changes.specs.Running.{same_tally, all_below, fold_ok}
use Rattle.changes.specs.Walk.{refs_to}
use Rattle.changes.specs.declared.lists.EntryList.{EntryList}
use Rattle.changes.specs.Listed.{refs_of, Stands}
use Rattle.changes.proofs.EntryLaws.{refs_at_lem}
use Rattle.changes.specs.Layout.{from_of, set_words, count_in, ref_at, refs_at, warnings_at, list_in, change_set_of, lists_ok_in}
use Rattle.sets.specs.Tables.{Roomy}
use Rattle.sets.proofs.SettleLaws.{length_in}
use Rattle.sets.proofs.TableLaws.{ok_size_of, fits_ok}
use Rattle.running.specs.Tested.{stands, EntryTested, ListTested, FoldTested}

-- ---- one entry
module _ (ws : List ℕ) (there : Bool) (k x n : ℕ) (h : n ≡ next_of ws) where
  pub entry_high : n ≤ x → EntryTested ws there (entity k x) false
  unfolding stands map_of
  entry_high l = record { answer = λ cs. rw (le-ltb x (next_of ws) (omega arith)) }

  low : x < n → (cs : List Float) → ltb x (map_of ws cs).next ≡ true
  unfolding map_of
  low l cs = lt-ltb x (next_of ws) (omega arith)

  pub entry_there : x < n → there ≡ true → (b : Bool) → HasRead ws k x b → EntryTested ws there (entity k x) b
  unfolding stands
  entry_there l t b g = record { answer = λ cs. g.answer cs ∙ sym (rw (low l cs, t)) }

  pub entry_gone : x < n → there ≡ false → (b : Bool) → HasRead ws k x b → EntryTested ws there (entity k x) (not b)
  unfolding stands
  entry_gone l t b g = record { answer = λ cs. ap not (g.answer cs) ∙ sym (rw (low l cs, t)) }

pub ruleset entry_told = (entry_high, entry_there, entry_gone)

-- ---- one list: i of its n entries have passed
pub record Passing (ws : List ℕ) (there : Bool) (t : List ℕ) (e n i : ℕ) : Type 0 where
  pub starts : n * 2 ≤ e
  pub ends : e ≤ length t
  pub within : i ≤ n
  pub goes : (cs : List Float) → every (stands (map_of ws cs) there) (refs_at t (e - n * 2 + i * 2) (n - i)) ≡ every (stands (map_of ws cs) there) (refs_to t e n)

pub passing_start : (ws : List ℕ) (there : Bool) (t : List ℕ) (e n : ℕ) → n * 2 ≤ e → e ≤ length t → Passing ws there t e n 0
unfolding refs_to
passing_start ws there t e n h k = record { starts = h; ends = k; within = omega arith; goes = λ cs. let q : e - n * 2 + 0 * 2 ≡ e - n * 2 = omega arith in let r : n - 0 ≡ n = omega arith in rw (q, r) }

module _ (ws : List ℕ) (there : Bool) (t : List ℕ) (e n i : ℕ) (c : Passing ws there t e n i) (o : i < n) (a : EntityRef) (s : a ≡ ref_at t (e - n * 2 + i * 2)) (r : Bool) (h : EntryTested ws there a r) where
  turn : (cs : List Float) → (r && every (stands (map_of ws cs) there) (refs_at t (e - n * 2 + (i + 1) * 2) (n - (i + 1)))) ≡ every (stands (map_of ws cs) there) (refs_to t e n)
  unfolding every refs_at
  turn cs =
      let q : n - i ≡ suc (n - (i + 1)) = omega arith in
      let u : e - n * 2 + i * 2 + 2 ≡ e - n * 2 + (i + 1) * 2 = omega arith in
      rw (h.answer cs, s) (rw (q, u) at (c.goes cs))

  pub passing_stop : not r ≡ true → ListTested ws there (refs_to t e n) false
  passing_stop z = record { answer = λ cs. rw (not-true r z) at (turn cs) }

  pub passing_more : not r ≡ false → Passing ws there t e n (i + 1)
  passing_more z = record { starts = c.starts; ends = c.ends; within = omega arith; goes = λ cs. rw (not-false r z) at (turn cs) }

pub passing_end : (ws : List ℕ) (there : Bool) (t : List ℕ) (e n i : ℕ) → Passing ws there t e n i → i ≡ n → ListTested ws there (refs_to t e n) true
unfolding every refs_at
passing_end ws there t e n i c h = let q : n - i ≡ 0 = omega arith in record { answer = λ cs. rw q at (c.goes cs) }

pub ruleset passing = (passing_start, passing_stop, passing_more, passing_end)

-- a list of a table, as the code gives it
module _ (f : List ℕ) (l : ℕ) (h : Roomy f) (k : l < 3) (x : EntryList) (w : x.words.now ≡ f) (e : x.end ≡ from_of l + count_in f l * 2) (n : x.count ≡ count_in f l) where
  pub list_stands : Stands x
  list_stands = let u = h.few l k in let v = h.size in let z = ap length w in (omega arith, omega arith)

  pub list_told : (ws : List ℕ) (there : Bool) (r : Bool) → ListTested ws there (refs_of x) r → ListTested ws there (list_in f l) r
  unfolding list_in
  list_told ws there r q = rw (w, e, n, refs_at_lem f (from_of l) (count_in f l)) at q

-- ---- the tally
pub counts : (f : List ℕ) (t : Tally) → same_tally t (tally_of (change_set_of f)) ≡ (eqb t.created (get_or f 0 0) && eqb t.modified (get_or f 1 0) && eqb t.deleted (get_or f 2 0))
unfolding same_tally tally_of change_set_of
counts f t = rw (length_in f 0, length_in f 1, length_in f 2) (unfold count_in in refl)

-- ---- the fold
both : {A : Type 0} (p q : A → Bool) (xs : List A) → every p xs ≡ true → every q xs ≡ true → every (λ a. p a && q a) xs ≡ true
unfolding every
both p q [] s t = refl
both p q (x ∷ xs) s t = and_i _ _ (and_i (p x) (q x) (search parts) (search parts)) (both p q xs (search parts) (search parts))

module _ (m : Map) where
  there_both : (xs : List EntityRef) → (all_below m.next xs && every (has m) xs) ≡ every (stands m true) xs
  unfolding all_below stands
  there_both xs = agree _ _
      (λ h. both (λ a. ltb a.num m.next) (has m) xs (search parts) (search parts))
      (λ h. and_i _ _ (every_if _ (λ a. ltb a.num m.next) xs (λ a k. search parts) h) (every_if _ (has m) xs (λ a k. search parts) h))

  gone_both : (xs : List EntityRef) → (all_below m.next xs && every (λ a. not (has m a)) xs) ≡ every (stands m false) xs
  unfolding all_below stands
  gone_both xs = agree _ _
      (λ h. both (λ a. ltb a.num m.next) (λ a. not (has m a)) xs (search parts) (search parts))
      (λ h. and_i _ _ (every_if _ (λ a. ltb a.num m.next) xs (λ a k. search parts) h) (every_if _ (λ a. not (has m a)) xs (λ a k. search parts) h))

-- the definition, in the order of the code
in_order : (w b₀ b₁ b₂ h₀ h₁ h₂ s : Bool) → (w && b₀ && b₁ && b₂ && h₀ && h₁ && h₂ && s) ≡ (w && s && (b₀ && h₀) && (b₁ && h₁) && (b₂ && h₂))
in_order w b₀ b₁ b₂ h₀ h₁ h₂ s = agree _ _
    (λ e. and_i _ _ (and_i _ _ (and_i _ _ (and_i w s (search parts depth 9) (search parts depth 9)) (and_i b₀ h₀ (search parts depth 9) (search parts depth 9))) (and_i b₁ h₁ (search parts depth 9) (search parts depth 9))) (and_i b₂ h₂ (search parts depth 9) (search parts depth 9)))
    (λ e. and_i _ _ (and_i _ _ (and_i _ _ (and_i _ _ (and_i _ _ (and_i _ _ (and_i w b₀ (search parts depth 9) (search parts depth 9)) (search parts depth 9)) (search parts depth 9)) (search parts depth 9)) (search parts depth 9)) (search parts depth 9)) (search parts depth 9))

unfoldable in_order_lem : Map → ChangeSet → Tally → Bool
in_order_lem m f t = no_entries f.warnings && same_tally t (tally_of f) && every (stands m true) f.created && every (stands m true) f.modified && every (stands m false) f.deleted

ordered : (m : Map) (f : ChangeSet) (t : Tally) → fold_ok (record { map = m; fold = f; tally = t }) ≡ in_order_lem m f t
unfolding fold_ok in_order_lem
ordered m f t =
    in_order (no_entries f.warnings) (all_below m.next f.created) (all_below m.next f.modified) (all_below m.next f.deleted)
    (every (has m) f.created) (every (has m) f.modified) (every (λ a. not (has m a)) f.deleted) (same_tally t (tally_of f))
    ∙ rw (there_both m f.created, there_both m f.modified, gone_both m f.deleted)

quiet : (f : List ℕ) → get_or f 3 0 ≡ 0 → no_entries (change_set_of f).warnings ≡ true
unfolding change_set_of warnings_at count_in no_entries
quiet f e = rw e

loud : (f : List ℕ) → (get_or f 3 0 ≡ 0 → ⊥) → no_entries (change_set_of f).warnings ≡ false
unfolding change_set_of count_in warnings_at no_entries
loud f n = go (get_or f 3 0) n
  where
    go : (k : ℕ) → (k ≡ 0 → ⊥) → no_entries (warnings_at f (from_of 3) k) ≡ false
    go zero n = absurd (n refl)
    go (suc k) n = refl

module _ (f : List ℕ) (p : Bool) (hp : p ≡ lists_ok_in f) (yp : not p ≡ false) where
  pub ok_size : length f ≡ set_words
  ok_size = ok_size_of f (sym hp ∙ not-false p yp)

  pub ok_room : Roomy f
  ok_room = (fits_ok f (sym hp ∙ not-false p yp)).room

module _ (ws f : List ℕ) (t : Tally) where
  -- what the tests so far leave to be said
  from_order : (r : Bool) → ((cs : List Float) → r ≡ (lists_ok_in f && in_order_lem (map_of ws cs) (change_set_of f) t)) → FoldTested ws f t r
  unfolding lists_ok_in
  from_order r h = record { answer = λ cs. rw (← ordered (map_of ws cs) (change_set_of f) t) at (h cs) }

  module _ (p : Bool) (hp : p ≡ lists_ok_in f) where
    pub bad_lists : not p ≡ true → FoldTested ws f t false
    bad_lists n = from_order false (λ cs. rw (← hp, not-true p n))

    module _ (yp : not p ≡ false) where
      ok : lists_ok_in f ≡ true
      ok = sym hp ∙ not-false p yp

      pub has_warnings : (get_or f 3 0 ≡ 0 → ⊥) → FoldTested ws f t false
      unfolding in_order_lem
      has_warnings n = from_order false (λ cs. rw (ok, loud f n))

      module _ (w : get_or f 3 0 ≡ 0) (s : Bool) (hs : s ≡ same_tally t (tally_of (change_set_of f))) where
        pub bad_tally : not s ≡ true → FoldTested ws f t false
        unfolding in_order_lem
        bad_tally n = from_order false (λ cs. rw (ok, quiet f w, ← hs, not-true s n))

        module _ (ys : not s ≡ false) (a : Bool) (ha : ListTested ws true (list_in f 0) a) where
          pub bad_created : not a ≡ true → FoldTested ws f t false
          unfolding in_order_lem change_set_of
          bad_created n = from_order false (λ cs. rw (ok, quiet f w, ← hs, not-false s ys, ← ha.answer cs, not-true a n))

          module _ (ya : not a ≡ false) (b : Bool) (hb : ListTested ws true (list_in f 1) b) where
            pub bad_modified : not b ≡ true → FoldTested ws f t false
            unfolding in_order_lem change_set_of
            bad_modified n = from_order false (λ cs. rw (ok, quiet f w, ← hs, not-false s ys, ← ha.answer cs, not-false a ya, ← hb.answer cs, not-true b n))

            pub all_told : not b ≡ false → (d : Bool) → ListTested ws false (list_in f 2) d → FoldTested ws f t d
            unfolding in_order_lem change_set_of
            all_told n d hd = from_order d (λ cs. rw (ok, quiet f w, ← hs, not-false s ys, ← ha.answer cs, not-false a ya, ← hb.answer cs, not-false b n) (hd.answer cs))

pub ruleset fold_told = (bad_lists, ok_size, ok_room, has_warnings, bad_tally, bad_created, bad_modified, all_told)
