-- The records of a map as one rising list of references; lists that name what changed between two maps are parts of these.
use mathlib.Core.Path.{◌≡◌, refl, sym, ap, ◌∙◌}
use mathlib.Core.Bool.{Bool, true, false, not, ◌&&◌, ◌||◌, and_assoc, and_comm}
use mathlib.Core.List.{List, [], ◌∷◌, ◌++◌}
use Prim.Native.Nat.{ℕ, suc, ◌+◌, ◌≤◌}
use lib.Dec.{eqb, leb}
use lib.ListN.{length, length-append}
use native.Mathlib.Omega.{arith}
use borrow.Author.Tests.{leb-true, le-leb, not-true}
use Rattle.rows.specs.Lists.{every, keep}
use Rattle.rows.specs.Table.{holds, rising}
use Rattle.rows.proofs.Bools.{parts, and_i, clash, and_no, or_no}
use Rattle.map.specs.Ceilings.{max_lanes, max_boundaries, max_stop_lines, max_signals, max_crosswalks, max_rules}
use Rattle.map.specs.Entity.{EntityRef, entity, listed, has, record_count}
use Rattle.map.specs.MapFile.{is_map, lane, line_string, signal, crosswalk, rule}
use Rattle.map.specs.Record.{Lane, LineString, Signal, Crosswalk, Rule, Map}
use Rattle.map.proofs.ByKind.{Kind, lanes, boundaries, stop_lines, signals, crosswalks, rules, others, kind_of, up₁, up₂, up₅, up₆, up₇, up₈}
use Rattle.map.proofs.Parts.{map-parts, table_few}
use Rattle.changes.specs.ChangeFile.{lists_ok, lists_apart, entry, entries, apart, rise_after, rising_refs, is_before}
use Rattle.changes.specs.ChangeSet.{ChangeSet}
use Rattle.changes.specs.Running.{fold_fits}
use Rattle.changes.proofs.Entries.{has_fits, entries_fit}
use Rattle.changes.proofs.Refs.{every_listed, listed_every, Earlier, by_kind, by_num, before, listed-append, listed_keep, rise_rising, rising_same, keep_rising, keep_count, same_as}

module _ {A : Type 0} (num : A → ℕ) where
  refs_as : ℕ → List A → List EntityRef
  refs_as k [] = []
  refs_as k (x ∷ t) = entity k (num x) ∷ refs_as k t

  refs_count : (k : ℕ) (t : List A) → length (refs_as k t) ≡ length t
  unfolding refs_as
  refs_count k [] = refl
  refs_count k (x ∷ t) = ap suc (refs_count k t)

  refs_listed : (k : ℕ) (t : List A) (a : EntityRef) → listed (refs_as k t) a ≡ (eqb a.kind k && holds num a.num t)
  unfolding refs_as listed holds
  refs_listed k [] a = sym (and_no (eqb a.kind k))
  refs_listed k (x ∷ t) a = rw (refs_listed k t a, same_as k (num x) a) (go (eqb a.kind k) (eqb (num x) a.num) (holds num a.num t))
    where
      go : (u v w : Bool) → ((u && v) || (u && w)) ≡ (u && (v || w))
      go true v w = refl
      go false v w = refl

  -- b comes before the references of kind k from the number l on
  refs_rise : (k l h : ℕ) (b : EntityRef) (t : List A) (rest : List EntityRef) → Earlier b (entity k l) → b.kind ≤ k → rising num l h t ≡ true
      → ((c : EntityRef) → c.kind ≤ k → rise_after c rest ≡ true) → rise_after b (refs_as k t ++ rest) ≡ true
  unfolding refs_as rising rise_after
  refs_rise k l h b [] rest e q r f = f b q
  refs_rise k l h b (x ∷ t) rest e q r f =
      and_i (is_before _) _ (before (up e (leb-true l (num x) (search parts)))) (refs_rise k (suc (num x)) h (entity k (num x)) t rest (by_num refl (omega arith)) (omega arith) (search parts) f)
    where
      up : Earlier b (entity k l) → l ≤ num x → Earlier b (entity k (num x))
      up (by_kind u) v = by_kind u
      up (by_num u w) v = by_num u (omega arith)

module _ (m : Map) where
  refs_of : List EntityRef
  refs_of = refs_as (λ (x : Lane). x.num) 1 m.lanes ++ (refs_as (λ (x : LineString). x.num) 2 m.boundaries ++ (refs_as (λ (x : LineString). x.num) 5 m.stop_lines
      ++ (refs_as (λ (x : Signal). x.num) 6 m.signals ++ (refs_as (λ (x : Crosswalk). x.num) 7 m.crosswalks ++ (refs_as (λ (x : Rule). x.num) 8 m.rules ++ [])))))

  refs_length : length refs_of ≡ record_count m
  unfolding refs_of record_count
  refs_length = simp (length-append, refs_count) (omega arith)

  refs_has : (a : EntityRef) → listed refs_of a ≡ has m a
  unfolding refs_of has listed
  refs_has a = simp (listed-append, refs_listed) (go a.kind a.num (kind_of a.kind))
    where
      go : (k n : ℕ) → Kind k → (eqb k 1 && holds (λ (x : Lane). x.num) n m.lanes || (eqb k 2 && holds (λ (x : LineString). x.num) n m.boundaries || (eqb k 5 && holds (λ (x : LineString). x.num) n m.stop_lines
          || (eqb k 6 && holds (λ (x : Signal). x.num) n m.signals || (eqb k 7 && holds (λ (x : Crosswalk). x.num) n m.crosswalks || (eqb k 8 && holds (λ (x : Rule). x.num) n m.rules || listed [] (entity k n))))))) ≡ has m (entity k n)
      go k n lanes = or_no (holds (λ (x : Lane). x.num) n m.lanes)
      go k n boundaries = or_no (holds (λ (x : LineString). x.num) n m.boundaries)
      go k n stop_lines = or_no (holds (λ (x : LineString). x.num) n m.stop_lines)
      go k n signals = or_no (holds (λ (x : Signal). x.num) n m.signals)
      go k n crosswalks = or_no (holds (λ (x : Crosswalk). x.num) n m.crosswalks)
      go k n rules = or_no (holds (λ (x : Rule). x.num) n m.rules)
      go k n (others e₁ e₂ e₅ e₆ e₇ e₈) = rw (e₁, e₂, e₅, e₆, e₇, e₈)

  refs_rising : is_map m ≡ true → rising_refs refs_of ≡ true
  unfolding refs_of rise_after
  refs_rising ok = rise_rising (entity 0 0) _
      (refs_rise (λ (x : Lane). x.num) 1 0 m.next (entity 0 0) m.lanes _ (by_kind (omega arith)) (omega arith) (up₁ m ok) (λ c p.
      refs_rise (λ (x : LineString). x.num) 2 0 m.next c m.boundaries _ (by_kind (omega arith)) (omega arith) (up₂ m ok) (λ c p.
      refs_rise (λ (x : LineString). x.num) 5 0 m.next c m.stop_lines _ (by_kind (omega arith)) (omega arith) (up₅ m ok) (λ c p.
      refs_rise (λ (x : Signal). x.num) 6 0 m.next c m.signals _ (by_kind (omega arith)) (omega arith) (up₆ m ok) (λ c p.
      refs_rise (λ (x : Crosswalk). x.num) 7 0 m.next c m.crosswalks _ (by_kind (omega arith)) (omega arith) (up₇ m ok) (λ c p.
      refs_rise (λ (x : Rule). x.num) 8 0 m.next c m.rules [] (by_kind (omega arith)) (omega arith) (up₈ m ok) (λ c p. refl)))))))

-- at most 480 records
refs_few : (m : Map) → is_map m ≡ true → length (refs_of m) ≤ 480
unfolding record_count
refs_few m ok =
    let r = refs_length m in
    let p = map-parts m ok in
    let a = leb-true (length m.lanes) max_lanes (table_few (λ (x : Lane). x.num) max_lanes lane m.next m.lanes p.lanes) in
    let b = leb-true (length m.boundaries) max_boundaries (table_few (λ (x : LineString). x.num) max_boundaries line_string m.next m.boundaries p.boundaries) in
    let c = leb-true (length m.stop_lines) max_stop_lines (table_few (λ (x : LineString). x.num) max_stop_lines line_string m.next m.stop_lines p.stop_lines) in
    let d = leb-true (length m.signals) max_signals (table_few (λ (x : Signal). x.num) max_signals signal m.next m.signals p.signals) in
    let e = leb-true (length m.crosswalks) max_crosswalks (table_few (λ (x : Crosswalk). x.num) max_crosswalks crosswalk m.next m.crosswalks p.crosswalks) in
    let f = leb-true (length m.rules) max_rules (table_few (λ (x : Rule). x.num) max_rules rule m.next m.rules p.rules) in
    omega arith

-- so a rising list of records that are on a map, such as a fold's that passes 13, has at most 480 entries
pub present_few : (m : Map) → is_map m ≡ true → (xs : List EntityRef) → rising_refs xs ≡ true → every (has m) xs ≡ true → length xs ≤ 480
present_few m ok xs up there =
    let part = rising_same xs (keep (listed xs) (refs_of m)) up (keep_rising (listed xs) (refs_of m) (refs_rising m ok)) same in
    let a = keep_count (listed xs) (refs_of m) in
    let b = refs_few m ok in
    let c = ap length part in
    omega arith
  where
    go : (a : EntityRef) (t : Bool) → listed xs a ≡ t → t ≡ (has m a && t)
    go a true e = rw (listed_every (has m) xs a there e)
    go a false e = sym (and_no (has m a))

    same : (a : EntityRef) → listed xs a ≡ listed (keep (listed xs) (refs_of m)) a
    same a = go a (listed xs a) refl ∙ sym (listed_keep (listed xs) (refs_of m) a ∙ rw (refs_has m a))

-- ---- lists that name what became of the records between the maps m and n

pub record Named (m n : Map) (alt : EntityRef → Bool) (c : ChangeSet) : Type 0 where
  pub created : (a : EntityRef) → listed c.created a ≡ (has n a && not (has m a))
  pub deleted : (a : EntityRef) → listed c.deleted a ≡ (has m a && not (has n a))
  pub modified : (a : EntityRef) → listed c.modified a ≡ (has m a && has n a && alt a)
  pub rises : (rising_refs c.created ≡ true) × (rising_refs c.modified ≡ true) × (rising_refs c.deleted ≡ true)

pub set-list : (xs : List EntityRef) → rising_refs xs ≡ true → ((a : EntityRef) → listed xs a ≡ true → entry.fits a ≡ true) → leb (length xs) 512 ≡ true → entries.fits xs ≡ true
set-list xs r f l = entries_fit xs r (every_listed entry.fits xs f) l

off : (xs ys : List EntityRef) → ((a : EntityRef) → listed xs a ≡ true → listed ys a ≡ true → ⊥) → apart xs ys ≡ true
unfolding apart
off xs ys f = every_listed (λ a. not (listed ys a)) xs (λ a t. go a t (listed ys a) refl)
  where
    go : (a : EntityRef) → listed xs a ≡ true → (b : Bool) → listed ys a ≡ b → not b ≡ true
    go a t true e = absurd (f a t e)
    go a t false e = refl

module _ (m n : Map) (alt : EntityRef → Bool) (c : ChangeSet) (p : is_map m ≡ true) (q : is_map n ≡ true) (k : Named m n alt c) where
  -- the lists are parts of the maps' own lists
  made : c.created ≡ keep (λ a. not (has m a)) (refs_of n)
  made = rising_same _ _ k.rises.0 (keep_rising (λ a. not (has m a)) (refs_of n) (refs_rising n q)) (λ a. rw (k.created a, listed_keep (λ b. not (has m b)) (refs_of n) a, refs_has n a))

  lost : c.deleted ≡ keep (λ a. not (has n a)) (refs_of m)
  lost = rising_same _ _ k.rises.2 (keep_rising (λ a. not (has n a)) (refs_of m) (refs_rising m p)) (λ a. rw (k.deleted a, listed_keep (λ b. not (has n b)) (refs_of m) a, refs_has m a))

  touched : c.modified ≡ keep (λ a. has n a && alt a) (refs_of m)
  touched = rising_same _ _ k.rises.1 (keep_rising (λ a. has n a && alt a) (refs_of m) (refs_rising m p))
      (λ a. rw (k.modified a, listed_keep (λ b. has n b && alt b) (refs_of m) a, refs_has m a) (and_assoc (has m a) (has n a) (alt a)))

  common : keep (has m) (refs_of n) ≡ keep (has n) (refs_of m)
  common = rising_same _ _ (keep_rising (has m) (refs_of n) (refs_rising n q)) (keep_rising (has n) (refs_of m) (refs_rising m p))
      (λ a. rw (listed_keep (has m) (refs_of n) a, listed_keep (has n) (refs_of m) a, refs_has m a, refs_has n a) (and_comm (has n a) (has m a)))

  pub named_count : record_count n + length c.deleted ≡ record_count m + length c.created
  named_count =
      let i = keep_count (has m) (refs_of n) in
      let j = keep_count (has n) (refs_of m) in
      let u = ap length made in
      let v = ap length lost in
      let w = ap length common in
      let x = refs_length m in
      let y = refs_length n in
      omega arith

  few : (g : EntityRef → Bool) (h : Map) → is_map h ≡ true → (xs : List EntityRef) → xs ≡ keep g (refs_of h) → leb (length xs) 512 ≡ true
  few g h o xs e = let i = keep_count g (refs_of h) in let u = refs_few h o in let v = ap length e in le-leb (length xs) 512 (omega arith)

  -- a listed record is present, before or after
  pub now_created : (a : EntityRef) → listed c.created a ≡ true → has n a ≡ true
  now_created a t = let u : (has n a && not (has m a)) ≡ true = rw (k.created a) at t in search parts

  pub now_modified : (a : EntityRef) → listed c.modified a ≡ true → has n a ≡ true
  now_modified a t = let u : (has m a && has n a && alt a) ≡ true = rw (k.modified a) at t in search parts

  pub then_deleted : (a : EntityRef) → listed c.deleted a ≡ true → has m a ≡ true
  then_deleted a t = let u : (has m a && not (has n a)) ≡ true = rw (k.deleted a) at t in search parts

  pub gone_deleted : (a : EntityRef) → listed c.deleted a ≡ true → not (has n a) ≡ true
  gone_deleted a t = let u : (has m a && not (has n a)) ≡ true = rw (k.deleted a) at t in search parts

  -- they are the lists of a change set file
  pub named_lists : lists_ok c ≡ true
  unfolding lists_ok lists_apart
  named_lists =
      let x = set-list c.created k.rises.0 (λ a t. has_fits n q a (now_created a t)) (few _ n q c.created made) in
      let y = set-list c.modified k.rises.1 (λ a t. has_fits n q a (now_modified a t)) (few _ m p c.modified touched) in
      let z = set-list c.deleted k.rises.2 (λ a t. has_fits m p a (then_deleted a t)) (few _ m p c.deleted lost) in
      and_i _ _ (and_i _ _ (and_i _ _ x y) z) (and_i _ _ (and_i _ _ (off c.created c.modified no₁) (off c.created c.deleted no₂)) (off c.modified c.deleted no₃))
    where
      no₁ : (a : EntityRef) → listed c.created a ≡ true → listed c.modified a ≡ true → ⊥
      no₁ a t u =
          let v : (has n a && not (has m a)) ≡ true = rw (k.created a) at t in
          let w : (has m a && has n a && alt a) ≡ true = rw (k.modified a) at u in
          clash {b = has m a} (search parts) (not-true (has m a) (search parts))

      no₂ : (a : EntityRef) → listed c.created a ≡ true → listed c.deleted a ≡ true → ⊥
      no₂ a t u = clash {b = has n a} (now_created a t) (not-true (has n a) (gone_deleted a u))

      no₃ : (a : EntityRef) → listed c.modified a ≡ true → listed c.deleted a ≡ true → ⊥
      no₃ a t u = clash {b = has n a} (now_modified a t) (not-true (has n a) (gone_deleted a u))

  -- and the ceiling of 512 entries is never met
  pub named_fits : fold_fits c ≡ true
  unfolding fold_fits
  named_fits = and_i _ _ (and_i _ _ (few _ n q c.created made) (few _ m p c.modified touched)) (few _ m p c.deleted lost)
