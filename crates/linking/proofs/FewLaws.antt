-- Lists that pass are known and without repeats, so they are no longer than the map's tables.
use Prim.Native.Nat.{ℕ, suc, ◌≤◌, compare, Ordering}
use mathlib.Core.Path.{◌≡◌, refl, sym, ap, ◌∙◌}
use mathlib.Core.Bool.{Bool, true, false, ◌&&◌, ◌||◌, cond}
use Rattle.std.specs.Prelude.{Option, None, Some}
use mathlib.Core.List.{List, [], ◌∷◌}
use native.Mathlib.Omega.{arith}
use lib.Dec.{eqb, ltb, leb}
use lib.Ieee.{Float}
use lib.ListN.{length}
use borrow.Author.Tests.{ltb-true, lt-ltb, leb-true, eqb-true, eqb-false, ne_eqb}
use Rattle.refusal.specs.Answer.{Answer, refused, done, ◌>>◌, refuse_when}
use Rattle.rows.specs.Lists.{every, first_of, or_else, by_order, insert_number, sorted, member, twice}
use Rattle.rows.specs.Table.{holds, rising}
use Rattle.rows.proofs.Bools.{parts, and_i, is_eq}
use Rattle.store.specs.Layout.{limit_of, count_of}
use Rattle.store.proofs.StoreLaws.{length_records}
use Rattle.map.specs.Record.{Lane, LineString, Crosswalk, Map}
use Rattle.map.specs.Lookup.{unknown_in}
use Rattle.map.specs.Tables.{lane_in, line_string_in, crosswalk_in, map_of}
use Rattle.map.proofs.ByKind.{up₁, up₅, up₇}
use Rattle.map.proofs.SoundLaws.{Sound}
use Rattle.place.specs.Place.{refuse_found}
use Rattle.linking.specs.Sorting.{Up, more_up}
use Rattle.linking.specs.Linking.{twice_checks, list_checks}
use Rattle.linking.proofs.SortLaws.{above_lower, sorted_up}
use Rattle.linking.proofs.InsertLaws.{member_sorted, either}

no_way : {A : Type 0} → ◌≡◌ {A = Bool} false true → A
no_way e = let z : ◌≡◌ {A = ℕ} 0 1 = cc in absurd (let w : ⊥ = omega arith in w)

-- ---- a table of rising numbers

module _ {A : Type 0} (num : A → ℕ) where
  held_above : (low high : ℕ) (ts : List A) → rising num low high ts ≡ true → (y : ℕ) → holds num y ts ≡ true → low ≤ y
  unfolding rising holds
  held_above low high [] r y h = no_way h
  held_above low high (t ∷ ts) r y h =
      let a : leb low (num t) ≡ true = search parts in
      go (eqb (num t) y) refl h (leb-true low (num t) a) (λ p. held_above (suc (num t)) high ts (search parts) y p)
    where
      go : (b : Bool) → eqb (num t) y ≡ b → (b || holds num y ts) ≡ true → low ≤ num t → (holds num y ts ≡ true → suc (num t) ≤ y) → low ≤ y
      go true e h l f = let q = eqb-true (num t) y e in omega arith
      go false e h l f = let g = f h in omega arith

  past_first : (t : A) (ts : List A) (zs : List ℕ) → every (λ z. ltb (num t) z) zs ≡ true → every (λ z. holds num z (t ∷ ts)) zs ≡ true → every (λ z. holds num z ts) zs ≡ true
  unfolding every holds
  past_first t ts [] a h = refl
  past_first t ts (z ∷ zs) a h =
      let l : ltb (num t) z ≡ true = search parts in
      let g = ltb-true (num t) z l in
      let p : (eqb (num t) z || holds num z ts) ≡ true = search parts in
      let q : holds num z ts ≡ true = rw (ne_eqb (num t) z (λ e. let w : ⊥ = omega arith in w)) at p in
      and_i (holds num z ts) (every (λ z. holds num z ts) zs) q (past_first t ts zs (search parts) (search parts))

  held_none : {B : Type 0} (y : ℕ) → holds num y [] ≡ true → B
  unfolding holds
  held_none y h = no_way h

  not_first : (t : A) (ts : List A) (y : ℕ) → eqb (num t) y ≡ false → holds num y (t ∷ ts) ≡ true → holds num y ts ≡ true
  unfolding holds
  not_first t ts y e h = rw e at h

  -- as many different numbers as it holds
  pub held_few : (low high : ℕ) (ts : List A) → rising num low high ts ≡ true → (ys : List ℕ) → Up ys → every (λ y. holds num y ts) ys ≡ true → length ys ≤ length ts
  unfolding rising every
  held_few low high ts r [] u h = omega arith
  held_few low high [] r (y ∷ ys) u h = held_none y (search parts)
  held_few low high (t ∷ ts) r (y ∷ ys) (more_up q u) h =
      go (eqb (num t) y) refl
      (λ p. held_few (suc (num t)) high ts (search parts) ys u p)
      (λ p. held_few (suc (num t)) high ts (search parts) (y ∷ ys) (more_up q u) p)
    where
      go : (b : Bool) → eqb (num t) y ≡ b → (every (λ y. holds num y ts) ys ≡ true → length ys ≤ length ts) → (every (λ y. holds num y ts) (y ∷ ys) ≡ true → suc (length ys) ≤ length ts) → suc (length ys) ≤ suc (length ts)
      go true e f g =
          let n : num t ≡ y = eqb-true (num t) y e in
          let a : every (λ z. ltb (num t) z) ys ≡ true = rw n q in
          let b = f (past_first t ts ys a (search parts)) in
          omega arith
      go false e f g =
          let p : holds num y (t ∷ ts) ≡ true = search parts in
          let k = not_first t ts y e p in
          let r' : rising num (suc (num t)) high ts ≡ true = search parts in
          let l : suc (num t) ≤ y = held_above (suc (num t)) high ts r' y k in
          let a : every (λ z. ltb (num t) z) (y ∷ ys) ≡ true = and_i (ltb (num t) y) (every (λ z. ltb (num t) z) ys) (lt-ltb (num t) y l) (above_lower (num t) y ys l q) in
          let b = g (past_first t ts (y ∷ ys) a h) in
          omega arith

  all_held : (ts : List A) (ys : List ℕ) → unknown_in num ts ys ≡ None → every (λ y. holds num y ts) ys ≡ true
  unfolding unknown_in first_of every
  all_held ts [] e = refl
  all_held ts (y ∷ ys) e = go (holds num y ts) e (λ p. all_held ts ys p)
    where
      go : (b : Bool) → or_else (cond b None (Some y)) (unknown_in num ts ys) ≡ None → (unknown_in num ts ys ≡ None → every (λ y. holds num y ts) ys ≡ true) → (b && every (λ y. holds num y ts) ys) ≡ true
      go true e f = f e
      go false e f = let z : ◌≡◌ {A = ℕ} 0 1 = cc in absurd (let w : ⊥ = omega arith in w)

-- ---- a list without repeats is as long as it is sorted

length_new : (n : ℕ) (ys : List ℕ) → member n ys ≡ false → length (insert_number n ys) ≡ suc (length ys)
unfolding insert_number member
length_new n [] e = refl
length_new n (y ∷ ys) e = go (compare n y) refl (length_new n ys (either (eqb y n) (member n ys) e).1)
  where
    go : (o : Ordering) → compare n y ≡ o → length (insert_number n ys) ≡ suc (length ys) → length (by_order o (n ∷ y ∷ ys) (y ∷ ys) (y ∷ insert_number n ys)) ≡ suc (suc (length ys))
    go Ordering.lt q f = refl
    go Ordering.eq q f = let a = is_eq n y q in absurd (eqb-false y n (either (eqb y n) (member n ys) e).0 (sym a))
    go Ordering.gt q f = ap suc f

pub length_once : (xs : List ℕ) → twice xs ≡ false → length (sorted xs) ≡ length xs
unfolding sorted twice
length_once [] e = refl
length_once (x ∷ xs) e =
    length_new x (sorted xs) (member_sorted x xs ∙ (either (member x xs) (twice xs) e).0) ∙ ap suc (length_once xs (either (member x xs) (twice xs) e).1)

pub known_few : {A : Type 0} (num : A → ℕ) (low high : ℕ) (ts : List A) → rising num low high ts ≡ true → (xs : List ℕ) → unknown_in num ts (sorted xs) ≡ None → twice xs ≡ false → length xs ≤ length ts
known_few num low high ts r xs e t =
    omega (arith, length_once xs t, held_few num low high ts r (sorted xs) (sorted_up xs) (all_held num ts (sorted xs) e))

-- ---- what has passed

first_done : (a b : Answer (Unit {0})) → (a >> b) ≡ done tt → a ≡ done tt
first_done (refused n ds) b e = let z : ◌≡◌ {A = ℕ} 0 1 = cc in absurd (let w : ⊥ = omega arith in w)
first_done (done tt) b e = refl

then_done : (a b : Answer (Unit {0})) → (a >> b) ≡ done tt → b ≡ done tt
then_done (refused n ds) b e = let z : ◌≡◌ {A = ℕ} 0 1 = cc in absurd (let w : ⊥ = omega arith in w)
then_done (done tt) b e = e

when_done : (t : Bool) (n : ℕ) (ds : List ℕ) → refuse_when t n ds ≡ done tt → t ≡ false
when_done true n ds e = let z : ◌≡◌ {A = ℕ} 0 1 = cc in absurd (let w : ⊥ = omega arith in w)
when_done false n ds e = refl

found_done : (o : Option ℕ) (k : ℕ) → refuse_found o k ≡ done tt → o ≡ None
found_done None k e = refl
found_done (Some n) k e = let z : ◌≡◌ {A = ℕ} 0 1 = cc in absurd (let w : ⊥ = omega arith in w)

pub record Passed (m : Map) (lanes crosswalks lines : List ℕ) : Type 0 where
  pub lanes_once : twice lanes ≡ false
  pub crosswalks_once : twice crosswalks ≡ false
  pub lines_once : twice lines ≡ false
  pub lanes_known : unknown_in (λ (x : Lane). x.num) m.lanes (sorted lanes) ≡ None
  pub crosswalks_known : unknown_in (λ (x : Crosswalk). x.num) m.crosswalks (sorted crosswalks) ≡ None
  pub lines_known : unknown_in (λ (x : LineString). x.num) m.stop_lines (sorted lines) ≡ None

pub passed : (m : Map) (lanes crosswalks lines : List ℕ) → list_checks m lanes crosswalks lines ≡ done tt → Passed m lanes crosswalks lines
unfolding list_checks twice_checks
passed m lanes crosswalks lines e =
    let t = first_done (twice_checks lanes crosswalks lines) _ e in
    let u = then_done (twice_checks lanes crosswalks lines) _ e in
    let t2 = then_done (refuse_when (twice lanes) 3 (1 ∷ [])) _ t in
    let u2 = then_done (refuse_found (unknown_in (λ (x : Lane). x.num) m.lanes (sorted lanes)) 1) _ u in
    record {
      lanes_once = when_done (twice lanes) 3 (1 ∷ []) (first_done (refuse_when (twice lanes) 3 (1 ∷ [])) _ t);
      crosswalks_once = when_done (twice crosswalks) 3 (2 ∷ []) (first_done (refuse_when (twice crosswalks) 3 (2 ∷ [])) _ t2);
      lines_once = when_done (twice lines) 3 (3 ∷ []) (then_done (refuse_when (twice crosswalks) 3 (2 ∷ [])) _ t2);
      lanes_known = found_done _ 1 (first_done (refuse_found (unknown_in (λ (x : Lane). x.num) m.lanes (sorted lanes)) 1) _ u);
      crosswalks_known = found_done _ 7 (first_done (refuse_found (unknown_in (λ (x : Crosswalk). x.num) m.crosswalks (sorted crosswalks)) 7) _ u2);
      lines_known = found_done _ 5 (then_done (refuse_found (unknown_in (λ (x : Crosswalk). x.num) m.crosswalks (sorted crosswalks)) 7) _ u2);
    }

lane_room : limit_of 0 ≡ 64
unfolding limit_of
lane_room = refl

line_room : limit_of 2 ≡ 64
unfolding limit_of
line_room = refl

crosswalk_room : limit_of 4 ≡ 32
unfolding limit_of
crosswalk_room = refl

many_lanes : (ws : List ℕ) (cs : List Float) → length (map_of ws cs).lanes ≡ count_of ws 0
unfolding map_of
many_lanes ws cs = length_records lane_in ws cs 0

many_lines_lem : (ws : List ℕ) (cs : List Float) → length (map_of ws cs).stop_lines ≡ count_of ws 2
unfolding map_of
many_lines_lem ws cs = length_records line_string_in ws cs 2

many_crosswalks : (ws : List ℕ) (cs : List Float) → length (map_of ws cs).crosswalks ≡ count_of ws 4
unfolding map_of
many_crosswalks ws cs = length_records crosswalk_in ws cs 4

-- so a sorted copy of each has room
pub lists_few : (ws : List ℕ) (cs : List Float) → Sound ws cs → (lanes crosswalks lines : List ℕ) → Passed (map_of ws cs) lanes crosswalks lines
    → (length lanes ≤ 64) × (length crosswalks ≤ 32) × (length lines ≤ 64)
lists_few ws cs ok lanes crosswalks lines p =
    let m : Map = map_of ws cs in (
      omega (arith, known_few (λ (x : Lane). x.num) 0 m.next m.lanes (up₁ m ok.map) lanes p.lanes_known p.lanes_once, many_lanes ws cs, ok.sized.words.counts 0 (omega arith), lane_room),
      omega (arith, known_few (λ (x : Crosswalk). x.num) 0 m.next m.crosswalks (up₇ m ok.map) crosswalks p.crosswalks_known p.crosswalks_once, many_crosswalks ws cs, ok.sized.words.counts 4 (omega arith), crosswalk_room),
      omega (arith, known_few (λ (x : LineString). x.num) 0 m.next m.stop_lines (up₅ m ok.map) lines p.lines_known p.lines_once, many_lines_lem ws cs, ok.sized.words.counts 2 (omega arith), line_room),
    )
