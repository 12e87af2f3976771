-- Walks over two rising lists: a list written entry by entry, and what each turn does to what is left.
use mathlib.Core.Path.{◌≡◌, refl, sym, ap, ◌∙◌, subst}
use mathlib.Core.Bool.{Bool, true, false}
use mathlib.Core.List.{List, [], ◌∷◌, ◌++◌}
use Prim.Native.Nat.{ℕ, ◌+◌, ◌-◌, ◌*◌, ◌≤◌, ◌<◌}
use native.Mathlib.Omega.{arith}
use lib.ListN.{length, length-set}
use Rattle.rows.specs.Lists.{every, keep}
use Rattle.map.specs.Entity.{EntityRef}
use Rattle.std.specs.declared.cmp.Ordering.TheVariants.{Less, Equal, Greater}
use Rattle.std.specs.declared.cmp.Ordering.{Ordering as Order}
use Rattle.changes.specs.Order.{firsts_of}
use Rattle.changes.specs.ChangeFile.{rising_refs, apart}
use Rattle.changes.specs.ChangeSet.{sort_refs, without}
use Rattle.changes.specs.Layout.{ref_at}
use Rattle.changes.specs.Walk.{refs_to, Walks, put_ref, written, Put}
use Rattle.changes.proofs.Refs.{rise_rising}
use Rattle.changes.proofs.WalkLaws.{refs_step, refs_none, before_some, same_some, after_some, Ahead, ahead_rest, ahead_right, ahead_left, is_same, without_before, without_after, without_same, apart_before, apart_after, apart_same, sort_first, sort_middle, sort_twice, ahead_both}

-- ---- a walk goes on
pub walks_next : (t : List ℕ) (e n : ℕ) → 1 ≤ n → Walks t e n → Walks t e (n - 1)
unfolding rising_refs
walks_next t e n h w = record { starts = let u = w.starts in omega arith; ends = w.ends; rises = rise_rising _ (refs_to t e (n - 1)) (rw (refs_step t e n h w.starts) at w.rises) }

-- ---- the order of the first entries, and the turn that it asks for
module _ (t : List ℕ) (e n : ℕ) (s : List ℕ) (d m : ℕ) (r : Order) where
  pub one_before : r ≡ firsts_of (refs_to t e n) (refs_to s d m) → r ≡ Less → 1 ≤ n
  one_before h k = before_some t e n s d m r h k

  pub one_same_left : r ≡ firsts_of (refs_to t e n) (refs_to s d m) → r ≡ Equal → Walks t e n → 1 ≤ n
  one_same_left h k w = (same_some t e n s d m r h k w.starts).0

  pub one_same_right : r ≡ firsts_of (refs_to t e n) (refs_to s d m) → r ≡ Equal → Walks t e n → 1 ≤ m
  one_same_right h k w = (same_some t e n s d m r h k w.starts).1

  pub one_after : r ≡ firsts_of (refs_to t e n) (refs_to s d m) → r ≡ Greater → Walks t e n → 0 < n + m → 1 ≤ m
  one_after h k w o = after_some t e n s d m r h k w.starts o

  pub one_after_left : r ≡ firsts_of (refs_to t e n) (refs_to s d m) → r ≡ Greater → Walks t e n → 0 < n → 1 ≤ m
  one_after_left h k w o = after_some t e n s d m r h k w.starts (omega arith)

  pub less_before : r ≡ firsts_of (refs_to t e n) (refs_to s d m) → r ≡ Less → n - 1 + m < n + m
  less_before h k = let u = one_before h k in omega arith

  pub less_same : r ≡ firsts_of (refs_to t e n) (refs_to s d m) → r ≡ Equal → Walks t e n → n - 1 + (m - 1) < n + m
  less_same h k w = let u = one_same_left h k w in omega arith

  pub less_after : r ≡ firsts_of (refs_to t e n) (refs_to s d m) → r ≡ Greater → Walks t e n → 0 < n + m → n + (m - 1) < n + m
  less_after h k w o = let u = one_after h k w o in omega arith

  pub less_after_left : r ≡ firsts_of (refs_to t e n) (refs_to s d m) → r ≡ Greater → Walks t e n → 0 < n → n + (m - 1) < n + m
  less_after_left h k w o = let u = one_after_left h k w o in omega arith

pub ruleset turns = (one_before, one_same_left, one_same_right, one_after, one_after_left, less_before, less_same, less_after, less_after_left)

-- both lists from their first entries on
module _ (t : List ℕ) (e n : ℕ) (s : List ℕ) (d m : ℕ) (r : Order) (h : r ≡ firsts_of (refs_to t e n) (refs_to s d m)) (w : Walks t e n) (v : Walks s d m) where
  left_first : 1 ≤ n → (rising_refs (ref_at t (e - n * 2) ∷ refs_to t e (n - 1)) ≡ true)
  left_first k = rw (refs_step t e n k w.starts) at w.rises

  right_first : 1 ≤ m → (rising_refs (ref_at s (d - m * 2) ∷ refs_to s d (m - 1)) ≡ true)
  right_first k = rw (refs_step s d m k v.starts) at v.rises

  before_ahead : r ≡ Less → Ahead (ref_at t (e - n * 2)) (refs_to s d m)
  before_ahead k =
      let u = before_some t e n s d m r h k in
      ahead_right (ref_at t (e - n * 2)) (refs_to t e (n - 1)) (refs_to s d m) (rw (← refs_step t e n u w.starts) (sym k ∙ h)) v.rises

  after_ahead : r ≡ Greater → 0 < n + m → Ahead (ref_at s (d - m * 2)) (refs_to t e n)
  after_ahead k o =
      let u = after_some t e n s d m r h k w.starts o in
      ahead_left (ref_at s (d - m * 2)) (refs_to t e n) (refs_to s d (m - 1)) (rw (← refs_step s d m u v.starts) (sym k ∙ h)) w.rises

  same_firsts : r ≡ Equal → ref_at t (e - n * 2) ≡ ref_at s (d - m * 2)
  unfolding firsts_of
  same_firsts k =
      let u = same_some t e n s d m r h k w.starts in
      is_same _ _ (rw (refs_step t e n u.0 w.starts, refs_step s d m u.1 v.starts) at (sym k ∙ h))

  -- sorted together
  pub sort_before : r ≡ Less → sort_refs (refs_to t e n ++ refs_to s d m) ≡ ref_at t (e - n * 2) ∷ sort_refs (refs_to t e (n - 1) ++ refs_to s d m)
  sort_before k =
      let u = before_some t e n s d m r h k in
      ap (λ (l : List EntityRef). sort_refs (l ++ refs_to s d m)) (refs_step t e n u w.starts)
      ∙ sort_first _ (refs_to t e (n - 1) ++ refs_to s d m) (ahead_both _ (refs_to t e (n - 1)) (refs_to s d m) (ahead_rest _ (refs_to t e (n - 1)) (left_first u)) (before_ahead k))

  pub sort_after : r ≡ Greater → 0 < n + m → sort_refs (refs_to t e n ++ refs_to s d m) ≡ ref_at s (d - m * 2) ∷ sort_refs (refs_to t e n ++ refs_to s d (m - 1))
  sort_after k o =
      let u = after_some t e n s d m r h k w.starts o in
      ap (λ (l : List EntityRef). sort_refs (refs_to t e n ++ l)) (refs_step s d m u v.starts)
      ∙ sort_middle _ (refs_to t e n) (refs_to s d (m - 1)) (after_ahead k o) (ahead_rest _ (refs_to s d (m - 1)) (right_first u))

  pub sort_both : r ≡ Equal → sort_refs (refs_to t e n ++ refs_to s d m) ≡ ref_at t (e - n * 2) ∷ sort_refs (refs_to t e (n - 1) ++ refs_to s d (m - 1))
  sort_both k =
      let u = same_some t e n s d m r h k w.starts in
      let q = same_firsts k in
      ap (λ (l : List EntityRef). sort_refs (l ++ refs_to s d m)) (refs_step t e n u.0 w.starts)
      ∙ ap (λ (l : List EntityRef). sort_refs ((ref_at t (e - n * 2) ∷ refs_to t e (n - 1)) ++ l)) (refs_step s d m u.1 v.starts ∙ ap (λ (a : EntityRef). a ∷ refs_to s d (m - 1)) (sym q))
      ∙ sort_twice _ (refs_to t e (n - 1)) (refs_to s d (m - 1)) (ahead_rest _ (refs_to t e (n - 1)) (left_first u.0))
      (subst (λ (a : EntityRef). Ahead a (refs_to s d (m - 1))) (sym q) (ahead_rest _ (refs_to s d (m - 1)) (right_first u.1)))

  -- the first without the second
  pub sift_before : r ≡ Less → without (refs_to t e n) (refs_to s d m) ≡ ref_at t (e - n * 2) ∷ without (refs_to t e (n - 1)) (refs_to s d m)
  sift_before k =
      ap (λ (l : List EntityRef). without l (refs_to s d m)) (refs_step t e n (before_some t e n s d m r h k) w.starts)
      ∙ without_before _ (refs_to t e (n - 1)) (refs_to s d m) (before_ahead k)

  pub sift_after : r ≡ Greater → 0 < n → without (refs_to t e n) (refs_to s d m) ≡ without (refs_to t e n) (refs_to s d (m - 1))
  sift_after k o =
      let i : 0 < n + m = omega arith in
      ap (λ (l : List EntityRef). without (refs_to t e n) l) (refs_step s d m (after_some t e n s d m r h k w.starts i) v.starts)
      ∙ without_after _ (refs_to t e n) (refs_to s d (m - 1)) (after_ahead k i)

  both_firsts : (f : List EntityRef → List EntityRef → Type 0) → r ≡ Equal → f (ref_at t (e - n * 2) ∷ refs_to t e (n - 1)) (ref_at t (e - n * 2) ∷ refs_to s d (m - 1)) → f (refs_to t e n) (refs_to s d m)
  both_firsts f k g =
      let u = same_some t e n s d m r h k w.starts in
      subst (λ (l : List EntityRef). f l (refs_to s d m)) (sym (refs_step t e n u.0 w.starts))
      (subst (λ (l : List EntityRef). f (ref_at t (e - n * 2) ∷ refs_to t e (n - 1)) l) (ap (λ (a : EntityRef). a ∷ refs_to s d (m - 1)) (same_firsts k) ∙ sym (refs_step s d m u.1 v.starts)) g)

  pub sift_same : r ≡ Equal → without (refs_to t e n) (refs_to s d m) ≡ without (refs_to t e (n - 1)) (refs_to s d (m - 1))
  sift_same k =
      let u = same_some t e n s d m r h k w.starts in
      both_firsts (λ x y. without x y ≡ without (refs_to t e (n - 1)) (refs_to s d (m - 1))) k
      (without_same _ (refs_to t e (n - 1)) (refs_to s d (m - 1)) (ahead_rest _ (refs_to t e (n - 1)) (left_first u.0)))

  -- apart
  pub part_before : r ≡ Less → apart (refs_to t e n) (refs_to s d m) ≡ apart (refs_to t e (n - 1)) (refs_to s d m)
  part_before k =
      ap (λ (l : List EntityRef). apart l (refs_to s d m)) (refs_step t e n (before_some t e n s d m r h k) w.starts)
      ∙ apart_before _ (refs_to t e (n - 1)) (refs_to s d m) (before_ahead k)

  pub part_after : r ≡ Greater → 0 < n → apart (refs_to t e n) (refs_to s d m) ≡ apart (refs_to t e n) (refs_to s d (m - 1))
  part_after k o =
      let i : 0 < n + m = omega arith in
      ap (λ (l : List EntityRef). apart (refs_to t e n) l) (refs_step s d m (after_some t e n s d m r h k w.starts i) v.starts)
      ∙ apart_after _ (refs_to t e n) (refs_to s d (m - 1)) (after_ahead k i)

  pub part_same : r ≡ Equal → apart (refs_to t e n) (refs_to s d m) ≡ false
  part_same k = both_firsts (λ x y. apart x y ≡ false) k (apart_same _ (refs_to t e (n - 1)) (refs_to s d (m - 1)))

-- ---- writing entry by entry: count are written, rest is to come
pub record Writes (out₀ : List ℕ) (to : ℕ) (zs : List EntityRef) (out : List ℕ) (count : ℕ) (rest : List EntityRef) : Type 0 where
  pub size : length out ≡ length out₀
  pub goes : written out (to + count * 2) rest ≡ written out₀ to zs
  pub counted : count + length rest ≡ length zs

pub length-put_ref : (w : List ℕ) (p : ℕ) (a : EntityRef) → length (put_ref w p a) ≡ length w
unfolding put_ref
length-put_ref w p a = simp length-set

writes_start : (out : List ℕ) (to : ℕ) (zs : List EntityRef) → Writes out to zs out 0 zs
writes_start out to zs = record { size = refl; goes = let q : to + 0 * 2 ≡ to = omega arith in rw q; counted = omega arith }

module _ (out₀ : List ℕ) (to : ℕ) (zs : List EntityRef) (out : List ℕ) (count : ℕ) (rest : List EntityRef) (w : Writes out₀ to zs out count rest) where
  writes_more : (a : EntityRef) (r out' : List _) → rest ≡ a ∷ r → out' ≡ put_ref out (to + count * 2) a → Writes out₀ to zs out' (count + 1) r
  unfolding written
  writes_more a r out' e o = record {
    size = ap length o ∙ length-put_ref out (to + count * 2) a ∙ w.size;
    goes =
        let q : to + (count + 1) * 2 ≡ to + count * 2 + 2 = omega arith in
        rw (q, o) (rw e at w.goes);
    counted = let u = ap length e in let v = w.counted in omega arith;
  }

  writes_same : (r : List EntityRef) → rest ≡ r → Writes out₀ to zs out count r
  writes_same r e = subst (λ (l : List EntityRef). Writes out₀ to zs out count l) e w

  writes_end : rest ≡ [] → Put out₀ to zs count out
  unfolding written
  writes_end e = record { count = let u = ap length e in let v = w.counted in omega arith; memory = rw e at w.goes }

-- ---- a copy: i of n entries are written
pub record Copying (out₀ : List ℕ) (to : ℕ) (zs : List EntityRef) (t : List ℕ) (e n : ℕ) (out : List ℕ) (i : ℕ) : Type 0 where
  pub starts : n * 2 ≤ e
  pub ends : e ≤ length t
  pub within : i ≤ n
  pub room : to + n * 2 ≤ length out
  pub writes : Writes out₀ to zs out i (refs_to t e (n - i))

pub copying_start : (out t : List ℕ) (to e n : ℕ) → n * 2 ≤ e → e ≤ length t → to + n * 2 ≤ length out → Copying out to (refs_to t e n) t e n out 0
copying_start out t to e n a b c = record { starts = a; ends = b; within = omega arith; room = c; writes = let q : n - 0 ≡ n = omega arith in rw q (writes_start _ _ _) }

module _ (out₀ : List ℕ) (to : ℕ) (zs : List EntityRef) (t : List ℕ) (e n : ℕ) (out : List ℕ) (i : ℕ) where
  pub copying_more : (out' : List ℕ) → Copying out₀ to zs t e n out i → i < n → out' ≡ put_ref out (to + i * 2) (ref_at t (e - n * 2 + i * 2)) → Copying out₀ to zs t e n out' (i + 1)
  copying_more out' c h o =
      let st = c.starts in
      let rm = c.room in
      let ln = length-put_ref out (to + i * 2) (ref_at t (e - n * 2 + i * 2)) in
      let lo = ap length o in
      let p : e - (n - i) * 2 ≡ e - n * 2 + i * 2 = omega arith in
      let q : n - i - 1 ≡ n - (i + 1) = omega arith in
      let k : 0 < n - i = omega arith in
      let l : (n - i) * 2 ≤ e = omega arith in
      record {
        starts = st;
        ends = c.ends;
        within = omega arith;
        room = omega arith;
        writes = writes_more out₀ to zs out i _ c.writes _ _ out' (rw (p, q) at (refs_step t e (n - i) k l)) o;
      }

  pub copying_end : Copying out₀ to zs t e n out i → i ≡ n → Put out₀ to zs n out
  copying_end c h = subst (λ (r : ℕ). Put out₀ to zs r out) h (writes_end out₀ to zs out i _ c.writes (refs_none t e (n - i) (omega arith)))

pub ruleset copying = (copying_start, copying_more, copying_end)

-- ---- two lists, written together
pub record Uniting (out₀ : List ℕ) (to : ℕ) (zs : List EntityRef) (t : List ℕ) (e : ℕ) (s : List ℕ) (d : ℕ) (out : List ℕ) (left new count : ℕ) : Type 0 where
  pub first : Walks t e left
  pub second : Walks s d new
  pub room : to + (count + (left + new)) * 2 ≤ length out
  pub writes : Writes out₀ to zs out count (sort_refs (refs_to t e left ++ refs_to s d new))

pub uniting_start : (out t s : List ℕ) (to e n d m : ℕ) → Walks t e n → Walks s d m → to + (n + m) * 2 ≤ length out
    → Uniting out to (sort_refs (refs_to t e n ++ refs_to s d m)) t e s d out n m 0
uniting_start out t s to e n d m a b c = record { first = a; second = b; room = omega arith; writes = writes_start _ _ _ }

module _ (out₀ : List ℕ) (to : ℕ) (zs : List EntityRef) (t : List ℕ) (e : ℕ) (s : List ℕ) (d : ℕ) (out : List ℕ) (left new count : ℕ) (r : Order)
    (i : Uniting out₀ to zs t e s d out left new count) (h : r ≡ firsts_of (refs_to t e left) (refs_to s d new)) where
  pub uniting_room_before : r ≡ Less → (to + count * 2 + 2 ≤ length out) × (e - left * 2 + 2 ≤ length t)
  uniting_room_before k = let u = one_before t e left s d new r h k in let v = i.room in let a = i.first.starts in let b = i.first.ends in (omega arith, omega arith)

  pub uniting_room_same : r ≡ Equal → (to + count * 2 + 2 ≤ length out) × (e - left * 2 + 2 ≤ length t)
  uniting_room_same k = let u = one_same_left t e left s d new r h k i.first in let v = i.room in let a = i.first.starts in let b = i.first.ends in (omega arith, omega arith)

  pub uniting_room_after : r ≡ Greater → 0 < left + new → (to + count * 2 + 2 ≤ length out) × (d - new * 2 + 2 ≤ length s)
  uniting_room_after k o = let u = one_after t e left s d new r h k i.first o in let v = i.room in let a = i.second.starts in let b = i.second.ends in (omega arith, omega arith)

  pub uniting_before : (out' : List ℕ) → r ≡ Less → out' ≡ put_ref out (to + count * 2) (ref_at t (e - left * 2)) → Uniting out₀ to zs t e s d out' (left - 1) new (count + 1)
  uniting_before out' k o =
      let u = one_before t e left s d new r h k in
      let rm = i.room in
      let ln = ap length o ∙ length-put_ref out (to + count * 2) (ref_at t (e - left * 2)) in
      record {
        first = walks_next t e left u i.first;
        second = i.second;
        room = omega arith;
        writes = writes_more out₀ to zs out count _ i.writes _ _ out' (sort_before t e left s d new r h i.first i.second k) o;
      }

  pub uniting_same : (out' : List ℕ) → r ≡ Equal → out' ≡ put_ref out (to + count * 2) (ref_at t (e - left * 2)) → Uniting out₀ to zs t e s d out' (left - 1) (new - 1) (count + 1)
  uniting_same out' k o =
      let u = one_same_left t e left s d new r h k i.first in
      let v = one_same_right t e left s d new r h k i.first in
      let rm = i.room in
      let ln = ap length o ∙ length-put_ref out (to + count * 2) (ref_at t (e - left * 2)) in
      record {
        first = walks_next t e left u i.first;
        second = walks_next s d new v i.second;
        room = omega arith;
        writes = writes_more out₀ to zs out count _ i.writes _ _ out' (sort_both t e left s d new r h i.first i.second k) o;
      }

  pub uniting_after : (out' : List ℕ) → r ≡ Greater → 0 < left + new → out' ≡ put_ref out (to + count * 2) (ref_at s (d - new * 2)) → Uniting out₀ to zs t e s d out' left (new - 1) (count + 1)
  uniting_after out' k q o =
      let u = one_after t e left s d new r h k i.first q in
      let rm = i.room in
      let ln = ap length o ∙ length-put_ref out (to + count * 2) (ref_at s (d - new * 2)) in
      record {
        first = i.first;
        second = walks_next s d new u i.second;
        room = omega arith;
        writes = writes_more out₀ to zs out count _ i.writes _ _ out' (sort_after t e left s d new r h i.first i.second k q) o;
      }

pub uniting_end : (out₀ : List ℕ) (to : ℕ) (zs : List EntityRef) (t : List ℕ) (e : ℕ) (s : List ℕ) (d : ℕ) (out : List ℕ) (left new count : ℕ)
    → Uniting out₀ to zs t e s d out left new count → left + new ≤ 0 → Put out₀ to zs count out
unfolding sort_refs
uniting_end out₀ to zs t e s d out left new count i h = writes_end out₀ to zs out count _ i.writes (rw (refs_none t e left (omega arith), refs_none s d new (omega arith)))

pub ruleset uniting = (turns, uniting_start, uniting_room_before, uniting_room_same, uniting_room_after, uniting_before, uniting_same, uniting_after, uniting_end)

-- ---- a list, written without what another has
pub record Sifting (out₀ : List ℕ) (to : ℕ) (zs : List EntityRef) (t : List ℕ) (e : ℕ) (s : List ℕ) (d : ℕ) (out : List ℕ) (left over count : ℕ) : Type 0 where
  pub first : Walks t e left
  pub second : Walks s d over
  pub room : to + (count + left) * 2 ≤ length out
  pub writes : Writes out₀ to zs out count (without (refs_to t e left) (refs_to s d over))

pub sifting_start : (out t s : List ℕ) (to e n d m : ℕ) → Walks t e n → Walks s d m → to + n * 2 ≤ length out
    → Sifting out to (without (refs_to t e n) (refs_to s d m)) t e s d out n m 0
sifting_start out t s to e n d m a b c = record { first = a; second = b; room = omega arith; writes = writes_start _ _ _ }

module _ (out₀ : List ℕ) (to : ℕ) (zs : List EntityRef) (t : List ℕ) (e : ℕ) (s : List ℕ) (d : ℕ) (out : List ℕ) (left over count : ℕ) (r : Order)
    (i : Sifting out₀ to zs t e s d out left over count) (h : r ≡ firsts_of (refs_to t e left) (refs_to s d over)) where
  pub sifting_room : 0 < left → (to + count * 2 + 2 ≤ length out) × (e - left * 2 + 2 ≤ length t)
  sifting_room k = let v = i.room in let a = i.first.starts in let b = i.first.ends in (omega arith, omega arith)

  pub sifting_before : (out' : List ℕ) → r ≡ Less → out' ≡ put_ref out (to + count * 2) (ref_at t (e - left * 2)) → Sifting out₀ to zs t e s d out' (left - 1) over (count + 1)
  sifting_before out' k o =
      let u = one_before t e left s d over r h k in
      let rm = i.room in
      let ln = ap length o ∙ length-put_ref out (to + count * 2) (ref_at t (e - left * 2)) in
      record {
        first = walks_next t e left u i.first;
        second = i.second;
        room = omega arith;
        writes = writes_more out₀ to zs out count _ i.writes _ _ out' (sift_before t e left s d over r h i.first i.second k) o;
      }

  pub sifting_same : r ≡ Equal → Sifting out₀ to zs t e s d out (left - 1) (over - 1) count
  sifting_same k =
      let u = one_same_left t e left s d over r h k i.first in
      let v = one_same_right t e left s d over r h k i.first in
      let rm = i.room in
      record {
        first = walks_next t e left u i.first;
        second = walks_next s d over v i.second;
        room = omega arith;
        writes = writes_same out₀ to zs out count _ i.writes _ (sift_same t e left s d over r h i.first i.second k);
      }

  pub sifting_after : r ≡ Greater → 0 < left → Sifting out₀ to zs t e s d out left (over - 1) count
  sifting_after k o =
      let u = one_after_left t e left s d over r h k i.first o in
      record {
        first = i.first;
        second = walks_next s d over u i.second;
        room = i.room;
        writes = writes_same out₀ to zs out count _ i.writes _ (sift_after t e left s d over r h i.first i.second k o);
      }

pub sifting_end : (out₀ : List ℕ) (to : ℕ) (zs : List EntityRef) (t : List ℕ) (e : ℕ) (s : List ℕ) (d : ℕ) (out : List ℕ) (left over count : ℕ)
    → Sifting out₀ to zs t e s d out left over count → left ≤ 0 → Put out₀ to zs count out
unfolding without keep
sifting_end out₀ to zs t e s d out left over count i h = writes_end out₀ to zs out count _ i.writes (rw (refs_none t e left (omega arith)))

pub ruleset sifting = (turns, sifting_start, sifting_room, sifting_before, sifting_same, sifting_after, sifting_end)

-- ---- two lists, apart or not
pub record Parting (b : Bool) (t : List ℕ) (e : ℕ) (s : List ℕ) (d left over : ℕ) : Type 0 where
  pub first : Walks t e left
  pub second : Walks s d over
  pub goes : apart (refs_to t e left) (refs_to s d over) ≡ b

pub parting_start : (t : List ℕ) (e n : ℕ) (s : List ℕ) (d m : ℕ) → Walks t e n → Walks s d m → Parting (apart (refs_to t e n) (refs_to s d m)) t e s d n m
parting_start t e n s d m a b = record { first = a; second = b; goes = refl }

module _ (b : Bool) (t : List ℕ) (e : ℕ) (s : List ℕ) (d left over : ℕ) (r : Order) (i : Parting b t e s d left over) (h : r ≡ firsts_of (refs_to t e left) (refs_to s d over)) where
  pub parting_before : r ≡ Less → Parting b t e s d (left - 1) over
  parting_before k = record {
    first = walks_next t e left (one_before t e left s d over r h k) i.first;
    second = i.second;
    goes = sym (part_before t e left s d over r h i.first i.second k) ∙ i.goes;
  }

  pub parting_after : r ≡ Greater → 0 < left → Parting b t e s d left (over - 1)
  parting_after k o = record {
    first = i.first;
    second = walks_next s d over (one_after_left t e left s d over r h k i.first o) i.second;
    goes = sym (part_after t e left s d over r h i.first i.second k o) ∙ i.goes;
  }

  pub parting_same : r ≡ Equal → false ≡ b
  parting_same k = sym (part_same t e left s d over r h i.first i.second k) ∙ i.goes

pub parting_end : (b : Bool) (t : List ℕ) (e : ℕ) (s : List ℕ) (d left over : ℕ) → Parting b t e s d left over → left ≤ 0 → true ≡ b
unfolding apart every
parting_end b t e s d left over i h = rw (refs_none t e left (omega arith)) at i.goes

pub ruleset parting = (turns, parting_start, parting_before, parting_after, parting_same, parting_end)
