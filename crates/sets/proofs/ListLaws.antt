-- Lists of entries: what `without` keeps, and what is written where.
use mathlib.Core.Path.{◌≡◌, refl, sym, ap, ◌∙◌}
use mathlib.Core.Bool.{Bool, true, false, not, ◌&&◌}
use mathlib.Core.List.{List}
use Prim.Native.Nat.{ℕ, ◌+◌, ◌*◌, ◌≤◌}
use native.Mathlib.Omega.{arith}
use lib.ListN.{length}
use Rattle.rows.specs.Lists.{keep}
use Rattle.rows.proofs.Bools.{and_r}
use Rattle.map.specs.Entity.{EntityRef, listed}
use Rattle.changes.specs.ChangeFile.{rising_refs}
use Rattle.changes.specs.ChangeSet.{sort_refs, without}
use Rattle.changes.specs.Walk.{refs_to, Put}
use Rattle.changes.proofs.Refs.{listed_keep, listed_sort, keep_rising}
use Rattle.changes.proofs.WalkLaws.{keep_same}
use Rattle.changes.proofs.EntryLaws.{length_refs}
use Rattle.changes.proofs.WrittenLaws.{length-written, to_written, to_before, to_past}

-- ---- without
pub without_rises : (xs ys : List EntityRef) → rising_refs xs ≡ true → rising_refs (without xs ys) ≡ true
unfolding without
without_rises xs ys h = keep_rising (λ a. not (listed ys a)) xs h

-- what is taken out may be sorted
pub without_sorted : (xs ys : List EntityRef) → without xs (sort_refs ys) ≡ without xs ys
unfolding without
without_sorted xs ys = keep_same _ _ xs (λ a k. ap not (listed_sort ys a))

-- once ys are out, zs without ys take out as much as zs
pub without_again : (xs ys zs : List EntityRef) → without (without xs ys) (without zs ys) ≡ without (without xs ys) zs
unfolding without
without_again xs ys zs = keep_same _ _ (keep (λ a. not (listed ys a)) xs) (λ a k. ap not (listed_keep (λ b. not (listed ys b)) zs a ∙ kept (listed zs a) (not (listed ys a)) (and_r (listed xs a) (not (listed ys a)) (sym (listed_keep (λ b. not (listed ys b)) xs a) ∙ k))))
  where
    kept : (p q : Bool) → q ≡ true → (p && q) ≡ p
    kept true q h = h
    kept false q h = refl

-- ---- written lists
pub length_to_lem : (t : List ℕ) (e n : ℕ) → length (refs_to t e n) ≡ n
unfolding refs_to
length_to_lem t e n = length_refs t _ n

module _ (w : List ℕ) (p : ℕ) (xs : List EntityRef) (r : ℕ) (w' : List ℕ) (h : Put w p xs r w') where
  pub put_size : length w' ≡ length w
  put_size = ap length h.memory ∙ length-written w p xs

  pub put_list_lem : p + r * 2 ≤ length w → refs_to w' (p + r * 2) r ≡ xs
  put_list_lem k = rw h.memory (to_written w p xs r (let u = h.count in omega arith) h.count)

  pub put_before : (e n : ℕ) → n * 2 ≤ e → e ≤ p → refs_to w' e n ≡ refs_to w e n
  put_before e n a b = rw h.memory (to_before w p xs e n a b)

  pub put_past : (e n : ℕ) → n * 2 ≤ e → p + r * 2 + n * 2 ≤ e → refs_to w' e n ≡ refs_to w e n
  put_past e n a b = rw h.memory (to_past w p xs e n a (let u = h.count in omega arith))
