-- What writing entries leaves: the entries where they were written, and every other word.
use mathlib.Core.Path.{◌≡◌, refl, ap₂, ◌∙◌}
use mathlib.Core.List.{List, [], ◌∷◌}
use Prim.Native.Nat.{ℕ, zero, suc, ◌+◌, ◌-◌, ◌*◌, ◌≤◌, ◌<◌}
use native.Mathlib.Omega.{arith}
use lib.ListN.{length, get_or, set, length-set}
use lib.Seq.{get_or-set_same, get_or-set_other}
use Rattle.map.specs.Entity.{EntityRef, entity}
use Rattle.changes.specs.Layout.{ref_at, refs_at, warning_at, warnings_at}
use Rattle.changes.specs.Walk.{refs_to, put_ref, written}
use Rattle.changes.proofs.MergeLaws.{length-put_ref}
use Rattle.changes.proofs.EntryLaws.{refs_at_lem}

pub length-written : (w : List ℕ) (p : ℕ) (xs : List EntityRef) → length (written w p xs) ≡ length w
unfolding written
length-written w p [] = refl
length-written w p (a ∷ r) = length-written (put_ref w p a) (p + 2) r ∙ length-put_ref w p a

-- ---- one word
pub word_put_ref : (w : List ℕ) (p : ℕ) (a : EntityRef) (i : ℕ) → (i ≡ p → ⊥) → (i ≡ p + 1 → ⊥) → get_or (put_ref w p a) i 0 ≡ get_or w i 0
unfolding put_ref
word_put_ref w p a i f g = get_or-set_other (set w p a.kind) (p + 1) i a.num 0 g ∙ get_or-set_other w p i a.kind 0 f

pub word_before : (w : List ℕ) (p : ℕ) (xs : List EntityRef) (i : ℕ) → i < p → get_or (written w p xs) i 0 ≡ get_or w i 0
unfolding written
word_before w p [] i h = refl
word_before w p (a ∷ r) i h = word_before (put_ref w p a) (p + 2) r i (omega arith) ∙ word_put_ref w p a i (λ e. omega arith) (λ e. omega arith)

pub word_past : (w : List ℕ) (p : ℕ) (xs : List EntityRef) (i : ℕ) → p + length xs * 2 ≤ i → get_or (written w p xs) i 0 ≡ get_or w i 0
unfolding written
word_past w p [] i h = refl
word_past w p (a ∷ r) i h = word_past (put_ref w p a) (p + 2) r i (omega arith) ∙ word_put_ref w p a i (λ e. omega arith) (λ e. omega arith)

-- ---- entries and warnings of words that are the same
pub refs_same : (w w' : List ℕ) (p n : ℕ) → ((i : ℕ) → p ≤ i → i < p + n * 2 → get_or w' i 0 ≡ get_or w i 0) → refs_at w' p n ≡ refs_at w p n
unfolding refs_at ref_at
refs_same w w' p zero f = refl
refs_same w w' p (suc n) f = rw (f p (omega arith) (omega arith), f (p + 1) (omega arith) (omega arith), refs_same w w' (p + 2) n (λ i a b. f i (omega arith) (omega arith)))

pub warnings_same : (w w' : List ℕ) (p n : ℕ) → ((i : ℕ) → p ≤ i → i < p + n * 3 → get_or w' i 0 ≡ get_or w i 0) → warnings_at w' p n ≡ warnings_at w p n
unfolding warnings_at warning_at
warnings_same w w' p zero f = refl
warnings_same w w' p (suc n) f = rw (f p (omega arith) (omega arith), f (p + 1) (omega arith) (omega arith), f (p + 2) (omega arith) (omega arith), warnings_same w w' (p + 3) n (λ i a b. f i (omega arith) (omega arith)))

-- ---- the entries
pub ref_put : (w : List ℕ) (p : ℕ) (a : EntityRef) → p + 2 ≤ length w → ref_at (put_ref w p a) p ≡ a
unfolding put_ref ref_at
ref_put w p a h = ap₂ {C = EntityRef} (λ k n. entity k n)
    (get_or-set_other (set w p a.kind) (p + 1) p a.num 0 (λ e. omega arith) ∙ get_or-set_same w p a.kind 0 (omega arith))
    (get_or-set_same (set w p a.kind) (p + 1) a.num 0 (simp length-set (omega arith)))

pub refs_written : (w : List ℕ) (p : ℕ) (xs : List EntityRef) → p + length xs * 2 ≤ length w → refs_at (written w p xs) p (length xs) ≡ xs
unfolding written refs_at
refs_written w p [] h = refl
refs_written w p (a ∷ r) h = ap₂ {C = List EntityRef} (λ x l. x ∷ l)
    (head ∙ ref_put w p a (omega arith))
    (refs_written (put_ref w p a) (p + 2) r (let u = length-put_ref w p a in omega arith))
  where
    head : ref_at (written (put_ref w p a) (p + 2) r) p ≡ ref_at (put_ref w p a) p
    head = unfold ref_at in rw (word_before (put_ref w p a) (p + 2) r p (omega arith), word_before (put_ref w p a) (p + 2) r (p + 1) (omega arith))

-- ---- lists that end at a word
pub to_written : (w : List ℕ) (p : ℕ) (xs : List EntityRef) (n : ℕ) → p + length xs * 2 ≤ length w → n ≡ length xs → refs_to (written w p xs) (p + n * 2) n ≡ xs
to_written w p xs n h e = rw (e, refs_at_lem (written w p xs) p (length xs)) (refs_written w p xs h)

pub to_before : (w : List ℕ) (p : ℕ) (xs : List EntityRef) (e n : ℕ) → n * 2 ≤ e → e ≤ p → refs_to (written w p xs) e n ≡ refs_to w e n
unfolding refs_to
to_before w p xs e n h k = refs_same w (written w p xs) (e - n * 2) n (λ i a b. word_before w p xs i (omega arith))

pub to_past : (w : List ℕ) (p : ℕ) (xs : List EntityRef) (e n : ℕ) → n * 2 ≤ e → p + length xs * 2 ≤ e - n * 2 → refs_to (written w p xs) e n ≡ refs_to w e n
unfolding refs_to
to_past w p xs e n h k = refs_same w (written w p xs) (e - n * 2) n (λ i a b. word_past w p xs i (omega arith))
