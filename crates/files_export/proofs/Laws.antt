-- What the exported functions leave, from what the calls of `files` leave. Assumes nothing.
use Prim.Native.Nat.{ℕ}
use mathlib.Core.Path.{◌≡◌, refl, ap, ◌∙◌}
use mathlib.Core.List.{List, [], ◌∷◌}
use lib.Ieee.{Float}
use Rattle.std.proofs.Common.{Result, Ok, Err}
use Rattle.refusal.specs.declared.Refusal.{Refusal}
use Rattle.refusal.specs.Refusal.{refusal_number}
use Rattle.refusal.specs.Answer.{Answer}
use Rattle.codec.specs.Format.{Bytes}
use Rattle.changes.specs.declared.Tally.{Tally}
use Rattle.tally_words.specs.Words.{tally_words}
use Rattle.files.specs.ReadInto.{MapReadInto, ChangesReadInto}
use Rattle.files.specs.OpenInto.{MapOpened}
use Rattle.files.specs.WriteOut.{FileWritten}
use Rattle.files_export.specs.Left.{MapReadLeft, MapOpenedLeft, ChangesReadLeft, WriteLeft, code_of, size_of}

module _ (s : Bytes) (ws : List ℕ) (cs : List Float) (ws' : List ℕ) (cs' : List Float) where
  pub read_done : (a : Result (Unit {0}) Refusal) → MapReadInto s ws cs a ws' cs' → a ≡ Ok tt → MapReadLeft s ws cs 0 ws' cs'
  read_done a h e =
      let z : MapReadInto s ws cs (Ok tt) ws' cs' = rw e at h in
      rw (← z.is) (refl, refl)

  pub read_refused : (a : Result (Unit {0}) Refusal) (x : Refusal) (r : ℕ) → MapReadInto s ws cs a ws' cs' → a ≡ Err x → r ≡ refusal_number x → MapReadLeft s ws cs r ws' cs'
  read_refused a x r h e q =
      let z : MapReadInto s ws cs (Err x) ws' cs' = rw e at h in
      rw (← z.is) (q, z.untouched)

  module _ (fs t fs' : List ℕ) where
    pub open_done : (a : Result Tally Refusal) (k : Tally) (t' : List ℕ) → MapOpened s ws cs fs a ws' cs' fs' → a ≡ Ok k → t' ≡ tally_words k → MapOpenedLeft s ws cs fs t 0 ws' cs' fs' t'
    open_done a k t' h e p =
        let z : MapOpened s ws cs fs (Ok k) ws' cs' fs' = rw e at h in
        rw (← z.is, p) (refl, refl)

    pub open_refused : (a : Result Tally Refusal) (x : Refusal) (r : ℕ) → MapOpened s ws cs fs a ws' cs' fs' → a ≡ Err x → r ≡ refusal_number x → MapOpenedLeft s ws cs fs t r ws' cs' fs' t
    open_refused a x r h e q =
        let z : MapOpened s ws cs fs (Err x) ws' cs' fs' = rw e at h in
        rw (← z.is) (q, (z.untouched.0, z.untouched.1, z.untouched.2, refl))

module _ (s : Bytes) (t t' : List ℕ) where
  pub set_done : (a : Result (Unit {0}) Refusal) → ChangesReadInto s t a t' → a ≡ Ok tt → ChangesReadLeft s t 0 t'
  set_done a h e =
      let z : ChangesReadInto s t (Ok tt) t' = rw e at h in
      rw (← z.is) (refl, refl)

  pub set_refused : (a : Result (Unit {0}) Refusal) (x : Refusal) (r : ℕ) → ChangesReadInto s t a t' → a ≡ Err x → r ≡ refusal_number x → ChangesReadLeft s t r t'
  set_refused a x r h e q =
      let z : ChangesReadInto s t (Err x) t' = rw e at h in
      rw (← z.is) (q, z.untouched)

-- ---- writing
pub told_done : (w : Result ℕ Refusal) (n : ℕ) (size : List ℕ) → w ≡ Ok n → (0 ≡ code_of w) × (n ∷ [] ≡ size_of w size)
told_done w n size e = rw e (refl, refl)

pub write_left : (answer : Answer Bytes) (form old : Bytes) (w : Result ℕ Refusal) (new : Bytes) (size size' : List ℕ) (r : ℕ)
    → FileWritten answer form old w new → r ≡ code_of w → size' ≡ size_of w size → WriteLeft answer form old size r new size'
write_left answer form old (Ok n) new size size' r h p q = rw (← h.is) (p, refl, q ∙ ap (λ (k : ℕ). k ∷ []) h.left)
write_left answer form old (Err x) new size size' r h p q = rw (← h.is) (p, h.left, q)

pub ruleset exported = (read_done, read_refused, open_done, open_refused, set_done, set_refused, write_left)
