-- What the readers of the unused bytes are proved by.
use Prim.Native.Nat.{ℕ, ◌-◌, ◌≤◌}
use mathlib.Core.Path.{◌≡◌, refl, sym, ap, subst, ◌∙◌}
use mathlib.Core.List.{List}
use lib.Ieee.{Float}
use lib.ListN.{length, take, drop, length-drop, drop_of_length-le}
use lib.Seq.{take_all}
use native.Mathlib.Omega.{arith}
use Rattle.std.proofs.Common.{Result}
use Rattle.refusal.specs.declared.Refusal.{Refusal}
use Rattle.codec.specs.Format.{Bytes}
use Rattle.codec.specs.Answers.{NumberRead}
use Rattle.std.specs.Prelude.{Option, Some, None}
use Rattle.files.specs.ReadInto.{MapReadInto, ChangesReadInto}
use Rattle.reader.specs.declared.Reader.{Reader}
use Rattle.reader.specs.Next.{place_after, taken, NumberTaken}

-- past the end no bytes are left, wherever the place is
pub past : (s : Bytes) (at : ℕ) → length s ≤ at → drop (length s) s ≡ drop at s
past s at h = drop_of_length-le s {i = length s} (omega arith) ∙ sym (drop_of_length-le s h)

-- the part from a place to the end
pub to_end : (s : Bytes) (n : ℕ) → take (length s - n) (drop n s) ≡ drop n s
to_end s n = take_all (length s - n) (drop n s) (omega (arith, length-drop n s))

-- what is read of the part is read of the unused bytes
pub map_read_lem : (s : Bytes) (at n : ℕ) {ws : List ℕ} {cs : List Float} {r : Result (Unit {0}) Refusal} {ws' : List ℕ} {cs' : List Float} → drop n s ≡ drop at s
    → MapReadInto (take (length s - n) (drop n s)) ws cs r ws' cs' → MapReadInto (drop at s) ws cs r ws' cs'
map_read_lem s at n {ws} {cs} {r} {ws'} {cs'} e h = subst (λ p. MapReadInto p ws cs r ws' cs') (to_end s n ∙ e) h

pub changes_read_lem : (s : Bytes) (at n : ℕ) {t : List ℕ} {r : Result (Unit {0}) Refusal} {t' : List ℕ} → drop n s ≡ drop at s
    → ChangesReadInto (take (length s - n) (drop n s)) t r t' → ChangesReadInto (drop at s) t r t'
changes_read_lem s at n {t} {r} {t'} e h = subst (λ p. ChangesReadInto p t r t') (to_end s n ∙ e) h

-- a number read at the place, and the place after it
pub number_taken : (r : Reader) (n : Option (ℕ × ℕ)) (m : ℕ) → NumberRead r.bytes.now r.at n → m ≡ place_after n r.at
    → NumberTaken r n (record { bytes = r.bytes; at = m })
number_taken r (Some (v, k)) m e p = record { is = ap (λ i. taken (Some (v, k)) (drop i r.bytes.now)) p ∙ e.read; moved = λ i. record { bytes = r.bytes; at = p i }; place = p ∙ e.place v k refl }
number_taken r None m e p = record { is = e.read; moved = λ i. record { bytes = r.bytes; at = p i }; place = omega arith }
