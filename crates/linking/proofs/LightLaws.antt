-- The checks of a light's links: each refusal, what has passed, and that they are those of the definition.
use Prim.Native.Nat.{ℕ}
use mathlib.Core.Path.{◌≡◌, refl, sym}
use mathlib.Core.Bool.{Bool, true, false, not, ◌&&◌}
use Rattle.std.specs.Prelude.{Option, Err, Result, Ok}
use mathlib.Core.List.{List, [], ◌∷◌}
use native.Mathlib.Omega.{arith}
use lib.Dec.{eqb, ltb}
use lib.ListN.{length}
use borrow.Author.Tests.{eq-eqb, ne_eqb}
use Rattle.refusal.specs.Answer.{Answer, refused, done, ◌>>=◌, ◌>>◌, refuse_when}
use Rattle.refusal.specs.declared.Refusal.TheVariants.{Unknown, WrongLink}
use Rattle.refusal.specs.declared.LinkFault.TheVariants as link_fault
use Rattle.refusal.specs.declared.RecordKind.TheVariants as record_kind
use Rattle.rows.specs.Lists.{no_entries}
use Rattle.map.specs.Record.{light, Map}
use Rattle.edit.specs.Links as links
use Rattle.edit.specs.Links.{RegulatoryLinks, kinds_of, first_entry, relinked}
use Rattle.placing.specs.Answers.{checked}
use Rattle.linking.specs.Kinds.{KindsRead}
use Rattle.linking.specs.LightLinks.{kind_checks, light_checks, LightChecked}
use Rattle.refusal.specs.declared.Refusal.{Refusal}

-- ---- by the signals

pub empty_is : (xs : List ℕ) → no_entries xs ≡ eqb (length xs) 0
unfolding no_entries
empty_is [] = refl
empty_is (x ∷ xs) = sym (ne_eqb (length (x ∷ xs)) 0 (λ e. let z : ⊥ = omega arith in z))

module _ (ws signals : List ℕ) (l c s : ℕ) where
  pub light_dark : length signals ≡ 0 → LightChecked ws signals l c s (Err (WrongLink link_fault.NoSignals))
  unfolding light_checks
  light_dark h = record { answer = λ cs. rw (empty_is signals, eq-eqb (length signals) 0 h) }

  module _ (h : length signals ≡ 0 → ⊥) (k : Result (Bool × Bool) ℕ) (e : KindsRead ws signals k) where
    pub light_missing : (n : ℕ) → k ≡ Err n → LightChecked ws signals l c s (Err (Unknown record_kind.Signal n))
    unfolding light_checks
    light_missing n q = record { answer = λ cs. rw (empty_is signals, ne_eqb (length signals) 0 h, ← e.answer cs, q) }

    pub light_kinds : (v p : Bool) → k ≡ Ok (v, p) → (r : Result (Unit {0}) Refusal) → checked r ≡ kind_checks v p l c s → LightChecked ws signals l c s r
    unfolding light_checks
    light_kinds v p q r f = record { answer = λ cs. rw (empty_is signals, ne_eqb (length signals) 0 h, ← e.answer cs, q) f }

-- ---- the definition's

module _ (m : Map) (a : RegulatoryLinks) (signals : List ℕ) (line : Option ℕ) where
  by_tests : {B : Type 0} (t₂ t₃ t₄ t₅ : Bool) (w : B)
      → (refuse_when t₂ 8 (2 ∷ []) >> (refuse_when t₃ 8 (3 ∷ []) >> (refuse_when t₄ 8 (4 ∷ []) >> (refuse_when t₅ 8 (5 ∷ []) >> done w))))
      ≡ ((refuse_when t₂ 8 (2 ∷ []) >> (refuse_when t₃ 8 (3 ∷ []) >> (refuse_when t₄ 8 (4 ∷ []) >> refuse_when t₅ 8 (5 ∷ [])))) >> done w)
  by_tests true t₃ t₄ t₅ w = refl
  by_tests false true t₄ t₅ w = refl
  by_tests false false true t₅ w = refl
  by_tests false false false true w = refl
  by_tests false false false false w = refl

  pub light_relinked : relinked m a (light signals line)
      ≡ (light_checks m signals (length a.lanes) (length a.crosswalks) (length a.stop_lines) >> done (light signals (first_entry a.stop_lines)))
  unfolding relinked light_checks kind_checks
  light_relinked = rw (empty_is a.lanes, empty_is a.crosswalks, empty_is a.stop_lines) (go (no_entries signals) (kinds_of m signals))
    where
      go : (b : Bool) (k : Answer links.SignalKinds)
          → (refuse_when b 8 (1 ∷ []) >> (k >>= λ k. refuse_when (k.pedestrian && k.vehicle) 8 (2 ∷ []) >>
          (refuse_when (k.pedestrian && not (eqb (length a.lanes) 0 && eqb (length a.stop_lines) 0)) 8 (3 ∷ []) >>
          (refuse_when (k.vehicle && not (eqb (length a.crosswalks) 0)) 8 (4 ∷ []) >>
          (refuse_when (ltb 1 (length a.stop_lines)) 8 (5 ∷ []) >> done (light signals (first_entry a.stop_lines)))))))
          ≡ ((refuse_when b 8 (1 ∷ []) >> (k >>= λ k. kind_checks k.vehicle k.pedestrian (length a.lanes) (length a.crosswalks) (length a.stop_lines))) >> done (light signals (first_entry a.stop_lines)))
      go true k = refl
      go false (refused n ds) = refl
      go false (done k) =
          by_tests (k.pedestrian && k.vehicle) (k.pedestrian && not (eqb (length a.lanes) 0 && eqb (length a.stop_lines) 0)) (k.vehicle && not (eqb (length a.crosswalks) 0))
          (ltb 1 (length a.stop_lines)) (light signals (first_entry a.stop_lines))
