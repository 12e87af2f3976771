-- What the exported runs write, from what the runs leave. Assumes nothing.
use Prim.Native.Nat.{ℕ}
use mathlib.Core.Path.{◌≡◌, refl, ap}
use Rattle.std.specs.Prelude.{Option}
use mathlib.Core.List.{List, [], ◌∷◌}
use lib.Ieee.{Float}
use native.Mathlib.Omega.{arith}
use Rattle.std.proofs.Common.{Result, Ok, Err}
use Rattle.refusal.specs.declared.Refusal.{Refusal}
use Rattle.refusal.specs.declared.Refusal.TheVariants.{NoLanes, Unknown, ListedTwice, BadMeasure, BadShape, NoPlace, WrongGroup, WrongLink, OffTheMap, Full, NumbersSpent, BadMap, BadSet, ShortBuffer}
use Rattle.refusal.specs.Refusal.{refusal_number}
use Rattle.codec.specs.Format.{Bytes}
use Rattle.map.specs.Record.{Map}
use Rattle.changes.specs.declared.Tally.{Tally}
use Rattle.edit.specs.Lent.{Lent}
use Rattle.run.specs.Run.{Edit}
use Rattle.call_list.specs.Ran.{RunLeft}
use Rattle.call_list.proofs.Steps.{lent}
use Rattle.runs.specs.Loop.{no_tally}
use Rattle.runs.specs.Opened.{opened_answer, LeftByRun, OpenedLeft}
use Rattle.tally_words.specs.Words.{tally_in, tally_words}
use Rattle.run_export.specs.Written.{written_words, code_of, RunWritten, OpenedWritten}

pub run_as : (rows : List (Option Edit)) (ws₀ : List ℕ) (cs₀ : List Float) (f₀ : List ℕ) (t₀ u₀ : Tally) (s₀ answers : List ℕ) (a : Result ℕ Refusal) (new : Lent) (answers' : List ℕ)
    → t₀ ≡ u₀ → RunLeft rows (lent ws₀ cs₀ f₀ t₀ s₀) answers a new answers' → RunLeft rows (lent ws₀ cs₀ f₀ u₀ s₀) answers a new answers'
run_as rows ws₀ cs₀ f₀ t₀ u₀ s₀ answers a new answers' b h = rw (← b) h

some_number : {A : Type 0} (x : Refusal) → refusal_number x ≡ 0 → A
some_number NoLanes q = absurd (let u : ⊥ = omega arith in u)
some_number (Unknown a b) q = absurd (let u : ⊥ = omega arith in u)
some_number (ListedTwice a) q = absurd (let u : ⊥ = omega arith in u)
some_number (BadMeasure a) q = absurd (let u : ⊥ = omega arith in u)
some_number (BadShape a) q = absurd (let u : ⊥ = omega arith in u)
some_number (NoPlace a) q = absurd (let u : ⊥ = omega arith in u)
some_number (WrongGroup a) q = absurd (let u : ⊥ = omega arith in u)
some_number (WrongLink a) q = absurd (let u : ⊥ = omega arith in u)
some_number OffTheMap q = absurd (let u : ⊥ = omega arith in u)
some_number Full q = absurd (let u : ⊥ = omega arith in u)
some_number NumbersSpent q = absurd (let u : ⊥ = omega arith in u)
some_number BadMap q = absurd (let u : ⊥ = omega arith in u)
some_number BadSet q = absurd (let u : ⊥ = omega arith in u)
some_number ShortBuffer q = absurd (let u : ⊥ = omega arith in u)

module _ (rows : List (Option Edit)) (old : Lent) (answers : List ℕ) (a : Result ℕ Refusal) (ws : List ℕ) (cs : List Float) (f : List ℕ) (k : Tally) (s t answers' : List ℕ)
    (h : RunLeft rows old answers a (lent ws cs f k s) answers') (p : t ≡ tally_words k) where
  pub run_done : (n : ℕ) → a ≡ Ok n → RunWritten rows old answers 0 (lent ws cs f (tally_in t) s) answers'
  run_done n e = rw p (go a e h)
    where
      go : (a : Result ℕ Refusal) → a ≡ Ok n → RunLeft rows old answers a (lent ws cs f k s) answers' → RunWritten rows old answers 0 (lent ws cs f k s) answers'
      go (Ok m) e h = record { result = ap code_of h.answer; left = λ q. h.left refl; law = λ q. h.law refl; kept = λ q. absurd (q refl) }
      go (Err x) e h = absurd (let z : ◌≡◌ {A = ℕ} 0 1 = cc in let u : ⊥ = omega arith in u)

  pub run_refused : (x : Refusal) (r : ℕ) → a ≡ Err x → r ≡ refusal_number x → RunWritten rows old answers r (lent ws cs f (tally_in t) s) answers'
  run_refused x r e z = rw (p, z) (go a e h)
    where
      go : (a : Result ℕ Refusal) → a ≡ Err x → RunLeft rows old answers a (lent ws cs f k s) answers' → RunWritten rows old answers (refusal_number x) (lent ws cs f k s) answers'
      go (Ok m) e h = absurd (let z : ◌≡◌ {A = ℕ} 0 1 = cc in let u : ⊥ = omega arith in u)
      go (Err y) e h =
          let same : y ≡ x = cc in
          rw (← same) (record { result = ap code_of h.answer; left = λ q. some_number y q; law = λ q. some_number y q; kept = λ q. h.kept refl })

-- ---- a run from a file
pub words_done : (w : Result ℕ Refusal) (n : ℕ) → w ≡ Ok n → 0 ∷ n ∷ [] ≡ written_words w
words_done w n e = rw e

pub words_refused : (w : Result ℕ Refusal) (x : Refusal) (n : ℕ) → w ≡ Err x → n ≡ refusal_number x → n ∷ 0 ∷ [] ≡ written_words w
words_refused w x n e q = rw (e, q)

module _ (file : Bytes) (rows : List (Option Edit)) (ws₀ : List ℕ) (cs₀ : List Float) (f₀ : List ℕ) (t₀ : Tally) (s₀ answers buffer written : List ℕ) (a : Result ℕ Refusal) (w : Result ℕ Refusal)
    (ws : List ℕ) (cs : List Float) (f : List ℕ) (k : Tally) (s answers' buffer' : List ℕ)
    (h : OpenedLeft file rows (lent ws₀ cs₀ f₀ no_tally s₀) answers buffer a w (lent ws cs f k s) answers' buffer') where
  -- what a run leaves goes by no tally from before it
  apart : (m : Map) (new : Lent) → LeftByRun m rows (lent ws₀ cs₀ f₀ no_tally s₀) answers buffer w new answers' buffer' → LeftByRun m rows (lent ws₀ cs₀ f₀ t₀ s₀) answers buffer w new answers' buffer'
  apart m new l = record { state = l.state; law = l.law; set = l.set; replied = l.replied; written = l.written }

  pub opened_done : (n : ℕ) (t v : List ℕ) → a ≡ Ok n → t ≡ tally_words k → v ≡ written_words w
      → OpenedWritten file rows (lent ws₀ cs₀ f₀ t₀ s₀) answers buffer written 0 (lent ws cs f (tally_in t) s) answers' buffer' v
  unfolding opened_answer
  opened_done n t v e p q = rw p (go a e h)
    where
      go : (a : Result ℕ Refusal) → a ≡ Ok n → OpenedLeft file rows (lent ws₀ cs₀ f₀ no_tally s₀) answers buffer a w (lent ws cs f k s) answers' buffer'
          → OpenedWritten file rows (lent ws₀ cs₀ f₀ t₀ s₀) answers buffer written 0 (lent ws cs f k s) answers' buffer' v
      go (Ok m) e h = record { result = ap code_of h.answer; left = λ m z y. record { what = w; told = q; left = apart m _ (h.left m refl y) }; kept = λ z. absurd (z refl) }
      go (Err x) e h = absurd (let z : ◌≡◌ {A = ℕ} 0 1 = cc in let u : ⊥ = omega arith in u)

  pub opened_refused : (x : Refusal) (r : ℕ) → a ≡ Err x → r ≡ refusal_number x
      → OpenedWritten file rows (lent ws₀ cs₀ f₀ t₀ s₀) answers buffer written r (lent ws cs f t₀ s) answers' buffer' written
  unfolding opened_answer
  opened_refused x r e z = rw z (go a e h)
    where
      go : (a : Result ℕ Refusal) → a ≡ Err x → OpenedLeft file rows (lent ws₀ cs₀ f₀ no_tally s₀) answers buffer a w (lent ws cs f k s) answers' buffer'
          → OpenedWritten file rows (lent ws₀ cs₀ f₀ t₀ s₀) answers buffer written (refusal_number x) (lent ws cs f t₀ s) answers' buffer' written
      go (Ok m) e h = absurd (let z : ◌≡◌ {A = ℕ} 0 1 = cc in let u : ⊥ = omega arith in u)
      go (Err y) e h =
          let same : y ≡ x = cc in
          rw (← same) (record { result = ap code_of h.answer; left = λ m q. some_number y q; kept = λ q. (ap (λ (l : Lent). lent l.words l.coords l.fold t₀ l.set) (h.kept refl).0, (h.kept refl).1, (h.kept refl).2, refl) })
