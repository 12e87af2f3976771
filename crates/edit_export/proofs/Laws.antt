-- What the exported calls write, from what the calls leave. Assumes nothing.
use Prim.Native.Nat.{ℕ}
use mathlib.Core.Path.{◌≡◌, sym, ap, ◌∙◌}
use Rattle.std.specs.Prelude.{Option}
use mathlib.Core.List.{List}
use lib.Ieee.{Float}
use lib.ListN.{get_or}
use Rattle.changes.specs.declared.Tally.{Tally}
use Rattle.run.specs.Run.{Edit}
use Rattle.call_list.specs.declared.Carried.{Carried}
use Rattle.call_list.specs.Reply.{reply_words}
use Rattle.call_list.specs.Step.{StepLeft}
use Rattle.call_list.proofs.Steps.{lent}
use Rattle.tally_words.specs.Words.{tally_in, tally_words}
use Rattle.edit_export.specs.Written.{StepWritten}

pub step_written : (e : Option Edit) (ws₀ : List ℕ) (cs₀ : List Float) (f₀ : List ℕ) (t₀ u₀ : Tally) (s₀ : List ℕ) (c : Carried) (ws : List ℕ) (cs : List Float) (f s t answer : List ℕ) (r : ℕ)
    → t₀ ≡ u₀ → StepLeft e (lent ws₀ cs₀ f₀ t₀ s₀) c.reply (lent ws cs f c.tally s) → t ≡ tally_words c.tally → answer ≡ reply_words c.reply → r ≡ c.reply.what
    → StepWritten e (lent ws₀ cs₀ f₀ u₀ s₀) r answer (lent ws cs f (tally_in t) s)
step_written e ws₀ cs₀ f₀ t₀ u₀ s₀ c ws cs f s t answer r b h p q z =
    rw (← b, p, z) (record { reply = q ∙ h.reply; result = ap (λ (l : List ℕ). get_or l 0 0) (sym q); held = h.held; kept = h.kept })
