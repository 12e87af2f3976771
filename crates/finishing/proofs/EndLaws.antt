-- The last step of a call, settled without a store: a set g has the draft's changes, or at least as many, so that the fold fits alike. Assumes nothing.
use Rattle.std.specs.Prelude.{Option, Err, Ok, Result}
use Prim.Native.Nat.{ℕ, ◌^◌}
use mathlib.Core.Path.{◌≡◌, refl, sym, ap, ◌∙◌}
use mathlib.Core.Bool.{Bool, true, false, not}
use mathlib.Core.List.{List, []}
use native.Mathlib.Omega.{arith}
use lib.Dec.{leb}
use lib.Ieee.{Float}
use Rattle.refusal.specs.Answer.{done, ◌>>◌, refuse_when}
use Rattle.refusal.specs.declared.Refusal.{Refusal}
use Rattle.map.specs.Tables.{map_of}
use Rattle.changes.specs.declared.Tally.{Tally}
use Rattle.changes.specs.ChangeSet.{ChangeSet, normalize, fold_step, tally_of}
use Rattle.changes.specs.Layout.{change_set_of}
use Rattle.changes.specs.Running.{fold_fits}
use Rattle.placing.specs.Answers.{checked}
use Rattle.place.specs.Values.{maybe_ends}
use Rattle.edit.specs.Edit.{Draft}
use Rattle.edit.specs.Lent.{Lent}
use Rattle.finishing.specs.Finish.{lent_checks, settled, CallEnds, Few, FoldRoom, Settles, TakenIn}
use Rattle.finishing.proofs.CallLaws.{settle_refused, carried_out, call_refused, call_done}
use Rattle.place.specs.declared.SectionNames.{SectionNames}

-- few entries, and the fold has room for them
pub room_settles : (f : List ℕ) (late b : Bool) → FoldRoom f late b → b ≡ true → (g : ChangeSet) → Few g → Settles f g late (Ok tt)
room_settles f late b h q g few = record { answer = sym (h.fine q g few) }

passed : (b z : Bool) → (refuse_when (not b) 10 [] >> refuse_when z 11 []) ≡ done tt → (b ≡ true) × (z ≡ false)
passed true false e = (refl, refl)
passed true true e = absurd (let y : ◌≡◌ {A = ℕ} 0 1 = cc in omega arith)
passed false z e = absurd (let y : ◌≡◌ {A = ℕ} 0 1 = cc in omega arith)

module _ (l : Lent) (fine : lent_checks l ≡ done tt) (d : Draft) (g : ChangeSet) (late : Bool) (el : late ≡ leb (2 ^ 64) d.map.next)
    (alike : fold_fits (fold_step (change_set_of l.fold) (normalize g)) ≡ fold_fits (fold_step (change_set_of l.fold) (normalize d.changes))) (r : Result (Unit {0}) Refusal) (h : Settles l.fold g late r) where
  settled_is : checked r ≡ settled (change_set_of l.fold) (normalize d.changes) (leb (2 ^ 64) d.map.next)
  unfolding settled
  settled_is = rw (← alike, ← el) h.answer

  pub ends_refused : (x : Refusal) → r ≡ Err x → (a : Result (ℕ × Option SectionNames) Refusal) (u : Tally) → (a ≡ Err x) × (u ≡ l.tally)
      → CallEnds l d a (record { words = l.words; coords = l.coords; fold = l.fold; tally = u; set = l.set })
  ends_refused x e a u z = record { left = λ edit plan. call_refused edit l x (settle_refused edit l fine d plan x (sym settled_is ∙ ap checked e)) l.fold refl a u z }

  module _ (q : r ≡ (Ok tt)) where
    nothing_refuses : settled (change_set_of l.fold) (normalize d.changes) (leb (2 ^ 64) d.map.next) ≡ done tt
    nothing_refuses = sym settled_is ∙ ap checked q

    both_passed : (fold_fits (fold_step (change_set_of l.fold) (normalize d.changes)) ≡ true) × (leb (2 ^ 64) d.map.next ≡ false)
    unfolding settled
    both_passed = passed (fold_fits (fold_step (change_set_of l.fold) (normalize d.changes))) (leb (2 ^ 64) d.map.next) nothing_refuses

    -- numbers are left
    pub not_late : late ≡ false
    not_late = el ∙ both_passed.1

    module _ (t : List ℕ) (et : change_set_of t ≡ d.changes) where
      pub takes : fold_fits (fold_step (change_set_of l.fold) (normalize (change_set_of t))) ≡ true
      takes = rw et both_passed.0

      pub ends_done : (f' t' : List ℕ) → TakenIn l.fold t f' t' → (ws : List ℕ) (cs : List Float) (tally : Tally) (n : ℕ) (es : Option SectionNames) → map_of ws cs ≡ d.map → tally ≡ tally_of (change_set_of f')
          → n ≡ d.id → maybe_ends es ≡ d.ends → CallEnds l d (Ok (n, es)) (record { words = ws; coords = cs; fold = f'; tally = tally; set = t' })
      ends_done f' t' w ws cs tally n es a b i h = record {
        left = λ edit plan.
            call_done edit l d (carried_out edit l fine d plan nothing_refuses) (record { words = ws; coords = cs; fold = f'; tally = tally; set = t' }) n es a
            (w.fold ∙ ap (λ (x : ChangeSet). fold_step (change_set_of l.fold) (normalize x)) et) b (w.set ∙ ap normalize et) i h;
      }
