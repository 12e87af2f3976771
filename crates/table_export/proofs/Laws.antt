-- What the exported fold tells, from what the fold call answers and leaves. Assumes nothing.
use Prim.Native.Nat.{ℕ}
use Rattle.std.specs.Prelude.{Ok, Err}
use mathlib.Core.Path.{◌≡◌, refl}
use mathlib.Core.List.{List}
use Rattle.refusal.specs.declared.Refusal.{Refusal}
use Rattle.refusal.specs.Refusal.{refusal_number}
use Rattle.changes.specs.Layout.{change_set_of, fold_tables}
use Rattle.sets.specs.Fold.{Folded, FoldCalled}
use Rattle.told.specs.Told.{Told, always}

module _ (f c f' : List ℕ) (a : Folded) where
  pub fold_done : FoldCalled f c a f' → a ≡ Ok tt → Told (always (fold_tables f c)) change_set_of 0 f f'
  fold_done h e =
      let z : FoldCalled f c (Ok tt) f' = rw e at h in
      rw (← z.answer) record { code = refl; left = refl }

  pub fold_refused : (x : Refusal) (r : ℕ) → FoldCalled f c a f' → a ≡ Err x → r ≡ refusal_number x → Told (always (fold_tables f c)) change_set_of r f f'
  fold_refused x r h e q =
      let z : FoldCalled f c (Err x) f' = rw e at h in
      rw (← z.answer) record { code = q; left = z.unchanged refl }
