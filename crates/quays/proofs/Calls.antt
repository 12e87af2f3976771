-- The code's calls on two quays return the same.
use Rattle.std.specs.Prelude.{None, Option, Some, Err, Ok, Result}
use Prim.Native.Nat.{ℕ}
use mathlib.Core.Path.{◌≡◌, refl, sym, ap, ap₂, ◌∙◌}
use mathlib.Core.Bool.{true, ◌&&◌, cond}
use mathlib.Core.List.{List}
use native.Mathlib.Omega.{arith}
use lib.Dec.{eqb}
use lib.ListN.{length, get_or}
use Rattle.refusal.specs.Answer.{Answer, done}
use Rattle.refusal.proofs.Same.{same_refusal}
use Rattle.rows.proofs.Bools.{parts}
use Rattle.changes.specs.ChangeFile.{lists_ok}
use Rattle.changes.specs.Layout.{set_words, change_set_of}
use Rattle.changes.specs.Running.{State, fold_ok}
use Rattle.place.specs.Values.{maybe_ends}
use Rattle.edit.specs.Edit.{Outcome}
use Rattle.edit.specs.Lent.{Lent, state_of, lent_call, answered, CallLeft}
use Rattle.edit.specs.StopLine.{NewStopLine, add_stop_line}
use Rattle.finishing.specs.Finish.{lent_checks}
use Rattle.finishing.proofs.CallLaws.{tables-map, lent_past}
use Rattle.run.specs.Law.{passes}
use Rattle.quays.specs.Quays.{SameAnswer, ReturnAlike, BothLeft, TwoQuays}
use Rattle.quays.proofs.Answered.{placed_alike, answers_same, runs_same, line_stored}
use Rattle.refusal.specs.declared.Refusal.{Refusal}
use Rattle.place.specs.declared.SectionNames.{SectionNames}

-- ---- the value that is returned

same_ends : (x y : Option SectionNames) → maybe_ends x ≡ maybe_ends y → x ≡ y
same_ends (Some a) (Some b) q = let r : a ≡ b = cc in ap Some r
same_ends (Some a) None q = let z : ◌≡◌ {A = ℕ} 0 1 = cc in absurd (omega arith)
same_ends None (Some b) q = let z : ◌≡◌ {A = ℕ} 0 1 = cc in absurd (omega arith)
same_ends None None q = refl

same_value : (r u : Result (ℕ × Option SectionNames) Refusal) (x y : Lent) → SameAnswer (answered r x) (answered u y) → r ≡ u
same_value (Ok (n, a)) (Ok (k, b)) x y q = ap₂ (λ (i : ℕ) (e : Option SectionNames). Ok (i, e)) q.number (same_ends a b q.ends)
same_value (Ok (n, a)) (Err u) x y q = absurd q
same_value (Err r) (Ok (k, b)) x y q = absurd q
same_value (Err r) (Err u) x y q = ap Err (same_refusal r u q.0 q.1)

-- ---- the calls

lent_passes : (l : Lent) → lent_checks l ≡ done tt → passes (state_of l) ≡ true
unfolding passes
lent_passes l h =
    let past = lent_past l h in
    let rest = past.1 in
    let sound = tables-map l.words l.coords past.0 in
    let lists : lists_ok (change_set_of l.fold) ≡ true = search parts in
    let fold : fold_ok (state_of l) ≡ true = search parts in
    rw (sound, lists, fold)

lent_call_lem : (call : State → Answer Outcome) (l : Lent) → lent_checks l ≡ done tt → lent_call call l ≡ call (state_of l)
unfolding lent_call
lent_call_lem call l h =
    let past = lent_past l h in
    let tables = past.0 in
    let rest = past.1 in
    let lengths : (eqb (length l.fold) set_words && eqb (length l.set) set_words) ≡ true = search parts in
    rw (tables, lengths)

module _ (a : NewStopLine) (x y : Lent) (r u : Result (ℕ × Option SectionNames) Refusal) (x' y' : Lent) (left : CallLeft (add_stop_line a) x r x') (left' : CallLeft (add_stop_line a) y u y') where
  return_alike : ReturnAlike a.lanes x y r u x' y'
  return_alike p p' quay room = record { returned = same_value r u x' y' same; answer = same }
    where
      same : SameAnswer (answered r x') (answered u y')
      same = rw (left.answer, left'.answer, lent_call_lem (add_stop_line a) x p, lent_call_lem (add_stop_line a) y p') (answers_same a (state_of x) (state_of y) (lent_passes x p) (lent_passes y p') quay room)

  pub both_left : BothLeft a x y r u x' y'
  both_left = record { first = left; second = left'; alike = return_alike }

-- ---- the promise

pub two_quays : (a : NewStopLine) → TwoQuays a
two_quays a = record {
  placed = placed_alike a;
  stored = line_stored a;
  answers = answers_same a;
  runs = runs_same a;
  calls = return_alike a;
}
