-- Calls made one by one come to the definition's run. Assumes nothing.
use mathlib.Core.Path.{◌≡◌, refl, sym, ap, subst, ◌∙◌}
use mathlib.Core.Bool.{true}
use Rattle.std.specs.Prelude.{Some, Err, Ok, Option, Result, ℕ}
use mathlib.Core.List.{List, [], ◌∷◌}
use Rattle.refusal.specs.Answer.{Answer}
use Rattle.changes.specs.Running.{State}
use Rattle.edit.specs.Edit.{Outcome}
use Rattle.edit.specs.Lent.{Lent, state_of, answered, is_refused, CallLeft}
use Rattle.run.specs.Run.{Edit, run_one, state_after, run_all}
use Rattle.run.specs.Law.{RunLaw}
use Rattle.run.proofs.Runs.{run_law}
use Rattle.call_list.specs.Step.{Fitting, call_of}
use Rattle.call_list.specs.OneByOne.{SameLengths, CallsMade, no_call, and_then, OneByOneLaw}
use Rattle.call_list.proofs.Steps.{lent_run}
use Rattle.refusal.specs.declared.Refusal.{Refusal}
use Rattle.place.specs.declared.SectionNames.{SectionNames}

fit_after : (old new : Lent) → Fitting old → SameLengths old new → Fitting new
fit_after old new f s = record { words = s.words ∙ f.words; coords = s.coords ∙ f.coords; fold = s.fold ∙ f.fold; set = s.set ∙ f.set }

call_state : (e : Edit) (old : Lent) (x : Result (ℕ × Option SectionNames) Refusal) (new : Lent) → Fitting old → CallLeft (run_one e) old x new → state_of new ≡ state_after (state_of old) (run_one e (state_of old))
unfolding call_of
call_state e old x new f h = go x (h.answer ∙ lent_run (Some e) old f) h.kept
  where
    go : (x : Result (ℕ × Option SectionNames) Refusal) → answered x new ≡ run_one e (state_of old) → (is_refused x ≡ true → new ≡ old) → state_of new ≡ state_after (state_of old) (run_one e (state_of old))
    go (Ok (n, es)) a k = subst (λ (y : Answer Outcome). state_of new ≡ state_after (state_of old) y) a refl
    go (Err y) a k = subst (λ (z : Answer Outcome). state_of new ≡ state_after (state_of old) z) a (ap state_of (k refl))

made_state : (es : List Edit) (old new : Lent) → Fitting old → CallsMade es old new → state_of new ≡ run_all es (state_of old)
unfolding run_all
made_state [] old new f no_call = refl
made_state (e ∷ es) old new f (and_then {between = between} x xs) =
    made_state es between new (fit_after old between f x.lengths) xs ∙ ap (run_all es) (call_state e old x.answer between f x.left)

pub one_by_one : OneByOneLaw
one_by_one = record {
  law = λ m es old new ok f o h. subst (λ (s : State). RunLaw m es s) (sym (made_state es old new f h ∙ ap (run_all es) o)) (run_law m ok es);
}
