-- What the fold call answers and leaves.
use Rattle.std.specs.Prelude.{ℕ, ◌≡◌, Bool, true, not, List, [], Result, is_err}
use Rattle.refusal.specs.Answer.{Answer, done, answered, refuse_when, ◌>>◌}
use Rattle.changes.specs.ChangeSet.{ChangeSet, fold_step}
use Rattle.changes.specs.Running.{fold_fits}
use Rattle.changes.specs.Layout.{change_set_of, fold_tables}
use Rattle.refusal.specs.declared.Refusal.{Refusal}

-- what a fold in the code answers
abbrev pub Folded : Type 0
Folded = Result (Unit {0}) Refusal

-- the answer that it stands for, with the set that is left
abbrev pub folded_as : Folded → ChangeSet → Answer ChangeSet
folded_as a g = answered a >> done g

abbrev pub is_refused : Folded → Bool
is_refused a = is_err a

-- for lists that are those of sets
unfoldable pub fold_fitted : ChangeSet → ChangeSet → Answer ChangeSet
fold_fitted f c = refuse_when (not (fold_fits (fold_step f c))) 10 [] >> done (fold_step f c)

pub record FoldsTo (f c : List ℕ) (a : Folded) (f' : List ℕ) : Type 0 where
  pub answer : folded_as a (change_set_of f') ≡ fold_fitted (change_set_of f) (change_set_of c)
  pub unchanged : is_refused a ≡ true → f' ≡ f

-- the call on any two tables
pub record FoldCalled (f c : List ℕ) (a : Folded) (f' : List ℕ) : Type 0 where
  pub answer : folded_as a (change_set_of f') ≡ fold_tables f c
  pub unchanged : is_refused a ≡ true → f' ≡ f
