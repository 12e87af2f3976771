-- What noting the lifts in a change set asks for and leaves.
use Rattle.std.specs.Prelude.{ℕ, ◌+◌, ◌≤◌, ◌<◌, ◌≡◌, List, ◌++◌, Float}
use Rattle.rows.specs.Lists.{joined}
use Rattle.map.specs.Record.{Rule}
use Rattle.map.specs.Entity.{EntityRef}
use Rattle.map.specs.Tables.{map_of}
use Rattle.changes.specs.ChangeSet.{ChangeSet, Warning}
use Rattle.changes.specs.Layout.{count_in, change_set_of}
use Rattle.sets.specs.Tables.{Roomy}
use Rattle.edit.specs.Light.{lift, eased_ref, gone_ref, lift_warning}
use Rattle.lifting.specs.declared.Lift.{Lift}
use Rattle.lifting.specs.Lifting.{lift_of}

-- entries more as modified and as deleted, and warnings more
abbrev pub with_notes : ChangeSet → List EntityRef → List EntityRef → List Warning → ChangeSet
with_notes c eased gone warned = record { created = c.created; modified = c.modified ++ eased; deleted = c.deleted ++ gone; warnings = c.warnings ++ warned }

-- ---- one rule

pub record OneFits (d : List ℕ) : Type 0 where
  pub room : Roomy d
  pub modified : count_in d 1 < 512
  pub deleted : count_in d 2 < 512
  pub warnings : count_in d 3 < 160

pub record LiftNoted (d : List ℕ) (k : Lift) (n : ℕ) (d' : List ℕ) : Type 0 where
  pub room : Roomy d'
  pub set : (r : Rule) (ks : List ℕ) → r.num ≡ n → change_set_of d' ≡ with_notes (change_set_of d) (eased_ref r (lift_of k ks)) (gone_ref r (lift_of k ks)) (lift_warning r (lift_of k ks))
  pub created : count_in d' 0 ≡ count_in d 0
  pub counts : (l : ℕ) → l < 4 → count_in d' l ≤ count_in d l + 1

-- ---- all rules: at most 128 entries and warnings more

pub record AllFit (d : List ℕ) : Type 0 where
  pub room : Roomy d
  pub modified : count_in d 1 ≤ 32
  pub deleted : count_in d 2 ≤ 32
  pub warnings : count_in d 3 ≤ 32

pub record LiftsNoted (ws : List ℕ) (s : ℕ) (lanes d d' : List ℕ) : Type 0 where
  pub room : Roomy d'
  pub set : (cs : List Float) → change_set_of d'
      ≡ with_notes (change_set_of d)
      (joined (λ r. eased_ref r (lift s lanes r)) (map_of ws cs).rules)
      (joined (λ r. gone_ref r (lift s lanes r)) (map_of ws cs).rules)
      (joined (λ r. lift_warning r (lift s lanes r)) (map_of ws cs).rules)
  pub created : count_in d' 0 ≡ count_in d 0
  pub counts : (l : ℕ) → l < 4 → count_in d' l ≤ count_in d l + 128
