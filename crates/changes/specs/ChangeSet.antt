-- Change sets, `normalize` and the fold: edit/mod.rs.
use Rattle.std.specs.Prelude.{ℕ, not, List, [], ◌∷◌, ◌++◌, length, Option}
use Rattle.rows.specs.Lists.{keep, by_order}
use Rattle.map.specs.Entity.{EntityRef, compare_refs, listed, open_entity}
use Rattle.changes.specs.declared.Tally.{Tally}

-- codes: 1 placement_clamped, 2 orphan_rule, 3 geometry_synthesized, 4 rule_replaced
pub record Warning : Type 0 where
  pub code : ℕ
  pub about : Option EntityRef

abbrev pub warning : ℕ → Option EntityRef → Warning
warning c a = record { code = c; about = a }

pub record ChangeSet : Type 0 where
  pub created : List EntityRef
  pub modified : List EntityRef
  pub deleted : List EntityRef
  pub warnings : List Warning

abbrev pub no_changes : ChangeSet
no_changes = record { created = []; modified = []; deleted = []; warnings = [] }

-- ---- normalize

-- in rising order, each once
unfoldable pub insert_ref : EntityRef → List EntityRef → List EntityRef
insert_ref a [] = a ∷ []
insert_ref a (x ∷ xs) = let rest = x ∷ insert_ref a xs in by_order (compare_refs a x) (a ∷ x ∷ xs) (x ∷ xs) rest

unfoldable pub sort_refs : List EntityRef → List EntityRef
sort_refs [] = []
sort_refs (x ∷ xs) = insert_ref x (sort_refs xs)

-- those of xs that ys does not list
unfoldable pub without : List EntityRef → List EntityRef → List EntityRef
without xs ys = keep (λ a. not (listed ys a)) xs

-- Sorted, each once. What was created and deleted is not listed at all, and what was created or deleted not as modified.
unfoldable pub normalize : ChangeSet → ChangeSet
normalize c =
    record {
      created = without (sort_refs c.created) c.deleted;
      modified = without (without (sort_refs c.modified) c.created) c.deleted;
      deleted = without (sort_refs c.deleted) c.created;
      warnings = c.warnings;
    }

-- ---- the fold

-- a running fold and the next set: the lists joined and normalized, and no warnings
unfoldable pub fold_step : ChangeSet → ChangeSet → ChangeSet
fold_step f c = normalize (record { created = f.created ++ c.created; modified = f.modified ++ c.modified; deleted = f.deleted ++ c.deleted; warnings = [] })

-- of consecutive sets, one at a time
unfoldable pub fold_of : ChangeSet → List ChangeSet → ChangeSet
fold_of f [] = f
fold_of f (c ∷ cs) = fold_of (fold_step f c) cs

unfoldable pub tally_of : ChangeSet → Tally
tally_of c = record { created = length c.created; modified = length c.modified; deleted = length c.deleted }

unfoldable pub open_change_set : Unit {0}
unfolding open_entity insert_ref sort_refs without normalize fold_step fold_of tally_of
open_change_set = tt
