-- When entries, lists and warnings are those of a change set file.
use mathlib.Core.Path.{◌≡◌, refl}
use mathlib.Core.Bool.{true, ◌&&◌}
use Rattle.std.specs.Prelude.{None, Some}
use mathlib.Core.List.{List, [], ◌∷◌, ◌++◌}
use Prim.Native.Nat.{ℕ, zero, suc, ◌+◌, ◌^◌, ◌<◌, ◌≤◌}
use lib.Dec.{ltb, leb}
use lib.ListN.{length, length-append}
use native.Mathlib.Omega.{arith}
use borrow.Author.Tests.{ltb-true, le-leb}
use Rattle.rows.specs.Lists.{every}
use Rattle.rows.proofs.Bools.{parts, and_i, clash}
use Rattle.rows.proofs.Tables.{every_append}
use Rattle.codec.specs.Format.{◌⊗◌, only, via, tagged, nothing}
use Rattle.codec.specs.Number.{number}
use Rattle.codec.specs.Items.{below, list}
use Rattle.codec.proofs.Fits.{number_fits, list_fits}
use Rattle.map.specs.Record.{Map}
use Rattle.map.specs.MapFile.{is_map}
use Rattle.map.specs.Entity.{EntityRef, entity, has}
use Rattle.map.proofs.ByKind.{Kind, lanes, boundaries, stop_lines, signals, crosswalks, rules, others, kind_of}
use Rattle.map.proofs.Presence.{has_below, next_fits}
use Rattle.changes.specs.ChangeSet.{Warning, warning, ChangeSet}
use Rattle.changes.specs.ChangeFile.{max_entries, max_warnings, rising_refs, kinds, entry, about, warning_form, entries, warnings, change_file, is_set, lists_ok}

-- ---- entries

kind_fits : (k n : ℕ) → (ltb 0 k && ltb k n) ≡ true → n < 2 ^ 64 → (kinds n).fits k ≡ true
unfolding kinds below only
kind_fits k n h l = and_i _ _ (and_i (number.fits k) _ (number_fits k (small (ltb-true k n (search parts)))) (search parts)) (search parts)
  where
    small : k < n → k < 2 ^ 64
    small u = omega arith

pub entry_fits : (a : EntityRef) → (ltb 0 a.kind && ltb a.kind 9) ≡ true → a.num < 2 ^ 64 → entry.fits a ≡ true
unfolding entry via ◌⊗◌
entry_fits a h l = and_i _ _ (kind_fits a.kind 9 h (omega arith)) (number_fits a.num l)

-- the records of a map can be named
pub has_fits : (m : Map) → is_map m ≡ true → (a : EntityRef) → has m a ≡ true → entry.fits a ≡ true
unfolding has
has_fits m ok a h = entry_fits a (go a.kind a.num (kind_of a.kind) h) (let u = has_below m ok a h in let v = next_fits m ok in omega arith)
  where
    go : (k n : ℕ) → Kind k → has m (entity k n) ≡ true → (ltb 0 k && ltb k 9) ≡ true
    go k n lanes h = refl
    go k n boundaries h = refl
    go k n stop_lines h = refl
    go k n signals h = refl
    go k n crosswalks h = refl
    go k n rules h = refl
    go k n (others e₁ e₂ e₅ e₆ e₇ e₈) h = clash (rw (e₁, e₂, e₅, e₆, e₇, e₈) at h) refl

pub entries_fit : (xs : List EntityRef) → rising_refs xs ≡ true → every entry.fits xs ≡ true → leb (length xs) max_entries ≡ true → entries.fits xs ≡ true
unfolding entries only
entries_fit xs r e l = and_i ((list max_entries entry).fits xs) _ (list_fits max_entries entry xs (omega arith) l e) r

-- ---- warnings: codes and entities as in a change set file, and how many

pub record Warned (n : ℕ) (ws : List Warning) : Type 0 where
  pub good : every warning_form.fits ws ≡ true
  pub few : length ws ≤ n

pub none_warned : {n : ℕ} → Warned n []
unfolding every
none_warned = record { good = refl; few = omega arith }

pub both_warned : {m n : ℕ} (xs ys : List Warning) → Warned m xs → Warned n ys → Warned (m + n) (xs ++ ys)
both_warned xs ys p q = record { good = every_append warning_form.fits xs ys p.good q.good; few = let u = length-append xs ys in let v = p.few in let w = q.few in omega arith }

pub more_warned : (m n : ℕ) (xs : List Warning) → m ≤ n → Warned m xs → Warned n xs
more_warned m n xs h p = record { good = p.good; few = let u = p.few in omega arith }

about_fits : (k n : ℕ) → (ltb 0 k && ltb k 9) ≡ true → n < 2 ^ 64 → about.fits (Some (entity k n)) ≡ true
unfolding about via tagged below only
about_fits zero n h p = clash h refl
about_fits (suc k) n h p = and_i _ _ (and_i (number.fits (suc k)) _ (number_fits (suc k) (small (ltb-true (suc k) 9 (search parts)))) (search parts)) (number_fits n p)
  where
    small : suc k < 9 → suc k < 2 ^ 64
    small u = omega arith

bare_fits : about.fits None ≡ true
unfolding about via tagged below only number nothing
bare_fits = refl

pub one_warned : (c k n : ℕ) → (ltb 0 c && ltb c 5) ≡ true → (ltb 0 k && ltb k 9) ≡ true → n < 2 ^ 64 → Warned 1 (warning c (Some (entity k n)) ∷ [])
unfolding every warning_form via ◌⊗◌
one_warned c k n h p q = record { good = and_i _ _ (and_i _ _ (kind_fits c 5 h (omega arith)) (about_fits k n p q)) refl; few = omega arith }

pub bare_warned : (c : ℕ) → (ltb 0 c && ltb c 5) ≡ true → Warned 1 (warning c None ∷ [])
unfolding every warning_form via ◌⊗◌
bare_warned c h = record { good = and_i _ _ (and_i _ _ (kind_fits c 5 h (omega arith)) bare_fits) refl; few = omega arith }

-- ---- change sets

pub set_fits : (c : ChangeSet) → lists_ok c ≡ true → Warned max_warnings c.warnings → is_set c ≡ true
unfolding is_set change_file lists_ok only via ◌⊗◌ warnings
set_fits c l w =
    and_i _ _
    (and_i (entries.fits c.created) _ (search parts)
    (and_i (entries.fits c.modified) _ (search parts)
    (and_i (entries.fits c.deleted) _ (search parts)
    (list_fits max_warnings warning_form c.warnings (omega arith) (le-leb (length c.warnings) max_warnings w.few) w.good))))
    (search parts)
