-- The change set file, and what it is to be a change set.
use Prim.Native.Nat.{ℕ, zero, suc, Ordering}
use Rattle.std.specs.Prelude.{◌≡◌, refl, Bool, true, false, not, ◌&&◌, List, [], ◌∷◌, ltb, Option, None, Some}
use Rattle.rows.specs.Lists.{every}
use Rattle.codec.specs.Format.{Format, ◌⊗◌, via, only, tagged, nothing, no_true}
use Rattle.codec.specs.Number.{number}
use Rattle.codec.specs.Items.{below, list}
use Rattle.map.specs.Entity.{EntityRef, compare_refs, listed}
use Rattle.changes.specs.ChangeSet.{Warning, ChangeSet, open_change_set}

-- a list of a change set, in entries
abbrev pub max_entries : ℕ
max_entries = 512

abbrev pub max_warnings : ℕ
max_warnings = 160

-- ---- order

unfoldable pub is_before : Ordering → Bool
is_before Ordering.lt = true
is_before Ordering.eq = false
is_before Ordering.gt = false

-- rising, all after a
unfoldable pub rise_after : EntityRef → List EntityRef → Bool
rise_after a [] = true
rise_after a (b ∷ r) = is_before (compare_refs a b) && rise_after b r

unfoldable pub rising_refs : List EntityRef → Bool
rising_refs [] = true
rising_refs (a ∷ r) = rise_after a r

unfoldable pub apart : List EntityRef → List EntityRef → Bool
apart xs ys = every (λ a. not (listed ys a)) xs

-- no entry in two lists
unfoldable pub lists_apart : ChangeSet → Bool
lists_apart c = apart c.created c.modified && apart c.created c.deleted && apart c.modified c.deleted

-- ---- entries and warnings

unfoldable pub kinds : ℕ → Format ℕ
kinds n = only (λ k. ltb 0 k) (below n)

unfoldable pub entry : Format EntityRef
entry = via (kinds 9 ⊗ number) (λ (k, n). record { kind = k; num = n }) (λ a. (a.kind, a.num)) (λ _ _. refl) (λ _ _. refl)

-- kind 0 stands alone
abbrev pub About : ℕ → Type 0
About zero = Unit {0}
About (suc k) = ℕ

abbrev pub abouts : (k : ℕ) → Format (About k)
abouts zero = nothing
abouts (suc k) = number

abbrev pub to_about : (k : ℕ) → About k → Option EntityRef
to_about zero x = None
to_about (suc k) n = Some (record { kind = suc k; num = n })

-- no file has a 9 there, nor a 0 with a number
abbrev pub of_kind : ℕ → ℕ → (k : ℕ) × About k
of_kind zero n = (9, n)
of_kind (suc k) n = (suc k, n)

abbrev pub of_about : Option EntityRef → (k : ℕ) × About k
of_about None = (0, tt)
of_about (Some a) = of_kind a.kind a.num

pub about_there : (k : ℕ) (x : About k) → of_about (to_about k x) ≡ (k, x)
about_there zero x = refl
about_there (suc k) x = refl

pub kind_back : (k n : ℕ) → (tagged (below 9) abouts).fits (of_kind k n) ≡ true → to_about (of_kind k n).0 (of_kind k n).1 ≡ Some (record { kind = k; num = n })
unfolding tagged below only number
kind_back zero n h = absurd (no_true h)
kind_back (suc k) n h = refl

pub about_back : (o : Option EntityRef) → (tagged (below 9) abouts).fits (of_about o) ≡ true → to_about (of_about o).0 (of_about o).1 ≡ o
about_back None h = refl
about_back (Some a) h = kind_back a.kind a.num h

unfoldable pub about : Format (Option EntityRef)
about = via (tagged (below 9) abouts) (λ p. to_about p.0 p.1) of_about (λ p _. about_there p.0 p.1) about_back

unfoldable pub warning_form : Format Warning
warning_form = via (kinds 5 ⊗ about) (λ (c, a). record { code = c; about = a }) (λ w. (w.code, w.about)) (λ _ _. refl) (λ _ _. refl)

unfoldable pub entries : Format (List EntityRef)
entries = only rising_refs (list max_entries entry)

unfoldable pub warnings : Format (List Warning)
warnings = list max_warnings warning_form

-- ---- the file

unfoldable pub change_file : Format ChangeSet
change_file =
    only lists_apart
    (via (entries ⊗ entries ⊗ entries ⊗ warnings)
    (λ (c, (m, (d, w))). record { created = c; modified = m; deleted = d; warnings = w })
    (λ c. (c.created, (c.modified, (c.deleted, c.warnings))))
    (λ _ _. refl)
    (λ _ _. refl))

-- its written form is a change set file
unfoldable pub is_set : ChangeSet → Bool
is_set c = change_file.fits c

-- its three lists are those of a change set file
unfoldable pub lists_ok : ChangeSet → Bool
lists_ok c = entries.fits c.created && entries.fits c.modified && entries.fits c.deleted && lists_apart c

unfoldable pub open_change_file : Unit {0}
unfolding open_change_set is_before rise_after rising_refs apart lists_apart kinds entry about warning_form entries warnings change_file is_set lists_ok
open_change_file = tt
