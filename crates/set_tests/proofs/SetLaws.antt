-- Which warnings are those of a set, one by one; and when a table is one of a set.
use mathlib.Core.Path.{◌≡◌, refl, sym, ap, ◌∙◌}
use mathlib.Core.Bool.{Bool, true, false, not, ◌&&◌}
use Rattle.std.specs.Prelude.{Option, None, Some}
use mathlib.Core.List.{List, [], ◌∷◌}
use Prim.Native.Nat.{ℕ, zero, suc, ◌+◌, ◌-◌, ◌*◌, ◌^◌, ◌≤◌, ◌<◌}
use native.Mathlib.Omega.{arith}
use lib.Dec.{ltb, eqb}
use lib.ListN.{length, get_or}
use borrow.Author.Tests.{lt-ltb, le-leb, leb-true, ltb-true, eq-eqb}
use Rattle.rows.specs.Lists.{every}
use Rattle.rows.proofs.Bools.{parts, and_i, and_no, clash, agree}
use Rattle.codec.specs.Format.{◌⊗◌, only, via, tagged}
use Rattle.codec.specs.Items.{below}
use Rattle.codec.proofs.Fits.{list_each, list_few, list_fits}
use Rattle.map.specs.Entity.{EntityRef, entity}
use Rattle.changes.specs.ChangeSet.{Warning, warning, ChangeSet}
use Rattle.changes.specs.ChangeFile.{max_warnings, kinds, about, warning_form, warnings, entries, change_file, is_set, lists_ok, lists_apart}
use Rattle.changes.specs.Layout.{from_of, set_words, count_in, about_of, ref_at, warning_at, warnings_at, change_set_of, lists_ok_in, is_set_in}
use Rattle.changes.proofs.Entries.{Warned, one_warned, bare_warned}
use Rattle.sets.proofs.TableLaws.{ok_size_of, ok_lists}

not_true_false : (b : Bool) → (b ≡ true → ⊥) → b ≡ false
not_true_false true f = absurd (f refl)
not_true_false false f = refl

code_fits : (c : ℕ) (a : Option EntityRef) → warning_form.fits (warning c a) ≡ true → (0 < c) × (c < 5)
unfolding warning_form via ◌⊗◌ kinds below only
code_fits c a h = (ltb-true 0 c (search parts), ltb-true c 5 (search parts))

kind_fits : (c k x : ℕ) → warning_form.fits (warning c (about_of k x)) ≡ true → k < 9
unfolding warning_form via ◌⊗◌ about tagged below only
kind_fits c zero x h = omega arith
kind_fits c (suc k) x h = ltb-true (suc k) 9 (search parts)

module _ (c k x : ℕ) where
  pub no_code : c ≡ 0 → false ≡ warning_form.fits (warning c (about_of k x))
  no_code z = sym (not_true_false _ (λ h. let u = (code_fits c (about_of k x) h).0 in omega arith))

  pub high_code : 4 < c → false ≡ warning_form.fits (warning c (about_of k x))
  high_code z = sym (not_true_false _ (λ h. let u = (code_fits c (about_of k x) h).1 in omega arith))

  pub high_kind : 8 < k → false ≡ warning_form.fits (warning c (about_of k x))
  high_kind z = sym (not_true_false _ (λ h. let u = kind_fits c k x h in omega arith))

  pub good_warning : (c ≡ 0 → ⊥) → c ≤ 4 → k ≤ 8 → x < 2 ^ 64 → true ≡ warning_form.fits (warning c (about_of k x))
  unfolding every
  good_warning f a b l = go k refl
    where
      coded : (ltb 0 c && ltb c 5) ≡ true
      coded = and_i _ _ (lt-ltb 0 c (omega (arith, f))) (lt-ltb c 5 (omega arith))

      first : (w : Warning) → Warned 1 (w ∷ []) → true ≡ warning_form.fits w
      first w q = let g = q.good in sym (search (parts, g))

      go : (j : ℕ) → k ≡ j → true ≡ warning_form.fits (warning c (about_of j x))
      go zero e = first (warning c None) (bare_warned c coded)
      go (suc j) e = first (warning c (Some (entity (suc j) x))) (one_warned c (suc j) x coded (and_i _ _ (lt-ltb 0 (suc j) (omega arith)) (lt-ltb (suc j) 9 (omega arith))) l)

pub ruleset warning_told = (no_code, high_code, high_kind, good_warning)

-- ---- all of them
pub length-warnings : (t : List ℕ) (p n : ℕ) → length (warnings_at t p n) ≡ n
unfolding warnings_at
length-warnings t p zero = refl
length-warnings t p (suc n) = ap suc (length-warnings t (p + 3) n)

pub too_many : (t : List ℕ) (n : ℕ) → max_warnings < n → false ≡ warnings.fits (warnings_at t (from_of 3) n)
unfolding warnings
too_many t n h = sym (not_true_false _ (λ k. let u = leb-true (length (warnings_at t (from_of 3) n)) max_warnings (list_few max_warnings warning_form (warnings_at t (from_of 3) n) k) in let v = length-warnings t (from_of 3) n in omega arith))

-- i of n warnings have passed
pub record Passing (b : Bool) (t : List ℕ) (n i : ℕ) : Type 0 where
  pub size : length t ≡ set_words
  pub few : n ≤ max_warnings
  pub within : i ≤ n
  pub goes : every warning_form.fits (warnings_at t (from_of 3 + i * 3) (n - i)) ≡ b

pub passing_start : (t : List ℕ) (n : ℕ) → length t ≡ set_words → n ≤ max_warnings → Passing (warnings.fits (warnings_at t (from_of 3) n)) t n 0
unfolding warnings
passing_start t n s h = record {
  size = s;
  few = h;
  within = omega arith;
  goes = let q : n - 0 ≡ n = omega arith in rw q (agree _ _
      (λ e. list_fits max_warnings warning_form (warnings_at t (from_of 3) n) (omega arith) (le-leb (length (warnings_at t (from_of 3) n)) max_warnings (let v = length-warnings t (from_of 3) n in omega arith)) e)
      (λ e. list_each max_warnings warning_form (warnings_at t (from_of 3) n) e));
}

module _ (b : Bool) (t : List ℕ) (n i : ℕ) (c : Passing b t n i) (o : i < n) (k : ℕ) (a : EntityRef) (e : k ≡ get_or t (from_of 3 + i * 3) 0) (s : a ≡ ref_at t (from_of 3 + i * 3 + 1)) (r : Bool)
    (h : r ≡ warning_form.fits (warning k (about_of a.kind a.num))) where
  turn : (r && every warning_form.fits (warnings_at t (from_of 3 + (i + 1) * 3) (n - (i + 1)))) ≡ b
  unfolding every warnings_at warning_at ref_at
  turn =
      let q : n - i ≡ suc (n - (i + 1)) = omega arith in
      let u : from_of 3 + i * 3 + 3 ≡ from_of 3 + (i + 1) * 3 = omega arith in
      let v : from_of 3 + i * 3 + 1 + 1 ≡ from_of 3 + i * 3 + 2 = omega arith in
      rw (h, s, e, v) (rw (q, u) at c.goes)

  pub passing_stop : not r ≡ true → false ≡ b
  passing_stop n = rw (no r n) at turn
    where
      no : (q : Bool) → not q ≡ true → q ≡ false
      no true z = sym z
      no false z = refl

  pub passing_more : not r ≡ false → Passing b t n (i + 1)
  passing_more m = record { size = c.size; few = c.few; within = omega arith; goes = rw (ok r m) at turn }
    where
      ok : (q : Bool) → not q ≡ false → q ≡ true
      ok true z = refl
      ok false z = sym z

pub passing_end : (b : Bool) (t : List ℕ) (n i : ℕ) → Passing b t n i → i ≡ n → true ≡ b
unfolding every warnings_at
passing_end b t n i c h = let q : n - i ≡ 0 = omega arith in rw q at c.goes

pub ruleset passing = (too_many, passing_start, passing_stop, passing_more, passing_end)

-- ---- the set
pub set-parts : (c : ChangeSet) → is_set c ≡ (lists_ok c && warnings.fits c.warnings)
unfolding is_set change_file lists_ok only via ◌⊗◌
set-parts c = go (entries.fits c.created) (entries.fits c.modified) (entries.fits c.deleted) (warnings.fits c.warnings) (lists_apart c)
  where
    go : (x y z w a : Bool) → ((x && (y && (z && w))) && a) ≡ (((((x && y) && z) && a)) && w)
    go true true true w true = and_yes w
      where
        and_yes : (b : Bool) → (b && true) ≡ b
        and_yes true = refl
        and_yes false = refl
    go true true true w false = and_no w
    go true true false w a = refl
    go true false z w a = refl
    go false y z w a = refl

module _ (t : List ℕ) (p : Bool) (h : p ≡ lists_ok_in t) where
  pub no_lists : not p ≡ true → false ≡ is_set_in t
  unfolding is_set_in lists_ok_in
  no_lists n = rw (set-parts (change_set_of t)) (go (eqb (length t) set_words) (lists_ok (change_set_of t)) (warnings.fits (change_set_of t).warnings) p h n)
    where
      go : (a b c q : Bool) → q ≡ (a && b) → not q ≡ true → false ≡ (a && (b && c))
      go a b c true e z = clash z refl
      go false b c false e z = refl
      go true false c false e z = refl
      go true true c false e z = clash refl (sym e)

  pub set_size : not p ≡ false → length t ≡ set_words
  set_size n = ok_size_of t (sym h ∙ ok p n)
    where
      ok : (q : Bool) → not q ≡ false → q ≡ true
      ok true z = refl
      ok false z = sym z

  pub set_told : not p ≡ false → (n : ℕ) (r : Bool) → n ≡ get_or t 3 0 → r ≡ warnings.fits (warnings_at t (from_of 3) n) → r ≡ is_set_in t
  unfolding is_set_in change_set_of count_in
  set_told m n r e k = rw (set-parts (change_set_of t), eq-eqb (length t) set_words (set_size m), ok_lists t (sym h ∙ ok p m), ← e) k
    where
      ok : (q : Bool) → not q ≡ false → q ≡ true
      ok true z = refl
      ok false z = sym z

pub ruleset set_rules = (no_lists, set_size, set_told)
