-- Tables of change sets: what writing a list leaves, which tables fit, and the fold from its lists.
use mathlib.Core.Path.{◌≡◌, refl, sym, ap, ap₂, ◌∙◌}
use mathlib.Core.Bool.{Bool, true, false, not, ◌&&◌}
use mathlib.Core.List.{List, [], ◌++◌}
use Prim.Native.Nat.{ℕ, zero, suc, ◌+◌, ◌*◌, ◌≤◌, ◌<◌}
use native.Mathlib.Omega.{arith}
use lib.Dec.{leb}
use lib.ListN.{length, get_or, set, length-set}
use lib.Seq.{get_or-set_same, get_or-set_other}
use borrow.Author.Tests.{eq-eqb, ne_eqb, eqb-true, le-leb, lt-leb}
use Rattle.rows.proofs.Bools.{parts, and_i, and_l, and_no, clash}
use Rattle.refusal.specs.Answer.{done}
use Rattle.refusal.specs.declared.Refusal.TheVariants.{Full, BadSet}
use Rattle.map.specs.Entity.{EntityRef}
use Rattle.changes.specs.ChangeFile.{max_entries, rising_refs, entries, lists_apart, lists_ok}
use Rattle.changes.specs.ChangeSet.{ChangeSet, without, normalize, fold_step}
use Rattle.changes.specs.Running.{fold_fits, fold_call}
use Rattle.changes.specs.Layout.{list_words, from_of, set_words, count_in, refs_at, warnings_at, list_in, change_set_of, lists_ok_in, fold_tables}
use Rattle.changes.specs.Walk.{written}
use Rattle.changes.proofs.Refs.{sort_rising}
use Rattle.changes.proofs.EntryLaws.{entries_few, entries_rise}
use Rattle.changes.proofs.WrittenLaws.{length-written, word_before, word_past, refs_same, warnings_same, refs_written}
use Rattle.sets.specs.declared.Counts.{Counts}
use Rattle.std.specs.Prelude.{Ok, Err}
use Rattle.sets.specs.Tables.{crowd_of, put_list, put_lists, Fits, created_in, modified_in, deleted_in, Joins, United, Rises, Settled, Made}
use Rattle.sets.specs.Fold.{Folded, fold_fitted, FoldsTo, FoldCalled}
use Rattle.sets.proofs.ListLaws.{without_sorted, length_to_lem}
use Rattle.sets.proofs.SettleLaws.{length_in}

-- ---- one list written over
module _ (w : List ℕ) (l : ℕ) (xs : List EntityRef) (k : l < 3) (n : length xs ≤ max_entries) (s : length w ≡ set_words) where
  pub size_put : length (put_list w l xs) ≡ set_words
  unfolding put_list
  size_put = simp length-set (length-written w (from_of l) xs ∙ s)

  -- any other word
  word_put : (i : ℕ) → (i ≡ l → ⊥) → i < from_of l → get_or (put_list w l xs) i 0 ≡ get_or w i 0
  unfolding put_list
  word_put i f h = get_or-set_other (written w (from_of l) xs) l i (length xs) 0 f ∙ word_before w (from_of l) xs i h

  word_put_past : (i : ℕ) → from_of l + list_words ≤ i → get_or (put_list w l xs) i 0 ≡ get_or w i 0
  unfolding put_list
  word_put_past i h = get_or-set_other (written w (from_of l) xs) l i (length xs) 0 (λ e. omega arith) ∙ word_past w (from_of l) xs i (omega arith)

  pub count_put : count_in (put_list w l xs) l ≡ length xs
  unfolding count_in put_list
  count_put = get_or-set_same (written w (from_of l) xs) l (length xs) 0 (let u = length-written w (from_of l) xs in omega arith)

  pub count_kept : (m : ℕ) → m < 4 → (m ≡ l → ⊥) → count_in (put_list w l xs) m ≡ count_in w m
  unfolding count_in
  count_kept m h f = word_put m f (omega arith)

  pub list_put : list_in (put_list w l xs) l ≡ xs
  unfolding list_in put_list
  list_put = ap (λ (m : ℕ). refs_at (put_list w l xs) (from_of l) m) count_put
      ∙ refs_same (written w (from_of l) xs) (put_list w l xs) (from_of l) (length xs) (λ i a b. get_or-set_other (written w (from_of l) xs) l i (length xs) 0 (λ e. omega arith))
      ∙ refs_written w (from_of l) xs (omega arith)

  pub list_before : (m : ℕ) → m < l → count_in w m ≤ max_entries → list_in (put_list w l xs) m ≡ list_in w m
  unfolding list_in
  list_before m h c = ap (λ (i : ℕ). refs_at (put_list w l xs) (from_of m) i) (count_kept m (omega arith) (λ e. omega arith))
      ∙ refs_same w (put_list w l xs) (from_of m) (count_in w m) (λ i a b. word_put i (λ e. omega arith) (omega arith))

  pub list_past : (m : ℕ) → l < m → m < 3 → count_in w m ≤ max_entries → list_in (put_list w l xs) m ≡ list_in w m
  unfolding list_in
  list_past m h g c = ap (λ (i : ℕ). refs_at (put_list w l xs) (from_of m) i) (count_kept m (omega arith) (λ e. omega arith))
      ∙ refs_same w (put_list w l xs) (from_of m) (count_in w m) (λ i a b. word_put_past i (omega arith))

  pub warnings_kept : (m : ℕ) → warnings_at (put_list w l xs) (from_of 3) m ≡ warnings_at w (from_of 3) m
  warnings_kept m = warnings_same w (put_list w l xs) (from_of 3) m (λ i a b. word_put_past i (omega arith))

-- ---- three lists written over
module _ (f : List ℕ) (c m d : List EntityRef) (s : length f ≡ set_words) (x : length c ≤ max_entries) (y : length m ≤ max_entries) (z : length d ≤ max_entries) where
  s1 : length (put_list f 0 c) ≡ set_words
  s1 = size_put f 0 c (omega arith) x s

  s2 : length (put_list (put_list f 0 c) 1 m) ≡ set_words
  s2 = size_put (put_list f 0 c) 1 m (omega arith) y s1

  pub size_lists : length (put_lists f c m d) ≡ set_words
  unfolding put_lists
  size_lists = size_put (put_list (put_list f 0 c) 1 m) 2 d (omega arith) z s2

  few_0 : count_in (put_list f 0 c) 0 ≤ max_entries
  few_0 = let u = count_put f 0 c (omega arith) x s in omega arith

  few_1 : count_in (put_list (put_list f 0 c) 1 m) 1 ≤ max_entries
  few_1 = let u = count_put (put_list f 0 c) 1 m (omega arith) y s1 in omega arith

  few_01 : count_in (put_list (put_list f 0 c) 1 m) 0 ≤ max_entries
  few_01 = let u = few_0 in let v = count_kept (put_list f 0 c) 1 m (omega arith) y s1 0 (omega arith) (λ e. omega arith) in omega arith

  pub lists_0 : list_in (put_lists f c m d) 0 ≡ c
  unfolding put_lists
  lists_0 = list_before (put_list (put_list f 0 c) 1 m) 2 d (omega arith) z s2 0 (omega arith) few_01 ∙ list_before (put_list f 0 c) 1 m (omega arith) y s1 0 (omega arith) few_0
      ∙ list_put f 0 c (omega arith) x s

  pub lists_1 : list_in (put_lists f c m d) 1 ≡ m
  unfolding put_lists
  lists_1 = list_before (put_list (put_list f 0 c) 1 m) 2 d (omega arith) z s2 1 (omega arith) few_1 ∙ list_put (put_list f 0 c) 1 m (omega arith) y s1

  pub lists_2 : list_in (put_lists f c m d) 2 ≡ d
  unfolding put_lists
  lists_2 = list_put (put_list (put_list f 0 c) 1 m) 2 d (omega arith) z s2

  pub lists_warnings : (n : ℕ) → warnings_at (put_lists f c m d) (from_of 3) n ≡ warnings_at f (from_of 3) n
  unfolding put_lists
  lists_warnings n = warnings_kept (put_list (put_list f 0 c) 1 m) 2 d (omega arith) z s2 n ∙ warnings_kept (put_list f 0 c) 1 m (omega arith) y s1 n ∙ warnings_kept f 0 c (omega arith) x s n

  pub lists_count : count_in (put_lists f c m d) 3 ≡ count_in f 3
  unfolding put_lists
  lists_count = count_kept (put_list (put_list f 0 c) 1 m) 2 d (omega arith) z s2 3 (omega arith) (λ e. omega arith)
      ∙ count_kept (put_list f 0 c) 1 m (omega arith) y s1 3 (omega arith) (λ e. omega arith) ∙ count_kept f 0 c (omega arith) x s 3 (omega arith) (λ e. omega arith)

-- ---- the warnings' count written over
module _ (w : List ℕ) (v : ℕ) where
  pub warned_list : (l : ℕ) → l < 3 → list_in (set w 3 v) l ≡ list_in w l
  unfolding list_in count_in
  warned_list l h = ap (λ (n : ℕ). refs_at (set w 3 v) (from_of l) n) (get_or-set_other w 3 l v 0 (λ e. omega arith))
      ∙ refs_same w (set w 3 v) (from_of l) (get_or w l 0) (λ i a b. get_or-set_other w 3 i v 0 (λ e. omega arith))

quiet : (w : List ℕ) → 3 < length w → warnings_at (set w 3 0) (from_of 3) (count_in (set w 3 0) 3) ≡ []
unfolding warnings_at count_in
quiet w h = ap (λ (n : ℕ). warnings_at (set w 3 0) (from_of 3) n) (get_or-set_same w 3 0 0 h)

-- the set of a table whose lists are written over and whose warnings are gone
pub set-written : (f : List ℕ) (c m d : List EntityRef) → length f ≡ set_words → length c ≤ max_entries → length m ≤ max_entries → length d ≤ max_entries
    → change_set_of (set (put_lists f c m d) 3 0) ≡ record { created = c; modified = m; deleted = d; warnings = [] }
unfolding change_set_of
set-written f c m d s x y z =
    let u = size_lists f c m d s x y z in
    rw (
      warned_list (put_lists f c m d) 0 0 (omega arith),
      warned_list (put_lists f c m d) 0 1 (omega arith),
      warned_list (put_lists f c m d) 0 2 (omega arith),
      lists_0 f c m d s x y z,
      lists_1 f c m d s x y z,
      lists_2 f c m d s x y z,
      quiet (put_lists f c m d) (omega arith),
    )

-- ---- gathered
pub rises_united : (u v : List ℕ) (room : ℕ) (f c : List ℕ) (n : Counts) (u' : List ℕ) → Joins u room f c → room * 6 ≤ length v → United u room f c n u' → Rises u' v room n
rises_united u v room f c n u' j h w = record {
  size_u = let a = j.size in let b = w.size in omega arith;
  size_v = h;
  created_few = w.created_few;
  modified_few = w.modified_few;
  deleted_few = w.deleted_few;
  created = rw w.created (sort_rising _);
  modified = rw w.modified (sort_rising _);
  deleted = rw w.deleted (sort_rising _);
}

pub made : (u : List ℕ) (room : ℕ) (f c : List ℕ) (n : Counts) (u' : List ℕ) (r : Counts) (u'' v'' : List ℕ) → Joins u room f c → United u room f c n u' → Settled u' room n r u'' v''
    → Made u'' v'' room r (fold_step (change_set_of f) (change_set_of c))
unfolding fold_step normalize change_set_of
made u room f c n u' r u'' v'' j w t = record {
  size_u = let a = j.size in let b = w.size in let d = t.size_u in omega arith;
  size_v = t.size_v;
  created_few = t.created_few;
  modified_few = t.modified_few;
  deleted_few = t.deleted_few;
  created = t.created ∙ ap₂ (λ x y. without x y) w.created w.deleted ∙ without_sorted _ (list_in f 2 ++ list_in c 2);
  modified = t.modified ∙ ap₂ (λ x y. without x y) (ap₂ (λ x y. without x y) w.modified w.created ∙ without_sorted _ (list_in f 0 ++ list_in c 0)) w.deleted ∙ without_sorted _ (list_in f 2 ++ list_in c 2);
  deleted = t.deleted ∙ ap₂ (λ x y. without x y) w.deleted w.created ∙ without_sorted _ (list_in f 0 ++ list_in c 0);
}

pub stored : (f : List ℕ) (c m d : List EntityRef) (f1 f2 f3 : List ℕ) → f1 ≡ put_list f 0 c → f2 ≡ put_list f1 1 m → f3 ≡ put_list f2 2 d → f3 ≡ put_lists f c m d
unfolding put_lists
stored f c m d f1 f2 f3 a b e = e ∙ ap (λ (x : List ℕ). put_list x 2 d) (b ∙ ap (λ (x : List ℕ). put_list x 1 m) a)

-- ---- folded
module _ (u v : List ℕ) (room : ℕ) (r : Counts) (g : ChangeSet) (h : Made u v room r g) where
  length_c : r.created ≡ length g.created
  length_c = sym (length_to_lem v (r.created * 2) r.created) ∙ ap length h.created

  length_m : r.modified ≡ length g.modified
  length_m = sym (length_to_lem u (room * 2 + r.modified * 2) r.modified) ∙ ap length h.modified

  length_d : r.deleted ≡ length g.deleted
  length_d = sym (length_to_lem v (room * 4 + r.deleted * 2) r.deleted) ∙ ap length h.deleted

  unfit_c : max_entries < r.created → fold_fits g ≡ false
  unfolding fold_fits
  unfit_c k = let e = length_c in rw (lt-leb (length g.created) max_entries (omega arith))

  unfit_m : max_entries < r.modified → fold_fits g ≡ false
  unfolding fold_fits
  unfit_m k = let e = length_m in rw (lt-leb (length g.modified) max_entries (omega arith), and_no (leb (length g.created) max_entries))

  unfit_d : max_entries < r.deleted → fold_fits g ≡ false
  unfolding fold_fits
  unfit_d k = let e = length_d in rw (lt-leb (length g.deleted) max_entries (omega arith)) (and_no (leb (length g.created) max_entries && leb (length g.modified) max_entries))

  fit : r.created ≤ max_entries → r.modified ≤ max_entries → r.deleted ≤ max_entries → fold_fits g ≡ true
  unfolding fold_fits
  fit a b d =
      let x = length_c in
      let y = length_m in
      let z = length_d in
      and_i _ _ (and_i _ _ (le-leb (length g.created) max_entries (omega arith)) (le-leb (length g.modified) max_entries (omega arith))) (le-leb (length g.deleted) max_entries (omega arith))

no_warnings : (x y : ChangeSet) → fold_step x y ≡ record { created = (fold_step x y).created; modified = (fold_step x y).modified; deleted = (fold_step x y).deleted; warnings = [] }
unfolding fold_step normalize
no_warnings x y = refl

too_long : (f c : List ℕ) → fold_fits (fold_step (change_set_of f) (change_set_of c)) ≡ false → FoldsTo f c (Err Full) f
unfolding fold_fitted
too_long f c e = record { answer = rw e; unchanged = λ _. refl }

module _ (f c u v : List ℕ) (room : ℕ) (r : Counts) (h : Made u v room r (fold_step (change_set_of f) (change_set_of c))) where
  pub full_created : max_entries < r.created → FoldsTo f c (Err Full) f
  full_created k = too_long f c (unfit_c u v room r _ h k)

  pub full_modified : max_entries < r.modified → FoldsTo f c (Err Full) f
  full_modified k = too_long f c (unfit_m u v room r _ h k)

  pub full_deleted : max_entries < r.deleted → FoldsTo f c (Err Full) f
  full_deleted k = too_long f c (unfit_d u v room r _ h k)

  module _ (s : length f ≡ set_words) (a : r.created ≤ max_entries) (b : r.modified ≤ max_entries) (d : r.deleted ≤ max_entries) (f' : List ℕ)
      (e : f' ≡ put_lists f (created_in v room r) (modified_in u room r) (deleted_in v room r)) where
    pub folded_size : length f' ≡ set_words
    folded_size = ap length e ∙ size_lists f _ _ _ s
        (let x = length_to_lem v (r.created * 2) r.created in omega arith)
        (let x = length_to_lem u (room * 2 + r.modified * 2) r.modified in omega arith)
        (let x = length_to_lem v (room * 4 + r.deleted * 2) r.deleted in omega arith)

    pub folded : FoldsTo f c (Ok tt) (set f' 3 0)
    unfolding fold_fitted
    folded = record {
      answer = ap done (left ∙ right) ∙ rw (fit u v room r _ h a b d);
      unchanged = λ q. clash q refl;
    }
      where
        left : change_set_of (set f' 3 0) ≡ record { created = created_in v room r; modified = modified_in u room r; deleted = deleted_in v room r; warnings = [] }
        left = ap (λ (w : List ℕ). change_set_of (set w 3 0)) e ∙ set-written f _ _ _ s
            (let x = length_to_lem v (r.created * 2) r.created in omega arith)
            (let x = length_to_lem u (room * 2 + r.modified * 2) r.modified in omega arith)
            (let x = length_to_lem v (room * 4 + r.deleted * 2) r.deleted in omega arith)

        right : record { created = created_in v room r; modified = modified_in u room r; deleted = deleted_in v room r; warnings = [] } ≡ fold_step (change_set_of f) (change_set_of c)
        right = rw (h.created, h.modified, h.deleted) (sym (no_warnings (change_set_of f) (change_set_of c)))

-- ---- which tables fit
module _ (t : List ℕ) (s : length t ≡ set_words) where
  fits_one : (l : ℕ) → entries.fits (list_in t l) ≡ true → (count_in t l ≤ max_entries) × (rising_refs (list_in t l) ≡ true)
  fits_one l h = (let u = entries_few (list_in t l) h in let v = length_in t l in omega arith, entries_rise (list_in t l) h)

  pub fits_each : (entries.fits (list_in t 0) && entries.fits (list_in t 1) && entries.fits (list_in t 2)) ≡ true → Fits t
  fits_each h = record { room = record { size = s; few = λ l k. (one l k).0 }; rises = λ l k. (one l k).1 }
    where
      one : (l : ℕ) → l < 3 → (count_in t l ≤ max_entries) × (rising_refs (list_in t l) ≡ true)
      one zero k = fits_one 0 (search parts)
      one (suc zero) k = fits_one 1 (search parts)
      one (suc (suc zero)) k = fits_one 2 (search parts)
      one (suc (suc (suc l))) k = absurd (omega arith)

yes_of : (r : Bool) → not r ≡ false → r ≡ true
yes_of true e = refl
yes_of false e = sym e

no_of : (r : Bool) → not r ≡ true → r ≡ false
no_of true e = sym e
no_of false e = refl

pub list_told : (t : List ℕ) (l n : ℕ) (r : Bool) → n ≡ get_or t l 0 → r ≡ entries.fits (refs_at t (from_of l) n) → r ≡ entries.fits (list_in t l)
unfolding list_in count_in
list_told t l n r e h = rw (← e) h

module _ (t : List ℕ) where
  pub ok_size : (length t ≡ set_words → ⊥) → false ≡ lists_ok_in t
  unfolding lists_ok_in
  ok_size f = rw (ne_eqb (length t) set_words f)

  module _ (s : length t ≡ set_words) (r : Bool) (h : r ≡ (entries.fits (list_in t 0) && entries.fits (list_in t 1) && entries.fits (list_in t 2))) where
    pub ok_stop : not r ≡ true → false ≡ lists_ok_in t
    unfolding lists_ok_in lists_ok change_set_of
    ok_stop n = rw (eq-eqb (length t) set_words s, ← h, no_of r n)

    pub ok_fits : not r ≡ false → Fits t
    ok_fits n = fits_each t s (sym h ∙ yes_of r n)

    pub ok_told : not r ≡ false → (q : Bool) → q ≡ lists_apart (change_set_of t) → q ≡ lists_ok_in t
    unfolding lists_ok_in lists_ok change_set_of
    ok_told n q e = rw (eq-eqb (length t) set_words s, ← h, yes_of r n) e

pub ruleset telling = (ok_size, ok_stop, ok_fits, ok_told)

-- ---- the fold call
pub ok_size_of : (t : List ℕ) → lists_ok_in t ≡ true → length t ≡ set_words
unfolding lists_ok_in
ok_size_of t h = eqb-true (length t) set_words (search parts)

pub ok_lists : (t : List ℕ) → lists_ok_in t ≡ true → lists_ok (change_set_of t) ≡ true
unfolding lists_ok_in
ok_lists t h = search parts

pub fits_ok : (t : List ℕ) → lists_ok_in t ≡ true → Fits t
unfolding change_set_of lists_ok
fits_ok t h = fits_each t (ok_size_of t h) (and_l _ (lists_apart (change_set_of t)) (ok_lists t h))

pub fits_joins : (f c u : List ℕ) (room : ℕ) → Fits f → Fits c → 1024 ≤ room → room * 6 ≤ length u → Joins u room f c
fits_joins f c u room x y w s =
    let f0 = x.room.few 0 (omega arith) in
    let f1 = x.room.few 1 (omega arith) in
    let f2 = x.room.few 2 (omega arith) in
    let c0 = y.room.few 0 (omega arith) in
    let c1 = y.room.few 1 (omega arith) in
    let c2 = y.room.few 2 (omega arith) in
    record { first = x; second = y; created = omega arith; modified = omega arith; deleted = omega arith; size = s }

module _ (f c : List ℕ) (p : Bool) (a : p ≡ lists_ok_in f) where
  pub bad_fold : not p ≡ true → FoldCalled f c (Err BadSet) f
  unfolding fold_tables
  bad_fold n = record { answer = rw (← a, no_of p n); unchanged = λ _. refl }

  module _ (m : not p ≡ false) (q : Bool) (b : q ≡ lists_ok_in c) where
    pub bad_set : not q ≡ true → FoldCalled f c (Err BadSet) f
    unfolding fold_tables
    bad_set n = record { answer = rw (← b, no_of q n, and_no (lists_ok_in f)); unchanged = λ _. refl }

    module _ (n : not q ≡ false) where
      pub fold_called : (r : Folded) (f' : List ℕ) → FoldsTo f c r f' → FoldCalled f c r f'
      unfolding fold_tables fold_call fold_fitted
      fold_called r f' t = record {
        answer = t.answer ∙ rw (← a, ← b, yes_of p m, yes_of q n, ok_lists f (sym a ∙ yes_of p m), ok_lists c (sym b ∙ yes_of q n));
        unchanged = t.unchanged;
      }

-- ---- few entries
pub few_joins : (f c u : List ℕ) → Fits f → Fits c → crowd_of f c ≤ 64 → 64 * 6 ≤ length u → Joins u 64 f c
unfolding crowd_of
few_joins f c u x y k s = record { first = x; second = y; created = omega arith; modified = omega arith; deleted = omega arith; size = s }

pub crowd_told : (f c : List ℕ) (a0 b0 a1 b1 a2 b2 : ℕ) → a0 ≡ get_or f 0 0 → b0 ≡ get_or c 0 0 → a1 ≡ get_or f 1 0 → b1 ≡ get_or c 1 0 → a2 ≡ get_or f 2 0 → b2 ≡ get_or c 2 0
    → (a0 + b0) + (a1 + b1) + (a2 + b2) ≡ crowd_of f c
unfolding crowd_of count_in
crowd_told f c a0 b0 a1 b1 a2 b2 e d g h i j = rw (e, d, g, h, i, j)

pub fits_told : (t : List ℕ) (p : Bool) → p ≡ lists_ok_in t → not p ≡ false → Fits t
fits_told t p a m = fits_ok t (sym a ∙ yes_of p m)
