-- The law of every run, by induction over its edits.
use mathlib.Core.Path.{◌≡◌, refl, sym, ap, subst, fun_ext, ◌∙◌}
use mathlib.Core.Bool.{Bool, true, false, not, ◌&&◌, ◌||◌, or_assoc}
use mathlib.Core.List.{List, [], ◌∷◌, ◌++◌}
use Prim.Native.Nat.{ℕ, suc, ◌<◌, ◌≤◌}
use lib.Dec.{eqb, leb, ltb}
use native.Mathlib.Omega.{arith}
use borrow.Author.Tests.{leb-true, lt-ltb, ltb-true, ne_eqb}
use Rattle.refusal.specs.Answer.{Answer, refused, done}
use Rattle.rows.specs.Lists.{every, no_entries, joined, member, twice}
use Rattle.rows.specs.Table.{rising}
use Rattle.rows.proofs.Bools.{and_i, clash, or_no, parts}
use Rattle.rows.proofs.Tables.{rising_wider}
use Rattle.codec.specs.Format.{same_form_lem}
use Rattle.map.specs.Entity.{EntityRef, listed, has, form_of}
use Rattle.map.specs.MapFile.{is_map}
use Rattle.map.specs.Record.{Map}
use Rattle.changes.specs.ChangeFile.{change_file, rising_refs, is_set, max_warnings}
use Rattle.changes.specs.ChangeSet.{Warning, ChangeSet, fold_step, fold_of, tally_of}
use Rattle.changes.specs.Running.{State, fold_ok, fold_fits, opening}
use Rattle.changes.proofs.Entries.{Warned, set_fits, none_warned}
use Rattle.edit.specs.Edit.{Outcome}
use Rattle.run.specs.Law.{alters, altered, well_handed, clears_line, RunLaw, leaves, handed, handed_out, passes, EqualBytes}
use Rattle.run.specs.Run.{Edit, run_one, state_after, sets_after, run_all, sets_of, calls, fold_calls}
use Rattle.run.proofs.Calls.{ended, Rises, call-set, call_folds, call_clears, call_leaves, call_rises, call_handed, passes_after}
use Rattle.run.proofs.Counts.{named_count}
use Rattle.run.proofs.Fold.{Kept, kept_lists, kept_fold, kept_step}
use Rattle.run.proofs.Lifts.{joined-append}
use Rattle.run.proofs.Told.{differ_self}

-- ---- the opening

alters_self : (m : Map) (a : EntityRef) → alters m m a ≡ false
unfolding alters
alters_self m a = differ_self (form_of m a)

kept_opening : (m : Map) → is_map m ≡ true → Kept m (λ a. false) (opening m)
unfolding listed rising_refs fold_fits no_entries tally_of
kept_opening m ok = record {
  named = record { created = λ a. sym (off (has m a)); deleted = λ a. sym (off (has m a)); modified = λ a. sym (no (has m a) (has m a)); rises = (refl, refl, refl) };
  quiet = refl;
  tally = refl;
  map = ok;
  grown = omega arith;
  opened = ok;
}
  where
    off : (b : Bool) → (b && not b) ≡ false
    off true = refl
    off false = refl

    no : (b c : Bool) → (b && c && false) ≡ false
    no true true = refl
    no true false = refl
    no false c = refl

-- ---- the induction

kept_as : (m : Map) (f g : EntityRef → Bool) (s : State) → ((a : EntityRef) → f a ≡ g a) → Kept m f s → Kept m g s
kept_as m f g s h k = subst (λ (u : EntityRef → Bool). Kept m u s) (fun_ext h) k

kept_call : (m : Map) (alt : EntityRef → Bool) (e : Edit) (s : State) → Kept m alt s → (x : Answer Outcome) → run_one e s ≡ x
    → Kept m (λ a. alt a || alters s.map (state_after s x).map a) (state_after s x)
kept_call m alt e s k (refused n ds) q = kept_as m alt _ s (λ a. rw (alters_self s.map a) (sym (or_no (alt a)))) k
kept_call m alt e s k (done o) q =
    let d = ended e s o q in
    kept_step m alt s d.draft o k d.step d.end

kept_run : (m : Map) (es : List Edit) (alt : EntityRef → Bool) (s : State) → Kept m alt s → Kept m (λ a. alt a || altered es s a) (run_all es s)
unfolding run_all altered
kept_run m [] alt s k = kept_as m alt _ s (λ a. sym (or_no (alt a))) k
kept_run m (e ∷ es) alt s k =
    kept_as m _ _ (run_all es (state_after s (run_one e s)))
    (λ a. or_assoc (alt a) (alters s.map (state_after s (run_one e s)).map a) (altered es (state_after s (run_one e s)) a))
    (kept_run m es (λ a. alt a || alters s.map (state_after s (run_one e s)).map a) (state_after s (run_one e s)) (kept_call m alt e s k (run_one e s) refl))

fold_run : (es : List Edit) (s : State) → (run_all es s).fold ≡ fold_of s.fold (sets_of es s)
unfolding run_all sets_of fold_of
fold_run [] s = refl
fold_run (e ∷ es) s = fold_run es (state_after s (run_one e s)) ∙ go (run_one e s) refl
  where
    go : (x : Answer Outcome) → run_one e s ≡ x → fold_of (state_after s x).fold (sets_of es (state_after s x)) ≡ fold_of s.fold (sets_after x ++ sets_of es (state_after s x))
    go (refused n ds) q = refl
    go (done o) q =
        let f = (ended e s o q).end in
        ap (λ (c : ChangeSet). fold_of c (sets_of es o.state)) (ap (λ (t : State). t.fold) f.state ∙ ap (fold_step s.fold) (sym f.changes))

sets_run : (es : List Edit) (s : State) → every is_set (sets_of es s) ≡ true
unfolding sets_of every
sets_run [] s = refl
sets_run (e ∷ es) s = go (run_one e s) refl (sets_run es (state_after s (run_one e s)))
  where
    go : (x : Answer Outcome) → run_one e s ≡ x → every is_set (sets_of es (state_after s x)) ≡ true → every is_set (sets_after x ++ sets_of es (state_after s x)) ≡ true
    go (refused n ds) q h = h
    go (done o) q h = and_i (is_set o.changes) _ (call-set e s o (ended e s o q)) h

-- the fold call, on one set after another
folded_run : (es : List Edit) (s : State) → fold_calls s.fold (sets_of es s) ≡ done (run_all es s).fold
unfolding run_all sets_of fold_calls
folded_run [] s = refl
folded_run (e ∷ es) s = go (run_one e s) refl (folded_run es (state_after s (run_one e s)))
  where
    go : (x : Answer Outcome) → run_one e s ≡ x → fold_calls (state_after s x).fold (sets_of es (state_after s x)) ≡ done (run_all es (state_after s x)).fold
        → fold_calls s.fold (sets_after x ++ sets_of es (state_after s x)) ≡ done (run_all es (state_after s x)).fold
    go (refused n ds) q h = h
    go (done o) q h = rw (call_folds e s o (ended e s o q)) h

handed_run : (es : List Edit) (s : State) → passes s ≡ true → every well_handed (calls es s) ≡ true
unfolding calls every
handed_run [] s ok = refl
handed_run (e ∷ es) s ok =
    and_i (well_handed (record { edit = e; before = s; answer = run_one e s })) _ (call_handed e s ∙ ok)
    (handed_run es (state_after s (run_one e s)) (passes_after e s ok (run_one e s) refl))

lights_run : (es : List Edit) (s : State) → every clears_line (calls es s) ≡ true
unfolding calls every
lights_run [] s = refl
lights_run (e ∷ es) s = and_i (clears_line (record { edit = e; before = s; answer = run_one e s })) _ (call_clears e s (run_one e s) refl) (lights_run es (state_after s (run_one e s)))

pub run_append : (xs ys : List Edit) (s : State) → run_all (xs ++ ys) s ≡ run_all ys (run_all xs s)
unfolding run_all
run_append [] ys s = refl
run_append (e ∷ xs) ys s = run_append xs ys (state_after s (run_one e s))

refused_same : (xs : List Edit) (e : Edit) (s : State) (n : ℕ) (ds : List ℕ) → run_one e (run_all xs s) ≡ refused n ds → run_all (xs ++ (e ∷ [])) s ≡ run_all xs s
refused_same xs e s n ds q = run_append xs (e ∷ []) s ∙ go (run_all xs s) q
  where
    go : (t : State) → run_one e t ≡ refused n ds → run_all (e ∷ []) t ≡ t
    go t q = unfold run_all in rw q

kept_passes : (m : Map) (alt : EntityRef → Bool) (s : State) → Kept m alt s → passes s ≡ true
unfolding passes
kept_passes m alt s k = and_i _ _ (and_i _ _ k.map (kept_lists m alt s k)) (kept_fold m alt s k)

kept_written : (m : Map) (alt : EntityRef → Bool) (s : State) → Kept m alt s → is_set s.fold ≡ true
kept_written m alt s k = set_fits s.fold (kept_lists m alt s k) (go s.fold.warnings k.quiet)
  where
    go : (ws : List Warning) → no_entries ws ≡ true → Warned max_warnings ws
    go [] q = none_warned
    go (w ∷ ws) q = unfold no_entries in clash q refl

-- ---- what a call does not name stays as it was

frame_run : (es : List Edit) (s : State) (a : EntityRef) → every (leaves a) (calls es s) ≡ true
unfolding calls every
frame_run [] s a = refl
frame_run (e ∷ es) s a =
    and_i (leaves a (record { edit = e; before = s; answer = run_one e s })) _ (call_leaves e s a (run_one e s) refl)
    (frame_run es (state_after s (run_one e s)) a)

-- ---- the numbers that are handed out

rising_join : (l h k : ℕ) (xs ys : List ℕ) → l ≤ h → h ≤ k → rising (λ n. n) l h xs ≡ true → rising (λ n. n) h k ys ≡ true → rising (λ n. n) l k (xs ++ ys) ≡ true
unfolding rising
rising_join l h k [] ys p q r t = rising_wider (λ n. n) h l k k ys p (omega arith) t
rising_join l h k (x ∷ xs) ys p q r t = go (ltb-true x h (search parts)) (λ u. rising_join (suc x) h k xs ys u q (search parts) t)
  where
    go : x < h → (suc x ≤ h → rising (λ n. n) (suc x) k (xs ++ ys) ≡ true) → (leb l x && ltb x k && rising (λ n. n) (suc x) k (xs ++ ys)) ≡ true
    go u f = and_i _ _ (and_i (leb l x) _ (search parts) (lt-ltb x k (omega arith))) (f (omega arith))

above_off : (x l h : ℕ) (ys : List ℕ) → x < l → rising (λ n. n) l h ys ≡ true → member x ys ≡ false
unfolding member rising
above_off x l h [] p r = refl
above_off x l h (y ∷ ys) p r = go (leb-true l y (search parts)) (λ u. above_off x (suc y) h ys u (search parts))
  where
    go : l ≤ y → (x < suc y → member x ys ≡ false) → (eqb y x || member x ys) ≡ false
    go u f = rw (ne_eqb y x (λ e. omega arith)) (f (omega arith))

rising_apart : (l h : ℕ) (xs : List ℕ) → rising (λ n. n) l h xs ≡ true → twice xs ≡ false
unfolding rising twice
rising_apart l h [] r = refl
rising_apart l h (x ∷ xs) r = rw (above_off x (suc x) h xs (omega arith) (search parts)) (rising_apart (suc x) h xs (search parts))

rise_run : (es : List Edit) (s : State) → Rises s (run_all es s) (handed_out es s)
unfolding handed_out run_all sets_of
rise_run [] s = record { grows = omega arith; rise = unfold rising joined in refl }
rise_run (e ∷ es) s =
    go (run_one e s) (call_rises e s (run_one e s) refl) (rise_run es (state_after s (run_one e s)))
  where
    go : (x : Answer Outcome) → Rises s (state_after s x) (joined handed (sets_after x)) → Rises (state_after s x) (run_all es (state_after s x)) (joined handed (sets_of es (state_after s x)))
        → Rises s (run_all es (state_after s x)) (joined handed (sets_after x ++ sets_of es (state_after s x)))
    go x p q =
        let u = p.grows in
        let v = q.grows in
        record {
          grows = omega arith;
          rise = rw (joined-append handed (sets_after x) (sets_of es (state_after s x))) (rising_join s.map.next (state_after s x).map.next (run_all es (state_after s x)).map.next _ _ u v p.rise q.rise);
        }

-- ---- the law

pub run_law : (m : Map) → is_map m ≡ true → (es : List Edit) → RunLaw m es (run_all es (opening m))
run_law m ok es =
    let k = kept_run m es (λ a. false) (opening m) (kept_opening m ok) in
    let r = rise_run es (opening m) in
    record {
      fold = fold_run es (opening m);
      tally = k.tally;
      folded = folded_run es (opening m);
      sets = sets_run es (opening m);
      bytes = ap change_file.write (fold_run es (opening m));
      written = kept_written m _ (run_all es (opening m)) k;
      created = k.named.created;
      deleted = k.named.deleted;
      modified = k.named.modified;
      count = named_count m (run_all es (opening m)).map _ (run_all es (opening m)).fold ok k.map k.named;
      valid = unfold passes in kept_passes m _ (run_all es (opening m)) k;
      well_handed_over = handed_run es (opening m) (kept_passes m _ (opening m) (kept_opening m ok));
      refusals = λ before after e n ds q r. refused_same before e (opening m) n ds r;
      frame = frame_run es (opening m);
      rise = r.rise;
      distinct = rising_apart m.next (run_all es (opening m)).map.next (handed_out es (opening m)) r.rise;
      lights = lights_run es (opening m);
    }

-- ---- beside the law

-- folds of any two runs: equal lists have equal bytes, and equal bytes are of equal folds
pub equal_lists_equal_bytes : (m n : Map) (es fs : List Edit) (s t : State) → RunLaw m es s → RunLaw n fs t → EqualBytes s.fold t.fold
equal_lists_equal_bytes m n es fs s t l k = record {
  bytes = λ p q r.
      let w = silent s.fold (quiet m es s l) ∙ sym (silent t.fold (quiet n fs t k)) in
      ap change_file.write (λ i. record { created = p i; modified = q i; deleted = r i; warnings = w i });
  folds = unfold is_set in same_form_lem change_file s.fold t.fold l.written k.written;
}
  where
    quiet : (m : Map) (es : List Edit) (s : State) → RunLaw m es s → no_entries s.fold.warnings ≡ true
    quiet m es s l = unfold fold_ok in let h = l.valid in search parts depth 14

    silent : (c : ChangeSet) → no_entries c.warnings ≡ true → c.warnings ≡ []
    silent c h = none_left c.warnings h
      where
        none_left : (ws : List Warning) → no_entries ws ≡ true → ws ≡ []
        none_left [] q = refl
        none_left (w ∷ ws) q = unfold no_entries in clash q refl
