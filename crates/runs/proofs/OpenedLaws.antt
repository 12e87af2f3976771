-- A run from a file: its outcome, from what opening, the rows and writing leave. Assumes nothing.
use Prim.Native.Nat.{ℕ, ◌*◌, ◌/◌, ◌≤◌}
use mathlib.Core.Path.{◌≡◌, refl, sym, ap, subst, ◌∙◌}
use mathlib.Core.Bool.{Bool, true, false, not, ◌&&◌}
use Rattle.std.specs.Prelude.{Option, None, Some}
use mathlib.Core.List.{List, []}
use lib.Dec.{eqb}
use lib.Ieee.{Float}
use lib.ListN.{length}
use borrow.Author.Tests.{eq-eqb, ne_eqb, le-ltb, eqb-true}
use native.Mathlib.Omega.{arith}
use Rattle.std.proofs.Common.{Result, Ok, Err}
use Rattle.refusal.specs.declared.Refusal.{Refusal}
use Rattle.refusal.specs.declared.Refusal.TheVariants.{BadMap}
use Rattle.refusal.specs.Answer.{Answer, refused, done, refused_as, ◌>>=◌, ◌>>◌, refuse_when, present}
use Rattle.rows.specs.Lists.{list_to}
use Rattle.rows.proofs.Bools.{clash}
use Rattle.rows.proofs.Indexed.{length-list_to}
use Rattle.codec.specs.Format
use Rattle.codec.specs.Format.{Bytes, file_of}
use Rattle.store.specs.Layout.{all_words, all_coords}
use Rattle.map.specs.Record.{Map}
use Rattle.map.specs.MapFile.{map_file}
use Rattle.changes.specs.declared.Tally.{Tally}
use Rattle.changes.specs.ChangeFile.{change_file, is_set}
use Rattle.changes.specs.Layout.{set_words, change_set_of}
use Rattle.changes.specs.Running.{State, opening}
use Rattle.mapfile.specs.MapBytes.{is_there, is_map_file}
use Rattle.files.specs.Files.{read_map, put_in, write_changes}
use Rattle.files.specs.OpenInto.{MapOpened, open_into}
use Rattle.files.specs.WriteOut.{FileWritten, write_set, ChangesWritten}
use Rattle.files.proofs.ReadLaws.{is_refused_lem}
use Rattle.files.proofs.RoundTrip.{map_back}
use Rattle.edit.specs.Lent.{Lent, state_of}
use Rattle.run.specs.Run.{Edit, run_all, sets_of}
use Rattle.run.specs.Law.{RunLaw}
use Rattle.call_list.specs.Reply.{reply_length}
use Rattle.call_list.specs.Step.{Fitting}
use Rattle.call_list.specs.Rows.{row_words, row_at, rows_in, edits_of}
use Rattle.call_list.specs.Ran.{ran, room_answer, RowsLeft, last_set}
use Rattle.call_list.proofs.Steps.{lent}
use Rattle.call_list.proofs.Ends.{room_there, law_of_rows}
use Rattle.runs.specs.Loop.{Room, no_tally}
use Rattle.runs.specs.Opened.{sets_answer, opened_answer, Tested, LeftByRun, OpenedLeft}
use Rattle.runs.proofs.RowLaws.{whole_rows}

-- ---- the fold, the set and the answers

module _ (n : ℕ) (fold set answers : List ℕ) where
  pub bad_fold : (length fold ≡ set_words → ⊥) → refused 13 [] ≡ sets_answer n fold set answers
  unfolding sets_answer
  bad_fold h = rw (ne_eqb (length fold) set_words h)

  module _ (p : length fold ≡ set_words) where
    pub bad_set : (length set ≡ set_words → ⊥) → refused 13 [] ≡ sets_answer n fold set answers
    unfolding sets_answer
    bad_set h = rw (eq-eqb (length fold) set_words p, ne_eqb (length set) set_words h)

    pub by_room : length set ≡ set_words → (r : Result ℕ Refusal) → ran r ≡ room_answer n answers → ran r ≡ sets_answer n fold set answers
    unfolding sets_answer
    by_room q r h = rw (eq-eqb (length fold) set_words p, eq-eqb (length set) set_words q) h

not_done : {A : Type 0} (m k : ℕ) (ds : List ℕ) → ◌≡◌ {A = Answer ℕ} (done m) (refused k ds) → A
not_done m k ds q = absurd (let z : ◌≡◌ {A = ℕ} 0 1 = cc in let u : ⊥ = omega arith in u)

-- what is known where nothing of this is refused
record SetsFit (n m : ℕ) (f s a : List ℕ) : Type 0 where
  fold : length f ≡ set_words
  set : length s ≡ set_words
  answers : m * reply_length ≤ length a
  count : m ≡ n

sets_fit : (n m : ℕ) (fold set answers : List ℕ) → done m ≡ sets_answer n fold set answers → SetsFit n m fold set answers
unfolding sets_answer
sets_fit n m fold set answers h = go (eqb (length fold) set_words) (eqb (length set) set_words) refl refl h
  where
    go : (f s : Bool) → eqb (length fold) set_words ≡ f → eqb (length set) set_words ≡ s → done m ≡ (refuse_when (not (f && s)) 13 [] >> room_answer n answers) → SetsFit n m fold set answers
    go true true p q h = let r = room_there answers n m h in record { fold = eqb-true _ _ p; set = eqb-true _ _ q; answers = r.0; count = r.1 }
    go true false p q h = not_done m 13 [] h
    go false s p q h = not_done m 13 [] h

sets_done : (n : ℕ) (fold set answers : List ℕ) → length fold ≡ set_words → length set ≡ set_words → n * reply_length ≤ length answers → done n ≡ sets_answer n fold set answers
unfolding sets_answer room_answer
sets_done n fold set answers p q h = rw (eq-eqb (length fold) set_words p, eq-eqb (length set) set_words q, le-ltb (length answers) (n * reply_length) h)

-- ---- the whole answer

module _ (file : Bytes) (rows : List (Option Edit)) (l : Lent) (a : List ℕ) where
  words_wrong : (length l.words ≡ all_words → ⊥) → refused 12 [] ≡ opened_answer file rows l a
  unfolding opened_answer
  words_wrong h = rw (ne_eqb _ all_words h)

  module _ (p : length l.words ≡ all_words) where
    coords_wrong : (length l.coords ≡ all_coords → ⊥) → refused 12 [] ≡ opened_answer file rows l a
    unfolding opened_answer
    coords_wrong h = rw (eq-eqb _ all_words p, ne_eqb _ all_coords h)

    module _ (q : length l.coords ≡ all_coords) where
      by_file : opened_answer file rows l a ≡ (read_map file >> sets_answer (length rows) l.fold l.set a)
      unfolding opened_answer
      by_file = rw (eq-eqb _ all_words p, eq-eqb _ all_coords q)

      file_wrong : is_map_file file ≡ false → refused 12 [] ≡ opened_answer file rows l a
      file_wrong h = rw (by_file, ← is_refused_lem file h)

      sets_wrong : is_map_file file ≡ true → (x : Refusal) → refused_as x ≡ sets_answer (length rows) l.fold l.set a → refused_as x ≡ opened_answer file rows l a
      unfolding is_map_file read_map
      sets_wrong h x e = rw by_file (go (file_of map_file file) h)
        where
          go : (o : Option Map) → is_there o ≡ true → refused_as x ≡ (present o 12 [] >> sets_answer (length rows) l.fold l.set a)
          go None t = clash t refl
          go (Some m) t = e

-- ---- what is tested before the file is opened

no_ran : {A : Type 0} (x : Refusal) (n : ℕ) → Err x ≡ Ok n → A
no_ran x n e = absurd (let z : ◌≡◌ {A = ℕ} 0 1 = cc in let u : ⊥ = omega arith in u)

module _ (file : Bytes) (calls : List ℕ) (l : Lent) (a : List ℕ) where
  tested_no : (x : Refusal) → ((rows : List (Option Edit)) → length rows ≡ length calls / row_words → refused_as x ≡ opened_answer file rows l a) → Tested file calls l a (Err x)
  tested_no x h = record { refusal = λ y e rows k. let same : x ≡ y = cc in rw (← same) (h rows k); count = λ n e. no_ran x n e; room = λ n e. no_ran x n e }

  pub tested_words : (length l.words ≡ all_words → ⊥) → Tested file calls l a (Err BadMap)
  tested_words h = tested_no BadMap (λ rows k. words_wrong file rows l a h)

  module _ (p : length l.words ≡ all_words) where
    pub tested_coords : (length l.coords ≡ all_coords → ⊥) → Tested file calls l a (Err BadMap)
    tested_coords h = tested_no BadMap (λ rows k. coords_wrong file rows l a p h)

    module _ (q : length l.coords ≡ all_coords) (k : Result ℕ Refusal) (h : ran k ≡ sets_answer (length calls / row_words) l.fold l.set a) where
      pub tested_done : (n : ℕ) → k ≡ Ok n → Tested file calls l a (Ok n)
      tested_done n e =
          let f = sets_fit (length calls / row_words) n l.fold l.set a (ap ran (sym e) ∙ h) in
          record {
            refusal = λ x z. no_ran x n (sym z);
            count = λ m z. let same : n ≡ m = cc in sym same ∙ f.count;
            room = λ m z. let same : n ≡ m = cc in subst (Room l calls a) same (record {
              tables = record { words = p; coords = q; fold = f.fold; set = f.set };
              rows = whole_rows n (length calls) f.count;
              answers = f.answers;
            });
          }

      module _ (x : Refusal) (e : k ≡ Err x) (good : Bool) (g : good ≡ is_map_file file) where
        pub tested_sets : good ≡ true → Tested file calls l a (Err x)
        tested_sets t = tested_no x (λ rows c. sets_wrong file rows l a p q (sym g ∙ t) x (ap ran (sym e) ∙ h ∙ ap (λ (n : ℕ). sets_answer n l.fold l.set a) (sym c)))

        pub tested_file : good ≡ false → Tested file calls l a (Err BadMap)
        tested_file t = tested_no BadMap (λ rows c. file_wrong file rows l a p q (sym g ∙ t))

-- ---- the outcome: k is what the tests before the file answered

rows_count : (calls lists : List ℕ) (reals : List Float) → length (rows_in calls lists reals) ≡ length calls / row_words
unfolding rows_in
rows_count calls lists reals = length-list_to (row_at calls lists reals) (length calls / row_words)

module _ (file : Bytes) (calls lists : List ℕ) (reals : List Float) (ws : List ℕ) (cs : List Float) (fs set answers buffer : List ℕ) (k : Result ℕ Refusal) (t : Tested file calls (lent ws cs fs no_tally set) answers k) where
  abbrev rows : List (Option Edit)
  rows = rows_in calls lists reals

  abbrev old : Lent
  old = lent ws cs fs no_tally set

  -- refused before the file is opened
  pub out_before : (x : Refusal) → k ≡ Err x → (r : Result ℕ Refusal) (w : Result ℕ Refusal) (u : Tally) → (r ≡ Err x) × (u ≡ no_tally) × (w ≡ Err x)
      → OpenedLeft file rows old answers buffer r w (lent ws cs fs u set) answers buffer
  out_before x e r w u p = rw (p.0, p.1, p.2) (record {
    answer = t.refusal x e rows (rows_count calls lists reals);
    left = λ m q z. clash refl q;
    kept = λ q. (refl, refl, refl);
    unwritten = λ y q. cc;
  })

  module _ (n : ℕ) (e : k ≡ Ok n) where
    fits : Fitting old
    fits = (t.room n e).tables

    -- opening goes by the file alone
    into_read : open_into file (length ws) (length cs) (length fs) ≡ (read_map file >>= λ m. done (opening m))
    into_read = rw (eq-eqb _ all_words fits.words, eq-eqb _ all_coords fits.coords, eq-eqb _ set_words fits.fold)

    answer_by : opened_answer file rows old answers ≡ (read_map file >> done n)
    answer_by =
        by_file file rows old answers fits.words fits.coords
        ∙ ap (λ (a : Answer ℕ). read_map file >> a) (sym (subst (λ (i : ℕ). done n ≡ sets_answer i fs set answers) (t.count n e ∙ sym (rows_count calls lists reals)) (sets_done n fs set answers fits.fold fits.set (t.room n e).answers)))

    -- what the loop is handed
    pub room_after : (ws' : List ℕ) (cs' : List Float) (fs' : List ℕ) (u : Tally) → length ws' ≡ length ws → length cs' ≡ length cs → length fs' ≡ length fs
        → Room (lent ws' cs' fs' u set) calls answers n
    room_after ws' cs' fs' u a b c = record {
      tables = record { words = a ∙ fits.words; coords = b ∙ fits.coords; fold = c ∙ fits.fold; set = fits.set };
      rows = (t.room n e).rows;
      answers = (t.room n e).answers;
    }

    -- refused for the file
    pub out_for_file : (o : Result Tally Refusal) (x : Refusal) (ws' : List ℕ) (cs' : List Float) (fs' : List ℕ) → MapOpened file ws cs fs o ws' cs' fs' → o ≡ Err x
        → (r : Result ℕ Refusal) (w : Result ℕ Refusal) (u : Tally) → (r ≡ Err x) × (u ≡ no_tally) × (w ≡ Err x)
        → OpenedLeft file rows old answers buffer r w (lent ws' cs' fs' u set) answers buffer
    out_for_file o x ws' cs' fs' h z r w u p = rw (p.0, p.1, p.2) (made (subst (λ (y : Result Tally Refusal). MapOpened file ws cs fs y ws' cs' fs') z h))
      where
        go : (a : Answer Map) → refused_as x ≡ (a >>= λ m. done (opening m)) → refused_as x ≡ (a >> done n)
        go (refused i ds) q = named q
          where
            named : ◌≡◌ {A = Answer State} (refused_as x) (refused i ds) → ◌≡◌ {A = Answer ℕ} (refused_as x) (refused i ds)
            named q = cc
        go (done m) q = cc

        made : MapOpened file ws cs fs (Err x) ws' cs' fs' → OpenedLeft file rows old answers buffer (Err x) (Err x) (lent ws' cs' fs' no_tally set) answers buffer
        made o = record {
          answer = go (read_map file) (o.is ∙ into_read) ∙ sym answer_by;
          left = λ m q z. clash refl q;
          kept = λ q. (λ i. lent (o.untouched.0 i) (o.untouched.1 i) (o.untouched.2 i) no_tally set, refl, refl);
          unwritten = λ y q. cc;
        }

    -- carried out
    module _ (o : Result Tally Refusal) (u : Tally) (ws' : List ℕ) (cs' : List Float) (fs' : List ℕ) (h : MapOpened file ws cs fs o ws' cs' fs') (z : o ≡ Ok u) where
      abbrev opened : Lent
      opened = lent ws' cs' fs' u set

      into : done (state_of opened) ≡ (read_map file >>= λ m. done (opening m))
      into = (subst (λ (y : Result Tally Refusal). MapOpened file ws cs fs y ws' cs' fs') z h).is ∙ into_read

      begun : (m : Map) → read_map file ≡ done m → state_of opened ≡ opening m
      begun m e = go (into ∙ rw e)
        where
          go : ◌≡◌ {A = Answer State} (done (state_of opened)) (done (opening m)) → state_of opened ≡ opening m
          go q = cc

      pub out_done : (new : Lent) (answers' : List ℕ) (w : Result ℕ Refusal) (buffer' : List ℕ) → RowsLeft (list_to (row_at calls lists reals) n) opened answers new answers'
          → length new.fold ≡ length fs → ChangesWritten new.fold buffer w buffer' → OpenedLeft file rows old answers buffer (Ok n) w new answers' buffer'
      unfolding rows_in
      out_done new answers' w buffer' g c p =
          let g' = subst (λ (i : ℕ). RowsLeft (list_to (row_at calls lists reals) i) opened answers new answers') (t.count n e) g in
          record { answer = there (read_map file) into ∙ sym answer_by; left = λ m q y. left m y (begun m y) g'; kept = λ q. clash q refl; unwritten = λ y q. cc }
        where
          there : (a : Answer Map) → done (state_of opened) ≡ (a >>= λ m. done (opening m)) → done n ≡ (a >> done n)
          there (refused i ds) q = cc
          there (done m) q = refl

          put : is_set (change_set_of new.fold) ≡ true → write_set new.fold buffer ≡ put_in (change_file.write (change_set_of new.fold)) buffer
          put ok = unfold write_changes in rw (eq-eqb _ set_words (c ∙ fits.fold), ok)

          begin : (m : Map) → opening m ≡ run_all [] (opening m)
          begin m = unfold run_all in refl

          left : (m : Map) → read_map file ≡ done m → state_of opened ≡ opening m → RowsLeft rows opened answers new answers' → LeftByRun m rows old answers buffer w new answers' buffer'
          left m y b g =
              let law : RunLaw m (edits_of rows) (state_of new) = law_of_rows rows opened answers new answers' g m [] (map_back file m y).0 (b ∙ begin m) in
              record {
                state = g.state ∙ ap (run_all (edits_of rows)) b;
                law = law;
                set = g.set ∙ ap (λ (s : State). last_set (change_set_of set) (sets_of (edits_of rows) s)) b;
                replied = rw (← b) g.replied;
                written = subst (λ (a : Answer Bytes). FileWritten a (change_file.write (change_set_of new.fold)) buffer w buffer') (put law.written) p;
              }
