-- What a run leaves, from what its loop leaves; and the law of every run, for what it leaves. Assumes nothing.
use Prim.Native.Nat.{ℕ, ◌*◌, ◌/◌, ◌<◌, ◌≤◌}
use mathlib.Core.Path.{◌≡◌, refl, sym, ap, subst, ◌∙◌}
use mathlib.Core.Bool.{Bool, true, false}
use Rattle.std.specs.Prelude.{Option, Err, Ok, Result}
use mathlib.Core.List.{List, [], ◌++◌}
use lib.Dec.{ltb}
use lib.ListN.{length, drop}
use borrow.Author.Tests.{lt-ltb, le-ltb, ltb-false}
use native.Mathlib.Nat.{div-add-mod'}
use native.Mathlib.Omega.{arith}
use Rattle.refusal.specs.declared.Refusal.{Refusal}
use Rattle.refusal.specs.Answer.{Answer, refused, done, refused_as, ◌>>◌, refuse_when}
use Rattle.rows.specs.Lists.{list_to}
use Rattle.rows.proofs.Bools.{clash}
use Rattle.rows.proofs.Indexed.{length-list_to}
use Rattle.map.specs.Record.{Map}
use Rattle.map.specs.MapFile.{is_map}
use Rattle.changes.specs.Running.{State, opening}
use Rattle.placing.specs.Answers.{checked}
use Rattle.edit.specs.Lent.{Lent, state_of}
use Rattle.finishing.specs.Finish.{lent_checks}
use Rattle.finishing.proofs.CallLaws.{lent_fine}
use Rattle.run.specs.Run.{Edit, run_all}
use Rattle.run.specs.Law.{RunLaw}
use Rattle.run.proofs.Runs.{run_append, run_law}
use Rattle.call_list.specs.Reply.{reply_length}
use Rattle.call_list.specs.Step.{Fitting, Held, held_of}
use Rattle.call_list.specs.Rows.{edits_of}
use Rattle.call_list.specs.Ran.{ran, room_answer, run_answer, RowsLeft, RunLeft}
use Rattle.call_list.proofs.Walk.{walk, told, walk_state, walk_set, told_replies}

-- ---- room for the answers

module _ (n : ℕ) (answers : List ℕ) where
  pub no_room : length answers / reply_length < n → refused 14 [] ≡ room_answer n answers
  unfolding room_answer
  no_room h = rw (lt-ltb (length answers) (n * reply_length) (omega (arith, div-add-mod' (length answers) reply_length)))

  pub has_room : n ≤ length answers / reply_length → done n ≡ room_answer n answers
  unfolding room_answer
  has_room h = rw (le-ltb (length answers) (n * reply_length) (omega (arith, div-add-mod' (length answers) reply_length)))

-- ---- what is tested of a list of calls

module _ (l : Lent) (n : ℕ) (answers : List ℕ) where
  pub lent_refused : (c : Result (Unit {0}) Refusal) (x : Refusal) → checked c ≡ lent_checks l → c ≡ Err x → refused_as x ≡ run_answer n l answers
  unfolding run_answer
  lent_refused c x h e = rw (← h, e)

  pub by_room : (c : Result (Unit {0}) Refusal) (r : Result ℕ Refusal) → checked c ≡ lent_checks l → c ≡ (Ok tt) → ran r ≡ room_answer n answers → ran r ≡ run_answer n l answers
  unfolding run_answer
  by_room c r h e q = rw (← h, e) q

-- what is known where nothing is refused
pub record AllFit (l : Lent) (a : List ℕ) (n m : ℕ) : Type 0 where
  pub tables : Fitting l
  pub answers : m * reply_length ≤ length a
  pub count : m ≡ n

not_done : {A : Type 0} (m k : ℕ) (ds : List ℕ) → ◌≡◌ {A = Answer ℕ} (done m) (refused k ds) → A
not_done m k ds q = absurd (let z : ◌≡◌ {A = ℕ} 0 1 = cc in let u : ⊥ = omega arith in u)

pub room_there : (answers : List ℕ) (n m : ℕ) → done m ≡ room_answer n answers → (m * reply_length ≤ length answers) × (m ≡ n)
unfolding room_answer
room_there answers n m h = go (ltb (length answers) (n * reply_length)) refl h
  where
    go : (b : Bool) → ltb (length answers) (n * reply_length) ≡ b → done m ≡ (refuse_when b 14 [] >> done n) → (m * reply_length ≤ length answers) × (m ≡ n)
    go true q h = not_done m 14 [] h
    go false q h = let e : m ≡ n = cc in (omega (arith, ltb-false (length answers) (n * reply_length) q), e)

pub all_fit : (l : Lent) (answers : List ℕ) (n m : ℕ) → done m ≡ run_answer n l answers → AllFit l answers n m
unfolding run_answer
all_fit l answers n m h = go (lent_checks l) refl h
  where
    go : (a : Answer (Unit {0})) → lent_checks l ≡ a → done m ≡ (a >> room_answer n answers) → AllFit l answers n m
    go (refused k ds) q h = not_done m k ds h
    go (done u) q h =
        let f = lent_fine l q in
        let r = room_there answers n m h in
        record { tables = record { words = f.sound.sized.words.room; coords = f.sound.sized.coords; fold = f.fold_size; set = f.set }; answers = r.0; count = r.1 }

-- ---- what is left

-- the rows, from where their loop ends
pub rows_left : (f : ℕ → Option Edit) (n : ℕ) (old : Lent) (answers : List ℕ) (new : Lent) (answers' : List ℕ)
    → held_of new ≡ walk (list_to f n) (held_of old) → answers' ≡ told (list_to f n) (held_of old) ++ drop (n * reply_length) answers → RowsLeft (list_to f n) old answers new answers'
rows_left f n old answers new answers' held words = record {
  state = ap (λ (x : Held). x.state) held ∙ walk_state (list_to f n) (held_of old);
  set = ap (λ (x : Held). x.set) held ∙ walk_set (list_to f n) (held_of old);
  replied = rw (length-list_to f n) (words ∙ ap (λ (l : List ℕ). l ++ drop (n * reply_length) answers) (told_replies (list_to f n) (held_of old)));
}

-- where they are carried out on the end of another run, both together are one run
pub law_of_rows : (rows : List (Option Edit)) (old : Lent) (answers : List ℕ) (new : Lent) (answers' : List ℕ) → RowsLeft rows old answers new answers'
    → (m : Map) (es : List Edit) → is_map m ≡ true → state_of old ≡ run_all es (opening m) → RunLaw m (es ++ edits_of rows) (state_of new)
law_of_rows rows old answers new answers' h m es ok o =
    subst (λ (s : State). RunLaw m (es ++ edits_of rows) s) (run_append es (edits_of rows) (opening m) ∙ ap (run_all (edits_of rows)) (sym o) ∙ sym h.state)
    (run_law m ok (es ++ edits_of rows))

module _ (f : ℕ → Option Edit) (n : ℕ) (old : Lent) (answers : List ℕ) where
  answer_is : (a : Answer ℕ) → a ≡ run_answer n old answers → a ≡ run_answer (length (list_to f n)) old answers
  answer_is a h = rw (length-list_to f n) h

  pub left_refused : (x : Refusal) → refused_as x ≡ run_answer n old answers → RunLeft (list_to f n) old answers (Err x) old answers
  left_refused x h = record { answer = answer_is _ h; left = λ q. clash refl q; law = λ q. clash refl q; kept = λ q. (refl, refl) }

  pub left_done : (m : ℕ) (new : Lent) (answers' : List ℕ) → done m ≡ run_answer n old answers → RowsLeft (list_to f m) old answers new answers'
      → RunLeft (list_to f n) old answers (Ok m) new answers'
  left_done m new answers' h g =
      let e = (all_fit old answers n m h).count in
      let k = subst (λ (i : ℕ). RowsLeft (list_to f i) old answers new answers') e g in
      record { answer = answer_is _ h; left = λ q. k; law = λ q. law_of_rows (list_to f n) old answers new answers' k; kept = λ q. clash q refl }
