-- Lifts taken from the tables: one rule's, and all that are left.
use Prim.Native.Nat.{ℕ, zero, suc, ◌+◌, ◌-◌, ◌≤◌, ◌<◌}
use mathlib.Core.Path.{◌≡◌, refl, sym, ap, ◌∙◌}
use mathlib.Core.Bool.{Bool, true, ◌&&◌}
use mathlib.Core.List.{List, [], ◌∷◌, ◌++◌, append-nil, append_assoc}
use native.Mathlib.Omega.{arith}
use lib.Dec.{leb}
use lib.Ieee.{Float}
use lib.ListN.{length, get_or, take, drop, take-append-drop, length-append, length-take, length-drop, drop_of_length-le}
use lib.Seq.{drop-cons, take_all, take_at, drop_at, set_split}
use borrow.Author.Tests.{le-leb, leb-true}
use Rattle.rows.specs.Lists.{every, list_to, joined}
use Rattle.rows.specs.Rows.{without}
use Rattle.rows.proofs.Bools.{parts, and_l, and_r, and_i}
use Rattle.rows.proofs.Tables.{every_append}
use Rattle.rows.proofs.Indexed.{length-list_to, get_or-list_to}
use Rattle.store.specs.Layout.{SizedWords, Sized, count_of, row_of, coords_of, records_of, Kept}
use Rattle.map.specs.Record.{Rule, Map}
use Rattle.map.specs.Rows.{with_rules, rule_with}
use Rattle.map.specs.Tables.{list_at, rule_in, map_of}
use Rattle.map.specs.Updates.{with_list, RulePut, RuleDropped}
use Rattle.map.proofs.SoundLaws.{record_at}
use Rattle.map.proofs.UpdateLaws.{with_lanes_lem, row_long, kept_then}
use Rattle.place.specs.Readable.{ReadableWords, Readable}
use Rattle.edit.specs.Light as light
use Rattle.edit.specs.Light.{lift, lifted}
use Rattle.lifting.specs.declared.Lift.TheVariants as v
use Rattle.lifting.specs.declared.Lifting.{Lifting}
use Rattle.lifting.specs.Lifting.{entries_of, LiftRead, lifted_rules}
use Rattle.lifting.specs.Applying.{part_of, LiftedAt, LiftsApplied}

-- ---- lists in two parts

module _ {A : Type 0} where
  -- around its entry at i
  around : (l : List A) (i : ℕ) (z : A) → i < length l → l ≡ take i l ++ (get_or l i z ∷ drop (suc i) l)
  around l i z h = sym (take-append-drop i l) ∙ ap (λ (r : List A). take i l ++ r) (drop-cons l i z h)

  every_parts : (p : A → Bool) (xs ys : List A) → every p (xs ++ ys) ≡ true → (every p xs ≡ true) × (every p ys ≡ true)
  unfolding every
  every_parts p [] ys h = (refl, h)
  every_parts p (x ∷ xs) ys h =
      let r = every_parts p xs ys (and_r (p x) (every p (xs ++ ys)) h) in
      (and_i (p x) (every p xs) (and_l (p x) (every p (xs ++ ys)) h) r.0, r.1)

  joined_joins : {B : Type 0} (f : A → List B) (x : A) (xs : List A) → joined f (x ∷ xs) ≡ f x ++ joined f xs
  unfolding joined
  joined_joins f x xs = refl

-- ---- tables that can be read, by their rules

-- lists of lanes and crosswalks that can be read
unfoldable pub short_rule : Rule → Bool
short_rule r = leb (length r.lanes) 16 && leb (length r.controlled) 16

list_size : (r : List ℕ) (o : ℕ) → length (list_at r o) ≡ get_or r o 0
unfolding list_at
list_size r o = length-list_to _ (get_or r o 0)

short_in : (r : List ℕ) (c : List Float) → get_or r 7 0 ≤ 16 → get_or r 24 0 ≤ 16 → short_rule (rule_in r c) ≡ true
unfolding short_rule rule_in
short_in r c a b = rw (list_size r 7, list_size r 24) (and_i (leb (get_or r 7 0) 16) (leb (get_or r 24 0) 16) (le-leb (get_or r 7 0) 16 a) (le-leb (get_or r 24 0) 16 b))

short_lanes : (r : List ℕ) (c : List Float) → short_rule (rule_in r c) ≡ true → get_or r 7 0 ≤ 16
unfolding short_rule rule_in
short_lanes r c h = let a : leb (length (list_at r 7)) 16 ≡ true = search parts in leb-true (get_or r 7 0) 16 (rw (list_size r 7) at a)

short_controlled : (r : List ℕ) (c : List Float) → short_rule (rule_in r c) ≡ true → get_or r 24 0 ≤ 16
unfolding short_rule rule_in
short_controlled r c h = let a : leb (length (list_at r 24)) 16 ≡ true = search parts in leb-true (get_or r 24 0) 16 (rw (list_size r 24) at a)

every_first : {A : Type 0} (p : A → Bool) (f : ℕ → A) (n : ℕ) → ((i : ℕ) → i < n → p (f i) ≡ true) → every p (list_to f n) ≡ true
unfolding list_to every
every_first p f zero h = refl
every_first p f (suc n) h = every_append p (list_to f n) (f n ∷ []) (every_first p f n (λ i g. h i (omega arith))) (and_i (p (f n)) true (h n (omega arith)) refl)

all_short : (ws : List ℕ) (cs : List Float) → ReadableWords ws → every short_rule (map_of ws cs).rules ≡ true
unfolding map_of records_of
all_short ws cs ok = every_first short_rule _ (count_of ws 5) (λ i h. short_in (row_of ws 5 i) (coords_of cs 5 i) (ok.lanes i h) (ok.controlled i h))

module _ (ws : List ℕ) (cs : List Float) (ws' : List ℕ) (cs' : List Float) (ok : ReadableWords ws) (k : Kept ws cs 5 ws' cs') (short : every short_rule (map_of ws' cs').rules ≡ true) where
  its_short : (i : ℕ) → i < count_of ws' 5 → short_rule (rule_in (row_of ws' 5 i) (coords_of cs' 5 i)) ≡ true
  unfolding map_of
  its_short i h = record_at short_rule rule_in ws' cs' 5 short i h

  pub still_readable : Readable ws' cs'
  still_readable =
      let s0 = k.others 0 (omega arith) (λ e. omega arith) in
      let s1 = k.others 1 (omega arith) (λ e. omega arith) in
      let s2 = k.others 2 (omega arith) (λ e. omega arith) in
      record {
        words = record {
          sized = k.sized.words;
          center = λ i h. let g : i < count_of ws 0 = omega (arith, s0.count) in rw (s0.rows i g) (ok.center i g);
          boundary = λ i h. let g : i < count_of ws 1 = omega (arith, s1.count) in rw (s1.rows i g) (ok.boundary i g);
          line = λ i h. let g : i < count_of ws 2 = omega (arith, s2.count) in rw (s2.rows i g) (ok.line i g);
          lanes = λ i h. short_lanes (row_of ws' 5 i) (coords_of cs' 5 i) (its_short i h);
          controlled = λ i h. short_controlled (row_of ws' 5 i) (coords_of cs' 5 i) (its_short i h);
        };
        coords = k.sized.coords;
      }

-- ---- one rule

rules_count : (ws : List ℕ) (cs : List Float) → length (map_of ws cs).rules ≡ count_of ws 5
unfolding map_of records_of
rules_count ws cs = length-list_to _ (count_of ws 5)

rule_here : (ws : List ℕ) (cs : List Float) (i : ℕ) (z : Rule) → i < count_of ws 5 → get_or (map_of ws cs).rules i z ≡ rule_in (row_of ws 5 i) (coords_of cs 5 i)
unfolding map_of records_of
rule_here ws cs i z h = get_or-list_to (λ j. rule_in (row_of ws 5 j) (coords_of cs 5 j)) (count_of ws 5) i z h

pub kept_all : (ws : List ℕ) (cs : List Float) (k : ℕ) → Sized ws cs → Kept ws cs k ws cs
kept_all ws cs k ok = record { others = λ m h n. record { count = refl; rows = λ i g. refl; coords = λ i g. refl }; sized = ok }

module _ (ws : List ℕ) (cs : List Float) (ok : Readable ws cs) (i s : ℕ) (lanes : List ℕ) (hi : i < count_of ws 5) (l : Lifting) (e : LiftRead ws i s lanes l) where
  rules : List Rule
  rules = (map_of ws cs).rules

  here : Rule
  here = rule_in (row_of ws 5 i) (coords_of cs 5 i)

  split : rules ≡ take i rules ++ (here ∷ drop (suc i) rules)
  unfolding rules here
  split = around rules i here (omega (arith, rules_count ws cs)) ∙ ap (λ (r : Rule). take i rules ++ (r ∷ drop (suc i) rules)) (rule_here ws cs i here hi)

  -- what the map says is enough
  module _ (ps : List Rule) (ep : ps ≡ part_of ws cs i s lanes) (short : every short_rule ps ≡ true) (ws' : List ℕ) (cs' : List Float) (k : Kept ws cs 5 ws' cs')
      (em : map_of ws' cs' ≡ with_rules (map_of ws cs) (take i (map_of ws cs).rules ++ (ps ++ drop (suc i) (map_of ws cs).rules))) where
    new_rules : (map_of ws' cs').rules ≡ take i (map_of ws cs).rules ++ (ps ++ drop (suc i) (map_of ws cs).rules)
    new_rules = ap (λ (m : Map). m.rules) em

    stays_short : every short_rule (map_of ws' cs').rules ≡ true
    unfolding rules every
    stays_short =
        let a = every_parts short_rule (take i rules) (here ∷ drop (suc i) rules) (rw split at (all_short ws cs ok.words)) in
        rw new_rules (every_append short_rule (take i rules) (ps ++ drop (suc i) rules) a.0 (every_append short_rule ps (drop (suc i) rules) short (and_r (short_rule here) (every short_rule (drop (suc i) rules)) a.1)))

    new_count : count_of ws' 5 ≡ i + length ps + (count_of ws 5 - suc i)
    new_count =
        omega (
          arith,
          sym (rules_count ws' cs') ∙ ap length new_rules,
          length-append (take i (map_of ws cs).rules) (ps ++ drop (suc i) (map_of ws cs).rules),
          length-append ps (drop (suc i) (map_of ws cs).rules),
          length-take i (map_of ws cs).rules,
          length-drop (suc i) (map_of ws cs).rules,
          rules_count ws cs,
        )

    lifted_as : (r : ℕ) → r ≡ i + length ps → LiftedAt ws cs i s lanes r ws' cs'
    lifted_as r er =
        record {
          map = rw (← ep) em;
          next = rw (← ep) er;
          left = new_count ∙ rw er;
          kept = k;
          readable = still_readable ws cs ws' cs' ok.words k stays_short;
        }

  here_short : short_rule here ≡ true
  unfolding here
  here_short = short_in (row_of ws 5 i) (coords_of cs 5 i) (ok.words.lanes i hi) (ok.words.controlled i hi)

  sized : Sized ws cs
  sized = record { words = ok.words.sized; coords = ok.coords }

  pub lifted_kept : l.lift ≡ v.Kept → LiftedAt ws cs i s lanes (i + 1) ws cs
  unfolding here lifted every rules
  lifted_kept q =
      let a : light.kept ≡ lift s lanes here = rw q at (e.answer (coords_of cs 5 i)) in
      let p : here ∷ [] ≡ part_of ws cs i s lanes = rw (← a) in
      lifted_as (here ∷ []) p (and_i (short_rule here) true here_short refl) ws cs (kept_all ws cs 5 sized) (ap (with_rules (map_of ws cs)) split) (i + 1) refl

  module _ (q : l.lift ≡ v.Eased) where
    pub put_asks : SizedWords ws × (i < count_of ws 5) × (7 + 1 + length (entries_of l.left) ≤ 92)
    put_asks = (ok.words.sized, hi, omega (arith, e.few, e.count))

    eased_here : Rule
    eased_here = rule_with here here.body (entries_of l.left) here.controlled

    eased_part : eased_here ∷ [] ≡ part_of ws cs i s lanes
    unfolding here lifted eased_here
    eased_part = let a : light.eased (entries_of l.left) ≡ lift s lanes here = rw q at (e.answer (coords_of cs 5 i)) in rw (← a)

    eased_short : short_rule eased_here ≡ true
    unfolding short_rule eased_here
    eased_short =
        let h = here_short in
        let d : leb (length here.controlled) 16 ≡ true = search parts in
        and_i (leb (length (entries_of l.left)) 16) (leb (length here.controlled) 16) (le-leb (length (entries_of l.left)) 16 (omega (arith, e.few, e.count))) d

    pub lifted_eased : (ws' : List ℕ) → RulePut ws i (with_list (row_of ws 5 i) 7 (entries_of l.left)) ws' → LiftedAt ws cs i s lanes (i + 1) ws' cs
    unfolding every
    lifted_eased ws' p =
        let w : rule_in (with_list (row_of ws 5 i) 7 (entries_of l.left)) (coords_of cs 5 i) ≡ eased_here = unfold eased_here here in with_lanes_lem (row_of ws 5 i) (row_long ws ok.words.sized i hi) (entries_of l.left) (omega (arith, e.few, e.count)) (coords_of cs 5 i) in
        lifted_as (eased_here ∷ []) eased_part (and_i (short_rule eased_here) true eased_short refl) ws' cs (p.kept cs ok.coords)
        (p.map cs ok.coords ∙ rw (w, set_split (map_of ws cs).rules i eased_here (omega (arith, rules_count ws cs)))) (i + 1) refl

  pub lifted_gone : l.lift ≡ v.Gone → (ws' : List ℕ) (cs' : List Float) → RuleDropped ws cs i ws' cs' → LiftedAt ws cs i s lanes i ws' cs'
  unfolding lifted every here without
  lifted_gone q ws' cs' p =
      let a : light.gone ≡ lift s lanes here = rw q at (e.answer (coords_of cs 5 i)) in
      lifted_as [] (rw (← a)) refl ws' cs' p.kept p.map i (omega arith)

pub put_long : (ws : List ℕ) (cs : List Float) → Readable ws cs → (i : ℕ) (r ws' : List ℕ) → RulePut ws i r ws' → length ws' ≡ length ws
put_long ws cs ok i r ws' p = (p.kept cs ok.coords).sized.words.room ∙ sym ok.words.sized.room

pub drop_asks : (ws : List ℕ) (cs : List Float) → Readable ws cs → (i : ℕ) → i < count_of ws 5 → Sized ws cs × (i < count_of ws 5)
drop_asks ws cs ok i h = (record { words = ok.words.sized; coords = ok.coords }, h)

-- ---- all rules: those before i are lifted

pub record Applying (ws₀ : List ℕ) (cs₀ : List Float) (s : ℕ) (lanes : List ℕ) (ws : List ℕ) (cs : List Float) (i : ℕ) : Type 0 where
  pub readable : Readable ws cs
  pub kept : Kept ws₀ cs₀ 5 ws cs
  pub within : i ≤ count_of ws 5
  pub map : map_of ws cs ≡ with_rules (map_of ws₀ cs₀) (map_of ws cs).rules
  pub goes : lifted_rules s lanes (map_of ws₀ cs₀).rules ≡ take i (map_of ws cs).rules ++ lifted_rules s lanes (drop i (map_of ws cs).rules)

pub applying_start : (ws : List ℕ) (cs : List Float) (s : ℕ) (lanes : List ℕ) → Readable ws cs → Applying ws cs s lanes ws cs 0
applying_start ws cs s lanes ok = record { readable = ok; kept = kept_all ws cs 5 (record { words = ok.words.sized; coords = ok.coords }); within = omega arith; map = refl; goes = refl }

module _ (ws₀ : List ℕ) (cs₀ : List Float) (s : ℕ) (lanes : List ℕ) (ws : List ℕ) (cs : List Float) (i : ℕ) (inv : Applying ws₀ cs₀ s lanes ws cs i) where
  pub applying_end : count_of ws 5 ≤ i → LiftsApplied ws₀ cs₀ s lanes ws cs
  unfolding joined
  applying_end h =
      let Q : List Rule = (map_of ws cs).rules in
      let n : length Q ≤ i = omega (arith, rules_count ws cs) in
      let g : lifted_rules s lanes (map_of ws₀ cs₀).rules ≡ Q = inv.goes ∙ rw (take_all i Q n, drop_of_length-le Q n) (append-nil Q) in
      record { map = inv.map ∙ ap (with_rules (map_of ws₀ cs₀)) (sym g); count = sym (rules_count ws cs) ∙ ap length (sym g); kept = inv.kept; readable = inv.readable }

  pub applying_next : i < count_of ws 5 → (r : ℕ) (ws' : List ℕ) (cs' : List Float) → LiftedAt ws cs i s lanes r ws' cs' → Applying ws₀ cs₀ s lanes ws' cs' r
  applying_next h r ws' cs' e =
      let Q : List Rule = (map_of ws cs).rules in
      let x : Rule = rule_in (row_of ws 5 i) (coords_of cs 5 i) in
      let ps : List Rule = part_of ws cs i s lanes in
      let q : (map_of ws' cs').rules ≡ take i Q ++ (ps ++ drop (suc i) Q) = ap (λ (m : Map). m.rules) e.map in
      let c = rules_count ws cs in
      let n : length (take i Q ++ ps) ≡ r = omega (arith, length-append (take i Q) ps, length-take i Q, e.next) in
      let u : drop i Q ≡ x ∷ drop (suc i) Q = drop-cons Q i x (omega arith) ∙ ap (λ (y : Rule). y ∷ drop (suc i) Q) (rule_here ws cs i x h) in
      let v : (map_of ws' cs').rules ≡ (take i Q ++ ps) ++ drop (suc i) Q = q ∙ sym (append_assoc (take i Q) ps (drop (suc i) Q)) in
      record {
        readable = e.readable;
        kept = kept_then ws₀ cs₀ 5 ws cs ws' cs' inv.kept e.kept;
        within = omega (arith, e.left);
        map = e.map ∙ rw (inv.map, ← q);
        goes = inv.goes ∙ rw (u, joined_joins (λ r. lifted r (lift s lanes r)) x (drop (suc i) Q), v, take_at (take i Q ++ ps) (drop (suc i) Q) r n, drop_at (take i Q ++ ps) (drop (suc i) Q) r n)
            (sym (append_assoc (take i Q) ps (lifted_rules s lanes (drop (suc i) Q))));
      }
