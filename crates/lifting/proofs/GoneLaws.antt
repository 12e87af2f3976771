-- How many rules go, and how many points with their shapes: rule by rule, over the rules that were passed.
use Prim.Native.Nat.{ℕ, zero, suc, ◌+◌, ◌*◌, ◌≤◌, ◌<◌}
use mathlib.Core.Path.{◌≡◌, refl, sym, ◌∙◌}
use mathlib.Core.Bool.{Bool, true, false, cond}
use Rattle.std.specs.Prelude.{Option, None, Some}
use mathlib.Core.List.{List, [], ◌∷◌, ◌++◌, append-nil, append_assoc}
use native.Mathlib.Nat.{add-zero, zero-add, add_assoc}
use native.Mathlib.Numerals.{add-one}
use native.Mathlib.Omega.{arith}
use lib.Dec.{eqb}
use lib.Ieee.{Float}
use lib.ListN.{length, get_or, length-append}
use borrow.Author.Tests.{ne_eqb, eqb-true, leb-true}
use Rattle.rows.specs.Lists.{list_to, joined, total}
use Rattle.rows.proofs.Indexed.{length-list_to}
use Rattle.codec.specs.Format.{both}
use Rattle.store.specs.Layout.{count_of, row_of, coords_of, records_of}
use Rattle.map.specs.declared.RuleHead.{RuleHead}
use Rattle.map.specs.Record.{sign, Rule}
use Rattle.map.specs.Ceilings.{size_of, if_there, line_within, body_within, rule_within, body_points, rule_points}
use Rattle.map.specs.Tables.{flag_at, line_at, body_of, rule_in, map_of}
use Rattle.map.specs.Access.{HeadRead}
use Rattle.map.proofs.UpdateLaws.{rule_limit}
use Rattle.map.proofs.Parts.{rules_within}
use Rattle.map.proofs.SoundLaws.{Sound, record_at}
use Rattle.place.specs.Readable.{ReadableWords}
use Rattle.edit.specs.Light as light
use Rattle.edit.specs.Light.{lift, lifted}
use Rattle.lifting.specs.declared.Lift.TheVariants.{Kept, Eased, Gone}
use Rattle.lifting.specs.declared.Lifting.{Lifting}
use Rattle.lifting.specs.declared.Freed.{Freed}
use Rattle.lifting.specs.Lifting.{head_points, entries_of, LiftRead, lifted_rules, ShapesFew, GoneAt, GoneRead}

-- ---- the points of a rule's shape

shape_size : (t : ℕ) (b : Bool) (c : List Float) (n : ℕ) (line : Option ℕ) → body_points (sign t (cond b (Some (line_at c 0 n)) None) line) ≡ cond b n 0
unfolding body_points size_of line_at
shape_size t true c n line = length-list_to _ n
shape_size t false c n line = refl

points_by_kind : (k : ℕ) (r : List ℕ) (c : List Float) → body_points (body_of k r c) ≡ cond (eqb k 2) (cond (flag_at r 5) (get_or r 6 0) 0) 0
unfolding body_points
points_by_kind zero r c = refl
points_by_kind (suc zero) r c = refl
points_by_kind (suc (suc zero)) r c = shape_size (get_or r 2 0) (flag_at r 5) c (get_or r 6 0) (cond (flag_at r 3) (Some (get_or r 4 0)) None)
points_by_kind (suc (suc (suc zero))) r c = refl
points_by_kind (suc (suc (suc (suc zero)))) r c = refl
points_by_kind (suc (suc (suc (suc (suc zero))))) r c = refl
points_by_kind (suc (suc (suc (suc (suc (suc zero)))))) r c = refl
points_by_kind (suc (suc (suc (suc (suc (suc (suc k))))))) r c = rw (ne_eqb (suc (suc (suc (suc (suc (suc (suc k))))))) 2 (λ e. let z : ⊥ = omega arith in z))

head_points_lem : (r : List ℕ) (h : RuleHead) → HeadRead r h → (c : List Float) → rule_points (rule_in r c) ≡ head_points h
unfolding head_points rule_points rule_in
head_points_lem r h e c = rw (e.kind, e.has_shape, e.points) (points_by_kind (get_or r 1 0) r c)

few_if : (n : ℕ) (a b : Bool) → (a ≡ true → b ≡ true → n ≤ 64) → cond a (cond b n 0) 0 ≤ 64
few_if n true true h = h refl refl
few_if n true false h = omega arith
few_if n false b h = omega arith

head_few : (ws : List ℕ) → ShapesFew ws → (i : ℕ) → i < count_of ws 5 → (h : RuleHead) → HeadRead (row_of ws 5 i) h → head_points h ≤ 64
unfolding head_points
head_few ws few i hi h e = rw (e.kind, e.has_shape, e.points) (few_if (get_or (row_of ws 5 i) 6 0) (eqb (get_or (row_of ws 5 i) 1 0) 2) (flag_at (row_of ws 5 i) 5) (λ k t. few.few i hi (eqb-true _ _ k) t))

-- the tables of a map have shapes within their room
line_size : (c : List Float) (n : ℕ) → length (line_at c 0 n) ≡ n
unfolding line_at
line_size c n = length-list_to _ n

body_part : (r : Rule) → rule_within r ≡ true → body_within r.body ≡ true
unfolding rule_within
body_part r h = (both _ _ (both _ _ h).0).0

pub shapes_few : (ws : List ℕ) (cs : List Float) → Sound ws cs → ShapesFew ws
unfolding map_of rule_in body_within if_there line_within
shapes_few ws cs ok =
    record {
      few = λ i hi k t.
          let w : body_within (body_of (get_or (row_of ws 5 i) 1 0) (row_of ws 5 i) (coords_of cs 5 i)) ≡ true = body_part (rule_in (row_of ws 5 i) (coords_of cs 5 i)) (record_at rule_within rule_in ws cs 5 (rules_within (map_of ws cs) ok.map) i hi) in
          leb-true (get_or (row_of ws 5 i) 6 0) 64 (rw (k, t, line_size (coords_of cs 5 i) (get_or (row_of ws 5 i) 6 0)) at w);
    }

-- ---- one rule

module _ (ws : List ℕ) (i s : ℕ) (lanes : List ℕ) (l : Lifting) (e : LiftRead ws i s lanes l) where
  pub gone_here_lem : l.lift ≡ Gone → (h : RuleHead) → HeadRead (row_of ws 5 i) h → ShapesFew ws → i < count_of ws 5 → (p : ℕ) → p ≡ head_points h → GoneAt ws i s lanes (record { rules = 1; points = p })
  unfolding lifted total
  gone_here_lem q h eh few hi p ep =
      let a : (c : List Float) → light.gone ≡ lift s lanes (rule_in (row_of ws 5 i) c) = λ c. rw q at (e.answer c) in
      record {
        rules = λ c. rw (← a c);
        points = λ c. rw (← a c, ep, zero-add) (head_points_lem (row_of ws 5 i) h eh c);
        one = omega arith;
        few = rw ep (head_few ws few i hi h eh);
      }

  pub gone_kept : l.lift ≡ Kept → GoneAt ws i s lanes (record { rules = 0; points = 0 })
  unfolding lifted total
  gone_kept q =
      let a : (c : List Float) → light.kept ≡ lift s lanes (rule_in (row_of ws 5 i) c) = λ c. rw q at (e.answer c) in
      record { rules = λ c. rw (← a c); points = λ c. rw (← a c, add-zero, add-zero); one = omega arith; few = omega arith }

  pub gone_eased : l.lift ≡ Eased → GoneAt ws i s lanes (record { rules = 0; points = 0 })
  unfolding lifted total rule_points
  gone_eased q =
      let a : (c : List Float) → light.eased (entries_of l.left) ≡ lift s lanes (rule_in (row_of ws 5 i) c) = λ c. rw q at (e.answer c) in
      record { rules = λ c. rw (← a c); points = λ c. rw (← a c, add-zero, add-zero); one = omega arith; few = omega arith }

-- ---- the rules that were passed

-- the first n rules
abbrev pub first_rules : List ℕ → List Float → ℕ → List Rule
first_rules ws cs n = list_to (λ j. rule_in (row_of ws 5 j) (coords_of cs 5 j)) n

pub all_rules : (ws : List ℕ) (cs : List Float) (n : ℕ) → n ≡ count_of ws 5 → (map_of ws cs).rules ≡ first_rules ws cs n
unfolding map_of records_of
all_rules ws cs n e = rw e

pub joined_more : {A B : Type 0} (f : A → List B) (xs : List A) (x : A) → joined f (xs ++ (x ∷ [])) ≡ joined f xs ++ f x
unfolding joined
joined_more f [] x = append-nil (f x)
joined_more f (y ∷ xs) x = rw (joined_more f xs x) (sym (append_assoc (f y) (joined f xs) (f x)))

pub total_joins : {A : Type 0} (f : A → ℕ) (xs ys : List A) → total f (xs ++ ys) ≡ total f xs + total f ys
unfolding total
total_joins f [] ys = sym (zero-add (total f ys))
total_joins f (x ∷ xs) ys = rw (total_joins f xs ys) (sym (add_assoc (f x) (total f xs) (total f ys)))

pub joined_next : {B : Type 0} (f : Rule → List B) (ws : List ℕ) (cs : List Float) (i : ℕ) → joined f (first_rules ws cs (i + 1)) ≡ joined f (first_rules ws cs i) ++ f (rule_in (row_of ws 5 i) (coords_of cs 5 i))
unfolding list_to
joined_next f ws cs i = rw (add-one i) (joined_more f (first_rules ws cs i) (rule_in (row_of ws 5 i) (coords_of cs 5 i)))

pub rules_few : (ws : List ℕ) → ReadableWords ws → count_of ws 5 ≤ 128
rules_few ws ok = omega (arith, ok.sized.counts 5 (omega arith), rule_limit)

pub record Freeing (ws : List ℕ) (s : ℕ) (lanes : List ℕ) (n i rules points : ℕ) : Type 0 where
  pub within : i ≤ n
  pub rules_few : rules ≤ i
  pub points_few : points ≤ 64 * i
  pub rules_less : (cs : List Float) → i ≡ length (lifted_rules s lanes (first_rules ws cs i)) + rules
  pub points_less : (cs : List Float) → total rule_points (first_rules ws cs i) ≡ total rule_points (lifted_rules s lanes (first_rules ws cs i)) + points

pub freeing_start : (ws : List ℕ) (s : ℕ) (lanes : List ℕ) (n : ℕ) → Freeing ws s lanes n 0 0 0
unfolding list_to joined total
freeing_start ws s lanes n = record { within = omega arith; rules_few = omega arith; points_few = omega arith; rules_less = λ cs. refl; points_less = λ cs. refl }

total_next : (ws : List ℕ) (cs : List Float) (i : ℕ) → total rule_points (first_rules ws cs (i + 1)) ≡ total rule_points (first_rules ws cs i) + rule_points (rule_in (row_of ws 5 i) (coords_of cs 5 i))
unfolding list_to total
total_next ws cs i = rw (add-one i) (total_joins rule_points (first_rules ws cs i) (rule_in (row_of ws 5 i) (coords_of cs 5 i) ∷ []) ∙ rw add-zero)

module _ (ws : List ℕ) (s : ℕ) (lanes : List ℕ) (n i rules points : ℕ) (inv : Freeing ws s lanes n i rules points) where
  pub freeing_next : i < n → (f : Freed) → GoneAt ws i s lanes f → Freeing ws s lanes n (i + 1) (rules + f.rules) (points + f.points)
  freeing_next h f e =
      let g : Rule → List Rule = λ r. lifted r (lift s lanes r) in
      record {
        within = omega arith;
        rules_few = omega (arith, inv.rules_few, e.one);
        points_few = omega (arith, inv.points_few, e.few);
        rules_less = λ cs. rw (joined_next g ws cs i)
            (omega (arith, inv.rules_less cs, e.rules (coords_of cs 5 i), length-append (joined g (first_rules ws cs i)) (g (rule_in (row_of ws 5 i) (coords_of cs 5 i)))));
        points_less = λ cs. rw (joined_next g ws cs i)
            (omega (arith, total_next ws cs i, inv.points_less cs, e.points (coords_of cs 5 i), total_joins rule_points (joined g (first_rules ws cs i)) (g (rule_in (row_of ws 5 i) (coords_of cs 5 i)))));
      }

  pub freeing_end : n ≤ i → n ≡ count_of ws 5 → GoneRead ws s lanes (record { rules = rules; points = points })
  freeing_end h e =
      let w = inv.within in
      let q : i ≡ count_of ws 5 = omega arith in
      record {
        rules = λ cs. rw (all_rules ws cs i q) (length-list_to _ i ∙ inv.rules_less cs);
        points = λ cs. rw (all_rules ws cs i q) (inv.points_less cs);
      }
