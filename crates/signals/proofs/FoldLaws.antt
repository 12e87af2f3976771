-- A light's set has few entries, so a fold with room for few takes it. Assumes nothing.
use Prim.Native.Nat.{ℕ, ◌≤◌}
use mathlib.Core.Path.{◌≡◌}
use mathlib.Core.Bool.{Bool, true, false, not, cond}
use Rattle.std.specs.Prelude.{Option, None, Some, Ok, Result}
use mathlib.Core.List.{List, [], ◌∷◌, ◌++◌}
use native.Mathlib.Omega.{arith}
use lib.Ieee.{Float}
use lib.ListN.{length, length-append}
use Rattle.rows.specs.Lists.{joined}
use Rattle.map.specs.Record.{Rule}
use Rattle.map.specs.Entity.{EntityRef, entity}
use Rattle.map.specs.Tables.{map_of}
use Rattle.map.proofs.UpdateLaws.{rule_limit}
use Rattle.changes.specs.Layout.{change_set_of}
use Rattle.place.specs.Readable.{ReadableWords}
use Rattle.edit.specs.Light.{Lift, kept, eased, gone, lift, eased_ref, gone_ref}
use Rattle.finishing.specs.Finish.{Few, FoldRoom, Settles}
use Rattle.finishing.proofs.EndLaws.{room_settles}
use Rattle.light_draft.specs.declared.Light.{Light}
use Rattle.light_draft.specs.Drafting.{line_in, notes, created, light_set, SetDrafted}
use Rattle.light_store.proofs.StoreLaws.{rules_are}
use Rattle.signals.specs.Signal.{LightSettles}
use Rattle.refusal.specs.declared.Refusal.{Refusal}

one_at_most : (b : Bool) (a : EntityRef) → length (cond b (a ∷ []) []) ≤ 1
one_at_most true a = omega arith
one_at_most false a = omega arith

joined_few : {A B : Type 0} (f : A → List B) (xs : List A) → ((x : A) → length (f x) ≤ 1) → length (joined f xs) ≤ length xs
unfolding joined
joined_few f [] h = omega arith
joined_few f (x ∷ xs) h = omega (arith, length-append (f x) (joined f xs), h x, joined_few f xs h)

-- at most one entry a rule
notes_few : (f : Rule → Lift → List EntityRef) → ((r : Rule) (t : Lift) → length (f r t) ≤ 1) → (o : Option ℕ) (lanes : List ℕ) (rs : List Rule) → length (notes f o lanes rs) ≤ length rs
notes_few f h None lanes rs = omega arith
notes_few f h (Some s) lanes rs = joined_few (λ r. f r (lift s lanes r)) rs (λ r. h r (lift s lanes r))

eased_one : (r : Rule) (t : Lift) → length (eased_ref r t) ≤ 1
unfolding eased_ref
eased_one r kept = omega arith
eased_one r (eased ks) = omega arith
eased_one r gone = omega arith

gone_one : (r : Rule) (t : Lift) → length (gone_ref r t) ≤ 1
unfolding gone_ref
gone_one r kept = omega arith
gone_one r (eased ks) = omega arith
gone_one r gone = omega arith

few_entries : (l : Light) (clamped made : Bool) (lanes : List ℕ) (rs : List Rule) → length rs ≤ 128 → Few (light_set l clamped made lanes rs)
unfolding light_set
few_entries l clamped made lanes rs h = record {
  created = omega (
    arith,
    length-append (cond l.drawn (entity 5 l.line ∷ []) [] ++ (entity 6 l.signal ∷ [])) (cond (not l.joins) (entity 8 l.rule ∷ []) []),
    length-append (cond l.drawn (entity 5 l.line ∷ []) []) (entity 6 l.signal ∷ []),
    one_at_most l.drawn (entity 5 l.line),
    one_at_most (not l.joins) (entity 8 l.rule),
  );
  modified = omega (
    arith,
    length-append (cond l.joins (entity 8 l.rule ∷ []) []) (notes eased_ref (line_in l) lanes rs),
    one_at_most l.joins (entity 8 l.rule),
    notes_few eased_ref eased_one (line_in l) lanes rs,
  );
  deleted = omega (arith, notes_few gone_ref gone_one (line_in l) lanes rs);
}

module _ (ws f lanes : List ℕ) (l : Light) (clamped made : Bool) where
  rules_few : ReadableWords ws → (cs : List Float) → length (map_of ws cs).rules ≤ 128
  rules_few h cs = let z = h.sized.counts 5 (omega arith) in omega (arith, rules_are ws cs, rule_limit)

  pub fold_takes : ReadableWords ws → (b : Bool) → FoldRoom f l.late b → b ≡ true → LightSettles ws f lanes l clamped made (Ok tt)
  fold_takes w b h q = record {
    settles = λ cs.
        room_settles f l.late b h q (light_set l clamped made lanes (map_of ws cs).rules) (few_entries l clamped made lanes (map_of ws cs).rules (rules_few w cs));
  }

  pub fold_tried : (d : List ℕ) → SetDrafted ws lanes l clamped made d → (r : Result (Unit {0}) Refusal) → Settles f (change_set_of d) l.late r → LightSettles ws f lanes l clamped made r
  fold_tried d ht r h = record { settles = λ cs. rw (ht.set cs) at h }
