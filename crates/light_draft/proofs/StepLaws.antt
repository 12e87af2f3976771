-- The steps of a light's numbers and of its change set. Assumes nothing.
use Prim.Native.Nat.{◌-◌, ℕ, zero, suc, ◌+◌, ◌^◌, ◌≤◌, ◌<◌, max}
use mathlib.Core.Path.{◌≡◌, refl, ◌∙◌}
use mathlib.Core.Bool.{Bool, true, false, not, ◌&&◌}
use Rattle.std.specs.Prelude.{Option, None, Some}
use mathlib.Core.List.{List, [], ◌∷◌, append-nil}
use native.Mathlib.Omega.{arith}
use borrow.Author.Tests.{le-leb, lt-leb, eqb-true, eqb-false}
use lib.Dec.{eqb}
use lib.ListN.{get_or}
use Rattle.map.specs.Entity.{EntityRef, entity}
use Rattle.changes.specs.ChangeSet.{ChangeSet}
use Rattle.changes.specs.Layout.{count_in, change_set_of}
use Rattle.sets.specs.Tables.{Roomy}
use Rattle.building.specs.Build.{with_entry, Cleared, EntryAdded, WarningAdded}
use Rattle.lighting.specs.declared.LinePlan.{LinePlan}
use Rattle.lifting.specs.Noting.{AllFit, LiftsNoted}
use Rattle.light_draft.specs.declared.LineNumber.{LineNumber}
use Rattle.light_draft.specs.declared.Light.{Light}
use Rattle.light_draft.specs.Drafting.{one_if, late_of, LineNumbered, NumbersMade, LightNumbered, light_set, with_entries, PushAsks, PushedIf, WarnAsks, WarnedIf, NotedIf, SetDrafted}

-- ---- numbers

module _ (l : LineNumber) (first more : ℕ) (e : more ≡ one_if l.drawn) where
  pub new_late : 18446744073709551613 - more < first
      → NumbersMade l first None (record { has_line = l.has_line; line = l.line; drawn = l.drawn; signal = first; rule = first; joins = false; late = true })
  new_late h = let t : late_of l first None ≡ true = le-leb (2 ^ 64) (first + (one_if l.drawn + 2)) (omega arith) in record { answer = rw t }

  pub new_right : first ≤ 18446744073709551613 - more
      → more ≤ 1 → NumbersMade l first None (record { has_line = l.has_line; line = l.line; drawn = l.drawn; signal = first + more; rule = first + more + 1; joins = false; late = false })
  new_right h k = let t : late_of l first None ≡ false = lt-leb (2 ^ 64) (first + (one_if l.drawn + 2)) (omega arith) in record { answer = rw (t, e) }

  pub joined_late : (g : ℕ) → 18446744073709551614 - more < first
      → NumbersMade l first (Some g) (record { has_line = l.has_line; line = l.line; drawn = l.drawn; signal = first; rule = g; joins = true; late = true })
  joined_late g h = let t : late_of l first (Some g) ≡ true = le-leb (2 ^ 64) (first + (one_if l.drawn + 1)) (omega arith) in record { answer = rw t }

  pub joined_right : (g : ℕ) → first ≤ 18446744073709551614 - more
      → more ≤ 1 → NumbersMade l first (Some g) (record { has_line = l.has_line; line = l.line; drawn = l.drawn; signal = first + more; rule = g; joins = true; late = false })
  joined_right g h k = let t : late_of l first (Some g) ≡ false = lt-leb (2 ^ 64) (first + (one_if l.drawn + 1)) (omega arith) in record { answer = rw (t, e) }

pub one_few : (b : Bool) (n : ℕ) → n ≡ one_if b → n ≤ 1
one_few true n e = omega arith
one_few false n e = omega arith

pub light_numbered : (next first : ℕ) (plan : LinePlan) (group : Option ℕ) (l : LineNumber) (r : Light) → first ≡ max 1 next → LineNumbered plan first l → NumbersMade l first group r → LightNumbered next plan group r
light_numbered next first plan group l r e a b = record { answer = b.answer ∙ rw (a.answer, e) }

-- ---- counts

abbrev pub Few : ℕ → List ℕ → Type 0
Few n d = (k : ℕ) → k < 4 → count_in d k ≤ n

pub few_none : (d : List ℕ) → Cleared d → Few 0 d
few_none d h k l = omega (arith, h.none k l)

pub few_more : (n : ℕ) (d d' : List ℕ) → Few n d → ((k : ℕ) → k < 4 → count_in d' k ≤ count_in d k + 1) → Few (suc n) d'
few_more n d d' f h k l = omega (arith, f k l, h k l)

pub push_asks : (n : ℕ) (d : List ℕ) (l : ℕ) → Few n d → Roomy d → n < 32 → l < 2 → PushAsks d l
push_asks n d l f r h g = record { room = r; list = g; few = λ k b. omega (arith, f k b) }

pub push_room : (d : List ℕ) (l : ℕ) → PushAsks d l → Roomy d × (count_in d l < 512)
push_room d l h = let g = h.list in (h.room, omega (arith, h.few l (omega arith)))

pub warn_room : (d : List ℕ) → WarnAsks d → Roomy d × (count_in d 3 < 160)
warn_room d h = (h.room, omega (arith, h.few 3 (omega arith)))

pub warn_asks : (n : ℕ) (d : List ℕ) → Few n d → Roomy d → n < 32 → WarnAsks d
warn_asks n d f r h = record { room = r; few = λ k b. omega (arith, f k b) }

pub all_fit : (n : ℕ) (d : List ℕ) → Few n d → Roomy d → n < 32 → AllFit d
all_fit n d f r h = record { room = r; modified = omega (arith, f 1 (omega arith)); deleted = omega (arith, f 2 (omega arith)); warnings = omega (arith, f 3 (omega arith)) }

-- ---- entries

nothing_more : (c : ChangeSet) (l : ℕ) → with_entries c l [] ≡ c
nothing_more c zero = rw (append-nil c.created)
nothing_more c (suc l) = rw (append-nil c.modified)

pub push_none : (d : List ℕ) (b : Bool) (l : ℕ) (a : EntityRef) → PushAsks d l → b ≡ false → PushedIf d b l a d
push_none d b l a h e = record { room = h.room; set = rw (e, nothing_more (change_set_of d) l); counts = λ k g. omega arith }

pub push_some : (d : List ℕ) (b : Bool) (l : ℕ) (a : EntityRef) (d' : List ℕ) → PushAsks d l → b ≡ true → EntryAdded d l a d' → PushedIf d b l a d'
push_some d b l a d' h e p = record { room = p.room; set = rw e (p.set ∙ same l h.list); counts = λ k g. count k g (eqb k l) refl }
  where
    same : (l : ℕ) → l < 2 → with_entry (change_set_of d) l a ≡ with_entries (change_set_of d) l (a ∷ [])
    same zero g = refl
    same (suc zero) g = refl
    same (suc (suc l)) g = absurd (let z : ⊥ = omega arith in z)

    count : (k : ℕ) → k < 4 → (t : Bool) → eqb k l ≡ t → count_in d' k ≤ count_in d k + 1
    count k g true q = let z = eqb-true k l q in rw z (omega (arith, p.count))
    count k g false q = omega (arith, p.others k g (eqb-false k l q))

pub warn_none : (d : List ℕ) (b : Bool) (c k x : ℕ) → WarnAsks d → b ≡ false → WarnedIf d b c k x d
warn_none d b c k x h e = record { room = h.room; set = rw (e, append-nil (change_set_of d).warnings); counts = λ k g. omega arith }

pub warn_some : (d : List ℕ) (b : Bool) (c k x : ℕ) (d' : List ℕ) → WarnAsks d → b ≡ true → WarningAdded d c k x d' → WarnedIf d b c k x d'
warn_some d b c k x d' h e p = record { room = p.room; set = rw e p.set; counts = λ j g. count j g (eqb j 3) refl }
  where
    count : (j : ℕ) → j < 4 → (t : Bool) → eqb j 3 ≡ t → count_in d' j ≤ count_in d j + 1
    count j g true q = let z = eqb-true j 3 q in rw z (omega (arith, p.count))
    count j g false q = let n = eqb-false j 3 q in omega (arith, p.others j (omega (arith, n)))

pub lifts_none : (ws : List ℕ) (b : Bool) (s : ℕ) (lanes d : List ℕ) → AllFit d → b ≡ false → NotedIf ws b s lanes d d
lifts_none ws b s lanes d h e = record {
  room = h.room;
  set = λ cs. rw (e, append-nil (change_set_of d).modified, append-nil (change_set_of d).deleted, append-nil (change_set_of d).warnings);
  counts = λ k g. omega arith;
}

pub lifts_some : (ws : List ℕ) (b : Bool) (s : ℕ) (lanes d d' : List ℕ) → b ≡ true → LiftsNoted ws s lanes d d' → NotedIf ws b s lanes d d'
lifts_some ws b s lanes d d' e p = record { room = p.room; set = λ cs. rw e (p.set cs); counts = p.counts }

-- ---- all of them

module _ (ws lanes : List ℕ) (l : Light) (clamped made b : Bool) (lane : ℕ) (eb : b ≡ (l.drawn && clamped)) (el : lane ≡ get_or lanes 0 0)
    (d0 d1 d2 d3 d4 d5 d6 d7 : List ℕ) (h0 : Cleared d0) (h1 : PushedIf d0 l.drawn 0 (entity 5 l.line) d1) (h2 : PushedIf d1 true 0 (entity 6 l.signal) d2)
    (h3 : PushedIf d2 (not l.joins) 0 (entity 8 l.rule) d3) (h4 : PushedIf d3 l.joins 1 (entity 8 l.rule) d4)
    (h5 : WarnedIf d4 b 1 1 lane d5) (h6 : WarnedIf d5 made 3 0 0 d6) (h7 : NotedIf ws l.has_line l.line lanes d6 d7) where
  pub set_drafted : SetDrafted ws lanes l clamped made d7
  unfolding light_set
  set_drafted =
      let f = few_more 5 d5 d6 (few_more 4 d4 d5 (few_more 3 d3 d4 (few_more 2 d2 d3 (few_more 1 d1 d2 (few_more 0 d0 d1 (few_none d0 h0) h1.counts) h2.counts) h3.counts) h4.counts) h5.counts) h6.counts in
      record {
        room = record { lists = h7.room; warnings = omega (arith, f 3 (omega arith), h7.counts 3 (omega arith)) };
        set = λ cs. h7.set cs ∙ rw (h6.set, h5.set, h4.set, h3.set, h2.set, h1.set, h0.set, eb, el);
      }
