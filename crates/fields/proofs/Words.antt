-- Words and lists of words, read into a row.
use Prim.Native.Nat.{ℕ, ◌+◌, ◌≤◌, ◌<◌}
use mathlib.Core.Path.{◌≡◌, ◌∙◌}
use mathlib.Core.Logic.{◌⊎◌, inl, inr}
use mathlib.Core.List.{List, []}
use native.Mathlib.Omega.{arith}
use lib.ListN.{length, get_or, set}
use lib.Seq.{get_or-set_same, set-set}
use borrow.Author.Tests.{le-leb, lt-leb}
use Rattle.codec.specs.Format.{Bytes, fault, only}
use Rattle.codec.specs.Number.{number}
use Rattle.codec.specs.Answers.{NumberRead}
use Rattle.map.specs.MapFile.{numbers}
use Rattle.map.specs.Tables.{list_at}
use Rattle.fields.specs.Fields.{Place, read_at, Changed, range, largest, Word, Numbers}
use Rattle.std.specs.Prelude.{Option, Some, None}
use Rattle.fields.proofs.Places.{unchanged, changed_at, changed_both, range_any, onto, Listed, listed_starts, listed-all, listed_more, listed_ends}

-- ---- one word

module _ (least most : ℕ) (s : Bytes) (p : Place) (ws : List ℕ) (o : ℕ) (h : o < length ws) where
  -- nothing was read
  lost : fault ≡ read_at (range least most) s p → Word least most s p ws o None (set ws o 0)
  lost e = record { words = changed_at ws o 0; few = rw (get_or-set_same ws o 0 0 h) (omega arith); is = e }

  pub word_none : p ≡ None → Word least most s p ws o None (set ws o 0)
  word_none e = lost (rw e)

  module _ (i : ℕ) (e : p ≡ Some i) (a : Option (ℕ × ℕ)) (ea : NumberRead s i a) where
    pub word_cut : a ≡ None → Word least most s p ws o None (set ws o 0)
    unfolding range only
    word_cut f = lost (rw (e, ← ea.read, f))

    module _ (n next : ℕ) (fa : a ≡ Some (n, next)) where
      pub word_off : (n < least) ⊎ ((least ≤ n) × (most < n)) → Word least most s p ws o None (set ws o 0)
      unfolding range only
      word_off (inl l) = lost (rw (e, ← ea.read, fa, lt-leb least n l))
      word_off (inr l) = lost (rw (e, ← ea.read, fa, le-leb least n l.0, lt-leb n most l.1))

      pub word_got : least ≤ n → n ≤ most → Word least most s p ws o (Some next) (set (set ws o 0) o n)
      unfolding range only
      word_got l m =
          let v : get_or (set ws o n) o 0 ≡ n = get_or-set_same ws o n 0 h in
          rw (set-set ws o 0 n)
          (record { words = changed_at ws o n; few = rw v m; is = rw (v, e, ← ea.read, fa, le-leb least n l, le-leb n most m) })

pub ruleset reading_word = (word_none, word_cut, word_off, word_got)

-- ---- a list of words

-- k of n entries stand after the count; the words were ws₀, and the place q₀, where the entries begin
pub record Entries (s : Bytes) (ws₀ : List ℕ) (o : ℕ) (q₀ : Place) (n : ℕ) (ws : List ℕ) (q : Place) (k : ℕ) : Type 0 where
  pub room : o + 17 ≤ length ws
  pub low : n ≤ 16
  pub changed : Changed ws₀ (o + 1) (o + 17) ws
  pub items : Listed number s (onto number [] n s q₀) n k q (λ i. get_or ws (o + 1 + i) 0)

module _ (s : Bytes) (p : Place) (old ws₀ : List ℕ) (o : ℕ) (q₀ : Place) (x : Word 0 16 s p old o q₀ ws₀) where
  pub entries_start : o + 17 ≤ length old → Entries s ws₀ o q₀ (get_or ws₀ o 0) ws₀ q₀ 0
  entries_start h = record { room = omega (arith, x.words.long); low = x.few; changed = unchanged ws₀ (o + 1) (o + 17); items = listed_starts number s (get_or ws₀ o 0) q₀ (λ i. get_or ws₀ (o + 1 + i) 0) }

  pub entries_end : (ws : List ℕ) (q : Place) (k : ℕ) → Entries s ws₀ o q₀ (get_or ws₀ o 0) ws q k → get_or ws₀ o 0 ≤ k → Numbers s p old o q ws
  unfolding list_at numbers
  entries_end ws q k w h =
      let e : get_or ws o 0 ≡ get_or ws₀ o 0 = w.changed.kept 0 o (inl (omega arith)) in
      record {
        words = changed_both old ws₀ ws o (o + 17) o (o + 1) (o + 1) (o + 17) x.words w.changed (omega arith) (omega arith) (omega arith) (omega arith);
        few = omega (arith, e, x.few);
        is = rw e (listed_ends number s _ (get_or ws₀ o 0) k q _ w.items h ∙ listed-all number s 16 (get_or ws₀ o 0) p q₀ x.is);
      }

module _ (s : Bytes) (ws₀ : List ℕ) (o : ℕ) (q₀ : Place) (n : ℕ) (ws : List ℕ) (q : Place) (k : ℕ) (w : Entries s ws₀ o q₀ n ws q k) where
  pub entries_more : k < n → (q' : Place) (ws' : List ℕ) → Word 0 largest s q ws (o + 1 + k) q' ws' → Entries s ws₀ o q₀ n ws' q' (k + 1)
  entries_more h q' ws' x =
      record {
        room = omega (arith, w.room, x.words.long);
        low = w.low;
        changed = changed_both ws₀ ws ws' (o + 1) (o + 17) (o + 1) (o + 17) (o + 1 + k) (o + 1 + k + 1) w.changed x.words (omega arith) (omega arith) (omega arith) (omega (arith, w.low));
        items = listed_more number s _ n k q _ w.items q' (λ i. get_or ws' (o + 1 + i) 0) h (λ i l. x.words.kept 0 (o + 1 + i) (inl (omega arith))) (x.is ∙ range_any s q);
      }

pub ruleset reading_numbers = (entries_start, entries_more, entries_end)
