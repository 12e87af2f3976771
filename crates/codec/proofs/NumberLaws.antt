-- Whole numbers in a slice: what the loops of `read_number` and `write_number` keep, and how it goes on.
use Prim.Native.Nat.{ℕ, zero, suc, ◌+◌, ◌-◌, ◌*◌, ◌/◌, ◌%◌, ◌^◌, ◌≤◌, ◌<◌}
use mathlib.Core.Path.{◌≡◌, refl, sym, ap, ◌∙◌}
use mathlib.Core.List.{◌++◌}
use native.Mathlib.Omega.{arith}
use native.Mathlib.Nat.{pow-suc, pow-le-pow_right, mul-le-mul_right}
use native.Mathlib.Numerals.{add-one}
use lib.Dec.{ltb}
use lib.ListN.{length, get_or, drop, set, length-set, length-append, length-drop, drop_of_length-le}
use lib.Seq.{drop-cons, sets}
use borrow.Author.Tests.{lt-ltb, le-ltb, ltb-true}
use Rattle.codec.specs.Format.{Bytes, fault, got}
use Rattle.codec.specs.Answers.{NumberRead, Wrote}
use Rattle.codec.specs.Number.{number, groups, groups_from, last_group, split}
use Rattle.std.specs.Prelude.{Some, None}
use Rattle.std.proofs.lemmas.Option.{some_pair_parts}

-- a number that ends at n, within the bytes: its written form stands there, so n is the place after it
number_got : (s : Bytes) (at v n : ℕ) → at ≤ n → n ≤ length s → got v (drop n s) ≡ number.read (drop at s) → NumberRead s at (Some (v, n))
number_got s at v n l h e =
    let form : length (drop at s) ≡ length (number.write v ++ drop n s) = ap length (number.back (drop at s) v (drop n s) (sym e)).1 in
    record {
      read = e;
      place = λ u m f.
          let p = some_pair_parts v u n m f in
          rw (← p.0, ← p.1) (omega (arith, simp (length-append, length-drop) at form));
    }

pub number_fault : (s : Bytes) (at : ℕ) → fault ≡ number.read (drop at s) → NumberRead s at None
number_fault s at e = record { read = e; place = λ v n f. absurd (let z : ◌≡◌ {A = ℕ} 0 1 = cc in let q : ⊥ = omega arith in q) }

-- After k groups, which give n, the rest of the number starts at i with the given weight.
pub record Reading (s : Bytes) (at n weight i k : ℕ) : Type 0 where
  pub few : k ≤ 9
  pub weighs : weight ≡ 128 ^ k
  pub low : n < weight
  pub on : at ≤ i
  pub goes : groups_from (suc (9 - k)) weight n (drop i s) ≡ number.read (drop at s)

pub starts : (s : Bytes) (at : ℕ) → Reading s at 0 1 at 0
unfolding number
starts s at = record { few = omega arith; weighs = refl; low = omega arith; on = omega arith; goes = refl }

module _ (s : Bytes) (at n w i k : ℕ) (r : Reading s at n w i k) where
  pub short : length s ≤ i → fault ≡ number.read (drop at s)
  unfolding groups_from
  short h = rw (drop_of_length-le s h) at r.goes

  module _ (h : i < length s) where
    abbrev b : ℕ
    b = get_or s i 0

    last : b < 128 → number.read (drop at s) ≡ last_group w n b (drop (i + 1) s)
    unfolding groups_from
    last l = sym r.goes ∙ rw (drop-cons s i 0 h, lt-ltb (get_or s i 0) 128 l, add-one i)

    ends_here : (v : ℕ) → got v (drop (i + 1) s) ≡ number.read (drop at s) → NumberRead s at (Some (v, i + 1))
    ends_here v e = number_got s at v (i + 1) (omega (arith, r.on)) (omega arith) e

    pub alone : b < 128 → k ≡ 0 → NumberRead s at (Some (b, i + 1))
    unfolding last_group
    alone l z =
        let w1 : w ≡ 1 = r.weighs ∙ ap (λ m. 128 ^ m) z in
        let n0 : n ≡ 0 = omega (arith, r.low) in
        let e : 0 + b * 1 ≡ b = omega arith in
        ends_here b (rw (last l, w1, n0, e, lt-ltb b (2 ^ 64) (omega arith)))

    heavy : (k ≡ 0 → ⊥) → 2 ≤ w
    heavy z = omega (arith, r.weighs, pow-le-pow_right {n = 128} (omega arith) {i = 1} {j = k} (omega arith))

    pub small : k < 9 → w ≤ 2 ^ 56
    small f = omega (arith, r.weighs, pow-le-pow_right {n = 128} (omega arith) {i = k} {j = 8} (omega arith))

    pub product : b < 128 → k < 9 → b * w < 2 ^ 64
    product l f = omega (arith, small f, mul-le-mul_right {m = b} {n = 127} w (omega arith))

    pub sum : b < 128 → k < 9 → n + b * w < 2 ^ 64
    sum l f = omega (arith, small f, r.low, mul-le-mul_right {m = b} {n = 127} w (omega arith))

    pub zero_last : b < 128 → (k ≡ 0 → ⊥) → b ≡ 0 → fault ≡ number.read (drop at s)
    unfolding last_group
    zero_last l z e = rw (last l, le-ltb w 2 (heavy z), e)

    pub on_top : b < 128 → (k ≡ 0 → ⊥) → (b ≡ 0 → ⊥) → k < 9 → NumberRead s at (Some (n + b * w, i + 1))
    unfolding last_group
    on_top l z e f = ends_here (n + b * w) (rw (last l, le-ltb w 2 (heavy z), lt-ltb 0 b (omega arith), lt-ltb (n + b * w) (2 ^ 64) (sum l f)))

    pub part : k < 9 → b % 128 * w < 2 ^ 64
    part f = omega (arith, small f, mul-le-mul_right {m = b % 128} {n = 127} w (omega arith))

    pub parts : k < 9 → n + b % 128 * w < w * 128
    parts f = omega (arith, r.low, mul-le-mul_right {m = b % 128} {n = 127} w (omega arith))

    pub part-sum : k < 9 → n + b % 128 * w < 2 ^ 64
    part-sum f = omega (arith, small f, parts f)

    pub heavier : k < 9 → w * 128 < 2 ^ 64
    heavier f = omega (arith, small f)

    pub more : k < 9 → 128 ≤ b → b < 256 → Reading s at (n + b % 128 * w) (w * 128) (i + 1) (k + 1)
    unfolding groups_from
    more f l u =
        let e : 9 - k ≡ suc (9 - (k + 1)) = omega arith in
        record {
          few = omega arith;
          weighs = rw (add-one k, pow-suc, r.weighs);
          low = parts f;
          on = omega (arith, r.on);
          goes = rw (← e, add-one i) (rw (drop-cons s i 0 h, le-ltb b 128 l, lt-ltb b 256 u) at r.goes);
        }

    -- the tenth group is 1

    top : 9 ≤ k → (k ≡ 9) × (w ≡ 2 ^ 63)
    top f = let e : k ≡ 9 = omega (arith, r.few) in (e, r.weighs ∙ ap (λ m. 128 ^ m) e)

    pub top_sum : 9 ≤ k → n + w < 2 ^ 64
    top_sum f = omega (arith, (top f).1, r.low)

    pub tenth : 9 ≤ k → b ≡ 1 → NumberRead s at (Some (n + w, i + 1))
    unfolding last_group
    tenth f e =
        let m : 1 * w ≡ w = omega arith in
        ends_here (n + w) (rw (last (omega arith), e, m, le-ltb w 2 (omega (arith, (top f).1)), lt-ltb (n + w) (2 ^ 64) (top_sum f)))

    pub no_tenth : 9 ≤ k → (b ≡ 1 → ⊥) → b < 256 → fault ≡ number.read (drop at s)
    unfolding groups_from last_group
    no_tenth f e u =
        split (ltb b 128)
        (λ t.
        let big : (b ≡ 0 → ⊥) → 2 ^ 64 ≤ n + b * w = λ z. omega (arith, (top f).1, mul-le-mul_right {m = 2} {n = b} w (omega arith)) in
        rw (last (ltb-true b 128 t), le-ltb w 2 (omega (arith, (top f).1)))
        (split (ltb 0 b)
        (λ p. rw (p, le-ltb (n + b * w) (2 ^ 64) (big (λ z. omega (arith, ltb-true 0 b p)))))
        (λ p. rw p)))
        (λ t.
        let z : 9 - k ≡ 0 = omega arith in
        rw (z, drop-cons s i 0 h, t, lt-ltb b 256 u) at r.goes)

pub ruleset reading = (number_fault, starts, short, alone, product, sum, zero_last, on_top, part, part-sum, heavier, more, top_sum, tenth, no_tenth)

-- ---- writing

-- The groups of rest from i on make it the written form of n from at on.
pub record Writing (old : Bytes) (at n : ℕ) (out : Bytes) (rest i : ℕ) : Type 0 where
  pub k : ℕ
  pub low : rest < 128 ^ suc k
  pub place : i + length (groups (suc k) rest) ≡ at + length (number.write n)
  pub room : at + length (number.write n) ≤ length old
  pub long : length out ≡ length old
  pub made : sets out i (groups (suc k) rest) ≡ sets old at (number.write n)

pub begin : (old : Bytes) (at n : ℕ) → n < 2 ^ 64 → at + length (number.write n) ≤ length old → Writing old at n old n at
unfolding number
begin old at n f h = record { k = 9; low = omega arith; place = refl; room = h; long = refl; made = refl }

module _ (old : Bytes) (at n : ℕ) (out : Bytes) (rest i : ℕ) where
  next_from : (k : ℕ) → 128 ≤ rest → rest < 128 ^ suc k → i + length (groups (suc k) rest) ≡ at + length (number.write n)
      → at + length (number.write n) ≤ length old → length out ≡ length old → sets out i (groups (suc k) rest) ≡ sets old at (number.write n)
      → Writing old at n (set out i (128 + rest % 128)) (rest / 128) (i + 1)
  unfolding groups
  next_from zero big low place room long made = absurd (let z : ⊥ = omega arith in z)
  next_from (suc k) big low place room long made =
      let t = le-ltb rest 128 big in
      record {
        k = k;
        low = omega (arith, rw pow-suc at low);
        place = omega (arith, rw t at place);
        room = room;
        long = length-set out i (128 + rest % 128) ∙ long;
        made = rw add-one (rw t at made);
      }

  module _ (w : Writing old at n out rest i) where
    pub next : 128 ≤ rest → Writing old at n (set out i (128 + rest % 128)) (rest / 128) (i + 1)
    next big = next_from w.k big w.low w.place w.room w.long w.made

    pub ends : rest < 128 → Wrote (number.write n) old at (i + 1) (set out i rest)
    unfolding groups
    ends l = record { next = omega (arith, rw (lt-ltb rest 128 l) at w.place); made = rw (lt-ltb rest 128 l) at w.made }

    pub inside : i < length out
    unfolding groups
    inside =
        split (ltb rest 128)
        (λ t. omega (arith, rw t at w.place, w.room, w.long))
        (λ t. omega (arith, rw t at w.place, w.room, w.long))

pub ruleset writing = (begin, next, ends, inside)

-- ---- size

-- k bytes for the groups before rest, whose own groups make it the size of n
pub record Sizing (n rest k : ℕ) : Type 0 where
  pub left : ℕ
  pub low : rest < 128 ^ suc left
  pub few : k + left ≤ 10
  pub sum : k + length (groups (suc left) rest) ≡ suc (length (number.write n))

pub size_begins : (n : ℕ) → n < 2 ^ 64 → Sizing n n 1
unfolding number
size_begins n f = record { left = 9; low = omega arith; few = omega arith; sum = omega arith }

size_next_from : (n rest k left : ℕ) → 128 ≤ rest → rest < 128 ^ suc left → k + left ≤ 10 → k + length (groups (suc left) rest) ≡ suc (length (number.write n)) → Sizing n (rest / 128) (k + 1)
unfolding groups
size_next_from n rest k zero big low few sum = absurd (let z : ⊥ = omega arith in z)
size_next_from n rest k (suc left) big low few sum =
    record { left = left; low = omega (arith, rw pow-suc at low); few = omega arith; sum = omega (arith, rw (le-ltb rest 128 big) at sum) }

module _ (n rest k : ℕ) (w : Sizing n rest k) where
  pub size_next : 128 ≤ rest → Sizing n (rest / 128) (k + 1)
  size_next big = size_next_from n rest k w.left big w.low w.few w.sum

  pub size_ends : rest < 128 → k ≡ length (number.write n)
  unfolding groups
  size_ends l = omega (arith, rw (lt-ltb rest 128 l) at w.sum)

pub ruleset sizing = (size_begins, size_next, size_ends)

groups_short : (k n : ℕ) → length (groups k n) ≤ k
unfolding groups
groups_short zero n = omega arith
groups_short (suc k) n = split (ltb n 128) (λ t. rw t (omega arith)) (λ t. rw t (omega (arith, groups_short k (n / 128))))

-- ten bytes at most
pub number_short : (n : ℕ) → length (number.write n) ≤ 10
unfolding number
number_short n = groups_short 10 n
