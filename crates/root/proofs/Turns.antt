-- One turn of `whole_root`'s loop, and all of them, on plain numbers. Assumes nothing.
use mathlib.Core.Path.{◌≡◌, sym, ap, ◌∙◌, subst}
use Prim.Native.Nat.{ℕ, ◌+◌, ◌-◌, ◌*◌, ◌/◌, ◌%◌, ◌^◌, ◌≤◌, ◌<◌}
use native.Mathlib.Nat.{lt_of_lt_of_le, lt_of_le_of_lt, mul_assoc, mul_comm, mul_left_comm, add-mul, one-mul, mul-le-mul_right, mul-mul-mul_comm, lt_of_mul-lt-mul_right, mul-pos, mod-lt, div-le_self, div-div-eq-div-mul, le-div_iff_mul-le}
use native.Mathlib.Omega.{arith}
use lib.Pow.{pow-add, pow_mono, pow_pos, high, low, split, shr_lt, shl_lt, shl-shr, shl_exact}
use Rattle.root.specs.Whole.{IsRoot, Lengthened, Lengthens, Turned, Turns, Within}
use Rattle.root.proofs.Roots.{square_lt, next_square}

-- the highest j digits of 64 taken, the others moved up
cut : (x j up : ℕ) → x < 2 ^ 64 → up + j ≡ 64 → x * 2 ^ j ≡ x / 2 ^ up * 2 ^ 64 + x * 2 ^ j % 2 ^ 64
cut x j up h e =
    let p : 2 ^ 64 ≡ 2 ^ up * 2 ^ j = ap (λ (i : ℕ). 2 ^ i) (sym e) ∙ pow-add 2 up j in
    let y = x % 2 ^ up in
    let s : x / 2 ^ up * 2 ^ up + y ≡ x = split x up in
    let t : x * 2 ^ j ≡ x / 2 ^ up * 2 ^ up * 2 ^ j + y * 2 ^ j = ap (λ (i : ℕ). i * 2 ^ j) (sym s) ∙ add-mul (x / 2 ^ up * 2 ^ up) y (2 ^ j) in
    let m : x / 2 ^ up * 2 ^ up * 2 ^ j ≡ x / 2 ^ up * 2 ^ 64 = mul_assoc (x / 2 ^ up) (2 ^ up) (2 ^ j) ∙ ap (λ (i : ℕ). x / 2 ^ up * i) (sym p) in
    let b : y * 2 ^ j < 2 ^ 64 = subst (λ (i : ℕ). y * 2 ^ j < 2 ^ i) e (shl_lt up j (mod-lt x {m = 2 ^ up} (pow_pos up))) in
    let whole : x * 2 ^ j ≡ x / 2 ^ up * 2 ^ 64 + y * 2 ^ j = t ∙ ap (λ (i : ℕ). i + y * 2 ^ j) m in
    whole ∙ ap (λ (i : ℕ). x / 2 ^ up * 2 ^ 64 + i) (sym (ap (λ (i : ℕ). i % 2 ^ 64) whole ∙ low (x / 2 ^ up) 64 b))

-- both halves of what a turn takes
both : (h M left a low b left' L : ℕ) → left * L ≡ a * M + low → low * L ≡ b * M + left' → (h * M + left) * (L * L) ≡ ((h * L + a) * L + b) * M + left'
both h M left a low b left' L e f =
    let x : (h * M + left) * (L * L) ≡ h * M * (L * L) + left * (L * L) = add-mul (h * M) left (L * L) in
    let y : left * (L * L) ≡ a * M * L + low * L = sym (mul_assoc left L L) ∙ ap (λ (i : ℕ). i * L) e ∙ add-mul (a * M) low L in
    let z : (h * L + a) * L ≡ h * L * L + a * L = add-mul (h * L) a L in
    let v : ((h * L + a) * L + b) * M ≡ (h * L * L + a * L) * M + b * M = add-mul ((h * L + a) * L) b M ∙ ap (λ (i : ℕ). i * M + b * M) z in
    let w : (h * L * L + a * L) * M ≡ h * L * L * M + a * L * M = add-mul (h * L * L) (a * L) M in
    let p : h * M * (L * L) ≡ h * L * L * M = simp (mul_assoc, mul_comm, mul_left_comm) in
    let q : a * M * L ≡ a * L * M = simp (mul_assoc, mul_comm, mul_left_comm) in
    omega arith

-- ---- what a turn hands over

one_up : (j : ℕ) → j ≤ 54 → 1 * 2 ^ j % 2 ^ 64 ≡ 2 ^ j
one_up j h = shl_exact {a = 1} 1 j 64 (omega arith) (omega arith) ∙ one-mul (2 ^ j)

top : (x j : ℕ) → j ≤ 54 → x < 2 ^ 64 → x / 2 ^ (64 - j) < 2 ^ j
top x j h l = shr_lt j (64 - j) (subst (λ (i : ℕ). x < 2 ^ i) (let e : 64 ≡ j + (64 - j) = omega arith in e) l)

module _ (r rest left k count : ℕ) (p : Turns r rest k count) (l : left < 2 ^ 64) where
  abbrev j : ℕ
  j = count - k

  abbrev next : ℕ
  next = left * 2 ^ j % 2 ^ 64

  abbrev a : ℕ
  a = left / 2 ^ (64 - j)

  abbrev b : ℕ
  b = next / 2 ^ (64 - j)

  few : j ≤ 54
  few = omega (arith, p.fits)

  sum : k + j ≡ count
  sum = omega (arith, p.more)

  next_lt : next < 2 ^ 64
  next_lt = omega arith

  pub asks : Lengthens r rest (1 * 2 ^ j % 2 ^ 64) a b
  asks =
      let w = p.within in
      let z : 0 < 2 ^ k = pow_pos k in
      let c = w.above in
      let m : 2 ^ j ≤ 2 ^ k = pow_mono (omega (arith, p.most)) in
      let o : k + j ≤ 54 = omega (arith, p.more, p.fits) in
      let u : r * 2 ^ j < 2 ^ 54 = lt_of_lt_of_le (shl_lt k j w.below) (pow_mono o) in
      subst (λ (i : ℕ). Lengthens r rest i a b) (sym (one_up j few)) (record { some = omega arith; low = w.low; wide = omega arith; fits = u; first = top left j few l; second = top next j few next_lt })

  pub turned : (r' rest' : ℕ) → Lengthened r rest (1 * 2 ^ j % 2 ^ 64) a b r' rest' → Turned r rest left k r' rest' (next * 2 ^ j % 2 ^ 64) count
  turned r' rest' h = go (subst (λ (i : ℕ). Lengthened r rest i a b r' rest') (one_up j few) h)
    where
      go : Lengthened r rest (2 ^ j) a b r' rest' → Turned r rest left k r' rest' (next * 2 ^ j % 2 ^ 64) count
      go g =
          let up : 64 - j + j ≡ 64 = omega (arith, few) in
          let s = both (r * r + rest) (2 ^ 64) left a next b (next * 2 ^ j % 2 ^ 64) (2 ^ j) (cut left j (64 - j) l up) (cut next j (64 - j) next_lt up) in
          let x : 2 ^ k * 2 ^ j ≤ 2 * r * 2 ^ j = mul-le-mul_right (2 ^ j) p.within.above in
          let y = mul_assoc 2 r (2 ^ j) in
          let z = g.begins in
          let d : 2 ^ count ≡ 2 ^ k * 2 ^ j = ap (λ (i : ℕ). 2 ^ i) (sym sum) ∙ pow-add 2 k j in
          record { split = ap (λ (i : ℕ). i * 2 ^ 64 + next * 2 ^ j % 2 ^ 64) g.square ∙ sym s; low = g.low; above = omega arith }

-- ---- the loop

-- r is made of the first k digits of the root of w / 2 ^ 64, moved up by 2 * k
record Found (w r rest left k : ℕ) : Type 0 where
  within : Within r rest k
  word : w < 2 ^ 64
  free : left < 2 ^ 64
  split : w * (2 ^ k * 2 ^ k) ≡ (r * r + rest) * 2 ^ 64 + left

-- with so many turns to come
pub record Looped (w r rest left k turns : ℕ) : Type 0 where
  found : Found w r rest left k
  pub few : turns ≤ 6
  digits : k ≡ 53 / 2 ^ turns + 1

pub start : (m : ℕ) → 2 ^ 52 ≤ m → m < 2 ^ 54 → Looped (m * 1024) 1 (m * 1024 / 2 ^ 62 - 1) (m * 1024 * 4 % 2 ^ 64) 1 6
start m h l = record {
  found = record { within = record { low = omega arith; below = omega arith; above = omega arith }; word = omega arith; free = omega arith; split = omega arith };
  few = omega arith;
  digits = omega arith;
}

squares_lt : (w P r x M left : ℕ) → w < M → w * (P * P) ≡ (r * r + x) * M + left → 0 < P → r < P
squares_lt w P r x M left h e q = square_lt r P (lt_of_mul-lt-mul_right M (lt_of_le_of_lt a b))
  where
    a : r * r * M ≤ w * (P * P)
    a = let f = add-mul (r * r) x M in omega arith

    b : w * (P * P) < P * P * M
    b =
        let f : (w + 1) * (P * P) ≤ M * (P * P) = mul-le-mul_right {m = w + 1} {n = M} (P * P) (omega arith) in
        let g = add-mul w 1 (P * P) in
        let c = mul_comm M (P * P) in
        omega (arith, mul-pos q q)

-- the same radicand, further
further : (w r rest left k r' rest' left' k' : ℕ) → Found w r rest left k → Turned r rest left k r' rest' left' k' → k < k' → left' < 2 ^ 64 → Found w r' rest' left' k'
further w r rest left k r' rest' left' k' f t o l = record {
  within = record { low = t.low; below = squares_lt w (2 ^ k') r' rest' (2 ^ 64) left' f.word same (pow_pos k'); above = t.above };
  word = f.word;
  free = l;
  split = same;
}
  where
    j : ℕ
    j = k' - k

    longer : 2 ^ k' ≡ 2 ^ k * 2 ^ j
    longer = ap (λ (i : ℕ). 2 ^ i) (let e : k' ≡ k + (k' - k) = omega arith in e) ∙ pow-add 2 k j

    same : w * (2 ^ k' * 2 ^ k') ≡ (r' * r' + rest') * 2 ^ 64 + left'
    same =
        ap (λ (x : ℕ). w * (x * x)) longer ∙ ap (λ (x : ℕ). w * x) (mul-mul-mul_comm (2 ^ k) (2 ^ j) (2 ^ k) (2 ^ j)) ∙ sym (mul_assoc w (2 ^ k * 2 ^ k) (2 ^ j * 2 ^ j))
        ∙ ap (λ (x : ℕ). x * (2 ^ j * 2 ^ j)) f.split ∙ sym t.split

module _ {w r rest left k turns : ℕ} (v : Looped w r rest left k turns) (more : 0 < turns) where
  abbrev count : ℕ
  count = 53 / 2 ^ (turns - 1) + 1

  -- each turn makes at most twice the digits
  pub asked : Turns r rest k count
  asked =
      let t = turns - 1 in
      let y = 53 / 2 ^ t in
      let p : 2 ^ turns ≡ 2 ^ t * 2 = ap (λ (i : ℕ). 2 ^ i) (let e : turns ≡ turns - 1 + 1 = omega arith in e) ∙ pow-add 2 t 1 in
      let e : k ≡ y / 2 + 1 = v.digits ∙ ap (λ (i : ℕ). 53 / i + 1) p ∙ ap (λ (i : ℕ). i + 1) (sym (div-div-eq-div-mul 53 (2 ^ t) 2)) in
      let few : t ≤ 5 = omega (arith, v.few) in
      let o : 2 ^ t ≤ 2 ^ 5 = pow_mono few in
      let z : 1 ≤ y = (le-div_iff_mul-le (pow_pos t)).1 (omega arith) in
      let u : y ≤ 53 = div-le_self 53 (2 ^ t) in
      record { within = v.found.within; more = omega (arith, e, z); most = omega (arith, e); fits = omega arith }

  pub again : {r' rest' left' k' : ℕ} → Turned r rest left k r' rest' left' k' × (k' ≡ count) → left' < 2 ^ 64 → Looped w r' rest' left' k' (turns - 1)
  again {r'} {rest'} {left'} {k'} t l = record {
    found = further w r rest left k r' rest' left' k' v.found t.0 (omega (arith, asked.more, t.1)) l;
    few = omega (arith, v.few);
    digits = t.1;
  }

pub root_found : (m : ℕ) {r rest left k turns : ℕ} → Looped (m * 1024) r rest left k turns → turns ≤ 0 → IsRoot (m * 2 ^ 54) r
root_found m {r} {rest} {left} {k} {turns} v h = root (m * 2 ^ 54) (sym (shl-shr (m * 2 ^ 54) 64) ∙ ap (λ (i : ℕ). i / 2 ^ 64) (u ∙ f.split) ∙ high (r * r + rest) 64 f.free)
  where
    u : m * 2 ^ 54 * 2 ^ 64 ≡ m * 1024 * (2 ^ 54 * 2 ^ 54)
    u = omega arith

    all : k ≡ 54
    all = v.digits ∙ ap (λ (i : ℕ). 53 / 2 ^ i + 1) (let e : turns ≡ 0 = omega arith in e)

    f : Found (m * 1024) r rest left 54
    f = subst (λ (i : ℕ). Found (m * 1024) r rest left i) all v.found

    root : (x : ℕ) → x ≡ r * r + rest → IsRoot x r
    root x e = let s = next_square r in let q = f.within.low in record { low = omega arith; high = omega arith }
