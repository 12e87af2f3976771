-- What the formats of numbers, flags, options, lists and coordinates ask, as plain tests. Assumes nothing.
use Prim.Native.Nat.{ℕ, zero, suc, ◌+◌, ◌*◌, ◌^◌, ◌≤◌, ◌<◌}
use mathlib.Core.Path.{◌≡◌, refl, sym, ◌∙◌}
use mathlib.Core.Bool.{Bool, true, false, not, ◌&&◌, ◌||◌, cond}
use Rattle.std.specs.Prelude.{Option, None, Some}
use mathlib.Core.List.{List}
use native.Mathlib.Nat.{zero-add}
use native.Mathlib.Omega.{arith}
use borrow.Author.Tests.{lt-ltb, leb-true, eq-eqb, ne_eqb, eqb-true, eqb-false}
use lib.Dec.{T, leb, ltb, eqb}
use lib.IntN.{ℤ, pos}
use lib.Ieee.{Float, nan, inf, fin, binary64, fits, is_nan, le, lt, eq, neg, of_bits}
use lib.Ieee.Bits.{is_true}
use lib.ListN.{length}
use Rattle.geometry.specs.Double.{is_finite, absolute, on_map, farthest}
use Rattle.rows.specs.Lists.{every, list_to}
use Rattle.rows.proofs.Indexed.{tab, list_to_tab}
use Rattle.codec.specs.Format.{Format, via, only, tagged, nothing, counted}
use Rattle.codec.specs.Number.{number, split}
use Rattle.codec.specs.Double.{double}
use Rattle.codec.specs.Items.{below, from, list, flag, option}
use Rattle.map.specs.Ceilings.{if_there}
use Rattle.map.specs.MapFile.{coordinate, height}
use Rattle.row_tests.specs.Flat.{good_coord}

-- ---- bools

pub and_false : (a : Bool) → a && false ≡ false
and_false true = refl
and_false false = refl

pub and_true : (a : Bool) → a && true ≡ a
and_true true = refl
and_true false = refl

-- the last test comes first
pub turned : (p c a : Bool) → p && (c && a) ≡ c && (a && p)
turned p true true = and_true p
turned p true false = and_false p
turned p false a = and_false p

pub three : (a b c r : Bool) → (a && (b && c)) && r ≡ a && (b && (c && r))
three true true c r = refl
three true false c r = refl
three false b c r = refl

-- ---- lists by index

every_tab : {A : Type 0} (p : A → Bool) (g : ℕ → A) (q : ℕ → Bool) (i n : ℕ) → ((j : ℕ) → i ≤ j → j < i + n → p (g j) ≡ q j) → every p (tab g i n) ≡ every (λ b. b) (tab q i n)
unfolding every tab
every_tab p g q i zero h = refl
every_tab p g q i (suc n) h = rw (h i (omega arith) (omega arith), every_tab p g q (suc i) n (λ j a b. h j (omega arith) (omega arith)))

pub every_same : {A : Type 0} (p : A → Bool) (g : ℕ → A) (q : ℕ → Bool) (n : ℕ) → ((j : ℕ) → j < n → p (g j) ≡ q j) → every p (list_to g n) ≡ every (λ b. b) (list_to q n)
every_same p g q n h = rw (list_to_tab g n, list_to_tab q n) (every_tab p g q 0 n (λ j a b. h j (omega arith)))

all_true : (i n : ℕ) → every (λ b. b) (tab (λ j. true) i n) ≡ true
unfolding every tab
all_true i zero = refl
all_true i (suc n) = all_true (suc i) n

pub every_true : {A : Type 0} (p : A → Bool) (g : ℕ → A) (n : ℕ) → ((j : ℕ) → p (g j) ≡ true) → every p (list_to g n) ≡ true
every_true p g n h = every_same p g (λ j. true) n (λ j _. h j) ∙ rw (list_to_tab (λ (j : ℕ). true) n) (all_true 0 n)

-- ---- numbers

pub number_true : (x : ℕ) → x < 2 ^ 64 → number.fits x ≡ true
unfolding number
number_true x h = lt-ltb x (2 ^ 64) h

few : (n b : ℕ) → b < 2 ^ 64 → ltb n (2 ^ 64) && leb n b ≡ leb n b
few n b h = split (leb n b) (λ t. rw (t, lt-ltb n (2 ^ 64) (small (leb-true n b t)))) (λ t. rw t (and_false (ltb n (2 ^ 64))))
  where
    small : n ≤ b → n < 2 ^ 64
    small g = omega arith

pub below_is : (n x : ℕ) → x < 2 ^ 64 → (below n).fits x ≡ ltb x n
unfolding below only
below_is n x h = rw (number_true x h)

pub from_is : (n x : ℕ) → x < 2 ^ 64 → (from n).fits x ≡ leb n x
unfolding from only
from_is n x h = rw (number_true x h)

pub flag_true : (b : Bool) → flag.fits b ≡ true
unfolding flag via below only number
flag_true true = refl
flag_true false = refl

pub list_is : {A : Type 0} (n : ℕ) (f : Format A) (xs : List A) → n < 2 ^ 64 → (list n f).fits xs ≡ leb (length xs) n && every f.fits xs
unfolding list counted only number
list_is n f xs h = rw (few (length xs) n h)

module _ {A : Type 0} where
  option_there : (f : Format A) (o : Option A) → (option f).fits o ≡ if_there f.fits o
  unfolding option via tagged nothing number if_there
  option_there f None = refl
  option_there f (Some a) = refl

  there_cond : (p : A → Bool) (b : Bool) (a : A) → if_there p (cond b (Some a) None) ≡ cond b (p a) true
  unfolding if_there
  there_cond p true a = refl
  there_cond p false a = refl

  pub option_is : (f : Format A) (b : Bool) (a : A) → (option f).fits (cond b (Some a) None) ≡ cond b (f.fits a) true
  option_is f b a = option_there f (cond b (Some a) None) ∙ there_cond f.fits b a

pub cond_true : (b : Bool) → cond b true true ≡ true
cond_true true = refl
cond_true false = refl

-- ---- coordinates

minus_plus : (a b : ℕ) → ltb 0 (a + b) || (eqb a b && (false || eqb a 0)) ≡ true
minus_plus zero zero = refl
minus_plus zero (suc b) = rw (zero-add, lt-ltb 0 (suc b) (omega arith))
minus_plus (suc a) b = rw (lt-ltb 0 (suc a + b) (omega arith))

eqb_comm : (a b : ℕ) → eqb a b ≡ eqb b a
eqb_comm a b = split (eqb a b) (λ t. t ∙ sym (eq-eqb b a (sym (eqb-true a b t)))) (λ t. t ∙ sym (ne_eqb b a (λ e. eqb-false a b t (sym e))))

between : (s : Bool) (m : ℕ) (e : ℤ) (n : ℕ) (d : ℤ) → le (fin false m e) (fin false n d) ≡ le (fin s m e) (fin false n d) && le (neg (fin false n d)) (fin s m e)
unfolding le lt eq neg
between false m e n d = rw (minus_plus _ _) (sym (and_true _))
between true m e n d = rw (minus_plus _ _, eqb_comm (n * _ * _) _)

far_is : farthest ≡ fin false 1 (pos 26)
unfolding of_bits
far_is = refl

coordinate_nan : coordinate.fits nan ≡ good_coord nan
unfolding coordinate only double on_map is_finite good_coord le lt eq
coordinate_nan = and_false (fits binary64 nan && not (is_nan nan))

coordinate_inf : (s : Bool) → coordinate.fits (inf s) ≡ good_coord (inf s)
unfolding coordinate only double on_map is_finite good_coord le lt eq neg
coordinate_inf true = rw far_is (and_false (fits binary64 (inf true) && not (is_nan (inf true))))
coordinate_inf false = rw far_is (and_false (fits binary64 (inf false) && not (is_nan (inf false))))

coordinate_fin : (s : Bool) (m : ℕ) (e : ℤ) → fits binary64 (fin s m e) ≡ true → coordinate.fits (fin s m e) ≡ good_coord (fin s m e)
unfolding coordinate only double on_map is_finite absolute is_nan good_coord
coordinate_fin s m e h = rw (h, far_is) (between s m e 1 (pos 26))

pub coordinate_is : (x : Float) → T (fits binary64 x) → coordinate.fits x ≡ good_coord x
coordinate_is nan h = coordinate_nan
coordinate_is (inf s) h = coordinate_inf s
coordinate_is (fin s m e) h = coordinate_fin s m e (is_true (fits binary64 (fin s m e)) h)

-- ---- heights

height_fin : (s : Bool) (m : ℕ) (e : ℤ) → height.fits (fin s m e) ≡ is_finite (fin s m e)
unfolding height only double is_finite is_nan
height_fin s m e = split (fits binary64 (fin s m e)) (λ t. rw t) (λ t. rw t)

pub height_is : (x : Float) → height.fits x ≡ is_finite x
unfolding height only double is_finite
height_is nan = and_false (fits binary64 nan && not (is_nan nan))
height_is (inf s) = and_false (fits binary64 (inf s) && not (is_nan (inf s)))
height_is (fin s m e) = height_fin s m e
