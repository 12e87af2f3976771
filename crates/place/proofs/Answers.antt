-- What an answer that is no refusal says of the steps that led to it.
use Prim.Native.Nat.{ℕ}
use mathlib.Core.Path.{◌≡◌, refl}
use mathlib.Core.Bool.{Bool, true, false}
use Rattle.std.specs.Prelude.{Option, None, Some}
use mathlib.Core.List.{List}
use native.Mathlib.Omega.{arith}
use Rattle.refusal.specs.Answer.{Answer, refused, done, ◌>>=◌, ◌>>◌, refuse_when, present}

pub never : {A B : Type 0} {n : ℕ} {ds : List ℕ} {b : A} → ◌≡◌ {A = Answer A} (refused n ds) (done b) → B
never e = let z : ◌≡◌ {A = ℕ} 0 1 = cc in absurd (omega arith)

pub done_is : {A : Type 0} {a b : A} → ◌≡◌ {A = Answer A} (done a) (done b) → a ≡ b
done_is e = cc

module _ {A B : Type 0} where
  pub record Went (x : Answer A) (f : A → Answer B) (b : B) : Type 0 where
    pub value : A
    pub first : x ≡ done value
    pub rest : f value ≡ done b

  pub went : (x : Answer A) (f : A → Answer B) (b : B) → (x >>= f) ≡ done b → Went x f b
  went (refused n ds) f b e = never e
  went (done a) f b e = record { value = a; first = refl; rest = e }

  pub record Next (x : Answer A) (y : Answer B) (b : B) : Type 0 where
    pub value : A
    pub first : x ≡ done value
    pub rest : y ≡ done b

  pub next : (x : Answer A) (y : Answer B) (b : B) → (x >> y) ≡ done b → Next x y b
  next (refused n ds) y b e = never e
  next (done a) y b e = record { value = a; first = refl; rest = e }

-- past a test
pub record Past {B : Type 0} (t : Bool) (y : Answer B) (b : B) : Type 0 where
  pub test : t ≡ false
  pub rest : y ≡ done b

pub past : {B : Type 0} (t : Bool) (n : ℕ) (ds : List ℕ) (y : Answer B) (b : B) → (refuse_when t n ds >> y) ≡ done b → Past t y b
past true n ds y b e = never e
past false n ds y b e = record { test = refl; rest = e }

pub there : {A : Type 0} (o : Option A) (n : ℕ) (ds : List ℕ) (a : A) → present o n ds ≡ done a → o ≡ Some a
there None n ds a e = never e
there (Some x) n ds a e = cc
