-- `row_tests::coords_ok` meets its contract. Assumes nothing.
use mathlib.Core.Path.{◌≡◌, refl, sym, ◌∙◌}
use mathlib.Core.Bool.{Bool, true, false, ◌&&◌}
use mathlib.Core.List.{List, ◌∷◌}
use Prim.Native.Nat.{ℕ, ◌+◌, ◌-◌}
use native.Mathlib.Numerals.{add-one}
use native.Mathlib.Omega.{arith}
use lib.Ieee.{Float, nan}
use lib.ListN.{length, drop}
use lib.Seq.{drop-cons, drop-length}
use Rattle.rows.specs.Lists.{every}
use Rattle.rows.specs.Rows.{cut}
use Rattle.row_tests.specs.Flat.{good_coord}
use Rattle.row_tests.proofs.coords_ok.Goals as goal

-- g says whether all entries passed are good, and b is the answer
taken : (l r : List Float) (x : Float) (b g g' a : Bool) → b ≡ (g && every good_coord l) → l ≡ x ∷ r → a ≡ good_coord x → g' ≡ (g && a) → b ≡ (g' && every good_coord r)
unfolding every
taken l r x b g g' a so e h k = so ∙ rw (e, k, h) (go g (good_coord x))
  where
    go : (g y : Bool) → (g && (y && every good_coord r)) ≡ ((g && y) && every good_coord r)
    go true y = refl
    go false y = refl

ended : (part : List Float) (i : ℕ) (b g : Bool) → b ≡ (g && every good_coord (drop i part)) → i ≡ length part → g ≡ b
unfolding every
ended part i b true so e = sym (so ∙ rw (e, drop-length part))
ended part i b false so e = sym so

pub loop-x-preserved : goal.loop-x-preserved
loop-x-preserved c = rw add-one (taken _ _ _ _ c.loop-x.good _ _ c.loop-x.invariant (drop-cons _ _ nan c.loop-x-test.true) c.coord_ok.ensures c.both-good.ensures)

pub returns : goal.returns
unfolding cut
returns c = let few : c.args.at + c.args.n - c.args.at ≡ c.args.n = omega arith in
    ended _ c.loop-x.x-index _ c.loop-x.good c.loop-x.invariant (omega arith) ∙ rw few
