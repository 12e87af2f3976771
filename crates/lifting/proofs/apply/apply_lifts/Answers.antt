-- `lifting::apply::apply_lifts` meets its contract. Assumes nothing.
use native.Mathlib.Omega.{arith}
use Rattle.lifting.proofs.ApplyLaws.{applying_start, applying_next, applying_end}
use Rattle.lifting.proofs.apply.apply_lifts.Goals as goal

pub loop-i-init : goal.loop-i-init
loop-i-init c = applying_start _ _ _ _ c.requires

pub count-requires : goal.count-requires
count-requires c = c.loop-i.invariant.readable.words.sized

pub lift_at-i-requires : goal.lift_at-i-requires
lift_at-i-requires c = (c.loop-i.invariant.readable, omega (arith, c.count.ensures, c.loop-i-test.true))

pub loop-i-smaller : goal.loop-i-smaller
loop-i-smaller c = omega (arith, c.lift_at-i.ensures.left, c.count.ensures, c.loop-i-test.true)

pub loop-i-preserved : goal.loop-i-preserved
loop-i-preserved c = applying_next _ _ _ _ _ _ _ c.loop-i.invariant (omega (arith, c.count.ensures, c.loop-i-test.true)) _ _ _ c.lift_at-i.ensures

pub shape_of-words : goal.shape_of-words
shape_of-words c = omega (arith, c.loop-i.invariant.readable.words.sized.room, c.requires.words.sized.room)

pub shape_of-coords : goal.shape_of-coords
shape_of-coords c = omega (arith, c.loop-i.invariant.readable.coords, c.requires.coords)

pub returns : goal.returns
returns c = applying_end _ _ _ _ _ _ _ c.loop-i.invariant (omega (arith, c.count.ensures, c.loop-i-test.false))
