use native.Mathlib.Omega.{arith}
use Rattle.codec.proofs.NumberLaws as L
use Rattle.codec.proofs.read_number.Goals as goal

pub loop-k-preserved : goal.loop-k-preserved
loop-k-preserved c =
    let e = c.in_ok-b.ensures.lookup.3 in
    rw (e.1 0) (L.more _ _ _ _ _ _ c.loop-k.invariant e.0 (omega arith) (omega (arith, e.1 0)) (omega (arith, e.1 0)))

pub returns-then-branch-eq1 : goal.returns-then-branch-eq1
returns-then-branch-eq1 c =
    let e = c.in_ok-get.ensures.lookup.3 in
    L.tenth _ _ _ _ _ _ c.loop-k.invariant e.0 (omega arith) (omega (arith, e.1 0))
