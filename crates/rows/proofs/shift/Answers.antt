-- `rows::shift` meets its contract: after j turns, the first j elements are moved. Assumes nothing.
use mathlib.Core.Path.{◌≡◌, refl, sym, ◌∙◌}
use Prim.Native.Nat.{◌<◌}
use native.Mathlib.Omega.{arith}
use lib.ListN.{length, get_or, drop, length-set, length-drop}
use lib.Seq.{get_or-drop}
use Rattle.rows.specs.Rows.{moved}
use Rattle.rows.proofs.RowLaws.{pasted_none, pasted_more, get_d_past}
use Rattle.rows.proofs.shift.Goals as goal

pub loop-j-init : goal.loop-j-init
loop-j-init g c = (refl, pasted_none _ _ _)

pub loop-j-preserved : goal.loop-j-preserved
loop-j-preserved g c = let z = c.index-t-from.result in
    let room : c.loop-j.j < length (drop c.args.from c.args.t.now) = simp length-drop (omega arith) in
    let got : z ≡ get_or (drop c.args.from c.args.t.now) c.loop-j.j z = c.index-t-from.is
    ∙ rw c.loop-j.invariant.1 (get_d_past _ _ _ _ _ z (omega arith) (omega arith) (omega arith) ∙ sym (get_or-drop c.args.from c.args.t.now c.loop-j.j z)) in
    (simp length-set (omega arith), rw (got, c.loop-j.invariant.1) (pasted_more _ _ _ _ z (omega arith) room))

pub returns : goal.returns
unfolding moved
returns g c = let e : c.loop-j.j ≡ c.args.n = omega arith in
    c.loop-j.invariant.1 ∙ rw e
