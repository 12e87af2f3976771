-- `lifting::lanes_left` meets its contract. Assumes nothing.
use mathlib.Core.Bool.{not}
use mathlib.Core.Path.{ap}
use native.Mathlib.Omega.{arith}
use Rattle.lifting.proofs.OneLaws.{sifted_start, sifted_end, sifted_more, sifted_less}
use borrow.Author.Rules.{rules}
use Rattle.lifting.proofs.lanes_left.Goals as goal
use Rattle.lifting.proofs.lanes_left.Goals.{else-not-member, then-not-member}

pub loop-i-init : goal.loop-i-init
loop-i-init c = sifted_start _ _ _ (omega arith)

pub bounds-entries-count : goal.bounds-entries-count
bounds-entries-count c = omega (arith, c.loop-i.invariant.few, c.loop-i.invariant.room)

pub loop-i-preserved : goal.loop-i-preserved
loop-i-preserved c = elim c.if-not-member.branch [ then-not-member w ↦ rw (w.entries-is, w.count-is) (sifted_more _ _ _ _ _ c.loop-i.invariant (search rules) (omega arith) _ c.member.ensures (ap not w.if-not-member.true)) | else-not-member w ↦ rw (w.entries-is, w.count-is) (sifted_less _ _ _ _ _ c.loop-i.invariant (search rules) (omega arith) _ c.member.ensures (ap not w.if-not-member.false)) ]

pub returns : goal.returns
returns c = sifted_end _ _ _ _ _ c.loop-i.invariant (search rules) (omega arith)
