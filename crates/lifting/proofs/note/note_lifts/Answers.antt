-- `lifting::note::note_lifts` meets its contract. Assumes nothing.
use native.Mathlib.Omega.{arith}
use Rattle.lifting.proofs.GoneLaws.{rules_few}
use Rattle.lifting.proofs.NoteLaws.{noting_start, one_fits, noting_next, noting_end, word_asks}
use Rattle.lifting.proofs.note.note_lifts.Goals as goal

pub loop-i-init : goal.loop-i-init
loop-i-init c = (c.count-n.ensures, noting_start _ _ _ _ _ c.requires.1)

pub lift_of-l-requires : goal.lift_of-l-requires
lift_of-l-requires c = (c.requires.0, omega (arith, c.loop-i.invariant.0))

pub word-requires : goal.word-requires
word-requires c = word_asks _ c.requires.0 _ (omega (arith, c.loop-i.invariant.0))

pub note_lift-requires : goal.note_lift-requires
note_lift-requires c = one_fits _ _ _ _ _ _ _ c.loop-i.invariant.1 (omega (arith, c.loop-i.invariant.0, rules_few _ c.requires.0)) c.requires.1 (omega arith)

pub loop-i-preserved : goal.loop-i-preserved
loop-i-preserved c = (c.loop-i.invariant.0, noting_next _ _ _ _ _ _ _ c.loop-i.invariant.1 (omega (arith, c.loop-i.invariant.0, rules_few _ c.requires.0)) (omega arith) _ c.lift_of-l.ensures _ c.word.ensures _ c.note_lift.ensures)

pub shape_of-draft : goal.shape_of-draft
shape_of-draft c = omega (arith, c.loop-i.invariant.1.room.size, c.requires.1.room.size)

pub returns : goal.returns
returns c = noting_end _ _ _ _ _ _ _ c.loop-i.invariant.1 (omega (arith, c.loop-i.invariant.0, rules_few _ c.requires.0)) (omega arith) c.loop-i.invariant.0
