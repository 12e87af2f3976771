use mathlib.Core.Path.{◌∙◌}
use native.Mathlib.Omega.{arith}
use Rattle.store.specs.Kinds.{kind_number}
use Rattle.store.proofs.KindLaws.{kind_below}
use Rattle.store.proofs.StoreLaws.{wide, placed}
use Rattle.store.proofs.find.Goals as goal

pub find-requires : goal.find-requires
find-requires c = rw (c.width.ensures, c.base.ensures, c.count-n.ensures)
    (wide (kind_number c.args.k) (kind_below c.args.k), omega (arith, c.requires.room, placed (kind_number c.args.k) _ (kind_below c.args.k) (c.requires.counts (kind_number c.args.k) (kind_below c.args.k))))

pub returns : goal.returns
returns c = c.find.ensures ∙ rw (c.width.ensures, c.base.ensures, c.count-n.ensures)
