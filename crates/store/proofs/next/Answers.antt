use mathlib.Core.Path.{refl}
use Rattle.store.specs.Layout.{next_of}
use Rattle.store.proofs.next.Goals as goal

pub returns : goal.returns
unfolding next_of
returns c = refl
