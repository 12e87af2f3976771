use mathlib.Core.Path.{refl}
use Rattle.store.specs.Layout.{set_next}
use Rattle.store.proofs.set_next.Goals as goal

pub returns : goal.returns
unfolding set_next
returns c = refl
