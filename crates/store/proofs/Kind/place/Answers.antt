use Prim.Native.Nat.{ℕ, ◌*◌}
use mathlib.Core.Path.{ap}
use native.Mathlib.Omega.{arith}
use Rattle.store.specs.Layout.{place_of}
use Rattle.store.specs.Kinds.{kind_number}
use Rattle.store.proofs.KindLaws.{kind_below}
use Rattle.store.proofs.StoreLaws.{placed}
use Rattle.store.proofs.Kind.place.Goals as goal

pub overflow_mul-result : goal.overflow_mul-result
overflow_mul-result c = omega (arith, ap (λ (w : ℕ). c.args.i * w) c.width.ensures, placed (kind_number c.args.self) c.args.i (kind_below c.args.self) c.requires)

pub overflow_add-result : goal.overflow_add-result
overflow_add-result c = omega (arith, ap (λ (w : ℕ). c.args.i * w) c.width.ensures, placed (kind_number c.args.self) c.args.i (kind_below c.args.self) c.requires, c.base.ensures)

pub returns : goal.returns
unfolding place_of
returns c = rw (c.width.ensures, c.base.ensures)
