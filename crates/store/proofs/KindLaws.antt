-- What proofs need of a kind: its number is one of the six, and what the code has for `k as usize`. Assumes nothing.
use Prim.Native.Nat.{◌<◌}
use mathlib.Core.Path.{◌≡◌, refl}
use native.Mathlib.Omega.{arith}
use denote.Enum.Declared.{tag_of}
use Rattle.store.specs.declared.Kind.{Kind}
use Rattle.store.specs.declared.Kind.TheVariants.{Lane, Boundary, StopLine, Signal, Crosswalk, Rule}
use Rattle.store.specs.contracts.Kind.{the_type}
use Rattle.store.specs.Kinds.{kind_number}

pub kind_below : (k : Kind) → kind_number k < 6
kind_below Lane = omega arith
kind_below Boundary = omega arith
kind_below StopLine = omega arith
kind_below Signal = omega arith
kind_below Crosswalk = omega arith
kind_below Rule = omega arith

pub kind_tag : (k : Kind) → tag_of the_type k ≡ kind_number k
kind_tag Lane = refl
kind_tag Boundary = refl
kind_tag StopLine = refl
kind_tag Signal = refl
kind_tag Crosswalk = refl
kind_tag Rule = refl
