use native.Mathlib.Omega.{arith}
use Rattle.codec.proofs.NumberLaws.{number_short}
use Rattle.leb_vectors.proofs.written.Goals as goal

pub write_number-size-requires : goal.write_number-size-requires
write_number-size-requires g c = omega (arith, number_short c.args.n)

pub shared_ref_as_front-read : goal.shared_ref_as_front-read
shared_ref_as_front-read g c = omega (arith, c.write_number-size.ensures.next, number_short c.args.n)
