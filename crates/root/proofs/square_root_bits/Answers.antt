-- `root::square_root_bits` meets its contract, by the pattern's class. Assumes nothing.
use native.Mathlib.Omega.{arith}
use mathlib.Core.Path.{◌≡◌, sym, ap, ◌∙◌}
use Prim.Native.Nat.{ℕ, ◌*◌, ◌-◌, ◌^◌, ◌%◌}
use lib.Count.{count_leading_zeros, leading_le}
use lib.Ieee.{binary64, to_bits}
use Rattle.root.specs.Root.{root_of}
use Rattle.root.proofs.Patterns.{bits_zero, bits_minus_zero, bits_infinity, bits_nan, is_nan_lem, root_low, root_mid, Raised, raised, on_bits_lem}
use Rattle.root.proofs.square_root_bits.Goals as goal

pub returns-then-b-eq0 : goal.returns-then-b-eq0
returns-then-b-eq0 c = c.if-b-eq0.true ∙ sym bits_zero ∙ ap on_bits_lem (sym c.if-b-eq0.true)

pub returns-then-b-eq9223372036854775808 : goal.returns-then-b-eq9223372036854775808
returns-then-b-eq9223372036854775808 c = c.if-b-eq9223372036854775808.true ∙ sym bits_minus_zero ∙ ap on_bits_lem (sym c.if-b-eq9223372036854775808.true)

pub returns-then-b-eq9218868437227405312 : goal.returns-then-b-eq9218868437227405312
returns-then-b-eq9218868437227405312 c = c.if-b-eq9218868437227405312.true ∙ sym bits_infinity ∙ ap on_bits_lem (sym c.if-b-eq9218868437227405312.true)

pub returns-then-b-gt9218868437227405312 : goal.returns-then-b-gt9218868437227405312
returns-then-b-gt9218868437227405312 c = sym (ap (to_bits binary64) (is_nan_lem c.args.b c.if-b-gt9218868437227405312.true (omega arith) c.if-b-eq9223372036854775808.false) ∙ bits_nan)

pub overflow_cast-up : goal.overflow_cast-up
overflow_cast-up c = omega (arith, leading_le 64 c.args.b)

pub overflow_sub-up : goal.overflow_sub-up
overflow_sub-up c = let up : Raised c.args.b (count_leading_zeros 64 c.args.b) = raised c.args.b (omega arith) (omega arith) in
    up.enough

pub overflow_shl-b : goal.overflow_shl-b
overflow_shl-b c = let up : Raised c.args.b (count_leading_zeros 64 c.args.b) = raised c.args.b (omega arith) (omega arith) in
    omega (arith, up.few)

pub overflow_sub-up-then-field-eq0 : goal.overflow_sub-up-then-field-eq0
overflow_sub-up-then-field-eq0 c = let up : Raised c.args.b (count_leading_zeros 64 c.args.b) = raised c.args.b (omega arith) (omega arith) in
    omega (arith, up.few)

pub root_pattern-requires : goal.root_pattern-requires
root_pattern-requires c = let up : Raised c.args.b (count_leading_zeros 64 c.args.b) = raised c.args.b (omega arith) (omega arith) in
    let u = up in
    (omega (arith, u.low, u.high), omega (arith, u.low, u.high), omega (arith, u.few), omega (arith, u.few))

pub returns-then-field-eq0 : goal.returns-then-field-eq0
returns-then-field-eq0 c = let up : Raised c.args.b (count_leading_zeros 64 c.args.b) = raised c.args.b (omega arith) (omega arith) in
    let u = up in
    let z = count_leading_zeros 64 c.args.b - 11 in
    let fit : c.args.b * 2 ^ z % 2 ^ 64 ≡ c.args.b * 2 ^ z = omega (arith, u.high) in
    c.root_pattern.ensures
    ∙ ap (λ (x : ℕ). to_bits binary64 (root_of (x * 2 ^ (1074 - z)))) fit
    ∙ sym (ap (to_bits binary64) (root_low c.args.b z (omega arith) (omega arith) (omega (arith, u.few))))

pub returns-else-field-eq0 : goal.returns-else-field-eq0
returns-else-field-eq0 c = c.root_pattern-else-field-eq0.ensures ∙ sym (ap (to_bits binary64) (root_mid c.args.b (omega arith) (omega arith)))
