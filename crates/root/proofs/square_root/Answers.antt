-- `root::square_root` meets its contract: `square_root_bits` on x's pattern, and a NaN where the root is one. Assumes nothing.
use mathlib.Core.Path.{◌≡◌, sym, ap, ◌∙◌, subst}
use mathlib.Core.Bool.{Bool, not}
use lib.Dec.{T}
use lib.Ieee.{nan, binary64, of_bits, is_nan}
use lib.Ieee.Bits.{nan_bits_is}
use lib.Ieee.Compare.{differs_from_itself}
use Rattle.root.specs.Root.{square_root}
use Rattle.root.proofs.Patterns.{from_pattern, not_nan, not_nan_bits, nan_pattern, nan_root, zero_by_zero}
use Rattle.root.proofs.square_root.Goals as goal

pub returns-then-x : goal.returns-then-x
returns-then-x c = let e : c.args.x ≡ nan = differs_from_itself c.args.x (subst T (sym c.if-x.true) tt) in
    zero_by_zero ∙ sym (ap square_root e ∙ nan_root)

pub float_to_bits-x : goal.float_to_bits-x
float_to_bits-x c = not_nan c.args.x c.if-x.false

pub returns-then-r-eq9221120237041090560 : goal.returns-then-r-eq9221120237041090560
returns-then-r-eq9221120237041090560 c = let root = from_pattern c.args.x c.well_formed.0.1 _ c.square_root_bits-r.ensures in
    zero_by_zero ∙ sym (sym root.1 ∙ ap (of_bits binary64) c.if-r-eq9221120237041090560.true ∙ nan_pattern)

pub float_from_bits-result : goal.float_from_bits-result
float_from_bits-result c = let root = from_pattern c.args.x c.well_formed.0.1 _ c.square_root_bits-r.ensures in
    subst (λ (b : Bool). T (not b)) (sym (nan_bits_is binary64 c.square_root_bits-r.result ∙ ap is_nan root.1))
    (not_nan_bits (square_root c.args.x) (λ e. c.if-r-eq9221120237041090560.false (root.0 ∙ e)))

pub returns : goal.returns
returns c = (from_pattern c.args.x c.well_formed.0.1 _ c.square_root_bits-r.ensures).1
