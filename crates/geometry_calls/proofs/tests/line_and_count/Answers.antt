-- `geometry_calls::tests::line_and_count` meets its contract. Assumes nothing.
use Rattle.geometry_calls.specs.Tests.{check_count}
use Rattle.polyline.proofs.Lines.{length-points}
use Prim.Native.Nat.{ℕ, max}
use mathlib.Core.Path.{sym, ap, ap₂, ◌∙◌}
use Rattle.geometry_calls.proofs.tests.line_and_count.Goals as goal

pub returns : goal.returns
returns c = c.count.ensures ∙ ap₂ check_count c.coords_on_map.ensures (c.max.ensures ∙ ap (λ (k : ℕ). max c.args.n k) (sym (length-points c.args.cs.now)))
