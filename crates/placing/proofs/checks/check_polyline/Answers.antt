-- `placing::checks::check_polyline` meets its contract. Assumes nothing.
use mathlib.Core.Bool.{not}
use mathlib.Core.Path.{ap}
use Rattle.placing.proofs.CheckLaws.{shape_many, shape_short, shape_fine}
use Rattle.placing.proofs.checks.check_polyline.Goals as goal

pub returns-then-cs-gt64 : goal.returns-then-cs-gt64
returns-then-cs-gt64 c = shape_many _ c.if-cs-ne0.false _ c.all_finite.ensures (ap not c.if-not-all_finite.false) _ c.all_on_map.ensures (ap not c.if-not-all_on_map.false) c.if-cs-gt64.true

pub returns-then-not-is_valid : goal.returns-then-not-is_valid
returns-then-not-is_valid c = shape_short _ c.if-cs-ne0.false _ c.all_finite.ensures (ap not c.if-not-all_finite.false) _ c.all_on_map.ensures (ap not c.if-not-all_on_map.false) c.if-cs-gt64.false _ c.is_valid.ensures (ap not c.if-not-is_valid.true)

pub returns : goal.returns
returns c = shape_fine _ c.if-cs-ne0.false _ c.all_finite.ensures (ap not c.if-not-all_finite.false) _ c.all_on_map.ensures (ap not c.if-not-all_on_map.false) c.if-cs-gt64.false _ c.is_valid.ensures (ap not c.if-not-is_valid.false)
