-- `centerline::middle::centerline` meets its contract. Assumes nothing.
use Rattle.centerline.proofs.Made.{center_left, center_right, center_is, sides_few}
use Rattle.polyline.proofs.Lines.{length-points}
use Rattle.geometry.specs.Polyline.{polyline_of}
use native.Mathlib.Omega.{arith}
use mathlib.Core.Path.{◌∙◌}
use Rattle.centerline.specs.Line.{line_option}
use Rattle.centerline.proofs.middle.centerline.Goals as goal

pub returns-then-n-eq0 : goal.returns-then-n-eq0
unfolding line_option
returns-then-n-eq0 c = center_left _ _ (length-points c.args.left.now ∙ c.if-n-eq0.true)

pub returns-then-m-eq0 : goal.returns-then-m-eq0
unfolding line_option
returns-then-m-eq0 c = center_right _ _ (length-points c.args.right.now ∙ c.if-m-eq0.true)

pub halfway-requires : goal.halfway-requires
halfway-requires c = let l = length-points c.args.left.now in
    let r = length-points c.args.right.now in
    sides_few (polyline_of c.args.left.now) (polyline_of c.args.right.now) _ (omega arith) (omega arith) (omega arith) _ _ c.resample_count-l.ensures c.resample_count-r.ensures (omega arith)

pub returns : goal.returns
returns c = let l = length-points c.args.left.now in
    let r = length-points c.args.right.now in
    center_is (polyline_of c.args.left.now) (polyline_of c.args.right.now) _ (omega arith) (omega arith) (omega arith) _ _ c.resample_count-l.ensures c.resample_count-r.ensures _ c.halfway.ensures
