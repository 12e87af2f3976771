-- `linking::lists::check_lists` meets its contract. Assumes nothing.
use mathlib.Core.Path.{refl}
use Rattle.std.proofs.lemmas.Result.{err_from_is_err_and}
use Rattle.linking.proofs.ListLaws.{lists_twice, lists_lane, lists_crosswalk, lists_line, lists_fine}
use Rattle.linking.proofs.lists.check_lists.Goals as goal

pub returns-in_err-check_twice : goal.returns-in_err-check_twice
returns-in_err-check_twice c =
    let p = err_from_is_err_and c.from_residual.result c.from_residual.ensures.1 in rw (p.1, p.2) (lists_twice _ _ _ _ _ c.in_err-check_twice.ensures _ refl)

pub returns-in-Some : goal.returns-in-Some
returns-in-Some c = lists_lane _ _ _ _ _ c.in_ok-check_twice.ensures refl _ c.least_unknown.ensures _ c.in-Some.is

pub returns-in-Some-least_unknown : goal.returns-in-Some-least_unknown
returns-in-Some-least_unknown c = lists_crosswalk _ _ _ _ _ c.in_ok-check_twice.ensures refl _ c.least_unknown.ensures c.in_default.is _ c.least_unknown-2.ensures _ c.in-Some-least_unknown.is

pub returns-in-Some-least_unknown-2 : goal.returns-in-Some-least_unknown-2
returns-in-Some-least_unknown-2 c = lists_line _ _ _ _ _ c.in_ok-check_twice.ensures refl _ c.least_unknown.ensures c.in_default.is _ c.least_unknown-2.ensures c.in_default-least_unknown.is _ c.least_unknown-3.ensures _ c.in-Some-least_unknown-2.is

pub returns : goal.returns
returns c = lists_fine _ _ _ _ _ c.in_ok-check_twice.ensures refl _ c.least_unknown.ensures c.in_default.is _ c.least_unknown-2.ensures c.in_default-least_unknown.is _ c.least_unknown-3.ensures c.in_default-least_unknown-2.is
