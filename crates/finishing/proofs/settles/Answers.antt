-- `finishing::settles` meets its contract. Assumes nothing.
use mathlib.Core.Path.{ap, sym, ◌∙◌}
use native.Mathlib.Omega.{arith}
use Rattle.std.proofs.lemmas.Result.{err_from_is_err_and}
use Rattle.changes.specs.Layout.{lists_ok_in}
use Rattle.finishing.proofs.SettleLaws as L
use Rattle.finishing.proofs.settles.Goals as goal

pub put-requires : goal.put-requires
put-requires c = omega (arith, L.fold_long _ c.requires.0)

pub take_any-requires : goal.take_any-requires
take_any-requires c = (ap lists_ok_in (L.copied _ _ _ (sym (L.fold_long _ c.requires.0)) c.put.ensures) ∙ c.requires.0, c.requires.1)

pub returns-in_err-take_any : goal.returns-in_err-take_any
returns-in_err-take_any c =
    let p = err_from_is_err_and c.from_residual.result c.from_residual.ensures.1 in
    rw (p.1, p.2) (L.settles_refused _ _ c.args.late _ (L.copied _ _ _ (sym (L.fold_long _ c.requires.0)) c.put.ensures) _ _ _ c.take_any.ensures _ c.in_err-take_any.was)

pub returns-then-late : goal.returns-then-late
returns-then-late c = L.settles_late _ _ c.args.late _ (L.copied _ _ _ (sym (L.fold_long _ c.requires.0)) c.put.ensures) _ _ _ c.take_any.ensures c.in_ok-take_any.was c.if-late.true

pub returns : goal.returns
returns c = L.settles_fine _ _ c.args.late _ (L.copied _ _ _ (sym (L.fold_long _ c.requires.0)) c.put.ensures) _ _ _ c.take_any.ensures c.in_ok-take_any.was c.if-late.false
