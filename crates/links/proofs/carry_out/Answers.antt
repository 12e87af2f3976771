-- `links::carry_out` meets its contract. Assumes nothing.
use Rattle.links.proofs.CarryLaws as K
use native.Mathlib.Omega.{arith}
use Rattle.links.proofs.carry_out.Goals as goal

pub same_links-same-requires : goal.same_links-same-requires
same_links-same-requires c = K.ready _ _ _ _ _ c.requires.0 _ _ c.requires.1

pub check_fold-settled-requires : goal.check_fold-settled-requires
check_fold-settled-requires c = (K.known _ _ _ _ _ c.requires.0).fold

pub returns-in-Err : goal.returns-in-Err
returns-in-Err c = K.out_refused _ _ _ _ _ c.requires.0 _ _ c.requires.1 c.args.lanes.now c.args.crosswalks.now c.args.lines.now _ c.same_links-same.ensures _ c.check_fold-settled.ensures _ c.in-Err.is _ _ c.refused.ensures

pub draft_set-requires : goal.draft_set-requires
draft_set-requires c = (K.known _ _ _ _ _ c.requires.0).set

pub take_in-requires : goal.take_in-requires
take_in-requires c = ((K.known _ _ _ _ _ c.requires.0).fold, c.draft_set.ensures.room, K.taken _ _ _ _ _ c.requires.0 _ _ c.requires.1 c.args.lanes.now c.args.crosswalks.now c.args.lines.now _ c.same_links-same.ensures _ c.check_fold-settled.ensures c.in_default.is _ c.draft_set.ensures)

pub links_put-requires : goal.links_put-requires
links_put-requires c = (K.ready _ _ _ _ _ c.requires.0 _ _ c.requires.1, (K.fits_each _ _ _ _ c.requires.2).0, (K.fits_each _ _ _ _ c.requires.2).1, (K.fits_each _ _ _ _ c.requires.2).2)

pub tally_of-requires : goal.tally_of-requires
tally_of-requires c = omega (arith, (K.known _ _ _ _ _ c.requires.0).long)

pub returns : goal.returns
returns c = K.out_done _ _ _ _ _ c.requires.0 _ _ c.requires.1 c.args.lanes.now c.args.crosswalks.now c.args.lines.now _ c.same_links-same.ensures _ c.check_fold-settled.ensures c.in_default.is _ c.draft_set.ensures _ _ c.take_in.ensures _ _ c.links_put.ensures c.tally_of.ensures
