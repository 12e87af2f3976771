-- `light_store::store_light` meets its contract: what the check does not find by the lemmas that the function names. Assumes nothing.
use Rattle.light_store.proofs.StoreLaws.{group_asks, line_asks, signal_needs, rule_asks}
use Rattle.light_store.proofs.store_light.Goals as goal

pub group_stored-requires : goal.group_stored-requires
group_stored-requires c = group_asks _ _ _ c.args.l c.args.line c.args.housing c.args.row c.args.joined c.requires _ _ c.lift_stored.ensures

pub line_stored-requires : goal.line_stored-requires
line_stored-requires c = line_asks _ _ _ c.args.l c.args.line c.args.housing c.args.row c.args.joined c.requires _ _ c.lift_stored.ensures _ c.group_stored.ensures

pub signal_stored-requires : goal.signal_stored-requires
signal_stored-requires c = signal_needs _ _ _ c.args.l c.args.line c.args.housing c.args.row c.args.joined c.requires _ _ c.lift_stored.ensures _ c.group_stored.ensures _ _ c.line_stored.ensures

pub rule_stored-requires : goal.rule_stored-requires
rule_stored-requires c = rule_asks _ _ _ c.args.l c.args.line c.args.housing c.args.row c.args.joined c.requires _ _ c.lift_stored.ensures _ c.group_stored.ensures _ _ c.line_stored.ensures _ _ c.signal_stored.ensures
