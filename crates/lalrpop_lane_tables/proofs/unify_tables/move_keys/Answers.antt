use Rattle.std.proofs.Common.{rules}
use Rattle.lalrpop_lane_tables.proofs.UnifyLemmas.{mapped_one, moved_class}
use Rattle.lalrpop_lane_tables.proofs.unify_tables.move_keys.Goals as goal

pub loop-key-preserved : goal.loop-key-preserved
loop-key-preserved c =
    mapped_one (moved_class c.args.from c.args.into) c.loop-key.classes.items c.args.classes.now.items c.loop-key.key c.index.result.now
    c.moved_key.result c.loop-key.invariant (search rules) c.index.ensures c.moved_key.ensures
