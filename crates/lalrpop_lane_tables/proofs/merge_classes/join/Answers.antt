use Rattle.std.proofs.Common.{sym}
use Rattle.lalrpop_lane_tables.proofs.MergeClassLemmas.{key_below, same_count}
use Rattle.lalrpop_lane_tables.proofs.merge_classes.join.Goals as goal

pub join_keys-requires-clause-one : goal.join_keys-requires-clause-one
join_keys-requires-clause-one c =
    key_below c.args.sets.now c.args.unify.now c.args.state c.in-Some.one c.requires (sym c.in-Some.ensures)

pub join_keys-requires-clause-other : goal.join_keys-requires-clause-other
join_keys-requires-clause-other c =
    key_below c.args.sets.now c.args.unify.now c.args.successor c.in-Some-class_of.other c.requires (sym c.in-Some-class_of.ensures)

pub join_keys-requires-clause-lengths : goal.join_keys-requires-clause-lengths
join_keys-requires-clause-lengths c =
    same_count c.args.sets.now c.args.unify.now c.in-Some.one.index c.in-Some-class_of.other.index c.requires
