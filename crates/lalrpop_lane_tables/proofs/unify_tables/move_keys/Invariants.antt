use Rattle.std.proofs.Common.{◌≡◌, ◌++◌, map, take, drop}
use Rattle.lalrpop_lane_tables.proofs.UnifyLemmas.{moved_class}
use Rattle.lalrpop_lane_tables.proofs.unify_tables.move_keys.Given as goal

abbrev pub invariant-loop-key : goal.invariant-loop-key
invariant-loop-key l =
    l.classes.items ≡ map (moved_class l.from l.into) (take l.key l.initial.classes.items) ++ drop l.key l.initial.classes.items
