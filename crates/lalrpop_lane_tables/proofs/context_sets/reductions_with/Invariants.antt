use Rattle.std.proofs.Common.{take}
use Rattle.lalrpop_lane_tables.specs.AppliedSets.{HaveSetsOfActions}
use Rattle.lalrpop_lane_tables.proofs.context_sets.reductions_with.Given as goal

abbrev pub invariant-loop-reduction : goal.invariant-loop-reduction
invariant-loop-reduction l = HaveSetsOfActions l.actions.keys l.sets (take l.reduction-index l.reductions) l.applied
