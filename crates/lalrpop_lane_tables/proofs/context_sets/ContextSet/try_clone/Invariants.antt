use Rattle.std.proofs.Common.{◌≡◌, take}
use Rattle.lalrpop_lane_tables.proofs.context_sets.ContextSet.try_clone.Given as goal

abbrev pub invariant-loop-set : goal.invariant-loop-set
invariant-loop-set l = l.values.items ≡ take l.set-index l.self
