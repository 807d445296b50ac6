use Rattle.std.proofs.Common.{length}
use Rattle.lalrpop_lane_tables.specs.PatchedTargets.{ArePut}
use Rattle.lalrpop_lane_tables.proofs.merge_targets.put_patches.Given as goal

abbrev pub invariant-loop-patch : goal.invariant-loop-patch
invariant-loop-patch l = ArePut l.fn.patches.items l.left.items l.fn.states l.states

abbrev pub decreases-loop-patch : goal.decreases-loop-patch
decreases-loop-patch l = length l.left.items
