use Rattle.lalrpop_lane_tables.specs.PatchedTargets.{ArePatches}
use Rattle.lalrpop_lane_tables.proofs.PatchLemmas.{IsTargetBefore}
use Rattle.lalrpop_lane_tables.proofs.merge_targets.patches_of.Given as goal

abbrev pub invariant-loop-place : goal.invariant-loop-place
invariant-loop-place l = ArePatches l.actions.keys l.sets l.unify l.states (IsTargetBefore l.target l.copies l.place) l.patches.items
