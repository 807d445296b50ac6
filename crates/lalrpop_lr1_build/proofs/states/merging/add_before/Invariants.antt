use Rattle.std.proofs.Common.{length}
use Rattle.lalrpop_lr1_build.proofs.MergeLemmas.{TakesSoFar}
use Rattle.lalrpop_lr1_build.proofs.states.merging.add_before.Given as goal

abbrev pub invariant-loop-item : goal.invariant-loop-item
invariant-loop-item g l = TakesSoFar l.place l.kernel l.fn.items l.items l.rest

abbrev pub decreases-loop-item : goal.decreases-loop-item
decreases-loop-item g l = length l.rest
