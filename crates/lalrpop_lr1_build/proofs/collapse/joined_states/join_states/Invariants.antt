use Rattle.lalrpop_lr1_build.specs.JoinedStates.{AreJoinedByNumbers}
use Rattle.lalrpop_lr1_build.proofs.collapse.joined_states.join_states.Given as goal

abbrev pub invariant-loop-place : goal.invariant-loop-place
invariant-loop-place l = AreJoinedByNumbers l.states l.numbers l.place l.joined.items
