use Rattle.lalrpop_lr1_check_lookaheads.specs.ListTests.{HoldsAtFirst}
use Rattle.lalrpop_lane_tables.specs.MergedStates.{HasOneEdgeEach}
use Rattle.lalrpop_lane.proofs.rounds.edges_known.Given as goal

abbrev pub invariant-loop-state : goal.invariant-loop-state
invariant-loop-state l = HoldsAtFirst (λ _ state. HasOneEdgeEach state) l.states l.state-index
